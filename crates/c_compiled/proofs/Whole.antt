-- The functions of a program that print fail as what they stand for.
use Rattle.std.proofs.Common.{◌≡◌, ℕ, List, ◌++◌, take, drop, Some, Bool, true, false, refl, sym, ap, ◌∙◌, subst, arith}
use Rattle.std.specs.Prelude.{is_some, codes, ◌||◌, if◌then◌else◌}
use Rattle.std.specs.Str.{bytes_eq}
use Rattle.std.proofs.lemmas.List.{take-append-drop}
use Rattle.std.proofs.lemmas.Slice.Eq.{bytes_eq-Decides}
use Rattle.c_syntax.specs.Plain.{CUnit}
use Rattle.c_syntax.specs.Words.{meaning}
use Rattle.c_types.specs.Scope.{contains}
use Rattle.c_types.specs.Units.{start_scope}
use Rattle.c_eval.specs.Text.{Text, text_of, function_named}
use Rattle.c_eval.specs.Helpers.{Helpers}
use Rattle.c_helpers.specs.Functions as function
use Rattle.c_helpers.specs.Functions.{put_string, print_string, format_name, unit_name, piece_name}
use Rattle.c_helpers.specs.Meanings.{Action, actions, is_format, stands_for, of_one, string_put, format_put}
use Rattle.c_helpers.specs.Simple.{with_helpers, desugared, helpers_of}
use Rattle.c_formats.specs.StringsLaws.{HasString}
use Rattle.c_fewer_reached.proofs.Kept.{defined_are_kept}
use Rattle.c_fewer_calls.specs.There.{HasHelpers}
use Rattle.c_fewer_names.specs.Names.{fewer_items, kept_in}
use Rattle.c_fewer_names.proofs.Whole.{helpers_call_defined}
use Rattle.c_compiled.proofs.There.{helpers_of_programs_are_there}
use Rattle.c_rates.specs.Rates.{ration}
use Rattle.c_failing.specs.Failing.{FailsAlike}
use Rattle.c_formats.proofs.FormatsFailingPuts.{puts_fails}
use Rattle.c_formats.proofs.FormatsFailingWhole.{formats_fail}
use Rattle.c_compiled.specs.PrintersFailLaws.{ProgramsPrintersFail}
use Rattle.c_compiled.proofs.PrintersFailNames.{found_are_defined}

-- what names stand for
format_is : (name : List ℕ) (operator : Action) → is_format name ≡ true → stands_for name ≡ Some operator → format_put (drop 7 name) ≡ operator
format_is name operator k s =
    let e : Some (format_put (drop 7 name)) ≡ Some operator = sym (ap (λ b. if b then Some (format_put (drop 7 name)) else meaning actions name) k) ∙ s in
    cc e

puts_is : (operator : Action) → stands_for put_string.name ≡ Some operator → of_one string_put ≡ operator
puts_is operator s =
    let e : Some (of_one string_put) ≡ Some operator = s in
    cc e

-- ---- in a text that has them

module _ (h : Helpers) (t : Text) (kept : List ℕ → Bool) (has : HasHelpers h t kept) (input : List ℕ) where
  puts_of_text : kept put_string.name ≡ true → FailsAlike h t input put_string.name (of_one string_put)
  puts_of_text e =
      let k = has.helpers put_string.name function.put_string refl e in
      let string = k.calls print_string.name function.print_string refl refl in
      let q = has.helpers print_string.name function.print_string refl string.0 in
      let own : HasString h t = (q.own, (q.calls unit_name _ refl refl).1, (q.calls piece_name _ refl refl).1) in
      puts_fails h t has.ration has.known own (k.own, (k.calls unit_name _ refl refl).1, (k.calls piece_name _ refl refl).1, string.1) input

  format_of_text : (format : List ℕ) → kept (format_name format) ≡ true → FailsAlike h t input (format_name format) (format_put format)
  format_of_text format e = let f = has.formats format e in formats_fail h t format f.0 has.ration has.known f.1 f.2 f.3 input

  -- a name that prints is a format's or that of `puts`
  by_name : (name : List ℕ) (operator : Action) → kept name ≡ true → stands_for name ≡ Some operator → (b : Bool) → is_format name ≡ b → (b || bytes_eq name put_string.name) ≡ true → FailsAlike h t input name operator
  by_name name operator e s true k p =
      let first : take 7 name ≡ codes "printf " = (bytes_eq-Decides (take 7 name) (codes "printf ")).0 k in
      let whole : format_name (drop 7 name) ≡ name = ap (λ z. z ++ drop 7 name) (sym first) ∙ take-append-drop 7 name in
      let same : format_put (drop 7 name) ≡ operator = format_is name operator k s in
      subst (λ z. FailsAlike h t input name z) same (subst (λ z. FailsAlike h t input z (format_put (drop 7 name))) whole (format_of_text (drop 7 name) (subst (λ z. kept z ≡ true) (sym whole) e)))
  by_name name operator e s false k p =
      let this : name ≡ put_string.name = (bytes_eq-Decides name put_string.name).0 p in
      let same : of_one string_put ≡ operator = puts_is operator (subst (λ z. stands_for z ≡ Some operator) this s) in
      subst (λ z. FailsAlike h t input name z) same (subst (λ z. FailsAlike h t input z (of_one string_put)) (sym this) (puts_of_text (subst (λ z. kept z ≡ true) this e)))

-- ---- in a program

found_are_kept : (u : CUnit) (name : List ℕ) → is_some (function_named (text_of (desugared u)) name) ≡ true → contains (kept_in u) name ≡ true
found_are_kept u name e = (defined_are_kept (kept_in u) (with_helpers (fewer_items u)) name (found_are_defined (desugared u).items (start_scope (desugared u)) name e)).0

pub printers_fail : ProgramsPrintersFail
printers_fail u input p name operator q e there =
    let calls = helpers_call_defined u p in
    by_name (helpers_of ration u) (text_of (desugared u)) (λ name. contains (kept_in u) name) (helpers_of_programs_are_there u ration p calls.0 calls.1 (omega arith)) input name operator (found_are_kept u name there) e (is_format name) refl q
