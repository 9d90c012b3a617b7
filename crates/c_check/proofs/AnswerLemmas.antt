-- The answer to a text.
use Rattle.std.proofs.Common.{◌≡◌, ℕ, ◌<◌, ◌≤◌, ◌%◌, ◌^◌, ◌&&◌, Bool, true, false, List, [], ◌∷◌, Option, Some, None, refl, sym, ap, subst, ◌∙◌, arith}
use Rattle.std.specs.Prelude.{Result, Ok, Err, ◌==◌, nat_lt, nat_le, not}
use Rattle.std.specs.Result.{result_err}
use Rattle.std.specs.List.{list_any}
use Rattle.std.proofs.lemmas.Bool.Decides.{nat_tests}
use Rattle.c_syntax.specs.Plain.{CUnit}
use Rattle.c_types.specs.declared.fault.TypeFault.{TypeFault}
use Rattle.c_types.specs.declared.fault.TypeFault.TheVariants as fault
use Rattle.c_types.specs.Refusals.{Judged, after, keeping}
use Rattle.c_types.specs.Scope.{Scope}
use Rattle.c_types.specs.Units.{all_items, start_scope, is_main}
use Rattle.c_types.specs.Census.{unit_sum}
use Rattle.c_types.specs.Limits.{most_words, weight_of, file_words, is_small, answer_to}

-- the answer by what is told of the externals
abbrev answer_by : Judged Scope → Bool → ℕ → Judged ℕ → Judged ℕ
answer_by p main at own = after (after p (λ s. keeping ((main, fault.NoMain at) ∷ []) s)) (λ _. own)

refused_by : (p : Judged Scope) (main : Bool) (at : ℕ) (own : Judged ℕ) (e : TypeFault) → Some e ≡ result_err p → Err e ≡ answer_by p main at own
refused_by (Err d) main at own e h = ap (λ (o : Option TypeFault). by o) h where
  by : Option TypeFault → Judged ℕ
  by (Some f) = Err f
  by None = own
refused_by (Ok s) main at own e h = absurd cc

typed_by : (p : Judged Scope) (at : ℕ) (own : Judged ℕ) → None ≡ result_err p → own ≡ answer_by p true at own
typed_by (Ok s) at own h = refl
typed_by (Err d) at own h = absurd cc

without_by : (p : Judged Scope) (at : ℕ) (own : Judged ℕ) → None ≡ result_err p → Err (fault.NoMain at) ≡ answer_by p false at own
without_by (Ok s) at own h = refl
without_by (Err d) at own h = absurd cc

abbrev own_of : CUnit → Judged ℕ
own_of u = keeping ((is_small u, fault.TooLarge) ∷ []) (weight_of u)

pub refused : (u : CUnit) (e : TypeFault) → Some e ≡ result_err (all_items (start_scope u) u.items) → Err e ≡ answer_to u
refused u e h = refused_by (all_items (start_scope u) u.items) (list_any is_main u.items) u.end (own_of u) e h

pub typed : (u : CUnit) → None ≡ result_err (all_items (start_scope u) u.items) → list_any is_main u.items ≡ true → own_of u ≡ answer_to u
typed u h main =
    typed_by (all_items (start_scope u) u.items) u.end (own_of u) h ∙ ap (λ (b : Bool). answer_by (all_items (start_scope u) u.items) b u.end (own_of u)) (sym main)

pub without_main : (u : CUnit) (at : ℕ) → None ≡ result_err (all_items (start_scope u) u.items) → list_any is_main u.items ≡ false → at ≡ u.end → Err (fault.NoMain at) ≡ answer_to u
without_main u at h main is =
    ap (λ (n : ℕ). Err (fault.NoMain n)) is
    ∙ (without_by (all_items (start_scope u) u.items) u.end (own_of u) h ∙ ap (λ (b : Bool). answer_by (all_items (start_scope u) u.items) b u.end (own_of u)) (sym main))

-- no type is too wide
pub none_wide : (b : Bool) (n : ℕ) → b ≡ nat_lt 0 n → not b ≡ (n == 0)
none_wide b n h = grind (arith, nat_tests, h)

first_of : (a b c : Bool) → (a && b && c) ≡ true → a ≡ true
first_of true b c h = refl
first_of false b c h = absurd cc

pub light : (u : CUnit) → is_small u ≡ true → weight_of u % 2 ^ 24 ≡ weight_of u
light u h = by (weight_of u) (first_of (nat_le (weight_of u) 65536) _ _ h) where
  by : (n : ℕ) → nat_le n 65536 ≡ true → n % 2 ^ 24 ≡ n
  by n e =
      let less : n ≤ 65536 = grind (arith, nat_tests, e) in
      omega (arith, less)
