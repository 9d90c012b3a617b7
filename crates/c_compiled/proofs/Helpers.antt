-- Each helper function that a text has is so.
use Rattle.std.proofs.Common.{◌≡◌, ℕ, ◌≤◌, List, [], ◌∷◌, Option, Some, Bool, true, false, refl, sym, ap, ap₂, ◌∙◌, subst, cond, arith, map}
use Rattle.std.specs.Prelude.{◌||◌, if◌then◌else◌}
use Rattle.std.specs.Option.{option_map_or, option_or}
use Rattle.std.specs.Str.{bytes_eq}
use Rattle.std.proofs.lemmas.Slice.Eq.{bytes_eq-Decides}
use Rattle.c_syntax.specs.Plain as plain
use Rattle.c_syntax.specs.Plain.{CTy, CDecl, CUnit}
use Rattle.c_syntax.specs.Words.{meaning}
use Rattle.c_types.specs.Types.{CType, Pointer, Function, types}
use Rattle.c_types.specs.Room.{charges_of}
use Rattle.c_types.specs.Scope.{Routine, contains}
use Rattle.c_eval.specs.Text.{Definition, Text, function_named}
use Rattle.c_helpers.specs.Functions.{Helper, functions, unit_name, refill_name, piece_name, a}
use Rattle.c_helpers.specs.Fewer.{told}
use Rattle.c_helpers.specs.Meanings.{is_format}
use Rattle.c_helpers.specs.Simple.{helper_frame, helper_frames, charge_in, helpers_of}
use Rattle.c_helpers.specs.Terms.{declaration}
use Rattle.c_fewer_types.specs.Stands.{head_type}
use Rattle.c_fewer_calls.specs.There.{heads_of, by_name, HasHelper, HasHelpers}
use Rattle.c_products.specs.MovesFound.{Parameter, definition}
use Rattle.c_compiled.specs.Helped.{type_written, parameters, IsHelper, HelpersAreIn, plain_functions}
use Rattle.c_compiled.specs.Found.{FunctionsAreKept, FoundHelpersAreHelpers}

-- ---- heads

heads_same : (t : CTy) → head_type t ≡ type_written t
heads_same plain.Int = refl
heads_same plain.Unsigned = refl
heads_same plain.Char = refl
heads_same (plain.Pointer t) = ap Pointer (heads_same t)
heads_same t = refl

parameters_same : (ds : List CDecl) → heads_of ds ≡ map (λ d. (d.name, type_written d.ty)) ds
parameters_same [] = refl
parameters_same (d ∷ ds) = ap₂ (λ (t : CType) (xs : List Parameter). (d.name, t) ∷ xs) (heads_same d.ty) (parameters_same ds)

-- ---- names

-- one that is among those of some helper functions is that of one of them
record Named (gs : List Helper) (name : List ℕ) : Type 0 where
  helper : Helper
  is : meaning (by_name gs) name ≡ Some helper
  same : name ≡ helper.name

named : (gs : List Helper) (name : List ℕ) → contains (map (λ (g : Helper). g.name) gs) name ≡ true → Named gs name
named [] name e = absurd (cc e)
named (g ∷ gs) name e = go (bytes_eq name g.name) refl (λ k. named gs name k) e
  where
    go : (b : Bool) → bytes_eq name g.name ≡ b → (contains (map (λ (g : Helper). g.name) gs) name ≡ true → Named gs name) → (b || contains (map (λ (g : Helper). g.name) gs) name) ≡ true → Named (g ∷ gs) name
    go true k more e = record { helper = g; is = ap (λ b. cond b (Some g) (meaning (by_name gs) name)) k; same = (bytes_eq-Decides name g.name).0 k }
    go false k more e = let m = more e in record { helper = m.helper; is = ap (λ b. cond b (Some g) (meaning (by_name gs) name)) k ∙ m.is; same = m.same }

abbrev all : List Helper
all = told unit_name [] ∷ told refill_name [] ∷ told piece_name (declaration plain.Int a ∷ []) ∷ functions

-- ---- one of them

-- it is found by its name, it is no format's, and its frame is told
abbrev pub IsOne : Helper → Type 0
IsOne g = (meaning (by_name functions) g.name ≡ Some g) × (is_format g.name ≡ false) × (meaning helper_frames g.name ≡ Some (helper_frame g))

abbrev AreSome : List Helper → Type 0
AreSome [] = Unit {0}
AreSome (g ∷ gs) = IsOne g × AreSome gs

pub charged : (u : CUnit) (g : Helper) → IsOne g → helper_frame g ≤ charge_in u g.name
charged u g one =
    let first : charge_in u g.name ≡ option_map_or (λ n. n) (option_or (meaning helper_frames g.name) (meaning (charges_of u) g.name)) 0 = ap (λ b. if b then 0 else option_map_or (λ n. n) (option_or (meaning helper_frames g.name) (meaning (charges_of u) g.name)) 0) one.1 in
    let second : option_map_or (λ n. n) (option_or (meaning helper_frames g.name) (meaning (charges_of u) g.name)) 0 ≡ helper_frame g = ap (λ (o : Option ℕ). option_map_or (λ n. n) (option_or o (meaning (charges_of u) g.name)) 0) one.2 in
    omega (arith, first, second)

abbrev found : Definition → Option Definition
found f = Some f

found_is : (f g : Definition) → found f ≡ found g → f ≡ g
found_is f g e = cc e

module _ (u : CUnit) (ration : ℕ) (t : Text) (kept : List ℕ → Bool) (has : HasHelpers (helpers_of ration u) t kept) (keeps : FunctionsAreKept t kept) where
  pub helper_is : (g : Helper) (f : Definition) → IsOne g → function_named t g.name ≡ Some f → IsHelper g f
  helper_is g f one e =
      let h : HasHelper (helpers_of ration u) t kept g = has.helpers g.name g one.0 (keeps g.name f e) in
      let own = h.own in
      let first : f ≡ definition (head_type g.result) (heads_of g.params) g own.tags own.names own.defined = found_is f (definition (head_type g.result) (heads_of g.params) g own.tags own.names own.defined) (sym e ∙ own.found) in
      let second : definition (head_type g.result) (heads_of g.params) g own.tags own.names own.defined ≡ definition (type_written g.result) (parameters g) g own.tags own.names own.defined =
      ap₂ (λ (r : CType) (ps : List Parameter). definition r ps g own.tags own.names own.defined) (heads_same g.result) (parameters_same g.params) in
      record {
        tags = own.tags;
        names = own.names;
        defined = own.defined;
        is = first ∙ second;
        knows = λ name c k.
            let m : Named all name = named all name k in
            let calls = h.calls name m.helper m.is c in
            let type : CType = Function (head_type m.helper.result) (types (map (λ (x : Parameter). x.1) (heads_of m.helper.params))) in
            record { type = type; begun = calls.1.0; means = subst (λ z. meaning own.names z ≡ Some (Routine type calls.1.0)) (sym m.same) calls.1.1 };
        writes = h.put;
      }

  all_are : (gs : List Helper) → AreSome gs → HelpersAreIn t (charge_in u) gs
  all_are [] some = tt
  all_are (g ∷ gs) some = ((λ f e. (helper_is g f some.0 e, charged u g some.0)), all_are gs some.1)

-- ---- all of them

functions_are_some : AreSome functions
functions_are_some = ((refl, refl, refl), ((refl, refl, refl), ((refl, refl, refl), ((refl, refl, refl), ((refl, refl, refl), ((refl, refl, refl), ((refl, refl, refl), ((refl, refl, refl), ((refl, refl, refl), ((refl, refl, refl), ((refl, refl, refl), ((refl, refl, refl), ((refl, refl, refl), ((refl, refl, refl), ((refl, refl, refl), ((refl, refl, refl), ((refl, refl, refl), ((refl, refl, refl), ((refl, refl, refl), ((refl, refl, refl), ((refl, refl, refl), ((refl, refl, refl), ((refl, refl, refl), ((refl, refl, refl), ((refl, refl, refl), ((refl, refl, refl), ((refl, refl, refl), ((refl, refl, refl), ((refl, refl, refl), ((refl, refl, refl), ((refl, refl, refl), ((refl, refl, refl), ((refl, refl, refl), ((refl, refl, refl), ((refl, refl, refl), ((refl, refl, refl), ((refl, refl, refl), tt)))))))))))))))))))))))))))))))))))))

plain_are_some : AreSome plain_functions
plain_are_some = ((refl, refl, refl), ((refl, refl, refl), ((refl, refl, refl), ((refl, refl, refl), ((refl, refl, refl), ((refl, refl, refl), ((refl, refl, refl), ((refl, refl, refl), ((refl, refl, refl), ((refl, refl, refl), ((refl, refl, refl), ((refl, refl, refl), ((refl, refl, refl), ((refl, refl, refl), ((refl, refl, refl), ((refl, refl, refl), ((refl, refl, refl), ((refl, refl, refl), ((refl, refl, refl), ((refl, refl, refl), ((refl, refl, refl), ((refl, refl, refl), ((refl, refl, refl), ((refl, refl, refl), ((refl, refl, refl), ((refl, refl, refl), ((refl, refl, refl), ((refl, refl, refl), ((refl, refl, refl), ((refl, refl, refl), ((refl, refl, refl), ((refl, refl, refl), ((refl, refl, refl), ((refl, refl, refl), ((refl, refl, refl), tt)))))))))))))))))))))))))))))))))))

pub found_helpers_are_helpers : FoundHelpersAreHelpers
found_helpers_are_helpers u ration t kept has keeps = (all_are u ration t kept has keeps functions functions_are_some, all_are u ration t kept has keeps plain_functions plain_are_some)
