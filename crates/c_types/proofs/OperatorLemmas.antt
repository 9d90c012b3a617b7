-- What casts, assignments and calls that are typed keep.
use Rattle.std.proofs.Common.{◌≡◌, ◌⊎◌, inl, inr, Bool, true, false, ◌&&◌, ◌||◌, List, [], ◌∷◌, length, Option, Some, None, refl, sym, subst, ◌∙◌, arith, if◌then◌else◌}
use Rattle.std.specs.Prelude.{Ok, Err}
use Rattle.std.specs.Option.{option_map_or}
use lib.Dec.{eqb}
use Rattle.std.proofs.lemmas.Bool.{and_parts, and_from, eqb-true}
use Rattle.c_types.specs.declared.fault.TypeFault.{TypeFault}
use Rattle.c_types.specs.declared.fault.TypeFault.TheVariants as fault
use Rattle.c_types.specs.Types.{CType, CTypes, Void, Pointer, Function, NoType, MoreType, same_type, is_arithmetic, is_void, is_scalar, is_function_pointer, is_object_pointer}
use Rattle.c_types.specs.Refusals.{least_of, broken}
use Rattle.c_types.specs.Operands.{Operand, value_at, is_place, is_word_place, converts, argument_rules, count_of}
use Rattle.c_types.specs.Laws.{Casts, ToNothing, Numbers, ObjectPointers, EqualFunctionPointers, CastsByTheRule, AssignmentsKeepTheRule, ArgumentsConvert, CallsKeepTheRule}
use Rattle.c_types.proofs.TypeLemmas.{equal_types, same_self}
use Rattle.c_types.proofs.ConversionLemmas.{object_pointer, is_no_function, converts_by_the_rule}

-- ---- casts

abbrev FourWays : Bool → Bool → Bool → Bool → Type 0
FourWays a b c d = (a ≡ true) ⊎ ((b ≡ true) ⊎ ((c ≡ true) ⊎ (d ≡ true)))

which : (a b c d : Bool) → (a || b || c || d) ≡ true → FourWays a b c d
which true b c d h = inl refl
which false true c d h = inr (inl refl)
which false false true d h = inr (inr (inl refl))
which false false false d h = inr (inr (inr h))

one_of : (a b c d : Bool) → FourWays a b c d → (a || b || c || d) ≡ true
one_of true b c d h = refl
one_of false true c d h = refl
one_of false false true d h = refl
one_of false false false d (inl h) = cc
one_of false false false d (inr (inl h)) = cc
one_of false false false d (inr (inr (inl h))) = cc
one_of false false false d (inr (inr (inr h))) = h

void_type : (t : CType) → is_void t ≡ true → t ≡ Void
void_type Void h = refl
void_type _ h = cc

function_pointer : (t : CType) → is_function_pointer t ≡ true → (result : CType) × (params : CTypes) × (t ≡ Pointer (Function result params))
function_pointer (Pointer (Function r ps)) h = (r, ps, refl)
function_pointer (Pointer Void) h = cc
function_pointer (Pointer _) h = cc
function_pointer Void h = cc
function_pointer _ h = cc

abbrev CastTests : CType → CType → Type 0
CastTests t u = FourWays (is_void u) (is_arithmetic t && is_arithmetic u) (is_object_pointer t && is_object_pointer u) (is_function_pointer t && same_type t u)

cast : (t u : CType) → CastTests t u → Casts t u
cast t u (inl h) = ToNothing (void_type u h)
cast t u (inr (inl h)) = let p = and_parts (is_arithmetic t) (is_arithmetic u) h in Numbers p.0 p.1
cast t u (inr (inr (inl h))) =
    let p = and_parts (is_object_pointer t) (is_object_pointer u) h in
    let d = object_pointer t p.0 in
    let e = object_pointer u p.1 in
    ObjectPointers d.0 e.0 d.2 e.2 d.1 e.1
cast t u (inr (inr (inr h))) =
    let p = and_parts (is_function_pointer t) (same_type t u) h in
    let f = function_pointer t p.0 in
    EqualFunctionPointers f.0 f.1 f.2 (sym ((equal_types t u).0 p.1) ∙ f.2)

at_equal : (t u t' u' : CType) → t ≡ t' → u ≡ u' → CastTests t' u' → CastTests t u
at_equal t u t' u' e f h =
    let P : CType → Type 0 = λ x. CastTests x u in
    let Q : CType → Type 0 = λ y. CastTests t' y in
    subst P (sym e) (subst Q (sym f) h)

cast_tests : (t u : CType) → Casts t u → CastTests t u
cast_tests t u (ToNothing e) = let Q : CType → Type 0 = λ y. CastTests t y in subst Q (sym e) (inl refl)
cast_tests t u (Numbers p q) = inr (inl (and_from (is_arithmetic t) (is_arithmetic u) p q))
cast_tests t u (ObjectPointers d e m n p q) =
    at_equal t u (Pointer d) (Pointer e) p q (inr (inr (inl (and_from (is_object_pointer (Pointer d)) (is_object_pointer (Pointer e)) (is_no_function d m) (is_no_function e n)))))
cast_tests t u (EqualFunctionPointers r ps p q) =
    at_equal t u (Pointer (Function r ps)) (Pointer (Function r ps)) p q (inr (inr (inr (same_self (Function r ps)))))

pub casts_by_the_rule : CastsByTheRule
casts_by_the_rule t u = (
  λ h. cast t u (which (is_void u) (is_arithmetic t && is_arithmetic u) (is_object_pointer t && is_object_pointer u) (is_function_pointer t && same_type t u) h),
  λ rule. one_of (is_void u) (is_arithmetic t && is_arithmetic u) (is_object_pointer t && is_object_pointer u) (is_function_pointer t && same_type t u) (cast_tests t u rule),
)

-- ---- rules that are kept

kept : {A : Type 0} (o : Option TypeFault) (a b : A) → option_map_or (λ e. Err e) o (Ok a) ≡ Ok b → (o ≡ None) × (a ≡ b)
kept None a b h = (refl, cc)
kept (Some e) a b h = absurd cc

rule_kept : (t : Bool) (e : TypeFault) (o : Option TypeFault) → (if t then o else Some (least_of e o)) ≡ None → (t ≡ true) × (o ≡ None)
rule_kept true e o h = (refl, h)
rule_kept false e o h = absurd cc

pub assignments_keep_the_rule : AssignmentsKeepTheRule
assignments_keep_the_rule tags at a b r h =
    let k = kept (broken ((is_word_place a, fault.NotLvalue a.pos) ∷ (converts b a.ty, fault.Mismatch at) ∷ [])) (value_at at a.ty) r h in
    let p = rule_kept (is_word_place a) (fault.NotLvalue a.pos) (broken ((converts b a.ty, fault.Mismatch at) ∷ [])) k.0 in
    let q = rule_kept (converts b a.ty) (fault.Mismatch at) None p.1 in
    let w = and_parts (is_place a.sort) (is_scalar a.ty) p.0 in
    (w.0, w.1, (converts_by_the_rule b a.ty).0 q.0, sym k.1)

arguments_convert : (ts : CTypes) (arguments : List Operand) → count_of ts ≡ length arguments → broken (argument_rules ts arguments) ≡ None → ArgumentsConvert ts arguments
arguments_convert NoType [] n h = tt
arguments_convert NoType (a ∷ arguments) n h = omega arith
arguments_convert (MoreType t ts) [] n h = omega arith
arguments_convert (MoreType t ts) (a ∷ arguments) n h =
    let p = rule_kept (converts a t) (fault.Mismatch a.pos) (broken (argument_rules ts arguments)) h in
    ((converts_by_the_rule a t).0 p.0, arguments_convert ts arguments (omega arith) p.1)

pub calls_keep_the_rule : CallsKeepTheRule
calls_keep_the_rule at defined result params arguments r h =
    let k = kept (broken ((defined && eqb (count_of params) (length arguments), fault.BadCall at) ∷ argument_rules params arguments)) (value_at at result) r h in
    let p = rule_kept (defined && eqb (count_of params) (length arguments)) (fault.BadCall at) (broken (argument_rules params arguments)) k.0 in
    let d = and_parts defined (eqb (count_of params) (length arguments)) p.0 in
    (d.0, arguments_convert params arguments (eqb-true (count_of params) (length arguments) d.1) p.1, sym k.1)
