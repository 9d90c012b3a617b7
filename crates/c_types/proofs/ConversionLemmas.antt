-- What converts is what the rule says.
use Rattle.std.proofs.Common.{◌≡◌, ◌⊎◌, inl, inr, Bool, true, false, not, ◌&&◌, ◌||◌, refl, sym, subst, ◌∙◌}
use Rattle.std.proofs.lemmas.Bool.{and_parts, and_from}
use Rattle.c_types.specs.Types.{CType, Void, Int, Pointer, Function, same_type, is_arithmetic, is_pointer, is_function_pointer, is_void_pointer, is_object_pointer}
use Rattle.c_types.specs.Operands.{Operand, value_type, is_null_constant}
use Rattle.c_types.specs.Laws.{IsNoFunction, Converts, Number, EqualPointer, FromVoid, ToVoid, FromNull, ConvertsByTheRule}
use Rattle.c_types.proofs.TypeLemmas.{equal_types, same_self}

-- one of five tests
abbrev FiveWays : Bool → Bool → Bool → Bool → Bool → Type 0
FiveWays a b c d e = (a ≡ true) ⊎ ((b ≡ true) ⊎ ((c ≡ true) ⊎ ((d ≡ true) ⊎ (e ≡ true))))

which : (a b c d e : Bool) → (a || b || c || d || e) ≡ true → FiveWays a b c d e
which true b c d e h = inl refl
which false true c d e h = inr (inl refl)
which false false true d e h = inr (inr (inl refl))
which false false false true e h = inr (inr (inr (inl refl)))
which false false false false e h = inr (inr (inr (inr h)))

one_of : (a b c d e : Bool) → FiveWays a b c d e → (a || b || c || d || e) ≡ true
one_of true b c d e h = refl
one_of false true c d e h = refl
one_of false false true d e h = refl
one_of false false false true e h = refl
one_of false false false false e (inl h) = cc
one_of false false false false e (inr (inl h)) = cc
one_of false false false false e (inr (inr (inl h))) = cc
one_of false false false false e (inr (inr (inr (inl h)))) = cc
one_of false false false false e (inr (inr (inr (inr h)))) = h

pointee : (t : CType) → is_pointer t ≡ true → (e : CType) × (t ≡ Pointer e)
pointee (Pointer e) h = (e, refl)
pointee Void h = cc
pointee _ h = cc

void_pointer : (t : CType) → is_void_pointer t ≡ true → t ≡ Pointer Void
void_pointer (Pointer Void) h = refl
void_pointer (Pointer Int) h = cc
void_pointer (Pointer _) h = cc
void_pointer Void h = cc
void_pointer _ h = cc

no_function : (e : CType) → not (is_function_pointer (Pointer e)) ≡ true → IsNoFunction e
no_function (Function r ps) h = λ _ _ _. cc
no_function Void h = λ _ _ e. cc
no_function _ h = λ _ _ e. cc

pub is_no_function : (e : CType) → IsNoFunction e → not (is_function_pointer (Pointer e)) ≡ true
is_no_function (Function r ps) h = absurd (h r ps refl)
is_no_function Void h = refl
is_no_function _ h = refl

-- an object pointer points to no function
pub object_pointer : (t : CType) → is_object_pointer t ≡ true → (e : CType) × (t ≡ Pointer e) × IsNoFunction e
object_pointer t h =
    let parts = and_parts (is_pointer t) (not (is_function_pointer t)) h in
    let p = pointee t parts.0 in
    (p.0, p.1, no_function p.0 (let P : CType → Type 0 = λ v. not (is_function_pointer v) ≡ true in subst P p.1 parts.1))

abbrev Tests : CType → CType → Bool → Type 0
Tests v t null =
    FiveWays (is_arithmetic v && is_arithmetic t) (is_pointer t && same_type v t) (is_void_pointer v && is_object_pointer t) (is_object_pointer v && is_void_pointer t) (null && is_pointer t)

converted : (a : Operand) (t : CType) → Tests (value_type a) t (is_null_constant a) → Converts a t
converted a t (inl h) = let p = and_parts (is_arithmetic (value_type a)) (is_arithmetic t) h in Number p.0 p.1
converted a t (inr (inl h)) =
    let p = and_parts (is_pointer t) (same_type (value_type a) t) h in
    let e = pointee t p.0 in
    EqualPointer e.0 ((equal_types (value_type a) t).0 p.1 ∙ e.1) e.1
converted a t (inr (inr (inl h))) =
    let p = and_parts (is_void_pointer (value_type a)) (is_object_pointer t) h in
    let e = object_pointer t p.1 in
    FromVoid e.0 e.2 (void_pointer (value_type a) p.0) e.1
converted a t (inr (inr (inr (inl h)))) =
    let p = and_parts (is_object_pointer (value_type a)) (is_void_pointer t) h in
    let e = object_pointer (value_type a) p.0 in
    ToVoid e.0 e.2 e.1 (void_pointer t p.1)
converted a t (inr (inr (inr (inr h)))) =
    let p = and_parts (is_null_constant a) (is_pointer t) h in
    let e = pointee t p.1 in
    FromNull e.0 p.0 e.1

at_equal : (v t v' t' : CType) (null : Bool) → v ≡ v' → t ≡ t' → Tests v' t' null → Tests v t null
at_equal v t v' t' null e f h =
    let P : CType → Type 0 = λ x. Tests x t null in
    let Q : CType → Type 0 = λ y. Tests v' y null in
    subst P (sym e) (subst Q (sym f) h)

tested : (a : Operand) (t : CType) → Converts a t → Tests (value_type a) t (is_null_constant a)
tested a t (Number p q) = inl (and_from (is_arithmetic (value_type a)) (is_arithmetic t) p q)
tested a t (EqualPointer e p q) = at_equal (value_type a) t (Pointer e) (Pointer e) (is_null_constant a) p q (inr (inl (same_self e)))
tested a t (FromVoid e n p q) = at_equal (value_type a) t (Pointer Void) (Pointer e) (is_null_constant a) p q (inr (inr (inl (is_no_function e n))))
tested a t (ToVoid e n p q) =
    at_equal (value_type a) t (Pointer e) (Pointer Void) (is_null_constant a) p q (inr (inr (inr (inl (and_from (is_object_pointer (Pointer e)) true (is_no_function e n) refl)))))
tested a t (FromNull e p q) =
    let Q : CType → Type 0 = λ y. Tests (value_type a) y (is_null_constant a) in
    subst Q (sym q) (inr (inr (inr (inr (and_from (is_null_constant a) true p refl)))))

pub converts_by_the_rule : ConvertsByTheRule
converts_by_the_rule a t = (
  λ h. converted a t (which (is_arithmetic (value_type a) && is_arithmetic t) (is_pointer t && same_type (value_type a) t) (is_void_pointer (value_type a) && is_object_pointer t) (is_object_pointer (value_type a) && is_void_pointer t) (is_null_constant a && is_pointer t) h),
  λ rule. one_of (is_arithmetic (value_type a) && is_arithmetic t) (is_pointer t && same_type (value_type a) t) (is_void_pointer (value_type a) && is_object_pointer t) (is_object_pointer (value_type a) && is_void_pointer t) (is_null_constant a && is_pointer t) (tested a t rule),
)
