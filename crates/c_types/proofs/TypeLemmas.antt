-- Types are found equal just where they are.
use Rattle.std.proofs.Common.{◌≡◌, true, refl, ap, subst}
use Rattle.std.proofs.lemmas.Slice.Eq.{bytes_eq-Decides}
use Rattle.std.proofs.lemmas.Bool.{and_parts, and_from, eqb-true}
use Rattle.std.proofs.lemmas.Bool.Decides.{nat_tests}
use Rattle.std.proofs.Common.{arith}
use Rattle.c_types.specs.Types.{CType, CTypes, Void, Int, Unsigned, Char, UChar, Null, Struct, Pointer, Array, Function, NoType, MoreType, same_type, same_types}
use Rattle.c_types.specs.Laws.{EqualTypesAreOne}

mutual
  same_sound : (t u : CType) → same_type t u ≡ true → t ≡ u
  same_sound Void Void h = refl
  same_sound Int Int h = refl
  same_sound Unsigned Unsigned h = refl
  same_sound Char Char h = refl
  same_sound UChar UChar h = refl
  same_sound Null Null h = refl
  same_sound (Struct a) (Struct b) h = ap Struct ((bytes_eq-Decides a b).0 h)
  same_sound (Pointer t) (Pointer u) h = ap Pointer (same_sound t u h)
  same_sound (Array t m) (Array u n) h =
      let parts = and_parts (same_type t u) _ h in
      let e = same_sound t u parts.0 in
      let f : m ≡ n = eqb-true m n parts.1 in
      cc
  same_sound (Function t ts) (Function u us) h =
      let parts = and_parts (same_type t u) (same_types ts us) h in
      let e = same_sound t u parts.0 in
      let f = same_types_sound ts us parts.1 in
      cc
  same_sound _ _ h = cc

  same_types_sound : (ts us : CTypes) → same_types ts us ≡ true → ts ≡ us
  same_types_sound NoType NoType h = refl
  same_types_sound (MoreType t ts) (MoreType u us) h =
      let parts = and_parts (same_type t u) (same_types ts us) h in
      let e = same_sound t u parts.0 in
      let f = same_types_sound ts us parts.1 in
      cc
  same_types_sound _ _ h = cc

mutual
  pub same_self : (t : CType) → same_type t t ≡ true
  same_self Void = refl
  same_self Int = refl
  same_self Unsigned = refl
  same_self Char = refl
  same_self UChar = refl
  same_self Null = refl
  same_self (Struct a) = (bytes_eq-Decides a a).1 refl
  same_self (Pointer t) = same_self t
  same_self (Array t n) = and_from (same_type t t) _ (same_self t) (grind (arith, nat_tests))
  same_self (Function t ts) = and_from (same_type t t) (same_types ts ts) (same_self t) (same_types_self ts)

  same_types_self : (ts : CTypes) → same_types ts ts ≡ true
  same_types_self NoType = refl
  same_types_self (MoreType t ts) = and_from (same_type t t) (same_types ts ts) (same_self t) (same_types_self ts)

pub equal_types : EqualTypesAreOne
equal_types t u = (same_sound t u, λ e. let P : CType → Type 0 = λ v. same_type t v ≡ true in subst P e (same_self t))
