-- The equality of shapes is that of values.
use Rattle.std.proofs.Common.{◌≡◌, ℕ, Bool, true, refl, ap, arith, nat_eq}
use Rattle.std.proofs.lemmas.Bool.{and_parts, eqb-true, false≢true}
use Rattle.std.proofs.lemmas.Bool.Decides.{nat_tests}
use Rattle.c_types.specs.declared.shape.Shape.{Shape}
use Rattle.c_types.specs.declared.shape.Shape.TheVariants.{Void, Int, Unsigned, Char, UChar, Null, Struct, Pointer, Array, Function, NoType, MoreType}
use Rattle.c_types.specs.contracts.shape.ShapePartialEq.TheImpl.{eq-value}

abbrev pub equal : Shape → Shape → Bool
equal s t = eq-value.it s t

both : (m n k l : ℕ) → (f : ℕ → ℕ → Shape) → m ≡ n → k ≡ l → f m k ≡ f n l
both m n k l f e g = cc

pub shape_same : (s t : Shape) → equal s t ≡ true → s ≡ t
shape_same Void Void h = refl
shape_same Int Int h = refl
shape_same Unsigned Unsigned h = refl
shape_same Char Char h = refl
shape_same UChar UChar h = refl
shape_same Null Null h = refl
shape_same NoType NoType h = refl
shape_same (Struct m) (Struct n) h = ap Struct (eqb-true m n h)
shape_same (Pointer m) (Pointer n) h = ap Pointer (eqb-true m n h)
shape_same (Array m k) (Array n l) h = let p = and_parts (nat_eq m n) (nat_eq k l) h in both m n k l Array (eqb-true m n p.0) (eqb-true k l p.1)
shape_same (Function m k) (Function n l) h = let p = and_parts (nat_eq m n) (nat_eq k l) h in both m n k l Function (eqb-true m n p.0) (eqb-true k l p.1)
shape_same (MoreType m k) (MoreType n l) h = let p = and_parts (nat_eq m n) (nat_eq k l) h in both m n k l MoreType (eqb-true m n p.0) (eqb-true k l p.1)
shape_same _ _ h = absurd (false≢true h)

pub shape_self : (s : Shape) → equal s s ≡ true
shape_self Void = refl
shape_self Int = refl
shape_self Unsigned = refl
shape_self Char = refl
shape_self UChar = refl
shape_self Null = refl
shape_self NoType = refl
shape_self (Struct m) = grind (arith, nat_tests)
shape_self (Pointer m) = grind (arith, nat_tests)
shape_self (Array m k) = grind (arith, nat_tests)
shape_self (Function m k) = grind (arith, nat_tests)
shape_self (MoreType m k) = grind (arith, nat_tests)
