-- What the routines make of two words is what C's operators give.
use Rattle.std.specs.Prelude.{◌≡◌, ℕ, Bool, true, false}
use Rattle.eir_core.specs.Eir.{Eir}
use Rattle.c_place.specs.Place.{Place}
use Rattle.c_syntax.specs.declared.tree.BinOp.TheVariants.{Mul, Div, Mod, Shl, Shr, BitAnd, BitOr, BitXor}
use Rattle.c_types.specs.Constants.{Constant, Value, binary_value}
use Rattle.c_routines.specs.declared.routine.Routine.{Routine}
use Rattle.c_routines.specs.declared.routine.Routine.TheVariants as routine
use Rattle.c_routines.specs.Lands.{Serves}
use Rattle.c_routines.specs.Laws.{nothing}
use Rattle.c_routines.specs.Routines.{ServesAs}

-- an operator gives a word
abbrev pub IsWordGiven : Constant → Type 0
IsWordGiven (Value word) = Unit {0}
IsWordGiven _ = ⊥

-- the register where a result is left
abbrev pub in_a : (a c : ℕ) → ℕ
in_a a c = a

abbrev pub in_c : (a c : ℕ) → ℕ
in_c a c = c

-- wherever the routine serves, it leaves the word that the operator gives for those in A and B, where it gives one, in A or in C
abbrev pub Computes : Routine → (words most : ℕ) → (operator : ℕ → ℕ → Constant) → (left_in : ℕ → ℕ → ℕ) → Type 0
Computes r words most operator left_in =
    (p : Eir) (first : ℕ) (s : Place) → ServesAs p first s r
    → Serves p first words s (λ x y. IsWordGiven (operator x y)) nothing (λ x y a c. operator x y ≡ Value (left_in a c)) most

-- for operators at any place of a text, whose left operand is unsigned or not, and one of the two or none
pub record OperatorsAreComputed : Type 0 where
  pub product : (at : ℕ) (left unsigned : Bool) → Computes routine.Product 0 104 (binary_value at Mul left unsigned) in_a
  pub unsigned_quotient : (at : ℕ) (left : Bool) → Computes routine.Divide 24 192 (binary_value at Div left true) in_c
  pub unsigned_remainder : (at : ℕ) (left : Bool) → Computes routine.Divide 24 192 (binary_value at Mod left true) in_a
  pub signed_quotient : (at : ℕ) (left : Bool) → Computes routine.SignedDivide 26 208 (binary_value at Div left false) in_c
  pub signed_remainder : (at : ℕ) (left : Bool) → Computes routine.SignedDivide 26 208 (binary_value at Mod left false) in_a
  pub bits_of_both : (at : ℕ) (left unsigned : Bool) → Computes routine.Both 0 151 (binary_value at BitAnd left unsigned) in_a
  pub bits_of_some : (at : ℕ) (left unsigned : Bool) → Computes routine.Some 26 162 (binary_value at BitOr left unsigned) in_a
  pub bits_of_one : (at : ℕ) (left unsigned : Bool) → Computes routine.One 26 163 (binary_value at BitXor left unsigned) in_a
  pub left_shift : (at : ℕ) (left unsigned : Bool) → Computes routine.Left 0 28 (binary_value at Shl left unsigned) in_a
  pub unsigned_right_shift : (at : ℕ) (unsigned : Bool) → Computes routine.Right 0 101 (binary_value at Shr true unsigned) in_a
  pub signed_right_shift : (at : ℕ) (unsigned : Bool) → Computes routine.SignedRight 26 113 (binary_value at Shr false unsigned) in_a
