-- Routines that serve compute the operators.
use Rattle.std.proofs.Common.{◌≡◌, ℕ, zero, suc, ◌*◌, ◌/◌, ◌%◌, ◌^◌, ◌<◌, ◌≤◌, Bool, true, false, nat_lt, refl, sym, ap, ◌∙◌, arith, if◌then◌else◌}
use Rattle.std.specs.Prelude.{ℤ, pos, int_div, int_rem, ◌==◌, bit_and, bit_or, bit_xor}
use Rattle.std.specs.Int.{int_div_euclid}
use Rattle.std.proofs.lemmas.Bool.{lt-ltb, ltb-true, ne_eqb}
use Rattle.word24.specs.Word.{IsWord}
use Rattle.eir_core.specs.Eir.{Eir}
use Rattle.c_place.specs.Place.{Place}
use Rattle.c_syntax.specs.declared.tree.BinOp.TheVariants.{Mul, Div, Mod, Shl, Shr, BitAnd, BitOr, BitXor}
use Rattle.c_types.specs.Constants.{Constant, Undefined, Value, counted, wrapped, divided, shifted, binary_value}
use Rattle.c_routines.specs.Lands.{Serves}
use Rattle.c_routines.specs.Laws.{Any, nothing, Gives, IsQuotient}
use Rattle.c_routines.specs.SignedDivide.{IsSignedQuotient}
use Rattle.c_routines.specs.SignedRight.{signed_shift}
use Rattle.c_operators.specs.Operators.{IsWordGiven, in_a, in_c, OperatorsAreComputed}
use Rattle.c_operators.proofs.Results.{product_is, unsigned_quotient_is, signed_quotient_is, unsigned_remainder_is, signed_remainder_is, right_is, signed_right_is}

-- what a routine needs and makes, by the operator
computes : (p : Eir) (first words : ℕ) (s : Place) (Needs : ℕ → ℕ → Type 0) (Makes : ℕ → ℕ → ℕ → ℕ → Type 0) (most : ℕ) (operator : ℕ → ℕ → Constant) (left_in : ℕ → ℕ → ℕ)
    → ((x y : ℕ) → IsWordGiven (operator x y) → Needs x y) → ((x y a c : ℕ) → IsWord x → IsWord y → IsWordGiven (operator x y) → Makes x y a c → operator x y ≡ Value (left_in a c))
    → Serves p first words s Needs nothing Makes most → Serves p first words s (λ x y. IsWordGiven (operator x y)) nothing (λ x y a c. operator x y ≡ Value (left_in a c)) most
computes p first words s Needs Makes most operator left_in needs makes serves = record {
  lands = λ input m taken output word_a word_b given.
      let l = serves.lands input m taken output word_a word_b (needs m.regs.a m.regs.b given) in
      record {
        regs = l.regs;
        memory = l.memory;
        comes = l.comes;
        d = l.d;
        sp = l.sp;
        bp = l.bp;
        kept = l.kept;
        result = makes m.regs.a m.regs.b l.regs.a l.regs.c word_a word_b given l.result;
      };
}

-- a quotient is given where the divisor isn't 0
some_divisor : (divide : ℤ → ℤ → ℤ) (unsigned : Bool) (at x y : ℕ) → IsWordGiven (divided divide unsigned at x y) → 0 < y
some_divisor divide unsigned at x zero h = absurd h
some_divisor divide unsigned at x (suc y) h = omega arith

divided_is : (divide : ℤ → ℤ → ℤ) (unsigned : Bool) (at x y w : ℕ) → 0 < y → wrapped (divide (counted unsigned x) (counted unsigned y)) ≡ w → divided divide unsigned at x y ≡ Value w
divided_is divide unsigned at x y w lt e =
    let some : (y == 0) ≡ false = ne_eqb y 0 (λ (none : y ≡ 0). absurd (omega (arith, lt, none))) in
    ap (λ t. if t then Undefined at else Value (wrapped (divide (counted unsigned x) (counted unsigned y)))) some ∙ ap Value e

-- a shift by fewer than 24
few : (at y word : ℕ) → IsWordGiven (shifted at y word) → y < 24
few at y word h = go (nat_lt y 24) refl h
  where
    go : (t : Bool) → nat_lt y 24 ≡ t → IsWordGiven (if t then Value word else Undefined at) → y < 24
    go true e h = ltb-true y 24 e
    go false e h = absurd h

shifted_is : (at y word w : ℕ) → y < 24 → word ≡ w → shifted at y word ≡ Value w
shifted_is at y word w lt e = ap (λ t. if t then Value word else Undefined at) (lt-ltb y 24 lt) ∙ ap Value e

pub operators_are_computed : OperatorsAreComputed
operators_are_computed = record {
  product = λ at left unsigned p first s serves.
      computes p first 0 s Any (Gives (λ x y. x * y % 2 ^ 24)) 104 (binary_value at Mul left unsigned) in_a (λ x y given. tt) (λ x y a c word_x word_y given is. ap Value (product_is x y word_x word_y unsigned ∙ sym is)) serves;
  unsigned_quotient = λ at left p first s serves.
      computes p first 24 s (λ x y. 0 < y) IsQuotient 192 (binary_value at Div left true) in_c (λ x y given. some_divisor int_div true at x y given)
      (λ x y a c word_x word_y given is. divided_is int_div true at x y c (some_divisor int_div true at x y given) (unsigned_quotient_is x y word_x ∙ sym is.1)) serves;
  unsigned_remainder = λ at left p first s serves.
      computes p first 24 s (λ x y. 0 < y) IsQuotient 192 (binary_value at Mod left true) in_a (λ x y given. some_divisor int_rem true at x y given)
      (λ x y a c word_x word_y given is. divided_is int_rem true at x y a (some_divisor int_rem true at x y given) (unsigned_remainder_is x y word_x ∙ sym is.0)) serves;
  signed_quotient = λ at left p first s serves.
      computes p first 26 s (λ x y. 0 < y) IsSignedQuotient 208 (binary_value at Div left false) in_c (λ x y given. some_divisor int_div false at x y given)
      (λ x y a c word_x word_y given is. divided_is int_div false at x y c (some_divisor int_div false at x y given) (signed_quotient_is x y word_x word_y ∙ sym is.1)) serves;
  signed_remainder = λ at left p first s serves.
      computes p first 26 s (λ x y. 0 < y) IsSignedQuotient 208 (binary_value at Mod left false) in_a (λ x y given. some_divisor int_rem false at x y given)
      (λ x y a c word_x word_y given is. divided_is int_rem false at x y a (some_divisor int_rem false at x y given) (signed_remainder_is x y word_x word_y ∙ sym is.0)) serves;
  bits_of_both = λ at left unsigned p first s serves.
      computes p first 0 s Any (Gives bit_and) 151 (binary_value at BitAnd left unsigned) in_a (λ x y given. tt) (λ x y a c word_x word_y given is. ap Value (sym is)) serves;
  bits_of_some = λ at left unsigned p first s serves.
      computes p first 26 s Any (Gives bit_or) 162 (binary_value at BitOr left unsigned) in_a (λ x y given. tt) (λ x y a c word_x word_y given is. ap Value (sym is)) serves;
  bits_of_one = λ at left unsigned p first s serves.
      computes p first 26 s Any (Gives bit_xor) 163 (binary_value at BitXor left unsigned) in_a (λ x y given. tt) (λ x y a c word_x word_y given is. ap Value (sym is)) serves;
  left_shift = λ at left unsigned p first s serves.
      computes p first 0 s (λ x y. y ≤ 24) (Gives (λ x y. x * 2 ^ y % 2 ^ 24)) 28 (binary_value at Shl left unsigned) in_a (λ x y given. let small : y < 24 = few at y (wrapped (pos (x * 2 ^ y))) given in omega (arith, small))
      (λ x y a c word_x word_y given is. shifted_is at y (wrapped (pos (x * 2 ^ y))) a (few at y (wrapped (pos (x * 2 ^ y))) given) (sym is)) serves;
  unsigned_right_shift = λ at unsigned p first s serves.
      computes p first 0 s (λ x y. y ≤ 23) (Gives (λ x y. x / 2 ^ y)) 101 (binary_value at Shr true unsigned) in_a (λ x y given. let small : y < 24 = few at y (wrapped (int_div_euclid (counted true x) (pos (2 ^ y)))) given in omega (arith, small))
      (λ x y a c word_x word_y given is. shifted_is at y (wrapped (int_div_euclid (counted true x) (pos (2 ^ y)))) a (few at y (wrapped (int_div_euclid (counted true x) (pos (2 ^ y)))) given) (right_is x y word_x ∙ sym is)) serves;
  signed_right_shift = λ at unsigned p first s serves.
      computes p first 26 s (λ x y. y ≤ 23) (Gives signed_shift) 113 (binary_value at Shr false unsigned) in_a (λ x y given. let small : y < 24 = few at y (wrapped (int_div_euclid (counted false x) (pos (2 ^ y)))) given in omega (arith, small))
      (λ x y a c word_x word_y given is. shifted_is at y (wrapped (int_div_euclid (counted false x) (pos (2 ^ y)))) a (few at y (wrapped (int_div_euclid (counted false x) (pos (2 ^ y)))) given) (signed_right_is x y word_x ∙ sym is)) serves;
}
