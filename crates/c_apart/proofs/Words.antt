-- Operators on words, as numbers.
use Rattle.std.proofs.Common.{◌≡◌, ℕ, ◌^◌, ◌<◌, nat_le, arith}
use Rattle.std.specs.Prelude.{pos, ◌+ℤ◌, ◌-ℤ◌, neg_ℤ, int_lt, not}
use Rattle.word24.specs.Word.{sum_word, difference_word, signed_of}
use Rattle.c_types.specs.Constants.{wrapped}

pub unsigned_sum : (x y : ℕ) → wrapped (pos x +ℤ pos y) ≡ sum_word x y
unsigned_sum x y = grind arith

pub int_sum : (x y : ℕ) → x < 2 ^ 24 → y < 2 ^ 24 → wrapped (signed_of x +ℤ signed_of y) ≡ sum_word x y
int_sum x y a b = grind (arith, a, b)

pub unsigned_difference : (x y : ℕ) → x < 2 ^ 24 → y < 2 ^ 24 → wrapped (pos x -ℤ pos y) ≡ difference_word x y
unsigned_difference x y a b = grind (arith, a, b)

pub int_difference : (x y : ℕ) → x < 2 ^ 24 → y < 2 ^ 24 → wrapped (signed_of x -ℤ signed_of y) ≡ difference_word x y
int_difference x y a b = grind (arith, a, b)

pub negated : (x : ℕ) → x < 2 ^ 24 → wrapped (neg_ℤ (pos x)) ≡ difference_word 0 x
negated x a = grind (arith, a)

-- a word is below zero where its highest bit is set
pub is_below_zero : (x : ℕ) → x < 2 ^ 24 → int_lt (signed_of x) (signed_of 0) ≡ nat_le (2 ^ 23) x
is_below_zero x a = grind (arith, a)

pub unsigned_at_most : (x y : ℕ) → not (int_lt (pos y) (pos x)) ≡ nat_le x y
unsigned_at_most x y = grind arith
