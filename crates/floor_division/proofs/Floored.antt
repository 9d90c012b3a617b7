-- The quotient is rounded down: what is left beside it lies between 0 and the divisor.
use Rattle.std.proofs.Common.{◌≡◌, ◌≢◌, ℕ, zero, suc, ◌+◌, ◌*◌, ◌/◌, ◌%◌, ◌<◌, ℤ, pos, negsuc, refl, arith}
use Rattle.std.specs.Prelude.{◌+ℤ◌, ◌-ℤ◌, ◌*ℤ◌, neg_ℤ}
use Rattle.std.proofs.Math.Nat.{div-add-mod, mod-lt, mul-suc, mul-zero}
use Rattle.std.proofs.lemmas.Int.{ints}
use Rattle.mach_core.specs.Integer.{floor_quotient, floor_remainder}
use Rattle.floor_division.specs.Floored.{IsBetween}

put_back : (x product : ℤ) → product +ℤ (x -ℤ product) ≡ x
put_back x product = omega (arith, ints)

-- the divisor times the quotient, and what is left, make the number
pub quotient_and_remainder : (x y : ℤ) → (y *ℤ floor_quotient x y) +ℤ floor_remainder x y ≡ x
quotient_and_remainder x y = put_back x (y *ℤ floor_quotient x y)

below : (x y : ℕ) → x % suc y < suc y
below x y = mod-lt x (omega arith)

-- one product more
one_more : (x y : ℕ) → suc y * suc (x / suc y) + x % suc y ≡ x + suc y
one_more x y = omega (arith, mul-suc (suc y) (x / suc y), div-add-mod x (suc y))

both_positive : (x y m r : ℕ) → m + r ≡ x → r < suc y → IsBetween (pos (suc y)) (pos x -ℤ pos m)
both_positive x y m r e l = (omega (arith, ints), omega (arith, ints))

below_positive : (x y m r : ℕ) → m + r ≡ x + suc y → r < suc y → IsBetween (pos (suc y)) (negsuc x -ℤ neg_ℤ (pos m))
below_positive x y m r e l = (omega (arith, ints), omega (arith, ints))

zero_negative : (y m : ℕ) → m ≡ 0 → IsBetween (negsuc y) (pos 0 -ℤ neg_ℤ (pos m))
zero_negative y m e = (omega (arith, ints), omega (arith, ints))

above_negative : (x y m r : ℕ) → m + r ≡ x + suc y → r < suc y → IsBetween (negsuc y) (pos (suc x) -ℤ pos m)
above_negative x y m r e l = (omega (arith, ints), omega (arith, ints))

both_negative : (x y m r : ℕ) → m + r ≡ suc x → r < suc y → IsBetween (negsuc y) (negsuc x -ℤ neg_ℤ (pos m))
both_negative x y m r e l = (omega (arith, ints), omega (arith, ints))

-- what is left lies between 0 and the divisor, and so has its sign
pub remainder_is_between : (x y : ℤ) → y ≢ pos 0 → IsBetween y (floor_remainder x y)
remainder_is_between x (pos zero) some = absurd (some refl)
remainder_is_between (pos x) (pos (suc y)) some = both_positive x y (suc y * (x / suc y)) (x % suc y) (div-add-mod x (suc y)) (below x y)
remainder_is_between (negsuc x) (pos (suc y)) some = below_positive x y (suc y * suc (x / suc y)) (x % suc y) (one_more x y) (below x y)
remainder_is_between (pos zero) (negsuc y) some = zero_negative y (suc y * 0) (mul-zero (suc y))
remainder_is_between (pos (suc x)) (negsuc y) some = above_negative x y (suc y * suc (x / suc y)) (x % suc y) (one_more x y) (below x y)
remainder_is_between (negsuc x) (negsuc y) some = both_negative x y (suc y * (suc x / suc y)) (suc x % suc y) (div-add-mod (suc x) (suc y)) (below (suc x) y)
