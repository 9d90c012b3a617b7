-- The numbers of machines with signed cells of 64 bits: their range, their byte, and division that rounds down.
use Rattle.std.specs.Prelude.{ℕ, zero, suc, ◌/◌, ◌^◌, nat_lt, Bool, true, false, ℤ, pos, negsuc, ◌-ℤ◌, ◌*ℤ◌, unsigned_abs}
use Rattle.std.specs.Int.{int_rem_euclid}

abbrev pub is_zero : ℤ → Bool
is_zero (pos zero) = true
is_zero (pos (suc n)) = false
is_zero (negsuc n) = false

-- within signed 64 bits
abbrev pub is_in_range : ℤ → Bool
is_in_range (pos n) = nat_lt n (2 ^ 63)
is_in_range (negsuc n) = nat_lt n (2 ^ 63)

-- a number modulo 256, as a byte
abbrev pub byte_of : ℤ → ℕ
byte_of z = unsigned_abs (int_rem_euclid z (pos 256))

-- the quotient, rounded down
abbrev pub floor_quotient : ℤ → ℤ → ℤ
floor_quotient (pos x) (pos y) = pos (x / y)
floor_quotient (negsuc x) (pos y) = negsuc (x / y)
floor_quotient (pos zero) (negsuc y) = pos 0
floor_quotient (pos (suc x)) (negsuc y) = negsuc (x / suc y)
floor_quotient (negsuc x) (negsuc y) = pos (suc x / suc y)

-- what is left beside it, between 0 and the divisor
abbrev pub floor_remainder : ℤ → ℤ → ℤ
floor_remainder x y = x -ℤ (y *ℤ floor_quotient x y)
