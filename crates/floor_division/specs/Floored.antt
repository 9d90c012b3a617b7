-- What it is to round down: the definitions of the quotient and of what is left stand in Rattle.mach_core.specs.Integer.
use Rattle.std.specs.Prelude.{◌≡◌, ◌≢◌, ℤ, pos, negsuc, ◌+ℤ◌, ◌*ℤ◌, ◌≤ℤ◌, ◌<ℤ◌}
use Rattle.mach_core.specs.Integer.{floor_quotient, floor_remainder}

-- from 0 on and below a positive divisor, or up to 0 and above a negative one
abbrev pub IsBetween : ℤ → ℤ → Type 0
IsBetween (pos y) r = (pos 0 ≤ℤ r) × (r <ℤ pos y)
IsBetween (negsuc y) r = (negsuc y <ℤ r) × (r ≤ℤ pos 0)

-- the divisor times the quotient, and what is left, make the number; and what is left lies between 0 and the divisor
pub record QuotientsAreFloored : Type 0 where
  pub whole : (x y : ℤ) → (y *ℤ floor_quotient x y) +ℤ floor_remainder x y ≡ x
  pub between : (x y : ℤ) → y ≢ pos 0 → IsBetween y (floor_remainder x y)
