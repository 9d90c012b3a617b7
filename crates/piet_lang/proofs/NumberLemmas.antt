-- Numbers of decimal digits, one digit after the other.
use Rattle.std.proofs.Common.{◌≡◌, ℕ, zero, suc, ◌+◌, ◌*◌, ◌^◌, ◌<◌, ◌≤◌, Bool, true, false, arith}
use Rattle.std.specs.Prelude.{nat_lt}
use Rattle.mach_core.specs.Integer.{is_in_range}
use Rattle.piet_lang.specs.Number.{signed}

above_half : (n k : ℕ) → k ≤ n → nat_lt n k ≡ false
above_half n k h = grind arith

-- a number above 2 ^ 63 is out of range with any sign
pub signed-above : (negative : Bool) (n : ℕ) → 2 ^ 63 < n → is_in_range (signed negative n) ≡ false
signed-above false n h = above_half n (2 ^ 63) (omega arith)
signed-above true zero h = absurd (omega arith)
signed-above true (suc m) h = above_half m (2 ^ 63) (omega arith)

-- one more digit behind a number that is large already leads outside
pub signed-more : (negative : Bool) (n digit : ℕ) → 922337203685477580 < n → is_in_range (signed negative (10 * n + digit)) ≡ false
signed-more negative n digit h = signed-above negative (10 * n + digit) (omega arith)

pub ruleset digits_read = (signed-above, signed-more)
