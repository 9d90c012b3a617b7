-- How many binary digits a number has.
use Rattle.std.specs.Prelude.{ℕ, zero, suc, ◌+◌, ◌/◌, ◌^◌, ◌<◌, ◌≤◌, cond, nat_eq}

-- how often a number can be halved, up to so many times, until it is 0
abbrev pub halvings : ℕ → ℕ → ℕ
halvings zero n = 0
halvings (suc most) n = cond (nat_eq n 0) 0 (halvings most (n / 2) + 1)

-- the number of binary digits of a number, and 0 for 0
unfoldable pub digit_count : ℕ → ℕ
digit_count n = halvings n n

-- it is the least number of digits with which the number can be written
pub record HasDigits (n count : ℕ) : Type 0 where
  pub enough : n < 2 ^ count
  pub least : (k : ℕ) → n < 2 ^ k → count ≤ k
