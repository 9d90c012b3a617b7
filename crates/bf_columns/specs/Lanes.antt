-- Digits in columns.
use Rattle.std.specs.Prelude.{ℕ, zero, suc, ◌+◌, ◌-◌, ◌*◌, ◌^◌}
use Rattle.bf_tape.specs.Tape.{Tape, put}

-- the cell of a lane in a column, of which column 0 is the rightmost
abbrev pub lane_cell : ℕ → ℕ → ℕ
lane_cell l j = 120 + l - 10 * j

-- the number of so many digits
abbrev pub number : (ℕ → ℕ) → ℕ → ℕ
number a zero = 0
number a (suc k) = number a k + a k * 4 ^ k

-- digits in a lane of so many columns
abbrev pub laned : ℕ → Tape → (ℕ → ℕ) → ℕ → Tape
laned l s x zero = s
laned l s x (suc j) = put (laned l s x j) (lane_cell l j) (x j)
