-- What commands make of values.
-- It serves the proofs alone: what an emission promises names none of it.
use Rattle.std.specs.Prelude.{◌≡◌, ℕ, List, ℤ}
use Rattle.piet_lane.specs.declared.command.Command.{Command}
use Rattle.piet_lane.specs.Lanes.{acts_of}
use Rattle.piet_lane.specs.Runs.{Values, after_all, Fit}

abbrev pub values_at : List ℤ → ℕ → List ℕ → Values
values_at stack taken output = record { stack = stack; taken = taken; output = output }

-- the commands lead from some values to others, and none on the way is outside of signed 64 bits
pub record Does (input : List ℕ) (code : List Command) (v w : Values) : Type 0 where
  pub made : after_all input v (acts_of code) ≡ w
  pub fits : Fit input v (acts_of code)

-- they do so with the stack, and take and write nothing
pub record Makes (code : List Command) (s t : List ℤ) : Type 0 where
  pub does : (input : List ℕ) (taken : ℕ) (output : List ℕ) → Does input code (values_at s taken output) (values_at t taken output)
