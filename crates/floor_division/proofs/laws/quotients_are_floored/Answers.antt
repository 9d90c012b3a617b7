use Rattle.floor_division.proofs.Floored.{quotient_and_remainder, remainder_is_between}
use Rattle.floor_division.proofs.laws.quotients_are_floored.Goals as goal

pub returns : goal.returns
returns c = record { whole = quotient_and_remainder; between = remainder_is_between }
