use Rattle.bf_codes.proofs.Decoded.{notes}
use Rattle.bf_codes.proofs.laws.goals_are_noted.Goals as goal

pub returns : goal.returns
returns c = notes
