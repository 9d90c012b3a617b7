use Rattle.bf_columns.proofs.Reckoned.{calculations_hold}
use Rattle.bf_columns.proofs.laws.calculations_hold.Goals as goal

pub returns : goal.returns
returns c = calculations_hold
