use Rattle.bf_columns.proofs.Swept.{clears_done}
use Rattle.bf_columns.proofs.laws.clears_are_done.Goals as goal

pub returns : goal.returns
returns c = clears_done
