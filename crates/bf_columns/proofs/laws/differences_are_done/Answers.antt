use Rattle.bf_columns.proofs.Swept.{differences_done}
use Rattle.bf_columns.proofs.laws.differences_are_done.Goals as goal

pub returns : goal.returns
returns c = differences_done
