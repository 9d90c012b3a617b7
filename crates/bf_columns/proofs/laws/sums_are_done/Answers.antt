use Rattle.bf_columns.proofs.Swept.{sums_done}
use Rattle.bf_columns.proofs.laws.sums_are_done.Goals as goal

pub returns : goal.returns
returns c = sums_done
