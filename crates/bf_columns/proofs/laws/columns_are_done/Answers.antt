use Rattle.bf_columns.proofs.Visited.{columns_done}
use Rattle.bf_columns.proofs.laws.columns_are_done.Goals as goal

pub returns : goal.returns
returns c = columns_done
