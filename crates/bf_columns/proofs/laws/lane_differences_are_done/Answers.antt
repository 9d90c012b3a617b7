use Rattle.bf_columns.proofs.Swept.{lane_differences_done}
use Rattle.bf_columns.proofs.laws.lane_differences_are_done.Goals as goal

pub returns : goal.returns
returns c = lane_differences_done
