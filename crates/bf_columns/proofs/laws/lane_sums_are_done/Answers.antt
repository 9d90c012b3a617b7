use Rattle.bf_columns.proofs.Swept.{lane_sums_done}
use Rattle.bf_columns.proofs.laws.lane_sums_are_done.Goals as goal

pub returns : goal.returns
returns c = lane_sums_done
