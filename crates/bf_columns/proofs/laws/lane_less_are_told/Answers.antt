use Rattle.bf_columns.proofs.Asked.{lane_less_told}
use Rattle.bf_columns.proofs.laws.lane_less_are_told.Goals as goal

pub returns : goal.returns
returns c = lane_less_told
