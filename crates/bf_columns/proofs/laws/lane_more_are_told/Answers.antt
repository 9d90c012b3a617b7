use Rattle.bf_columns.proofs.Asked.{lane_more_told}
use Rattle.bf_columns.proofs.laws.lane_more_are_told.Goals as goal

pub returns : goal.returns
returns c = lane_more_told
