use Rattle.bf_columns.proofs.Asked.{lane_equals_told}
use Rattle.bf_columns.proofs.laws.lane_equals_are_told.Goals as goal

pub returns : goal.returns
returns c = lane_equals_told
