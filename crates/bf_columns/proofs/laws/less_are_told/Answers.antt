use Rattle.bf_columns.proofs.Asked.{less_told}
use Rattle.bf_columns.proofs.laws.less_are_told.Goals as goal

pub returns : goal.returns
returns c = less_told
