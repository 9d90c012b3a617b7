use Rattle.bf_columns.proofs.Asked.{more_told}
use Rattle.bf_columns.proofs.laws.more_are_told.Goals as goal

pub returns : goal.returns
returns c = more_told
