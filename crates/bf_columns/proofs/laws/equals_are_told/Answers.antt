use Rattle.bf_columns.proofs.Asked.{equals_told}
use Rattle.bf_columns.proofs.laws.equals_are_told.Goals as goal

pub returns : goal.returns
returns c = equals_told
