use Rattle.bf_columns.proofs.Numbered.{number_more_told}
use Rattle.bf_columns.proofs.laws.number_more_are_told.Goals as goal

pub returns : goal.returns
returns c = number_more_told
