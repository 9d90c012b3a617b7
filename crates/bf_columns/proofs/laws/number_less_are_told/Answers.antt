use Rattle.bf_columns.proofs.Numbered.{number_less_told}
use Rattle.bf_columns.proofs.laws.number_less_are_told.Goals as goal

pub returns : goal.returns
returns c = number_less_told
