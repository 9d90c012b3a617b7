use Rattle.bf_columns.proofs.Numbered.{number_equals_told}
use Rattle.bf_columns.proofs.laws.number_equals_are_told.Goals as goal

pub returns : goal.returns
returns c = number_equals_told
