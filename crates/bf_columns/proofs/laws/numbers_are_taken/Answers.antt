use Rattle.bf_columns.proofs.Numbered.{numbers_taken}
use Rattle.bf_columns.proofs.laws.numbers_are_taken.Goals as goal

pub returns : goal.returns
returns c = numbers_taken
