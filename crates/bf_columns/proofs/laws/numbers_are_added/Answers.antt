use Rattle.bf_columns.proofs.Numbered.{numbers_added}
use Rattle.bf_columns.proofs.laws.numbers_are_added.Goals as goal

pub returns : goal.returns
returns c = numbers_added
