use Rattle.bf_columns.proofs.Numbered.{numbers_moved}
use Rattle.bf_columns.proofs.laws.numbers_are_moved.Goals as goal

pub returns : goal.returns
returns c = numbers_moved
