use Rattle.bf_columns.proofs.Numbered.{numbers_put}
use Rattle.bf_columns.proofs.laws.numbers_are_put.Goals as goal

pub returns : goal.returns
returns c = numbers_put
