use Rattle.c_syntax.proofs.Runs.{numbers_are_longest}
use Rattle.c_syntax.proofs.laws.numbers_are_longest.Goals as goal

pub returns : goal.returns
returns c = numbers_are_longest
