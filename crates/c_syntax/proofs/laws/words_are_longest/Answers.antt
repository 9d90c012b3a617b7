use Rattle.c_syntax.proofs.Runs.{words_are_longest}
use Rattle.c_syntax.proofs.laws.words_are_longest.Goals as goal

pub returns : goal.returns
returns c = words_are_longest
