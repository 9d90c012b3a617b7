use Rattle.bf_trail.proofs.Accessed.{words_fetched}
use Rattle.bf_trail.proofs.laws.words_are_fetched.Goals as goal

pub returns : goal.returns
returns c = words_fetched
