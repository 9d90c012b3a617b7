use Rattle.bf_trail.proofs.Stored.{words_stored}
use Rattle.bf_trail.proofs.laws.words_are_stored.Goals as goal

pub returns : goal.returns
returns c = words_stored
