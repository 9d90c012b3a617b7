use Rattle.bf_trail.proofs.Loaded.{words_loaded}
use Rattle.bf_trail.proofs.laws.words_are_loaded.Goals as goal

pub returns : goal.returns
returns c = words_loaded
