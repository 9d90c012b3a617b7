use Rattle.bf_trail.proofs.Brought.{words_brought}
use Rattle.bf_trail.proofs.laws.words_are_brought.Goals as goal

pub returns : goal.returns
returns c = words_brought
