use Rattle.bf_jump.proofs.Asked.{comparisons_posed}
use Rattle.bf_jump.proofs.laws.comparisons_are_posed.Goals as goal

pub returns : goal.returns
returns c = comparisons_posed
