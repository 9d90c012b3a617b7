use Rattle.bf_choice.proofs.Lengths.{short}
use Rattle.bf_choice.proofs.laws.trees_are_short.Goals as goal

pub returns : goal.returns
returns c = short
