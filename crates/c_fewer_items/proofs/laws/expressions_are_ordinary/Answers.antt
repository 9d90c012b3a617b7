use Rattle.c_fewer_items.proofs.Ordinary.{expressions_are_ordinary as law}
use Rattle.c_fewer_items.proofs.laws.expressions_are_ordinary.Goals as goal

pub returns : goal.returns
returns c = law
