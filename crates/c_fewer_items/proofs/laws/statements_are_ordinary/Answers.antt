use Rattle.c_fewer_items.proofs.Ordinary.{statements_are_ordinary as law}
use Rattle.c_fewer_items.proofs.laws.statements_are_ordinary.Goals as goal

pub returns : goal.returns
returns c = law
