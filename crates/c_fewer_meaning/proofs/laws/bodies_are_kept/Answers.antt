use Rattle.c_fewer_meaning.proofs.Bodies.{bodies_are_kept as law}
use Rattle.c_fewer_meaning.proofs.laws.bodies_are_kept.Goals as goal

pub returns : goal.returns
returns c = law
