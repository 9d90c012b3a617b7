use Rattle.c_fewer_names.proofs.Whole.{bodies_are_reached as law}
use Rattle.c_fewer_names.proofs.laws.bodies_are_reached.Goals as goal

pub returns : goal.returns
returns c = law
