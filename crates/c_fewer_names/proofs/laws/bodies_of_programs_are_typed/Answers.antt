use Rattle.c_fewer_names.proofs.Bodies.{bodies_of_programs_are_typed as law}
use Rattle.c_fewer_names.proofs.laws.bodies_of_programs_are_typed.Goals as goal

pub returns : goal.returns
returns c = law
