use Rattle.c_compiled.proofs.There.{helpers_of_programs_are_there as law}
use Rattle.c_compiled.proofs.laws.helpers_of_programs_are_there.Goals as goal

pub returns : goal.returns
returns c = law
