use Rattle.c_compiled.proofs.Compiled.{programs_are_compiled as law}
use Rattle.c_compiled.proofs.laws.programs_are_compiled.Goals as goal

pub returns : goal.returns
returns c = law
