use Rattle.c_laid.proofs.Objects.{pointed_functions_are_defined as law}
use Rattle.c_laid.proofs.laws.pointed_functions_are_defined.Goals as goal

pub returns : goal.returns
returns c = law
