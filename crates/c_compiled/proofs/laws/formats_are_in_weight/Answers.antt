use Rattle.c_compiled.proofs.ProgramHelpersWhole.{formats_are_in_weight as law}
use Rattle.c_compiled.proofs.laws.formats_are_in_weight.Goals as goal

pub returns : goal.returns
returns c = law
