use Rattle.c_compiled.proofs.Whole.{printers_fail as law}
use Rattle.c_compiled.proofs.laws.printers_fail.Goals as goal

pub returns : goal.returns
returns c = law
