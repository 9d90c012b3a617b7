use Rattle.c_compiled.proofs.Plain.{plain_helpers_are as law}
use Rattle.c_compiled.proofs.laws.plain_helpers_are.Goals as goal

pub returns : goal.returns
returns c = law
