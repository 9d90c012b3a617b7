use Rattle.c_compiled.proofs.Few.{operators_are_few as law}
use Rattle.c_compiled.proofs.few_laws.operators_are_few.Goals as goal

pub returns : goal.returns
returns c = law
