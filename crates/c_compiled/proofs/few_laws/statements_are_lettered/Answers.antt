use Rattle.c_compiled.proofs.Lettering.{statements_are_lettered as law}
use Rattle.c_compiled.proofs.few_laws.statements_are_lettered.Goals as goal

pub returns : goal.returns
returns c = law
