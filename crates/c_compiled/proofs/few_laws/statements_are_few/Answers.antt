use Rattle.c_compiled.proofs.Statements.{statements_are_few as law}
use Rattle.c_compiled.proofs.few_laws.statements_are_few.Goals as goal

pub returns : goal.returns
returns c = law
