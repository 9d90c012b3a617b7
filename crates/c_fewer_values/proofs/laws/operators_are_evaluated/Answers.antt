use Rattle.c_fewer_values.proofs.Operators.{operators_are_evaluated as law}
use Rattle.c_fewer_values.proofs.laws.operators_are_evaluated.Goals as goal

pub returns : goal.returns
returns c = law
