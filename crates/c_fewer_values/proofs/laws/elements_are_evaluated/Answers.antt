use Rattle.c_fewer_values.proofs.Elements.{elements_are_evaluated as law}
use Rattle.c_fewer_values.proofs.laws.elements_are_evaluated.Goals as goal

pub returns : goal.returns
returns c = law
