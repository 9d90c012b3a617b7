use Rattle.c_fewer_values.proofs.Others.{complements_are_evaluated as law}
use Rattle.c_fewer_values.proofs.laws.complements_are_evaluated.Goals as goal

pub returns : goal.returns
returns c = law
