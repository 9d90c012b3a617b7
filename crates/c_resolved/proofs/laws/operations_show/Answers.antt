use Rattle.c_resolved.proofs.Operating.{operations as law}
use Rattle.c_resolved.proofs.laws.operations_show.Goals as goal

pub returns : goal.returns
returns c = law
