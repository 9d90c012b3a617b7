use Rattle.c_fewer_reached.proofs.Kept.{kept_are_defined as law}
use Rattle.c_fewer_reached.proofs.laws.kept_are_defined.Goals as goal

pub returns : goal.returns
returns c = law
