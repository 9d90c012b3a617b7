use Rattle.c_fewer_reached.proofs.Kept.{defined_are_kept as law}
use Rattle.c_fewer_reached.proofs.laws.defined_are_kept.Goals as goal

pub returns : goal.returns
returns c = law
