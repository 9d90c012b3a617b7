use Rattle.c_fewer_types.proofs.Kept.{types_are_kept as law}
use Rattle.c_fewer_types.proofs.laws.types_are_kept.Goals as goal

pub returns : goal.returns
returns c = law
