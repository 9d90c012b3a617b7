use Rattle.c_fewer_types.proofs.TypeTreesProofs.{fewer_types_are_the_same as law}
use Rattle.c_fewer_types.proofs.laws.fewer_types_are_the_same.Goals as goal

pub returns : goal.returns
returns c = law
