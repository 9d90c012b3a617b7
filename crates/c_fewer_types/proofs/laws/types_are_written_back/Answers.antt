use Rattle.c_fewer_types.proofs.TypeTreesProofs.{types_are_written_back as law}
use Rattle.c_fewer_types.proofs.laws.types_are_written_back.Goals as goal

pub returns : goal.returns
returns c = law
