use Rattle.c_fewer_types.proofs.Can.{types_can_be_written as law}
use Rattle.c_fewer_types.proofs.laws.types_can_be_written.Goals as goal

pub returns : goal.returns
returns c = law
