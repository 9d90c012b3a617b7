use Rattle.bf_jump.proofs.Lengths.{jumps_short}
use Rattle.bf_jump.proofs.laws.jumps_are_short.Goals as goal

pub returns : goal.returns
returns c = jumps_short
