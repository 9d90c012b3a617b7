use Rattle.c_prep.proofs.Settling.{depth_is_enough}
use Rattle.c_prep.proofs.laws.depth_is_enough.Goals as goal

pub returns : goal.returns
returns c = depth_is_enough
