use Rattle.sq_back.proofs.Operations.{follows_op}
use Rattle.sq_back.proofs.Simulation.{simulates}
use Rattle.sq_back.proofs.laws.image_simulates.Goals as goal

pub returns : goal.returns
returns c = simulates follows_op
