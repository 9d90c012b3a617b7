use Rattle.sq_back.proofs.Operations.{follows_op}
use Rattle.sq_back.proofs.Simulation.{few_steps}
use Rattle.sq_back.proofs.laws.few_steps_follow.Goals as goal

pub returns : goal.returns
returns c = few_steps follows_op
