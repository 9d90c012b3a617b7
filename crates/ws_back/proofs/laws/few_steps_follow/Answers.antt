use Rattle.ws_back.proofs.Simulation.{few_steps_follow}
use Rattle.ws_back.proofs.laws.few_steps_follow.Goals as goal

pub returns : goal.returns
returns c = few_steps_follow
