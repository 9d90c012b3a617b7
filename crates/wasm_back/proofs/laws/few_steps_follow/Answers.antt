use Rattle.wasm_back.proofs.Simulation.{few_steps_follow}
use Rattle.wasm_back.proofs.laws.few_steps_follow.Goals as goal

pub returns : goal.returns
returns c = few_steps_follow
