use Rattle.wasm_back.proofs.Simulation.{module_simulates}
use Rattle.wasm_back.proofs.laws.module_simulates.Goals as goal

pub returns : goal.returns
returns c = module_simulates
