use Rattle.ws_back.proofs.Simulation.{code_simulates}
use Rattle.ws_back.proofs.laws.code_simulates.Goals as goal

pub returns : goal.returns
returns c = code_simulates
