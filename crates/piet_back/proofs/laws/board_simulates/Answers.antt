use Rattle.piet_back.proofs.Emitted.{simulates}
use Rattle.piet_back.proofs.laws.board_simulates.Goals as goal

pub returns : goal.returns
returns c = simulates
