use Rattle.bf_tape.proofs.Walked.{walk_moves}
use Rattle.bf_tape.proofs.laws.walks_move_the_base.Goals as goal

pub returns : goal.returns
returns c = λ input body k by right s t turns most walks. walk_moves right walks
