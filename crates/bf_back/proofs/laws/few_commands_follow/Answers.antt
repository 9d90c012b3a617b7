use Rattle.bf_back.proofs.Simulated.{follows}
use Rattle.bf_back.proofs.laws.few_commands_follow.Goals as goal

pub returns : goal.returns
returns c = λ p code input s m sound whole is alike going. follows p sound code whole input s m is alike going
