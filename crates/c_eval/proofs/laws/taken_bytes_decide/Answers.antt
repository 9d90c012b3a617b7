use Rattle.c_eval.proofs.Wholes.{taken_bytes_decide as law}
use Rattle.c_eval.proofs.laws.taken_bytes_decide.Goals as goal

pub returns : goal.returns
returns c = law
