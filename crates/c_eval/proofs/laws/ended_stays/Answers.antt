use Rattle.c_eval.proofs.Wholes.{ended_stays as law}
use Rattle.c_eval.proofs.laws.ended_stays.Goals as goal

pub returns : goal.returns
returns c = law
