use Rattle.c_eval.proofs.Wholes.{undefined_stays as law}
use Rattle.c_eval.proofs.laws.undefined_stays.Goals as goal

pub returns : goal.returns
returns c = law
