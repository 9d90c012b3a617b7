use Rattle.c_eval.proofs.Wholes.{acts_are_numbered as law}
use Rattle.c_eval.proofs.laws.acts_are_numbered.Goals as goal

pub returns : goal.returns
returns c = law
