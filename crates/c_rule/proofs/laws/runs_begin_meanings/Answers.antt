use Rattle.c_rule.proofs.Whole.{runs_begin_meanings as law}
use Rattle.c_rule.proofs.laws.runs_begin_meanings.Goals as goal

pub returns : goal.returns
returns c = law
