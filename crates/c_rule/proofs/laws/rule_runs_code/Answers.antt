use Rattle.c_rule.proofs.Whole.{rule_runs_code as law}
use Rattle.c_rule.proofs.laws.rule_runs_code.Goals as goal

pub returns : goal.returns
returns c = law
