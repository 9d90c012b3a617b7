use Rattle.c_rule.proofs.Whole.{rule_means_text as law}
use Rattle.c_rule.proofs.laws.rule_means_text.Goals as goal

pub returns : goal.returns
returns c = law
