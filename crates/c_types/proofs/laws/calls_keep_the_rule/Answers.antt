use Rattle.c_types.proofs.OperatorLemmas.{calls_keep_the_rule}
use Rattle.c_types.proofs.laws.calls_keep_the_rule.Goals as goal

pub returns : goal.returns
returns c = calls_keep_the_rule
