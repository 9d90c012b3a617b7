use Rattle.c_types.proofs.OperatorLemmas.{assignments_keep_the_rule}
use Rattle.c_types.proofs.laws.assignments_keep_the_rule.Goals as goal

pub returns : goal.returns
returns c = assignments_keep_the_rule
