use Rattle.c_types.proofs.OperatorLemmas.{casts_by_the_rule}
use Rattle.c_types.proofs.laws.casts_convert_by_the_rule.Goals as goal

pub returns : goal.returns
returns c = casts_by_the_rule
