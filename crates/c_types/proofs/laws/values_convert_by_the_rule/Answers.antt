use Rattle.c_types.proofs.ConversionLemmas.{converts_by_the_rule}
use Rattle.c_types.proofs.laws.values_convert_by_the_rule.Goals as goal

pub returns : goal.returns
returns c = converts_by_the_rule
