use Rattle.c_grammar.proofs.Valued.{counted_shallow}
use Rattle.c_grammar.proofs.laws.what_values_do_not_count_is_not_deep.Goals as goal

pub returns : goal.returns
returns c = counted_shallow
