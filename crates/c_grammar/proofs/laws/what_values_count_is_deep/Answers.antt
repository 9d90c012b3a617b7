use Rattle.c_grammar.proofs.Valued.{counted_deep}
use Rattle.c_grammar.proofs.laws.what_values_count_is_deep.Goals as goal

pub returns : goal.returns
returns c = counted_deep
