use Rattle.c_grammar.proofs.Valued.{spelled_values}
use Rattle.c_grammar.proofs.laws.what_is_spelled_has_values.Goals as goal

pub returns : goal.returns
returns c = spelled_values
