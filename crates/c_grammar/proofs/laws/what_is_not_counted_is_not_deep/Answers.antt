use Rattle.c_grammar.proofs.Limits.{shallow_at}
use Rattle.c_grammar.proofs.laws.what_is_not_counted_is_not_deep.Goals as goal

pub returns : goal.returns
returns c = shallow_at
