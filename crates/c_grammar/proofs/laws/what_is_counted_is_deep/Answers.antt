use Rattle.c_grammar.proofs.Limits.{deep_at}
use Rattle.c_grammar.proofs.laws.what_is_counted_is_deep.Goals as goal

pub returns : goal.returns
returns c = deep_at
