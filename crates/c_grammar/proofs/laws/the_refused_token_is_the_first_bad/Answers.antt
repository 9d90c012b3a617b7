use Rattle.c_grammar.proofs.Exact.{first_bad}
use Rattle.c_grammar.proofs.laws.the_refused_token_is_the_first_bad.Goals as goal

pub returns : goal.returns
returns c = first_bad
