use Rattle.c_grammar.proofs.Exact.{one_spelling}
use Rattle.c_grammar.proofs.laws.tokens_have_one_spelling.Goals as goal

pub returns : goal.returns
returns c = one_spelling
