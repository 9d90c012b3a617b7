use Rattle.c_grammar.proofs.Exact.{one_tree}
use Rattle.c_grammar.proofs.laws.tokens_spell_one_tree.Goals as goal

pub returns : goal.returns
returns c = one_tree
