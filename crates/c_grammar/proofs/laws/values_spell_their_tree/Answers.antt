use Rattle.c_grammar.proofs.Valued.{read_whole}
use Rattle.c_grammar.proofs.laws.values_spell_their_tree.Goals as goal

pub returns : goal.returns
returns c = read_whole
