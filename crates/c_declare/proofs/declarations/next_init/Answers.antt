use Rattle.c_grammar.specs.Tree.{act}
use Rattle.c_held_rows.proofs.Functions.{declares_same}
use Rattle.c_declare.proofs.declarations.next_init.Goals as goal

pub returns : goal.returns
unfolding act
returns c = λ comma. declares_same _ _ c.in_ok-declared.ensures
