use Rattle.c_grammar.specs.Tree.{act}
use Rattle.c_held_rows.proofs.Functions.{items_same}
use Rattle.c_declare_externals.proofs.externals.whole.Goals as goal

pub returns : goal.returns
unfolding act
returns c = λ end. items_same _ _ (λ b t. c.in_ok-items.ensures)
