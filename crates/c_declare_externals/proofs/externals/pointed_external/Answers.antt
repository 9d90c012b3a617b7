use Rattle.c_grammar.specs.Tree.{act}
use Rattle.c_held_rows.proofs.Functions.{items_same}
use Rattle.c_declare_externals.proofs.externals.pointed_external.Goals as goal

pub returns : goal.returns
unfolding act
returns c = λ star consts. items_same _ _ c.in_ok-rest.ensures
