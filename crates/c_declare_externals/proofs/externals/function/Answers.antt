use Rattle.std.proofs.Common.{[], ◌∷◌, ap, ◌∙◌}
use Rattle.c_grammar.specs.Tree.{act, body_of, function}
use Rattle.c_held_rows.proofs.Functions.{items_same}
use Rattle.c_declare_externals.proofs.externals.function.Goals as goal

pub returns : goal.returns
unfolding act
returns c = λ l. items_same _ _ (λ b t i. function (c.declared.ensures t i) (c.declarations.ensures i) ((c.body_of.ensures ∙ ap body_of c.statement.ensures) i) ∷ [])
