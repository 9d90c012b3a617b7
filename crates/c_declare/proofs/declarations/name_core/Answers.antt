use Rattle.c_grammar.specs.Tree.{act, arrays, several}
use Rattle.c_held.specs.View.{means}
use Rattle.c_declare.proofs.declarations.name_core.Goals as goal

pub returns : goal.returns
unfolding act
returns c = λ o. c.named.ensures (means c.args.n.now) (λ t. arrays (several (means c.args.sizes.now)) t) c.token.ensures.name c.token.ensures.pos c.in_ok-layers.ensures
