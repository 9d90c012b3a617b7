use Rattle.c_grammar.specs.Tree.{act, unnamed}
use Rattle.c_held.specs.View.{means}
use Rattle.c_declare.proofs.declarations.param_name.Goals as goal

pub returns : goal.returns
unfolding act
returns c = c.named.ensures (means c.args.n.now) (λ t. unnamed (means c.args.sizes.now) t) c.token.ensures.name c.token.ensures.pos c.unnamed-layers.ensures
