use Rattle.c_grammar.specs.Tree.{act, arrays, several, function_pointer}
use Rattle.c_held.specs.View.{means}
use Rattle.c_declare.proofs.declarations.function_core.Goals as goal

pub returns : goal.returns
unfolding act
returns c = λ o l star r l2. c.named.ensures (means c.args.n.now) (λ t. arrays (several (means c.args.sizes.now)) (function_pointer (means c.args.params.now) t)) c.token.ensures.name c.token.ensures.pos c.in_ok-layers.ensures
