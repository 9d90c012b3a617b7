use Rattle.c_grammar.specs.Tree.{act, several, maybe_expression}
use Rattle.c_held.specs.View.{means}
use Rattle.c_held_rows.proofs.Functions.{unnamed_same}
use Rattle.c_declare.proofs.Same.{lengths_behind}
use Rattle.c_declare.proofs.declarations.param_lengths.Goals as goal

pub returns : goal.returns
unfolding act
returns c = λ o x. unnamed_same _ _
    (lengths_behind c.new-layers.result.items c.push.new.self.items c.push_lengths.new.layers.items c.maybe_expression.result (maybe_expression (means c.args.n.now)) (several (means c.args.others.now))
    c.new-layers.ensures.items c.in_ok-push.ensures.items c.maybe_expression.ensures c.in_ok-push_lengths.ensures)
