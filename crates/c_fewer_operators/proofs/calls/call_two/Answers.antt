use Rattle.std.proofs.Common.{List, [], ◌∷◌, ◌++◌, ap, ◌∙◌}
use Rattle.c_syntax.specs.declared.tree.Expr.{Expr}
use Rattle.c_fewer_operators.proofs.TreeLemmas.{called}
use Rattle.c_fewer_operators.proofs.calls.call_two.Goals as goal

pub returns : goal.returns
returns c =
    called c.helper_call.result c.args.at c.args.name.now c.push-2.new.self.items (c.args.a ∷ c.args.b ∷ []) (c.in_ok-push-2.ensures.items ∙ ap (λ (l : List Expr). l ++ c.args.b ∷ []) (c.in_ok-push.ensures.items ∙ ap (λ (l : List Expr). l ++ c.args.a ∷ []) c.new-arguments.ensures.items)) c.helper_call.ensures
