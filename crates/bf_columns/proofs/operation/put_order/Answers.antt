use Rattle.std.proofs.Common.{[], ◌∷◌, ◌++◌, ap, ◌∙◌}
use Rattle.std.proofs.lemmas.Result.{on_ok_weaker}
use Rattle.bf_columns.specs.Text.{spelled}
use Rattle.bf_columns.specs.Told.{pass_text}
use Rattle.bf_columns.proofs.NotedSteps.{order_steps}
use Rattle.bf_columns.proofs.operation.put_order.Goals as goal

pub returns : goal.returns
returns c =
    on_ok_weaker c.put_some.result (order_steps c.args.code.now.items c.put_many.new.code.items c.put_onwards.new.code.items c.put_homewards_by.new.code.items c.put_some.new.code.items c.args.body.now.items c.put_pass.new.code.items
    (c.in_ok-put_pass.ensures ∙ ap (λ x. x ++ spelled (10 ∷ 10 ∷ 13 ∷ 16 ∷ 19 ∷ 9 ∷ 15 ∷ []) 6 pass_text) c.new-pass.ensures.items) c.in_ok-put_many.ensures c.in_ok-put_onwards.ensures c.in_ok-put_homewards_by.ensures) c.put_some.ensures
