use Rattle.std.proofs.Common.{Bool, sym, ap, ◌∙◌, if◌then◌else◌}
use Rattle.c_syntax.specs.Plain as plain
use Rattle.c_syntax.specs.View.{expr_of}
use Rattle.c_helpers.specs.Fewer as fewer
use Rattle.c_fewer_operators.proofs.TreeLemmas.{made}
use Rattle.c_fewer_operators.proofs.places.step_tree.Goals as goal

pub returns-then-is_wide : goal.returns-then-is_wide
returns-then-is_wide c = λ s t stands has.
    let at = c.args.at in
    let a = expr_of c.args.a in
    made c.wide_step.result (fewer.wide_step s.tags at c.args.op t a) (fewer.step_tree s.tags at c.args.op t a)
    (ap (λ (w : Bool). if w then fewer.wide_step s.tags at c.args.op t a else plain.Step at c.args.op a) (sym c.if-is_wide.true ∙ c.is_wide.ensures s t stands has)) (c.wide_step.ensures s t stands has)

pub returns-else-is_wide : goal.returns-else-is_wide
returns-else-is_wide c = λ s t stands has.
    let at = c.args.at in
    let a = expr_of c.args.a in
    made c.step.result (plain.Step at c.args.op a) (fewer.step_tree s.tags at c.args.op t a)
    (ap (λ (w : Bool). if w then fewer.wide_step s.tags at c.args.op t a else plain.Step at c.args.op a) (sym c.if-is_wide.false ∙ c.is_wide.ensures s t stands has)) c.step.ensures
