use Rattle.std.proofs.Common.{sym, ap, ◌∙◌}
use Rattle.c_syntax.specs.Plain as plain
use Rattle.c_syntax.specs.View.{expr_of}
use Rattle.c_syntax.specs.declared.tree.UnOp.{UnOp}
use Rattle.c_helpers.specs.Fewer as fewer
use Rattle.c_fewer_operators.specs.Parts as parts
use Rattle.c_fewer_operators.proofs.TreeLemmas.{made, unary_else}
use Rattle.c_fewer_operators.proofs.operators.unary_tree.Goals as goal

pub returns-in_ok-turned-in-Invert : goal.returns-in_ok-turned-in-Invert
returns-in_ok-turned-in-Invert c = λ s t stands has.
    let at = c.args.at in
    let a = expr_of c.args.a in
    made c.as_type.result (fewer.as_type at t (expr_of c.in_ok-turned-in-Invert.turned)) (parts.unary_tree at c.args.op t a)
    (ap (fewer.as_type at t) c.in_ok-turned-in-Invert.ensures ∙ ap (λ (o : UnOp). parts.unary_tree at o t a) (sym c.in-Invert.is)) (c.as_type.ensures s t stands has)

pub returns-in_default : goal.returns-in_default
returns-in_default c = λ s t stands has.
    let at = c.args.at in
    let a = expr_of c.args.a in
    made c.unary.result (plain.Unary at c.args.op a) (parts.unary_tree at c.args.op t a) (unary_else at c.args.op t a c.in_default.not-Invert) c.unary.ensures
