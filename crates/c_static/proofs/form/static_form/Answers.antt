use Rattle.std.proofs.Common.{sym, ap, ◌∙◌}
use Rattle.c_syntax.specs.Plain as plain
use Rattle.c_syntax.specs.View.{form_of, expr_of}
use Rattle.c_syntax.specs.declared.tree.Expr.{Expr}
use Rattle.c_syntax.specs.declared.tree.Form.{Form}
use Rattle.c_static.specs.Forms.{static_form}
use Rattle.c_static.proofs.form.static_form.Goals as goal

pub returns-in-Unary : goal.returns-in-Unary
returns-in-Unary c =
    c.form_of_unary.ensures c.args.e.now.pos
    ∙ (ap (λ (e : Expr). static_form (plain.Unary c.args.e.now.pos c.in-Unary.op (expr_of e))) c.deref.ensures ∙ ap (λ (f : Form). static_form (form_of f c.args.e.now.pos)) (sym c.in-Unary.is))
