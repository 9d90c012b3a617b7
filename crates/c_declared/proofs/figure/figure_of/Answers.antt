use Rattle.std.proofs.Common.{sym, ap, ◌∙◌}
use Rattle.c_syntax.specs.Plain as plain
use Rattle.c_syntax.specs.View.{form_of, expr_of}
use Rattle.c_syntax.specs.declared.tree.Expr.{Expr}
use Rattle.c_syntax.specs.declared.tree.Form.{Form}
use Rattle.c_declared.specs.Figures.{figure_of}
use Rattle.c_declared.proofs.figure.figure_of.Goals as goal

pub returns-in-Unary : goal.returns-in-Unary
returns-in-Unary c =
    c.figure_of_unary.ensures c.args.e.now.pos
    ∙ (ap (λ (e : Expr). figure_of (plain.Unary c.args.e.now.pos c.in-Unary.op (expr_of e))) c.deref.ensures ∙ ap (λ (f : Form). figure_of (form_of f c.args.e.now.pos)) (sym c.in-Unary.is))
