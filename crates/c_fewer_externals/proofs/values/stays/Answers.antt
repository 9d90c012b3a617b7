use Rattle.std.proofs.Common.{sym, ap, ◌∙◌}
use Rattle.c_syntax.specs.View.{form_of, expr_of}
use Rattle.c_syntax.specs.declared.tree.Form.{Form}
use Rattle.c_fewer_externals.specs.Static.{stays}
use Rattle.c_fewer_externals.proofs.values.stays.Goals as goal

pub returns-in-Unary : goal.returns-in-Unary
returns-in-Unary c =
    c.is_address.ensures c.args.e.now.pos (expr_of c.in-Unary._of.value) ∙ ap (λ (f : Form). stays (form_of f c.args.e.now.pos)) (sym c.in-Unary.is)
