use Rattle.std.proofs.Common.{sym, ap, ◌∙◌}
use Rattle.c_syntax.specs.Plain as plain
use Rattle.c_syntax.specs.View.{expr_of}
use Rattle.c_syntax.specs.declared.tree.UnOp.{UnOp}
use Rattle.c_static.specs.Forms.{static_form}
use Rattle.c_static.proofs.form.form_of_unary.Goals as goal

pub returns-in-Address : goal.returns-in-Address
returns-in-Address c = λ at. c.form_of_name.ensures at ∙ ap (λ (o : UnOp). static_form (plain.Unary at o (expr_of c.args.of.now))) (sym c.in-Address.is)
