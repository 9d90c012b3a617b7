use Rattle.std.proofs.Common.{ap}
use Rattle.c_syntax.specs.Plain as plain
use Rattle.c_syntax.specs.View.{expr_of}
use Rattle.c_held_rows.proofs.Views.{exprs_made}
use Rattle.c_build.proofs.expressions.call_form.Goals as goal

pub returns : goal.returns
returns c = λ pos. ap (plain.Call pos (expr_of c.args.callee.value)) (exprs_made (record { items = c.args.items }))
