use Rattle.std.proofs.Common.{map, ap, ◌∙◌}
use Rattle.c_syntax.specs.Plain as plain
use Rattle.c_syntax.specs.Plain.{CExpr, exprs}
use Rattle.c_syntax.specs.View.{expr_of}
use Rattle.c_helpers.specs.Fewer as fewer
use Rattle.c_helpers.specs.Functions.{format_name}
use Rattle.c_fewer_operators.proofs.TreeLemmas.{made}
use Rattle.c_fewer_expressions.proofs.calls.format_call.Goals as goal

pub returns : goal.returns
returns c =
    made c.call.result (plain.Call c.args.at (expr_of c.in_ok-callee.callee) (exprs (map expr_of c.behind_first-behind.result.items))) (plain.Call c.args.at (plain.Var c.args.pos (format_name c.args.format.now)) (fewer.behind_format (exprs (map expr_of c.args.arguments.items))))
    (ap (λ (f : CExpr). plain.Call c.args.at f (exprs (map expr_of c.behind_first-behind.result.items))) (c.in_ok-callee.ensures ∙ ap (plain.Var c.args.pos) (c.as_slice.ensures.value ∙ c.in_ok-name.ensures))
    ∙ ap (plain.Call c.args.at (plain.Var c.args.pos (format_name c.args.format.now))) c.behind_first-behind.ensures) c.call.ensures
