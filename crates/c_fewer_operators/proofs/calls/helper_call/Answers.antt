use Rattle.std.proofs.Common.{map, ap}
use Rattle.c_syntax.specs.Plain as plain
use Rattle.c_syntax.specs.Plain.{CExpr}
use Rattle.c_syntax.specs.View.{expr_of}
use Rattle.c_helpers.specs.Fewer.{helper_call}
use Rattle.c_fewer_operators.proofs.TreeLemmas.{made}
use Rattle.c_fewer_operators.proofs.calls.helper_call.Goals as goal

pub returns : goal.returns
returns c =
    made c.call.result (plain.Call c.args.at (expr_of c.in_ok-callee.callee) (plain.exprs (map expr_of c.args.arguments.items))) (helper_call c.args.at c.args.name.now (map expr_of c.args.arguments.items))
    (ap (λ (f : CExpr). plain.Call c.args.at f (plain.exprs (map expr_of c.args.arguments.items))) c.in_ok-callee.ensures) c.call.ensures
