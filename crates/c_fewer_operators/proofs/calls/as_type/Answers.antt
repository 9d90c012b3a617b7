use Rattle.std.proofs.Common.{ap}
use Rattle.c_syntax.specs.Plain as plain
use Rattle.c_syntax.specs.Plain.{CTy}
use Rattle.c_syntax.specs.View.{expr_of, ty_of}
use Rattle.c_helpers.specs.Fewer as fewer
use Rattle.c_fewer_operators.proofs.TreeLemmas.{made, names_at}
use Rattle.c_fewer_operators.proofs.calls.as_type.Goals as goal

pub returns : goal.returns
returns c = λ s t stands has.
    let e = expr_of c.args.e in
    made c.cast.result (plain.Cast c.args.at (ty_of c.in_ok-tree.tree) e) (fewer.as_type c.args.at t e)
    (ap (λ (x : CTy). plain.Cast c.args.at x e) (c.in_ok-tree.ensures t (names_at c.args.types.now c.args.here.now s c.as_slice.result.now c.as_slice.ensures.value stands) has)) c.cast.ensures
