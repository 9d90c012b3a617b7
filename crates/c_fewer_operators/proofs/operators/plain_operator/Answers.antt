use Rattle.std.proofs.Common.{sym, ap}
use Rattle.c_syntax.specs.Plain as plain
use Rattle.c_syntax.specs.View.{expr_of}
use Rattle.c_syntax.specs.declared.tree.BinOp.{BinOp}
use Rattle.c_helpers.specs.Fewer as fewer
use Rattle.c_fewer_operators.proofs.TreeLemmas.{made, plain_else}
use Rattle.c_fewer_operators.proofs.operators.plain_operator.Goals as goal

pub returns-in-Add : goal.returns-in-Add
returns-in-Add c = λ s x y stands hx hy.
    let at = c.args.at in
    let a = expr_of c.args.a in
    let b = expr_of c.args.b in
    made c.sum_tree.result (fewer.sum_tree s.tags at x y a b) (fewer.plain_operator s.tags at c.args.op x y a b)
    (ap (λ (o : BinOp). fewer.plain_operator s.tags at o x y a b) (sym c.in-Add.is)) (c.sum_tree.ensures s x y stands hx hy)

pub returns-in-Sub : goal.returns-in-Sub
returns-in-Sub c = λ s x y stands hx hy.
    let at = c.args.at in
    let a = expr_of c.args.a in
    let b = expr_of c.args.b in
    made c.difference_tree.result (fewer.difference_tree s.tags at x y a b) (fewer.plain_operator s.tags at c.args.op x y a b)
    (ap (λ (o : BinOp). fewer.plain_operator s.tags at o x y a b) (sym c.in-Sub.is)) (c.difference_tree.ensures s x y stands hx hy)

pub returns-in_default : goal.returns-in_default
returns-in_default c = λ s x y stands hx hy.
    let at = c.args.at in
    let a = expr_of c.args.a in
    let b = expr_of c.args.b in
    made c.binary.result (plain.Binary at c.args.op a b) (fewer.plain_operator s.tags at c.args.op x y a b) (plain_else s.tags at c.args.op x y a b c.in_default.not-Add c.in_default.not-Sub) c.binary.ensures
