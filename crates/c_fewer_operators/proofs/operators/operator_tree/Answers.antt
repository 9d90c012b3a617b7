use Rattle.std.proofs.Common.{ℕ, List, Option, ap, ◌∙◌}
use Rattle.c_syntax.specs.View.{expr_of}
use Rattle.c_helpers.specs.Fewer as fewer
use Rattle.c_fewer_operators.proofs.TreeLemmas.{made}
use Rattle.c_fewer_operators.proofs.operators.operator_tree.Goals as goal

pub returns-in_ok-value-in-Some : goal.returns-in_ok-value-in-Some
returns-in_ok-value-in-Some c = λ s w x y stands hw hx hy.
    let at = c.args.at in
    let a = expr_of c.args.a in
    let b = expr_of c.args.b in
    let op = c.args.op in
    made c.as_type.result (fewer.as_type at w (expr_of c.in_ok-value-in-Some.value)) (fewer.operator_tree s.tags at (fewer.sign_of op (fewer.counts_unsigned op x y)) op w x y a b)
    (ap (fewer.as_type at w) c.in_ok-value-in-Some.ensures
    ∙ ap (λ (o : Option (List ℕ)). fewer.operator_tree s.tags at o op w x y a b) (c.in-Some.ensures ∙ ap (fewer.sign_of op) (c.counts_unsigned-unsigned.ensures x y (c.is_unsigned.ensures x hx) (c.is_unsigned-2.ensures y hy)))) (c.as_type.ensures s w stands hw)

pub returns-in-None : goal.returns-in-None
returns-in-None c = λ s w x y stands hw hx hy.
    let at = c.args.at in
    let a = expr_of c.args.a in
    let b = expr_of c.args.b in
    let op = c.args.op in
    made c.plain_operator.result (fewer.plain_operator s.tags at op x y a b) (fewer.operator_tree s.tags at (fewer.sign_of op (fewer.counts_unsigned op x y)) op w x y a b)
    (ap (λ (o : Option (List ℕ)). fewer.operator_tree s.tags at o op w x y a b) (c.in-None.ensures ∙ ap (fewer.sign_of op) (c.counts_unsigned-unsigned.ensures x y (c.is_unsigned.ensures x hx) (c.is_unsigned-2.ensures y hy)))) (c.plain_operator.ensures s x y stands hx hy)
