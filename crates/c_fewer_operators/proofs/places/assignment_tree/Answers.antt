use Rattle.std.proofs.Common.{Bool, [], ◌∷◌, ◌++◌, ap, ◌∙◌}
use Rattle.std.specs.Prelude.{codes, option_map}
use Rattle.c_syntax.specs.Plain.{CExpr}
use Rattle.c_syntax.specs.View.{expr_of}
use Rattle.c_helpers.specs.Fewer as fewer
use Rattle.c_helpers.specs.Fewer.{helper_call}
use Rattle.c_fewer_operators.proofs.SignLemmas.{assigned_by, unassigned}
use Rattle.c_fewer_operators.proofs.TreeLemmas.{made}
use Rattle.c_fewer_operators.proofs.places.assignment_tree.Goals as goal

pub returns-in_ok-value-in-Some : goal.returns-in_ok-value-in-Some
returns-in_ok-value-in-Some c = λ s x y stands hx hy.
    let at = c.args.at in
    let a = expr_of c.args.a in
    let b = expr_of c.args.b in
    let op = c.args.op in
    let sign = c.in-Some.sign.now in
    made c.as_type.result (fewer.as_type at x (expr_of c.in_ok-value-in-Some.value)) (fewer.assignment_tree s.tags at (fewer.sign_of op (fewer.counts_unsigned op x y)) op x y a b)
    (ap (fewer.as_type at x) (c.in_ok-value-in-Some.ensures ∙ ap (λ (p : CExpr). helper_call at sign (p ∷ b ∷ [])) c.in_ok-place-in-Some.ensures)
    ∙ assigned_by s.tags at (fewer.sign_of op (fewer.counts_unsigned op x y)) sign op x y a b (c.in-Some.ensures ∙ ap (λ (k : Bool). option_map (λ n. n ++ codes "=") (fewer.sign_of op k)) (c.counts_unsigned-unsigned.ensures x y (c.is_unsigned.ensures x hx) (c.is_unsigned-2.ensures y hy)))) (c.as_type.ensures s x stands hx)

pub returns-in-None : goal.returns-in-None
returns-in-None c = λ s x y stands hx hy.
    let at = c.args.at in
    let a = expr_of c.args.a in
    let b = expr_of c.args.b in
    let op = c.args.op in
    made c.plain_assignment.result (fewer.plain_assignment s.tags at op x y a b) (fewer.assignment_tree s.tags at (fewer.sign_of op (fewer.counts_unsigned op x y)) op x y a b)
    (unassigned s.tags at (fewer.sign_of op (fewer.counts_unsigned op x y)) op x y a b (c.in-None.ensures ∙ ap (λ (k : Bool). option_map (λ n. n ++ codes "=") (fewer.sign_of op k)) (c.counts_unsigned-unsigned.ensures x y (c.is_unsigned.ensures x hx) (c.is_unsigned-2.ensures y hy)))) (c.plain_assignment.ensures s x y stands hx hy)
