use Rattle.std.proofs.Common.{map, Option, sym, ap, subst, ◌∙◌}
use Rattle.std.specs.Prelude.{option_map}
use Rattle.c_syntax.specs.Plain as plain
use Rattle.c_syntax.specs.Plain.{CExpr, exprs}
use Rattle.c_syntax.specs.View.{expr_of}
use Rattle.c_helpers.specs.Fewer as fewer
use Rattle.c_fewer_operators.proofs.TreeLemmas.{made}
use Rattle.c_fewer_expressions.specs.declared.names.Named.{Named}
use Rattle.c_fewer_expressions.specs.Calls.{CallsAs}
use Rattle.c_fewer_expressions.proofs.calls.call_tree.Goals as goal

pub returns-in-Some : goal.returns-in-Some
returns-in-Some c = λ s stands.
    let at = c.args.at in
    let f = expr_of c.args.callee in
    let es = (exprs (map expr_of c.args.arguments.items)) in
    made c.format_call.result _ _ ((subst (λ (w : Named). CallsAs s w f c.args.callee.pos) c.in-Printf.is (c.naming-what.ensures s stands)).0 at c.in-Some.text.now es ∙ ap (λ (o : Option _). fewer.call_tree s at f (option_map (λ n. n.now) o) es) (sym c.in-Some.is)) c.format_call.ensures

pub returns-in-None : goal.returns-in-None
returns-in-None c = λ s stands.
    let at = c.args.at in
    let f = expr_of c.args.callee in
    let es = (exprs (map expr_of c.args.arguments.items)) in
    made c.call.result _ _ ((subst (λ (w : Named). CallsAs s w f c.args.callee.pos) c.in-Printf.is (c.naming-what.ensures s stands)).1 at es ∙ ap (λ (o : Option _). fewer.call_tree s at f (option_map (λ n. n.now) o) es) (sym c.in-None.is)) c.call.ensures

pub returns-in_ok-name-in-Puts : goal.returns-in_ok-name-in-Puts
returns-in_ok-name-in-Puts c = λ s stands.
    let at = c.args.at in
    let f = expr_of c.args.callee in
    let es = (exprs (map expr_of c.args.arguments.items)) in
    made c.call-in-Puts.result _ _ (ap (λ (k : CExpr). plain.Call at k es) c.in_ok-name-in-Puts.ensures ∙ (subst (λ (w : Named). CallsAs s w f c.args.callee.pos) c.in-Puts.is (c.naming-what.ensures s stands)) at (option_map (λ n. n.now) c.args.format) es) c.call-in-Puts.ensures

pub returns-in-Other : goal.returns-in-Other
returns-in-Other c = λ s stands.
    let at = c.args.at in
    let f = expr_of c.args.callee in
    let es = (exprs (map expr_of c.args.arguments.items)) in
    made c.call-in-Other.result _ _ ((subst (λ (w : Named). CallsAs s w f c.args.callee.pos) c.in-Other.is (c.naming-what.ensures s stands)) at (option_map (λ n. n.now) c.args.format) es) c.call-in-Other.ensures
