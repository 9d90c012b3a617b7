use Rattle.std.proofs.Common.{Bool, subst}
use Rattle.c_syntax.specs.Plain as tree
use Rattle.c_syntax.specs.View.{ty_of, decls_of, maybe_stmt}
use Rattle.c_types.specs.Scope.{Scope}
use Rattle.c_types.specs.Units.{item_judged}
use Rattle.c_declared.specs.Held.{Holds}
use Rattle.c_applied.proofs.LeadsLemmas.{on_ok}
use Rattle.c_objects.specs.Passed.{behind_function}
use Rattle.c_objects.proofs.PassedLemmas.{ok_inner, some_body, function_passed}
use Rattle.c_lower.proofs.TextLemmas.{none_added}
use Rattle.c_lower.proofs.texts.take_function.Goals as goal

pub returns-clause-some : goal.returns-clause-some
returns-clause-some c =
    let h = c.requires in
    on_ok c.declare_function.result (λ holds. (behind_function h.0 c.args.name.now c.args.at (ty_of c.args.gives.now) (decls_of c.args.parameters.now.items.items) c.is_some-defines.result, holds)) (c.declare_function.ensures.holds h.0 h.1)

pub returns-clause-passes : goal.returns-clause-passes
returns-clause-passes c = λ here holds ok.
    let s = here.scope in
    let name = c.args.name.now in
    let at = c.args.at in
    let gives = ty_of c.args.gives.now in
    let params = decls_of c.args.parameters.now.items.items in
    let body = maybe_stmt c.args.body.now in
    let types = c.declare_function.new.types in
    let d = c.declare_function.new.declared in
    let defines = some_body c.args.body.now c.is_some-defines.result c.is_some-defines.ensures in
    let p = ok_inner (item_judged s (tree.Function name at gives params body)) ok in
    let passed = function_passed s name at gives params body p.0 p.1 in
    on_ok c.declare_function.result
    (λ h. record { holds = subst (λ (z : Scope). Holds types d z) passed (subst (λ (b : Bool). Holds types d (behind_function s name at gives params b)) defines h); adds = none_added c.args.texts.now.items })
    (c.declare_function.ensures.holds s holds)
