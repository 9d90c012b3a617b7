use Rattle.std.proofs.Common.{Bool, subst, ◌∙◌}
use Rattle.c_syntax.specs.View.{ty_of, decls_of, maybe_stmt}
use Rattle.c_declared.specs.Held.{Holds}
use Rattle.c_applied.proofs.LeadsLemmas.{on_ok}
use Rattle.c_objects.specs.Passed.{behind_function}
use Rattle.c_objects.proofs.PassedLemmas.{some_body}
use Rattle.c_lower.proofs.BodyLemmas.{function_gathered}
use Rattle.c_lower.proofs.bodies.take_function.Goals as goal

pub declare_function-requires : goal.declare_function-requires
declare_function-requires c =
    let h = c.requires in
    (h.0, c.in_ok-add_body.ensures.holds h.0 h.1)

pub returns-clause-some : goal.returns-clause-some
returns-clause-some c =
    let h = c.requires in
    on_ok c.declare_function.result (λ holds. (behind_function h.0 c.args.name.now c.args.at (ty_of c.args.gives.now) (decls_of c.args.parameters.now.items.items) c.is_some-defines.result, holds))
    (c.declare_function.ensures.holds h.0 (c.in_ok-add_body.ensures.holds h.0 h.1))

pub returns-clause-passes : goal.returns-clause-passes
returns-clause-passes c = λ s before ok.
    let name = c.args.name.now in
    let at = c.args.at in
    let gives = ty_of c.args.gives.now in
    let params = decls_of c.args.parameters.now.items.items in
    let body = maybe_stmt c.args.body.now in
    let types = c.declare_function.new.types in
    let d = c.declare_function.new.declared in
    let defines = some_body c.args.body.now c.is_some-defines.result c.is_some-defines.ensures in
    on_ok c.declare_function.result
    (λ holds. function_gathered types d c.args.bodies.now c.add_body.new.bodies s name at gives params body ok (subst (λ (b : Bool). Holds types d (behind_function s name at gives params b)) defines holds) (c.in_ok-add_body.ensures.adds s before))
    (c.declare_function.ensures.holds s (c.in_ok-add_body.ensures.holds s before))

pub returns-clause-tags : goal.returns-clause-tags
returns-clause-tags c = on_ok c.declare_function.result (λ e. e ∙ c.in_ok-add_body.ensures.tags) c.declare_function.ensures.tags
