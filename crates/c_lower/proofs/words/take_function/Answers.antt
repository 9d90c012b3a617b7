use Rattle.std.proofs.Common.{Bool, subst}
use Rattle.c_syntax.specs.View.{ty_of, decls_of, maybe_stmt}
use Rattle.c_declared.specs.Held.{Holds}
use Rattle.c_objects.specs.Passed.{behind_function}
use Rattle.c_objects.proofs.PassedLemmas.{some_body}
use Rattle.c_lower.proofs.WordLemmas.{function_passes}
use Rattle.c_lower.proofs.words.take_function.Goals as goal

pub returns-clause-some : goal.returns-clause-some
returns-clause-some c =
    let h = c.requires in
    (behind_function h.0 c.args.name.now c.args.at (ty_of c.args.gives.now) (decls_of c.args.parameters.now.items.items) c.is_some-defines.result, c.in_ok-declare_function.ensures.holds h.0 h.1)

pub returns-clause-passes : goal.returns-clause-passes
returns-clause-passes c = λ w env is ok.
    let s = env.scope in
    let name = c.args.name.now in
    let at = c.args.at in
    let gives = ty_of c.args.gives.now in
    let params = decls_of c.args.parameters.now.items.items in
    let types = c.declare_function.new.types in
    let d = c.declare_function.new.declared in
    let defines = some_body c.args.body.now c.is_some-defines.result c.is_some-defines.ensures in
    function_passes c.args.here.now d c.args.structs.now c.args.out.now types c.args.number w env name at gives params (maybe_stmt c.args.body.now) c.args.words.now.items is c.in_ok-declare_function.ensures.tags ok
    (subst (λ (b : Bool). Holds types d (behind_function s name at gives params b)) defines (c.in_ok-declare_function.ensures.holds s is.at.here.holds))
