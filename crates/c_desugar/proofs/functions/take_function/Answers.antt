use Rattle.std.proofs.Common.{ℕ, List, ap, subst, ◌∙◌}
use Rattle.std.specs.Prelude.{option_map, is_some}
use Rattle.c_syntax.specs.View.{ty_of, decls_of, maybe_stmt}
use Rattle.c_types.specs.Scope.{entered}
use Rattle.c_types.specs.Units.{signature, declared_function}
use Rattle.c_objects.specs.Passed.{behind_function}
use Rattle.c_helpers.specs.Fewer as fewer
use Rattle.c_fewer_declarations.specs.Standing.{StandsIn}
use Rattle.c_desugar.proofs.FunctionLemmas.{first_ok, function_is}
use Rattle.c_desugar.proofs.functions.take_function.Goals as goal

pub pass_body-requires : goal.pass_body-requires
pass_body-requires c =
    let h = c.requires in
    (h.0, c.in_ok-head.ensures.stands h.0 h.1)

pub returns-clause-tree : goal.returns-clause-tree
returns-clause-tree c = λ s stands ok.
    let name = c.args.name.now in
    let at = c.args.at in
    let gives = ty_of c.args.gives.now in
    let params = decls_of c.args.parameters.now.items.items in
    let body = maybe_stmt c.args.body.now in
    let own = signature s at gives params in
    let head = c.in_ok-head.head in
    let is = c.in_ok-head.ensures.head s stands in
    let inner = c.in_ok-inner.ensures.tree s (c.in_ok-head.ensures.stands s stands) (first_ok own (λ g. declared_function s name at body g) ok) in
    function_is head.name name at (ty_of head.result) (fewer.fewer_in_type s gives) (decls_of head.params.items.items) (fewer.fewer_in_parameters (entered s) params) (maybe_stmt c.in_ok-inner.inner) (option_map (fewer.fewer_in_function s name own) body)
    is.name is.result is.params (inner ∙ ap (λ (n : List ℕ). option_map (fewer.fewer_in_function s n own) body) c.as_bytes-bytes.ensures)

pub returns-clause-stands : goal.returns-clause-stands
returns-clause-stands c = λ s stands.
    let gives = ty_of c.args.gives.now in
    let params = decls_of c.args.parameters.now.items.items in
    subst (λ (n : List ℕ). StandsIn c.pass_body.new.types c.pass_body.new.here (behind_function s n c.args.at gives params (is_some (maybe_stmt c.args.body.now)))) c.as_bytes-bytes.ensures
    (c.in_ok-inner.ensures.stands s (c.in_ok-head.ensures.stands s stands))

pub returns-clause-tags : goal.returns-clause-tags
returns-clause-tags c = c.in_ok-inner.ensures.tags ∙ c.in_ok-head.ensures.tags
