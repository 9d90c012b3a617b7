use Rattle.std.proofs.Common.{subst}
use Rattle.std.specs.Prelude.{is_some}
use Rattle.c_syntax.specs.Plain as tree
use Rattle.c_syntax.specs.View.{ty_of, decls_of, maybe_stmt}
use Rattle.c_types.specs.Scope.{Scope}
use Rattle.c_types.specs.Units.{item_judged}
use Rattle.c_objects.specs.Passed.{behind_function}
use Rattle.c_objects.proofs.PassedLemmas.{ok_inner, function_passed}
use Rattle.c_fewer_declarations.specs.Standing.{StandsIn}
use Rattle.c_desugar.proofs.FunctionLemmas.{on_ok, if_both}
use Rattle.c_desugar.proofs.items.pass_function.Goals as goal

pub returns-clause-some : goal.returns-clause-some
returns-clause-some c =
    let h = c.requires in
    on_ok c.take_function.result (λ stands. (behind_function h.0 c.args.name.now c.args.at (ty_of c.args.gives.now) (decls_of c.args.parameters.now.items.items) (is_some (maybe_stmt c.args.body.now)), stands)) (c.take_function.ensures.stands h.0 h.1)

pub returns-clause-passed : goal.returns-clause-passed
returns-clause-passed c = λ s stands ok.
    let name = c.args.name.now in
    let at = c.args.at in
    let gives = ty_of c.args.gives.now in
    let params = decls_of c.args.parameters.now.items.items in
    let body = maybe_stmt c.args.body.now in
    let p = ok_inner (item_judged s (tree.Function name at gives params body)) ok in
    if_both c.take_function.result
    (λ r is behind. record { is = is; stands = subst (λ (z : Scope). StandsIn c.take_function.new.types c.take_function.new.here z) (function_passed s name at gives params body p.0 p.1) behind })
    (c.take_function.ensures.tree s stands ok) (c.take_function.ensures.stands s stands)
