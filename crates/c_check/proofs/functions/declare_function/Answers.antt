use Rattle.std.proofs.Common.{◌≡◌, sym, subst, ◌∙◌}
use Rattle.c_syntax.specs.Words.{meaning}
use Rattle.c_syntax.specs.View.{maybe_stmt}
use Rattle.c_types.specs.Scope.{Scope}
use Rattle.c_types.specs.Units.{type_of, entity_behind}
use Rattle.c_declared.specs.Held.{Holds}
use Rattle.c_signatures.proofs.BlockLemmas.{same_holds}
use Rattle.c_check.proofs.BodyLemmas.{signature_kept, some_body, function_told, function_scope}
use Rattle.c_check.proofs.functions.declare_function.Goals as goal

pub returns-clause-judged : goal.returns-clause-judged
returns-clause-judged c = λ s g h is.
    let old = c.args.types.now in
    let new = c.judge_body.new.types in
    let d1 = c.judge_body.new.declared in
    let name = c.args.name.now in
    let b = c.in_ok-parts.ensures in
    let now = same_holds old new c.args.declared.now d1 s b.grows b.tags b.same h in
    let kept = signature_kept old new s c.args.f.now g b.grows is in
    let defines = some_body c.args.body.now c.is_some-defines.result c.is_some-defines.ensures in
    function_told c.merged_behind-refusal.result c.in_ok-parts.parts c.broken_rule.result s name c.args.at (maybe_stmt c.args.body.now) g c.may_declare-kept.result c.is_some-defines.result
    c.merged_behind-refusal.ensures (b.judged s g h is) c.broken_rule.ensures (c.may_declare-kept.ensures (meaning s.block name) (type_of g) (c.found_here-found.ensures s now.fits) kept.ty) defines

pub returns-clause-holds : goal.returns-clause-holds
returns-clause-holds c = λ s g h is.
    let old = c.args.types.now in
    let new = c.judge_body.new.types in
    let d1 = c.judge_body.new.declared in
    let name = c.args.name.now in
    let b = c.in_ok-parts.ensures in
    let now = same_holds old new c.args.declared.now d1 s b.grows b.tags b.same h in
    let kept = signature_kept old new s c.args.f.now g b.grows is in
    let defines = some_body c.args.body.now c.is_some-defines.result c.is_some-defines.ensures in
    let entity = c.entity_behind-entity.ensures new (meaning s.block name) (type_of g) (c.found_here-found.ensures s now.fits) kept.ty in
    subst (Holds new c.declare_unless.new.declared) (function_scope c.merged_behind-refusal.result s name c.args.at (maybe_stmt c.args.body.now) g c.is_some-defines.result (returns-clause-judged c s g h is) defines)
    (c.in_ok-declare_unless.ensures s (entity_behind (meaning s.block name) (type_of g) c.is_some-defines.result) now entity)
