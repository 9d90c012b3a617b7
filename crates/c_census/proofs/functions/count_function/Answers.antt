use Rattle.std.proofs.Common.{◌≡◌, sym, ap, subst, ◌∙◌}
use Rattle.c_syntax.specs.View.{ty_of, decls_of, maybe_stmt}
use Rattle.c_types.specs.Scope.{entered}
use Rattle.c_types.specs.Expressions.{written}
use Rattle.c_types.specs.Units.{signature}
use Rattle.c_types.specs.Census.{parameters_sum}
use Rattle.c_types.specs.Table.{known}
use Rattle.c_operands.proofs.OperandLemmas.{grows_then}
use Rattle.c_operands.proofs.NameLemmas.{fits_kept}
use Rattle.c_declared.proofs.HeldLemmas.{held_kept, holds_kept}
use Rattle.c_expressions.proofs.KeptLemmas.{layouts_at}
use Rattle.c_signatures.proofs.BlockLemmas.{same_holds}
use Rattle.c_census.proofs.MovedLemmas.{moved_some}
use Rattle.c_census.proofs.MemberLemmas.{function_counted}
use Rattle.c_census.proofs.functions.count_function.Goals as goal

pub declared_sum-own-requires : goal.declared_sum-own-requires
declared_sum-own-requires c =
    let h = c.requires in
    (written h.0 c.args.at (ty_of c.args.gives.now), c.in_ok-ty.ensures.judged h.0 h.1.fits)

pub count_type-requires : goal.count_type-requires
count_type-requires c = held_kept c.args.types.now c.written.new.types c.args.declared.now c.in_ok-ty.ensures.grows c.in_ok-ty.ensures.tags c.requires

pub count_signature-requires : goal.count_signature-requires
count_signature-requires c =
    held_kept c.written.new.types c.count_type.new.types c.args.declared.now c.in_ok-first.ensures.grows c.in_ok-first.ensures.tags
    (held_kept c.args.types.now c.written.new.types c.args.declared.now c.in_ok-ty.ensures.grows c.in_ok-ty.ensures.tags c.requires)

pub judge_signature-requires : goal.judge_signature-requires
judge_signature-requires c =
    moved_some c.count_type.new.types c.count_signature.new.types c.args.declared.now c.count_signature.new.declared c.in_ok-all.all (λ s k. parameters_sum k (entered s) (decls_of c.args.parameters.now.items.items)) (λ s. s) c.in_ok-all.ensures
    (held_kept c.written.new.types c.count_type.new.types c.args.declared.now c.in_ok-first.ensures.grows c.in_ok-first.ensures.tags
    (held_kept c.args.types.now c.written.new.types c.args.declared.now c.in_ok-ty.ensures.grows c.in_ok-ty.ensures.tags c.requires))

pub count_definition-requires : goal.count_definition-requires
count_definition-requires c =
    let h =
    moved_some c.count_type.new.types c.count_signature.new.types c.args.declared.now c.count_signature.new.declared c.in_ok-all.all (λ s k. parameters_sum k (entered s) (decls_of c.args.parameters.now.items.items)) (λ s. s) c.in_ok-all.ensures
    (held_kept c.written.new.types c.count_type.new.types c.args.declared.now c.in_ok-first.ensures.grows c.in_ok-first.ensures.tags
    (held_kept c.args.types.now c.written.new.types c.args.declared.now c.in_ok-ty.ensures.grows c.in_ok-ty.ensures.tags c.requires)) in
    (h.0, signature h.0 c.args.at (ty_of c.args.gives.now) (decls_of c.args.parameters.now.items.items), c.in_ok-signature.ensures.holds h.0 h.1, c.in_ok-signature.ensures.judged h.0 h.1)

pub returns-clause-counted : goal.returns-clause-counted
returns-clause-counted c =
    let t0 = c.args.types.now in
    let t1 = c.written.new.types in
    let t2 = c.count_type.new.types in
    let t3 = c.count_signature.new.types in
    let t4 = c.judge_signature.new.types in
    let t5 = c.count_definition.new.types in
    let d = c.args.declared.now in
    let d1 = c.count_signature.new.declared in
    let gives = ty_of c.args.gives.now in
    let params = decls_of c.args.parameters.now.items.items in
    function_counted t0 t1 t2 t3 t4 t5 d d1 c.count_definition.new.declared c.node.result c.declared_sum-own.result c.in_ok-first.first c.in_ok-all.all c.in_ok-rest.rest c.plus.result c.plus-2.result c.plus-3.result c.plus-4.result
    c.args.name.now c.args.at gives params (maybe_stmt c.args.body.now) c.node.ensures c.in_ok-ty.ensures.grows c.in_ok-ty.ensures.tags
    (λ s holds. c.declared_sum-own.ensures (written s c.args.at gives) s.tags (c.in_ok-ty.ensures.judged s holds.fits)
    (layouts_at t1 d s c.as_slice.result.now c.as_slice.ensures.value (fits_kept t0 t1 d s c.in_ok-ty.ensures.grows c.in_ok-ty.ensures.tags holds.fits)))
    c.in_ok-first.ensures c.in_ok-all.ensures c.in_ok-signature.ensures.grows c.in_ok-signature.ensures.tags c.in_ok-rest.ensures.grows c.in_ok-rest.ensures.tags
    (λ s holds. c.in_ok-rest.ensures.counted s (signature s c.args.at gives params) (c.in_ok-signature.ensures.holds s holds) (c.in_ok-signature.ensures.judged s holds))
    c.plus.ensures c.plus-2.ensures c.plus-3.ensures c.plus-4.ensures

pub returns-clause-holds : goal.returns-clause-holds
returns-clause-holds c = λ s holds.
    let t0 = c.args.types.now in
    let t1 = c.written.new.types in
    let t2 = c.count_type.new.types in
    let t3 = c.count_signature.new.types in
    let d = c.args.declared.now in
    let at1 = holds_kept t0 t1 d s c.in_ok-ty.ensures.grows c.in_ok-ty.ensures.tags holds in
    let at2 = holds_kept t1 t2 d s c.in_ok-first.ensures.grows c.in_ok-first.ensures.tags at1 in
    let at3 = c.in_ok-all.ensures.holds s at2 in
    let at4 = c.in_ok-signature.ensures.holds s at3 in
    same_holds c.judge_signature.new.types c.count_definition.new.types c.judge_signature.new.declared c.count_definition.new.declared s c.in_ok-rest.ensures.grows c.in_ok-rest.ensures.tags c.in_ok-rest.ensures.same at4
