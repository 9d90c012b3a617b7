use Rattle.std.proofs.Common.{◌≡◌, ◌<◌, ◌≤◌, ◌+◌, ◌-◌, ℕ, List, [], ◌∷◌, map, drop, get_or, length, Option, Some, None, refl, sym, ap, subst, ◌∙◌, arith, rules}
use Rattle.std.specs.Prelude.{Result, Ok, Err, IfOk}
use Rattle.c_syntax.specs.View.{decl_of}
use Rattle.c_types.specs.Declarations.{declared, declared_type, scope_or}
use Rattle.std.specs.Prelude.{false}
use Rattle.c_declared.proofs.HeldLemmas.{holds_kept, held_kept}
use Rattle.c_operands.proofs.NameLemmas.{fits_kept}
use Rattle.c_expressions.proofs.KeptLemmas.{layouts_at}
use Rattle.c_operands.proofs.OperandLemmas.{grows_then}
use Rattle.c_types.specs.Table.{known}
use Rattle.c_census.proofs.LocalLemmas.{local_moved}
use Rattle.c_census.proofs.locals.count_local.Goals as goal

pub type_sum-own-requires : goal.type_sum-own-requires
type_sum-own-requires c =
    let h = c.requires in
    (declared_type h.0 (decl_of c.args.d.now), c.in_ok-ty.ensures.judged h.0 h.1)

pub count_type-requires : goal.count_type-requires
count_type-requires c = held_kept c.args.types.now c.declared_type.new.types c.args.declared.now c.in_ok-ty.ensures.grows c.in_ok-ty.ensures.tags c.requires

pub declare_object-requires : goal.declare_object-requires
declare_object-requires c =
    held_kept c.declared_type.new.types c.count_type.new.types c.args.declared.now c.in_ok-written.ensures.grows c.in_ok-written.ensures.tags
    (held_kept c.args.types.now c.declared_type.new.types c.args.declared.now c.in_ok-ty.ensures.grows c.in_ok-ty.ensures.tags c.requires)

pub count_first-requires : goal.count_first-requires
count_first-requires c =
    let h = c.requires in
    let t1 = c.declared_type.new.types in
    let d = c.args.declared.now in
    let at1 = holds_kept c.args.types.now t1 d h.0 c.in_ok-ty.ensures.grows c.in_ok-ty.ensures.tags h.1 in
    let at2 = holds_kept t1 c.count_type.new.types d h.0 c.in_ok-written.ensures.grows c.in_ok-written.ensures.tags at1 in
    (scope_or h.0 (declared h.0 false (decl_of c.args.d.now)), c.in_ok-refusal.ensures.holds h.0 at2)

pub returns-clause-counted : goal.returns-clause-counted
returns-clause-counted c =
    let t0 = c.args.types.now in
    let t1 = c.declared_type.new.types in
    let t2 = c.count_type.new.types in
    let t3 = c.declare_object.new.types in
    let t4 = c.count_first.new.types in
    let d = c.args.declared.now in
    let e = c.declare_object.new.declared in
    let x = decl_of c.args.d.now in
    local_moved t0 t1 t2 t3 t4 d e c.node.result c.in_ok-written.written c.in_ok-first.first c.type_sum-own.result c.plus.result c.plus-2.result c.plus-3.result x c.node.ensures
    (λ s holds. c.type_sum-own.ensures (declared_type s x) s.tags (c.in_ok-ty.ensures.judged s holds)
    (layouts_at t1 d s c.as_slice.result.now c.as_slice.ensures.value (fits_kept t0 t1 d s c.in_ok-ty.ensures.grows c.in_ok-ty.ensures.tags holds.fits)))
    c.in_ok-ty.ensures.grows c.in_ok-ty.ensures.tags c.in_ok-written.ensures c.in_ok-refusal.ensures.holds c.in_ok-refusal.ensures.grows c.in_ok-refusal.ensures.tags c.in_ok-refusal.ensures.around c.in_ok-first.ensures
    c.plus.ensures c.plus-2.ensures c.plus-3.ensures

pub returns-clause-refusal : goal.returns-clause-refusal
returns-clause-refusal c = λ s holds.
    let t1 = c.declared_type.new.types in
    let d = c.args.declared.now in
    let at1 = holds_kept c.args.types.now t1 d s c.in_ok-ty.ensures.grows c.in_ok-ty.ensures.tags holds in
    let at2 = holds_kept t1 c.count_type.new.types d s c.in_ok-written.ensures.grows c.in_ok-written.ensures.tags at1 in
    c.in_ok-refusal.ensures.judged s at2
