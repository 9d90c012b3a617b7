use Rattle.std.proofs.Common.{sym, ◌∙◌}
use Rattle.c_types.specs.Types as types
use Rattle.c_types.specs.Types.{decayed}
use Rattle.c_types.specs.declared.shape.Shape.TheVariants as shape
use Rattle.c_types.specs.Known.{TypeList, says}
use Rattle.c_types.specs.Table.{known}
use Rattle.c_operands.proofs.OperandLemmas.{type_within}
use Rattle.c_forms.proofs.WrittenLemmas.{known_some, more_known, scalar_as, parameter_kept, parameter_broken}
use Rattle.c_forms.proofs.functions.first_parameter.Goals as goal

pub class_of-requires : goal.class_of-requires
class_of-requires c =
    let r = c.requires.ty in
    type_within c.used_type.new.types c.in_ok-used.used (decayed r.0) (c.in_ok-used.ensures.used r.0 r.1)

pub number-requires : goal.number-requires
number-requires c =
    let mid = c.used_type.new.types in
    let r = c.requires.ty in
    let l = c.requires.list in
    known_some (says mid.tags (known mid) (shape.MoreType c.in_ok-used.used c.args.list)) (TypeList (types.MoreType (decayed r.0) l.0))
    (more_known mid.tags (known mid) c.in_ok-used.used c.args.list (decayed r.0) l.0 (c.in_ok-used.ensures.used r.0 r.1) (c.in_ok-used.ensures.grows c.args.list (TypeList l.0) l.1))

pub returns-then-kept-clause-judged : goal.returns-then-kept-clause-judged
returns-then-kept-clause-judged c = λ t ts h g.
    let mid = c.used_type.new.types in
    let new = c.number.new.self in
    let used = c.in_ok-used.ensures.used t h in
    let scalar = scalar_as c.is_scalar-kept.result c.class_of.result (decayed t) c.is_scalar-kept.ensures (c.class_of.ensures (decayed t) used) in
    let made = c.in_ok-more.ensures.number ∙ more_known mid.tags (known mid) c.in_ok-used.used c.args.list (decayed t) ts used (c.in_ok-used.ensures.grows c.args.list (TypeList ts) g) in
    parameter_kept new c.args.at c.in_ok-more.more t ts (sym scalar ∙ c.if-kept.true) made

pub returns-else-kept-clause-judged : goal.returns-else-kept-clause-judged
returns-else-kept-clause-judged c = λ t ts h g.
    let used = c.in_ok-used.ensures.used t h in
    let scalar = scalar_as c.is_scalar-kept.result c.class_of.result (decayed t) c.is_scalar-kept.ensures (c.class_of.ensures (decayed t) used) in
    parameter_broken c.number.new.self c.args.at t ts (sym scalar ∙ c.if-kept.false)
