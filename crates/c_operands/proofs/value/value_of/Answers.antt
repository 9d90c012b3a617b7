use Rattle.c_types.specs.Types.{decayed}
use Rattle.c_operands.proofs.OperandLemmas.{type_within, null_as}
use Rattle.c_operands.proofs.value.value_of.Goals as goal

pub class_of-class-requires : goal.class_of-class-requires
class_of-class-requires c = type_within c.used_type.new.types c.in_ok-ty.ty (decayed c.requires.0) (c.in_ok-ty.ensures.used c.requires.0 c.requires.1)

pub returns-clause-value : goal.returns-clause-value
returns-clause-value c = λ x o.
    let ty = c.in_ok-ty.ensures.used x.ty o.ty in
    let class = c.class_of-class.ensures (decayed x.ty) ty in
    record { ty = ty; class = class; null = null_as c.is_null_constant.result c.args.a.sort c.class_of-class.result x c.is_null_constant.ensures o.sort class }
