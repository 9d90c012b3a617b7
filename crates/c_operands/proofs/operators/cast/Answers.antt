use Rattle.std.proofs.Common.{refl, if◌then◌else◌}
use Rattle.c_types.specs.declared.fault.TypeFault.TheVariants as fault
use Rattle.c_types.specs.Types.{is_arithmetic}
use Rattle.c_types.specs.Constants as constants
use Rattle.c_types.specs.Operands as plain
use Rattle.c_types.specs.Operands.{value_type}
use Rattle.c_types.specs.Known.{OneType}
use Rattle.c_types.specs.Seen.{constant_of}
use Rattle.c_operands.proofs.OperandLemmas.{one_as, cast_as}
use Rattle.c_operands.proofs.operators.cast.Goals as goal

pub returns-clause-judged : goal.returns-clause-judged
returns-clause-judged c = λ x t o h.
    let new = c.value_of.new.types in
    let v = c.in_ok-value.ensures.value x o in
    let ty = c.in_ok-value.ensures.grows c.args.ty (OneType t) h in
    let class = c.class_of-class.ensures t ty in
    let kept = c.can_cast-kept.ensures (value_type x) t v.ty v.class ty class in
    let given = plain.operand c.args.at t plain.Other (if is_arithmetic t then x.constant else constants.NotConstant) in
    let constant = cast_as (constant_of c.cast_constant-constant.result) c.class_of-class.result (constant_of c.args.a.constant) x.constant t c.cast_constant-constant.ensures class o.constant in
    one_as new c.one_rule.result given c.can_cast-kept.result (plain.can_cast (value_type x) t) (fault.Mismatch c.args.at) (fault.Mismatch c.args.at) kept refl
    (c.one_rule.ensures new given (record { at = refl; ty = ty; sort = refl; constant = constant }))
