use Rattle.std.proofs.Common.{refl}
use Rattle.std.specs.Prelude.{not}
use Rattle.c_types.specs.declared.fault.TypeFault.TheVariants as fault
use Rattle.c_types.specs.Types.{is_struct}
use Rattle.c_types.specs.Constants as constants
use Rattle.c_types.specs.Operands as plain
use Rattle.c_types.specs.Operands.{value_type}
use Rattle.c_types.specs.Seen.{constant_of}
use Rattle.c_operands.proofs.OperandLemmas.{one_as, comma_as, struct_as}
use Rattle.c_operands.proofs.operators.comma.Goals as goal

pub returns-clause-judged : goal.returns-clause-judged
returns-clause-judged c = λ x y o p.
    let new = c.value_of.new.types in
    let v = c.in_ok-value.ensures.value y p in
    let kept = struct_as c.is_struct-kept.result c.class_of.result y.ty c.is_struct-kept.ensures (c.class_of.ensures y.ty p.ty) in
    let given = plain.operand c.args.at (value_type y) plain.Other (constants.on_two x.constant y.constant (λ m n. constants.Value n)) in
    let constant = comma_as (constant_of c.comma_constant-constant.result) (constant_of c.args.a.constant) (constant_of c.args.b.constant) x.constant y.constant c.comma_constant-constant.ensures o.constant p.constant in
    one_as new c.one_rule.result given (not c.is_struct-kept.result) (not (is_struct y.ty)) (fault.Mismatch c.args.at) (fault.Mismatch c.args.at) kept refl
    (c.one_rule.ensures new given (record { at = refl; ty = v.ty; sort = refl; constant = constant }))
