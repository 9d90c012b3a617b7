use Rattle.std.proofs.Common.{◌%◌, ◌^◌, ◌||◌, refl, ap}
use Rattle.c_types.specs.declared.fault.TypeFault.TheVariants as fault
use Rattle.c_types.specs.Types as types
use Rattle.c_types.specs.Types.{is_object_type, is_null, words_of}
use Rattle.c_types.specs.Constants as constants
use Rattle.c_types.specs.Operands as plain
use Rattle.c_operands.proofs.OperandLemmas.{one_as}
use Rattle.c_forms.proofs.GivenLemmas.{or_as}
use Rattle.c_forms.proofs.StepLemmas.{null_class}
use Rattle.c_forms.proofs.sizes.size.Goals as goal

pub returns-clause-judged : goal.returns-clause-judged
returns-clause-judged c = λ t tags h all.
    let new = c.number.new.self in
    let given = plain.operand c.args.at types.Unsigned plain.Other (constants.Value (words_of tags t % 2 ^ 24)) in
    let object = c.is_object_type-object.ensures t tags h all in
    let null = null_class c.is_null-null.result c.class_of.result t c.is_null-null.ensures (c.class_of.ensures t h) in
    let kept = or_as c.either-kept.result c.is_object_type-object.result c.is_null-null.result (is_object_type tags t) (is_null t) c.either-kept.ensures object null in
    let count = c.low-count.ensures (words_of tags t) (c.words.ensures t tags h all) in
    one_as new c.one_rule.result given c.either-kept.result (is_object_type tags t || is_null t) (fault.Mismatch c.args.at) (fault.Mismatch c.args.at) kept refl
    (c.one_rule.ensures new given (record { at = refl; ty = c.in_ok-unsigned.ensures.number; sort = refl; constant = ap constants.Value count }))
