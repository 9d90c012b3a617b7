use Rattle.std.proofs.Common.{ap, refl, ◌∙◌}
use Rattle.std.specs.Prelude.{option_map}
use Rattle.c_types.specs.declared.fault.TypeFault.TheVariants as fault
use Rattle.c_types.specs.Types as types
use Rattle.c_types.specs.Operands as plain
use Rattle.c_types.specs.Known.{OneType, of_type}
use Rattle.c_operands.proofs.OperandLemmas.{one_as}
use Rattle.c_operands.proofs.ArgumentLemmas.{arguments_kept}
use Rattle.c_operands.proofs.calls.print_call.Goals as goal

pub returns-clause-judged : goal.returns-clause-judged
returns-clause-judged c = λ xs a.
    let t0 = c.args.types.now in
    let t1 = c.number.new.self in
    let t2 = c.number-2.new.self in
    let t3 = c.number-3.new.self in
    let pointer = c.in_ok-text.ensures.number ∙ ap (λ k. of_type k (λ u. types.Pointer u)) c.in_ok-character.ensures.number in
    let text = c.in_ok-void.ensures.grows c.in_ok-text.text (OneType (types.Pointer types.Char)) pointer in
    let are = arguments_kept t2 t3 c.args.arguments.now xs c.in_ok-void.ensures.grows
    (arguments_kept t1 t2 c.args.arguments.now xs c.in_ok-text.ensures.grows (arguments_kept t0 t1 c.args.arguments.now xs c.in_ok-character.ensures.grows a)) in
    let form = option_map (λ f. f.now) c.args.format in
    let kept = c.is_print_form-kept.ensures xs text are in
    let given = plain.value_at c.args.at types.Void in
    one_as t3 c.one_rule.result given c.is_print_form-kept.result (plain.is_print_form form xs) (fault.BadCall c.args.at) (fault.BadCall c.args.at) kept refl
    (c.one_rule.ensures t3 given (c.value_at.ensures t3 types.Void c.in_ok-void.ensures.number))
