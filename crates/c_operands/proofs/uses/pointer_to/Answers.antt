use Rattle.std.proofs.Common.{refl, ap, ◌∙◌}
use Rattle.c_types.specs.Types as types
use Rattle.c_types.specs.Constants as constants
use Rattle.c_types.specs.Operands as plain
use Rattle.c_types.specs.Known.{of_type}
use Rattle.c_operands.proofs.uses.pointer_to.Goals as goal

pub returns-clause-judged : goal.returns-clause-judged
returns-clause-judged c = λ t h.
    let pointer = c.in_ok-pointer.ensures.number ∙ ap (λ k. of_type k (λ u. types.Pointer u)) h in
    c.one_rule.ensures c.number.new.self (plain.operand c.args.at (types.Pointer t) plain.Designator constants.NotConstant)
    (record { at = refl; ty = pointer; sort = refl; constant = refl })
