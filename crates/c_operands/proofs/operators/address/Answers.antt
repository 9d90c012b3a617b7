use Rattle.std.proofs.Common.{◌≡◌, ◌||◌, false, sym, ap, ◌∙◌, subst}
use Rattle.c_types.specs.declared.fault.TypeFault.TheVariants as fault
use Rattle.c_types.specs.Types as types
use Rattle.c_types.specs.Operands as plain
use Rattle.c_types.specs.Operands.{is_place, is_array, is_designator}
use Rattle.c_types.specs.Known.{of_type}
use Rattle.c_operands.specs.Seen.{IsOperand, IsJudged}
use Rattle.c_operands.proofs.OperandLemmas.{one_as, address_as, address_of_place}
use Rattle.c_operands.proofs.operators.address.Goals as goal

pub returns-clause-judged : goal.returns-clause-judged
returns-clause-judged c = λ x o.
    let new = c.number.new.self in
    let pointer = plain.value_at c.args.at (types.Pointer x.ty) in
    let ty = c.in_ok-pointer.ensures.number ∙ ap (λ k. of_type k (λ u. types.Pointer u)) o.ty in
    let kept = address_as c.has_address-kept.result c.args.a.sort c.class_of.result x c.has_address-kept.ensures o.sort (c.class_of.ensures x.ty o.ty) in
    let named : is_designator x.sort ≡ false = cc in
    subst (IsJudged (IsOperand new) c.one_rule.result) (sym (address_of_place c.args.at x named))
    (one_as new c.one_rule.result pointer c.has_address-kept.result (is_place x.sort || is_array x.ty) (fault.NotLvalue c.args.a.at) (fault.NotLvalue x.pos) kept (ap fault.NotLvalue o.at)
    (c.one_rule.ensures new pointer (c.value_at-2.ensures new (types.Pointer x.ty) ty)))
