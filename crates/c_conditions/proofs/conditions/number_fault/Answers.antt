use Rattle.std.proofs.Common.{ℕ, Bool, [], ◌∷◌, sym, ap, ◌∙◌}
use Rattle.c_types.specs.declared.fault.TypeFault.TheVariants as fault
use Rattle.c_types.specs.Types.{is_arithmetic}
use Rattle.c_types.specs.Refusals.{broken}
use Rattle.c_types.specs.Operands.{value_type}
use Rattle.c_operands.specs.Classes.{number}
use Rattle.c_operands.proofs.ClassLemmas.{class_says}
use Rattle.c_conditions.proofs.conditions.number_fault.Goals as goal

pub returns-clause-told : goal.returns-clause-told
returns-clause-told c = λ x h.
    let v = c.in_ok-value.ensures.value x h in
    c.broken.ensures
    ∙ (ap (λ (b : Bool). broken ((b, fault.Mismatch c.args.a.at) ∷ [])) (c.is_number.ensures ∙ (ap number v.class ∙ sym (class_says (value_type x)).number))
    ∙ ap (λ (n : ℕ). broken ((is_arithmetic (value_type x), fault.Mismatch n) ∷ [])) h.at)
