use Rattle.std.proofs.Common.{ℕ, Bool, [], ◌∷◌, ap, ◌∙◌}
use Rattle.c_types.specs.declared.fault.TypeFault.TheVariants as fault
use Rattle.c_types.specs.Refusals.{broken}
use Rattle.c_types.specs.Operands as plain
use Rattle.c_conditions.proofs.conditions.condition_fault.Goals as goal

pub returns-clause-told : goal.returns-clause-told
returns-clause-told c = λ x h.
    c.broken.ensures
    ∙ (ap (λ (b : Bool). broken ((b, fault.Mismatch c.args.a.at) ∷ [])) (c.is_condition-kept.ensures x (c.in_ok-value.ensures.value x h))
    ∙ ap (λ (n : ℕ). broken ((plain.is_condition x, fault.Mismatch n) ∷ [])) h.at)
