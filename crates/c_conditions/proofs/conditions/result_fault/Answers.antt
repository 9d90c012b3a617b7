use Rattle.std.proofs.Common.{Bool, [], ◌∷◌, ap, ◌∙◌}
use Rattle.c_types.specs.declared.fault.TypeFault.TheVariants as fault
use Rattle.c_types.specs.Known.{OneType}
use Rattle.c_types.specs.Refusals.{broken}
use Rattle.c_conditions.proofs.conditions.result_fault.Goals as goal

pub returns-clause-told : goal.returns-clause-told
returns-clause-told c = λ x t h k.
    let v = c.in_ok-value.ensures.value x h in
    let ty = c.in_ok-value.ensures.grows c.args.ty (OneType t) k in
    c.broken.ensures ∙ ap (λ (b : Bool). broken ((b, fault.Mismatch c.args.at) ∷ [])) (c.converts-kept.ensures x t v ty (c.class_of-class.ensures t ty))
