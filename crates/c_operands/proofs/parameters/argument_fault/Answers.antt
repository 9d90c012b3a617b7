use Rattle.std.proofs.Common.{true, false, refl, sym, ◌∙◌}
use Rattle.c_operands.proofs.ArgumentLemmas.{fault_as}
use Rattle.c_operands.proofs.parameters.argument_fault.Goals as goal

pub returns-then-kept : goal.returns-then-kept
returns-then-kept c = λ x t o h.
    fault_as _ c.args.argument.at true x t refl o.at (sym c.if-kept.true ∙ c.converts-kept.ensures x t o.value h (c.class_of.ensures t h))

pub returns-else-kept : goal.returns-else-kept
returns-else-kept c = λ x t o h.
    fault_as _ c.args.argument.at false x t refl o.at (sym c.if-kept.false ∙ c.converts-kept.ensures x t o.value h (c.class_of.ensures t h))
