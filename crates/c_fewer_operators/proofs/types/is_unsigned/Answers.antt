use Rattle.std.proofs.Common.{sym, ap, ◌∙◌}
use Rattle.c_operands.specs.Classes.{unsigned}
use Rattle.c_operands.proofs.ClassLemmas.{class_says}
use Rattle.c_fewer_operators.proofs.types.is_unsigned.Goals as goal

pub returns : goal.returns
returns c = λ t h.
    c.is_unsigned.ensures ∙ (ap unsigned (c.class_of.ensures t h) ∙ sym (class_says t).unsigned)
