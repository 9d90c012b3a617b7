use Rattle.std.proofs.Common.{◌∙◌}
use Rattle.c_operands.proofs.NameLemmas.{any_text}
use Rattle.c_operands.proofs.uses.is_defined.Goals as goal

pub returns : goal.returns
returns c = λ s fits. c.contains.ensures ∙ (any_text c.args.name.now c.args.declared.now.defined.keys ∙ fits.defined c.args.name.now)
