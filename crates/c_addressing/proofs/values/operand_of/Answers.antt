use Rattle.std.proofs.Common.{◌∙◌}
use Rattle.c_addressing.proofs.SameLemmas.{operand_is}
use Rattle.c_addressing.proofs.values.operand_of.Goals as goal

pub returns : goal.returns
returns c = λ x h. c.operand_of.ensures ∙ operand_is c.args.v x h
