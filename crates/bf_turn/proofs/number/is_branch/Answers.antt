use Rattle.std.proofs.Common.{refl}
use Rattle.eir_core.specs.declared.ops.Op.TheVariants.{JumpIf}
use Rattle.bf_turn.specs.Number.{is_branch}
use Rattle.bf_turn.proofs.Listed.{known_is, no_branch}
use Rattle.bf_turn.proofs.number.is_branch.Goals as goal

pub returns-in-JumpIf : goal.returns-in-JumpIf
returns-in-JumpIf c = known_is is_branch c.args.op (JumpIf c.in-JumpIf.field-0 c.in-JumpIf.field-1 c.in-JumpIf.field-2 c.in-JumpIf.field-3) c.in-JumpIf.is refl

pub returns-in_default : goal.returns-in_default
returns-in_default c = no_branch c.args.op c.in_default.not-JumpIf
