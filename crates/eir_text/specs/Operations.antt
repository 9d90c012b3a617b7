-- Operations of two operands.
use Rattle.eir_core.specs.declared.ops.Reg.{Reg}
use Rattle.eir_core.specs.declared.ops.Op.{Op}
use Rattle.eir_core.specs.declared.ops.Op.TheVariants as op
use Rattle.eir_core.specs.declared.ops.Operand.{Operand}
use Rattle.eir_line.specs.declared.words.BinaryOp.{BinaryOp}
use Rattle.eir_line.specs.declared.words.BinaryOp.TheVariants.{Mov, Add, Sub, Load, Store, Set}

-- the operation of this kind on a register and an operand
abbrev pub binary_of : BinaryOp → Reg → Operand → Op
binary_of Mov r v = op.Mov r v
binary_of Add r v = op.Add r v
binary_of Sub r v = op.Sub r v
binary_of Load r v = op.Load r v
binary_of Store r v = op.Store r v
binary_of (Set c) r v = op.Set c r v
