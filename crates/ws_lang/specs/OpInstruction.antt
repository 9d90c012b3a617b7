-- For proofs only: the instruction that is kept as an `Op`.
use Rattle.ws_lang.specs.declared.instruction.Op.{Op}
use Rattle.ws_lang.specs.declared.instruction.Op.TheVariants as op
use Rattle.ws_lang.specs.Instruction.{Instruction, Push, Duplicate, Swap, Discard, Copy, Slide, Add, Subtract, Multiply, Divide, Modulo, Store, Retrieve, Mark, Call, Jump, JumpIfZero, JumpIfNegative, Return, End, WriteCharacter, WriteNumber, ReadCharacter, ReadNumber}

-- the instruction that is kept so
abbrev pub instruction_of : Op → Instruction
instruction_of (op.Push n) = Push n
instruction_of op.Duplicate = Duplicate
instruction_of op.Swap = Swap
instruction_of op.Discard = Discard
instruction_of (op.Copy n) = Copy n
instruction_of (op.Slide n) = Slide n
instruction_of op.Add = Add
instruction_of op.Subtract = Subtract
instruction_of op.Multiply = Multiply
instruction_of op.Divide = Divide
instruction_of op.Modulo = Modulo
instruction_of op.Store = Store
instruction_of op.Retrieve = Retrieve
instruction_of (op.Mark label) = Mark label.items
instruction_of (op.Call label) = Call label.items
instruction_of (op.Jump label) = Jump label.items
instruction_of (op.JumpIfZero label) = JumpIfZero label.items
instruction_of (op.JumpIfNegative label) = JumpIfNegative label.items
instruction_of op.Return = Return
instruction_of op.End = End
instruction_of op.WriteCharacter = WriteCharacter
instruction_of op.WriteNumber = WriteNumber
instruction_of op.ReadCharacter = ReadCharacter
instruction_of op.ReadNumber = ReadNumber
