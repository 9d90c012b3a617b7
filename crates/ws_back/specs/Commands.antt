-- The instructions that the code of a program is made of.
-- It serves the proofs alone: what an emission promises names none of it.
use Rattle.std.specs.Prelude.{ℕ, ◌+◌, ◌*◌, ◌^◌, ◌<◌, ⊤, unsigned_abs}
use Rattle.ws_lang.specs.Instruction.{Label, Instruction}
use Rattle.ws_lang.specs.Instruction as ws
use Rattle.ws_back.specs.declared.command.Place.{Place}
use Rattle.ws_back.specs.declared.command.Place.TheVariants.{End as at_end, Dispatch, Branch, Block}
use Rattle.ws_back.specs.declared.command.Command.{Command}
use Rattle.ws_back.specs.declared.command.Command.TheVariants.{Push, Add, Subtract, Multiply, Divide, Modulo, Store, Retrieve, Mark, Jump, JumpIfZero, JumpIfNegative, End, WriteCharacter, ReadCharacter}
use Rattle.ws_back.specs.Code.{label}

-- the number of the label that marks a place
abbrev pub label_number : Place → ℕ
label_number at_end = 0
label_number Dispatch = 1
label_number (Branch middle) = 2 * middle + 1
label_number (Block k) = 2 * k + 2

abbrev pub label_of : Place → Label
label_of place = label (label_number place)

abbrev pub instruction_of : Command → Instruction
instruction_of (Push n) = ws.Push n
instruction_of Add = ws.Add
instruction_of Subtract = ws.Subtract
instruction_of Multiply = ws.Multiply
instruction_of Divide = ws.Divide
instruction_of Modulo = ws.Modulo
instruction_of Store = ws.Store
instruction_of Retrieve = ws.Retrieve
instruction_of (Mark place) = ws.Mark (label_of place)
instruction_of (Jump place) = ws.Jump (label_of place)
instruction_of (JumpIfZero place) = ws.JumpIfZero (label_of place)
instruction_of (JumpIfNegative place) = ws.JumpIfNegative (label_of place)
instruction_of End = ws.End
instruction_of WriteCharacter = ws.WriteCharacter
instruction_of ReadCharacter = ws.ReadCharacter

-- its number or that of its label has 25 digits at most
abbrev pub IsWritable : Command → Type 0
IsWritable (Push n) = unsigned_abs n < 2 ^ 25
IsWritable (Mark place) = label_number place < 2 ^ 25
IsWritable (Jump place) = label_number place < 2 ^ 25
IsWritable (JumpIfZero place) = label_number place < 2 ^ 25
IsWritable (JumpIfNegative place) = label_number place < 2 ^ 25
IsWritable _ = ⊤
