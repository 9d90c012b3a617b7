-- For proofs only: the instruction at the front of a list of signs.
use Rattle.std.specs.Prelude.{Bool, true, false, List, [], ◌∷◌, Option, Some, None, ℤ}
use Rattle.std.specs.Option.{option_map}
use Rattle.ws_lang.specs.declared.sign.Sign.{Sign}
use Rattle.ws_lang.specs.declared.sign.Sign.TheVariants.{Space, Tab, LineFeed}
use Rattle.ws_lang.specs.declared.command.Command.{Command}
use Rattle.ws_lang.specs.declared.command.Command.TheVariants as command
use Rattle.ws_lang.specs.Instruction.{Label, Instruction, Push, Duplicate, Swap, Discard, Copy, Slide, Add, Subtract, Multiply, Divide, Modulo, Store, Retrieve, Mark, Call, Jump, JumpIfZero, JumpIfNegative, Return, End, WriteCharacter, WriteNumber, ReadCharacter, ReadNumber}
use Rattle.ws_lang.specs.Spelling.{binary, signed}

-- what the next sign picks, with the signs after it
abbrev pub picked : Option Command → Option Command → Option Command → List Sign → Option (Command × List Sign)
picked space tab line_feed [] = None
picked space tab line_feed (Space ∷ rest) = option_map (λ k. (k, rest)) space
picked space tab line_feed (Tab ∷ rest) = option_map (λ k. (k, rest)) tab
picked space tab line_feed (LineFeed ∷ rest) = option_map (λ k. (k, rest)) line_feed

-- after a space: the stack
abbrev pub stack_command : List Sign → Option (Command × List Sign)
stack_command [] = None
stack_command (Space ∷ rest) = Some (command.Push, rest)
stack_command (Tab ∷ rest) = picked (Some command.Copy) None (Some command.Slide) rest
stack_command (LineFeed ∷ rest) = picked (Some command.Duplicate) (Some command.Swap) (Some command.Discard) rest

-- after a tab and a space: arithmetic
abbrev pub arithmetic_command : List Sign → Option (Command × List Sign)
arithmetic_command [] = None
arithmetic_command (Space ∷ rest) = picked (Some command.Add) (Some command.Subtract) (Some command.Multiply) rest
arithmetic_command (Tab ∷ rest) = picked (Some command.Divide) (Some command.Modulo) None rest
arithmetic_command (LineFeed ∷ rest) = None

-- after a tab and a line feed: bytes and numbers
abbrev pub outside_command : List Sign → Option (Command × List Sign)
outside_command [] = None
outside_command (Space ∷ rest) = picked (Some command.WriteCharacter) (Some command.WriteNumber) None rest
outside_command (Tab ∷ rest) = picked (Some command.ReadCharacter) (Some command.ReadNumber) None rest
outside_command (LineFeed ∷ rest) = None

-- after a tab
abbrev pub tab_command : List Sign → Option (Command × List Sign)
tab_command [] = None
tab_command (Space ∷ rest) = arithmetic_command rest
tab_command (Tab ∷ rest) = picked (Some command.Store) (Some command.Retrieve) None rest
tab_command (LineFeed ∷ rest) = outside_command rest

-- after a line feed: where to go on
abbrev pub flow_command : List Sign → Option (Command × List Sign)
flow_command [] = None
flow_command (Space ∷ rest) = picked (Some command.Mark) (Some command.Call) (Some command.Jump) rest
flow_command (Tab ∷ rest) = picked (Some command.JumpIfZero) (Some command.JumpIfNegative) (Some command.Return) rest
flow_command (LineFeed ∷ rest) = picked None None (Some command.End) rest

-- the command at the front, with the signs after it
abbrev pub command_in : List Sign → Option (Command × List Sign)
command_in [] = None
command_in (Space ∷ rest) = stack_command rest
command_in (Tab ∷ rest) = tab_command rest
command_in (LineFeed ∷ rest) = flow_command rest

-- with one more bit
abbrev pub with_bit : Bool → Option (List Bool × List Sign) → Option (List Bool × List Sign)
with_bit bit None = None
with_bit bit (Some (bits, rest)) = Some (bit ∷ bits, rest)

-- the bits before the first line feed, with the signs after it
abbrev pub bits_in : List Sign → Option (List Bool × List Sign)
bits_in [] = None
bits_in (Space ∷ rest) = with_bit false (bits_in rest)
bits_in (Tab ∷ rest) = with_bit true (bits_in rest)
bits_in (LineFeed ∷ rest) = Some ([], rest)

-- the number of these bits, a sign and digits
abbrev pub number_of : Option (List Bool × List Sign) → Option (ℤ × List Sign)
number_of None = None
number_of (Some ([], rest)) = None
number_of (Some (negative ∷ digits, rest)) = Some (signed negative (binary digits), rest)

-- the number at the front, with the signs after it
abbrev pub number_in : List Sign → Option (ℤ × List Sign)
number_in signs = number_of (bits_in signs)

-- an instruction of the number at the front
abbrev pub with_number : (ℤ → Instruction) → Option (ℤ × List Sign) → Option (Instruction × List Sign)
with_number make None = None
with_number make (Some (n, rest)) = Some (make n, rest)

-- an instruction of the label at the front
abbrev pub with_label : (Label → Instruction) → Option (List Bool × List Sign) → Option (Instruction × List Sign)
with_label make None = None
with_label make (Some (bits, rest)) = Some (make bits, rest)

-- a command's instruction, given the signs after it
abbrev pub instruction_after : Command → List Sign → Option (Instruction × List Sign)
instruction_after command.Push rest = with_number Push (number_in rest)
instruction_after command.Duplicate rest = Some (Duplicate, rest)
instruction_after command.Swap rest = Some (Swap, rest)
instruction_after command.Discard rest = Some (Discard, rest)
instruction_after command.Copy rest = with_number Copy (number_in rest)
instruction_after command.Slide rest = with_number Slide (number_in rest)
instruction_after command.Add rest = Some (Add, rest)
instruction_after command.Subtract rest = Some (Subtract, rest)
instruction_after command.Multiply rest = Some (Multiply, rest)
instruction_after command.Divide rest = Some (Divide, rest)
instruction_after command.Modulo rest = Some (Modulo, rest)
instruction_after command.Store rest = Some (Store, rest)
instruction_after command.Retrieve rest = Some (Retrieve, rest)
instruction_after command.Mark rest = with_label Mark (bits_in rest)
instruction_after command.Call rest = with_label Call (bits_in rest)
instruction_after command.Jump rest = with_label Jump (bits_in rest)
instruction_after command.JumpIfZero rest = with_label JumpIfZero (bits_in rest)
instruction_after command.JumpIfNegative rest = with_label JumpIfNegative (bits_in rest)
instruction_after command.Return rest = Some (Return, rest)
instruction_after command.End rest = Some (End, rest)
instruction_after command.WriteCharacter rest = Some (WriteCharacter, rest)
instruction_after command.WriteNumber rest = Some (WriteNumber, rest)
instruction_after command.ReadCharacter rest = Some (ReadCharacter, rest)
instruction_after command.ReadNumber rest = Some (ReadNumber, rest)

abbrev pub parameterised : Option (Command × List Sign) → Option (Instruction × List Sign)
parameterised None = None
parameterised (Some (command, rest)) = instruction_after command rest

-- the instruction at the front, with the signs after it
abbrev pub instruction_in : List Sign → Option (Instruction × List Sign)
instruction_in signs = parameterised (command_in signs)
