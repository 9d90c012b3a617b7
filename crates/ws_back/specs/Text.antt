-- The text of a Whitespace program.
-- It serves the proofs alone: what an emission promises names none of it.
use Rattle.std.specs.Prelude.{ℕ, Bool, true, false, List, [], ◌∷◌, ◌++◌, map, ℤ, pos, negsuc, unsigned_abs}
use Rattle.ws_lang.specs.declared.sign.Sign.{Sign}
use Rattle.ws_lang.specs.declared.sign.Sign.TheVariants.{Space, Tab, LineFeed}
use Rattle.ws_lang.specs.Instruction.{Label, Instruction, Push, Copy, Slide, Mark, Call, Jump, JumpIfZero, JumpIfNegative}
use Rattle.ws_lang.specs.Spelling.{bit_signs, name_of}
use Rattle.ws_back.specs.Code.{digits}

abbrev pub byte_of : Sign → ℕ
byte_of Space = 32
byte_of Tab = 9
byte_of LineFeed = 10

abbrev pub is_negative : ℤ → Bool
is_negative (pos n) = false
is_negative (negsuc n) = true

-- the sign of a number, its binary digits and a line feed
abbrev pub number_signs : ℤ → List Sign
number_signs n = bit_signs (is_negative n ∷ digits 25 (unsigned_abs n)) ++ LineFeed ∷ []

-- the signs of a label and a line feed
abbrev pub label_signs : Label → List Sign
label_signs label = bit_signs label ++ LineFeed ∷ []

-- what follows the name of an instruction
abbrev pub parameter_of : Instruction → List Sign
parameter_of (Push n) = number_signs n
parameter_of (Copy n) = number_signs n
parameter_of (Slide n) = number_signs n
parameter_of (Mark label) = label_signs label
parameter_of (Call label) = label_signs label
parameter_of (Jump label) = label_signs label
parameter_of (JumpIfZero label) = label_signs label
parameter_of (JumpIfNegative label) = label_signs label
parameter_of _ = []

-- the text of one instruction
unfoldable pub instruction_text : Instruction → List ℕ
instruction_text instruction = map byte_of (name_of instruction ++ parameter_of instruction)

-- the text of instructions, one after the other
abbrev pub text_of : List Instruction → List ℕ
text_of [] = []
text_of (instruction ∷ code) = instruction_text instruction ++ text_of code
