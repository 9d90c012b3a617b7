-- The text of a program.
use Rattle.std.specs.Prelude.{ℕ, ◌+◌, ◌==◌, List, [], ◌∷◌, ◌++◌, map, codes, decimal, if◌then◌else◌}
use Rattle.std.specs.List.{flat_map}
use Rattle.word24.specs.declared.word.Word.{Word}
use Rattle.word24.specs.Word.{number_of}
use Rattle.eir_core.specs.declared.ops.Reg.{Reg}
use Rattle.eir_core.specs.declared.ops.Reg.TheVariants as reg
use Rattle.eir_core.specs.declared.ops.Operand.{Operand}
use Rattle.eir_core.specs.declared.ops.Operand.TheVariants as operand
use Rattle.eir_core.specs.declared.ops.Cond.{Cond}
use Rattle.eir_core.specs.declared.ops.Cond.TheVariants.{Eq, Ne, Lt, Gt, Le, Ge}
use Rattle.eir_core.specs.declared.ops.Op.{Op}
use Rattle.eir_core.specs.declared.ops.Op.TheVariants.{Mov, Add, Sub, Load, Store, Putc, Getc, Exit, Set, Jump, JumpIf}
use Rattle.eir_core.specs.Eir.{Eir}

abbrev pub register_name : Reg → List ℕ
register_name reg.A = codes "A"
register_name reg.B = codes "B"
register_name reg.C = codes "C"
register_name reg.D = codes "D"
register_name reg.SP = codes "SP"
register_name reg.BP = codes "BP"

-- a word is a number in decimal, without sign
abbrev pub operand_text : Operand → List ℕ
operand_text (operand.Reg r) = register_name r
operand_text (operand.Imm w) = decimal (number_of w)

abbrev pub comparison_name : Cond → List ℕ
comparison_name Eq = codes "eq"
comparison_name Ne = codes "ne"
comparison_name Lt = codes "lt"
comparison_name Gt = codes "gt"
comparison_name Le = codes "le"
comparison_name Ge = codes "ge"

-- a name, a space and an operand
abbrev pub with_operand : List ℕ → List ℕ → List ℕ
with_operand name x = name ++ codes " " ++ x

-- and further ones behind a comma and a space
abbrev pub with_two : List ℕ → List ℕ → List ℕ → List ℕ
with_two name x y = with_operand name x ++ codes ", " ++ y

abbrev pub with_three : List ℕ → List ℕ → List ℕ → List ℕ → List ℕ
with_three name x y z = with_two name x y ++ codes ", " ++ z

-- an operation's name and its operands
abbrev pub op_text : Op → List ℕ
op_text (Mov r v) = with_two (codes "mov") (register_name r) (operand_text v)
op_text (Add r v) = with_two (codes "add") (register_name r) (operand_text v)
op_text (Sub r v) = with_two (codes "sub") (register_name r) (operand_text v)
op_text (Load r v) = with_two (codes "load") (register_name r) (operand_text v)
op_text (Store r v) = with_two (codes "store") (register_name r) (operand_text v)
op_text (Putc v) = with_operand (codes "putc") (operand_text v)
op_text (Getc r) = with_operand (codes "getc") (register_name r)
op_text Exit = codes "exit"
op_text (Set test r v) = with_two (comparison_name test) (register_name r) (operand_text v)
op_text (Jump target) = with_operand (codes "jmp") (operand_text target)
op_text (JumpIf test target r v) = with_three (codes "j" ++ comparison_name test) (operand_text target) (register_name r) (operand_text v)

-- the line of an operation, behind a tab
abbrev pub op_line : Op → List ℕ
op_line op = codes "\t" ++ op_text op

-- the line of a data word
abbrev pub word_line : Word → List ℕ
word_line w = codes "\t.long " ++ decimal (number_of w)

-- the label of the block of this number
abbrev pub label_line : ℕ → List ℕ
label_line k = codes "b" ++ decimal k ++ codes ":"

-- the label `main`, before the block that comes first
abbrev pub start_lines : ℕ → ℕ → List (List ℕ)
start_lines start k = if k == start then codes "main:" ∷ [] else []

-- the lines of a block of this number
abbrev pub block_lines : ℕ → ℕ → List Op → List (List ℕ)
block_lines start k ops = start_lines start k ++ label_line k ∷ map op_line ops

-- the lines of the blocks from this number on. The start may be right behind the last block.
abbrev pub blocks_lines : ℕ → ℕ → List (List Op) → List (List ℕ)
blocks_lines start k [] = start_lines start k
blocks_lines start k (ops ∷ blocks) = block_lines start k ops ++ blocks_lines start (k + 1) blocks

-- the line before the data words, if there are any
abbrev pub header_lines : List Word → List (List ℕ)
header_lines [] = []
header_lines (w ∷ words) = codes ".data" ∷ []

-- the lines of a program
abbrev pub lines_of : Eir → List (List ℕ)
lines_of p = codes ".text" ∷ blocks_lines p.start 0 p.blocks ++ header_lines p.words ++ map word_line p.words

-- lines as a text: each ends with a line feed
abbrev pub text_of : List (List ℕ) → List ℕ
text_of lines = flat_map (λ line. line ++ codes "\n") lines

-- the text of a program
abbrev pub printed : Eir → List ℕ
printed p = text_of (lines_of p)
