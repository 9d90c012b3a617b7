-- Which program a text spells, and why it may spell none.
use Rattle.std.specs.Prelude.{◌≡◌, ℕ, ◌+◌, ◌-◌, ◌%◌, ◌^◌, false, nat_le, List, [], ◌∷◌, ◌++◌, map, Option, Some, None, IsTrue, IsSome, unwrap_or, codes, if◌then◌else◌}
use Rattle.std.specs.List.{AllByRecursion, flat_map}
use Rattle.std.proofs.Common.{lit<}
use Rattle.std.proofs.Math.Nat.{mod-lt}
use Rattle.word24.specs.declared.word.Word.{Word}
use Rattle.eir_core.specs.declared.ops.Op.{Op}
use Rattle.eir_core.specs.declared.ops.Op.TheVariants as op
use Rattle.eir_core.specs.declared.ops.Operand.{Operand}
use Rattle.eir_core.specs.declared.ops.Operand.TheVariants as operand
use Rattle.eir_core.specs.Eir.{Eir, size_of}
use Rattle.eir_line.specs.declared.words.BinaryOp.TheVariants as binary
use Rattle.eir_line.specs.Line.{Term, Statement, Register, Number, Label, Binary, Putc, Getc, Exit, Jump, JumpIf, Long, Bytes, is_in_range}
use Rattle.eir_line.specs.Grammar.{form_of}
use Rattle.eir_text.specs.declared.fault.EirFault.{EirFault}
use Rattle.eir_text.specs.declared.fault.EirFault.TheVariants.{TooLarge, Memory}
use Rattle.eir_text.specs.declared.section.Section.TheVariants as section
use Rattle.eir_text.specs.Names.{defined, names_of, are_known, repeats}
use Rattle.eir_text.specs.Sections.{Placed, lines_of, placed_of, may_stand, text_lines, data_lines}
use Rattle.eir_text.specs.Blocks.{first_block, block_labels, blocks_from}
use Rattle.eir_text.specs.Layout.{laid_out, data_labels, data_end}
use Rattle.eir_text.specs.Refusals.{or_else, lines_refusal, first_repeat, first_unknown, names_refusal}

-- the word that a number is modulo 2^24
abbrev pub wrapped : ℕ → Word
wrapped n = record { value = n % 2 ^ 24; in_range = mod-lt n (lit< tt) }

-- the number of a term that is no register, where names have these values: -k stands for 2^24 - k
abbrev pub number_for : (List ℕ → ℕ) → Term → ℕ
number_for values (Register r) = 0
number_for values (Number minus n) = if minus then 2 ^ 24 - n else n
number_for values (Label name addend) = values name + addend

abbrev pub operand_for : (List ℕ → ℕ) → Term → Operand
operand_for values (Register r) = operand.Reg r
operand_for values term = operand.Imm (wrapped (number_for values term))

-- the operation of a statement, if it is one
abbrev pub op_for : (List ℕ → ℕ) → Statement → Option Op
op_for values (Binary binary.Mov r t) = Some (op.Mov r (operand_for values t))
op_for values (Binary binary.Add r t) = Some (op.Add r (operand_for values t))
op_for values (Binary binary.Sub r t) = Some (op.Sub r (operand_for values t))
op_for values (Binary binary.Load r t) = Some (op.Load r (operand_for values t))
op_for values (Binary binary.Store r t) = Some (op.Store r (operand_for values t))
op_for values (Binary (binary.Set c) r t) = Some (op.Set c r (operand_for values t))
op_for values (Putc t) = Some (op.Putc (operand_for values t))
op_for values (Getc r) = Some (op.Getc r)
op_for values Exit = Some op.Exit
op_for values (Jump target) = Some (op.Jump (operand_for values target))
op_for values (JumpIf c target r t) = Some (op.JumpIf c (operand_for values target) r (operand_for values t))
op_for values _ = None

-- the words that a statement lays out
abbrev pub words_for : (List ℕ → ℕ) → Statement → List Word
words_for values (Long t) = wrapped (number_for values t) ∷ []
words_for values (Bytes bytes) = map wrapped bytes ++ wrapped 0 ∷ []
words_for values _ = []

-- the labels of all lines, with their values
abbrev pub definitions_of : List Placed → List (List ℕ × ℕ)
definitions_of placed = block_labels first_block (text_lines placed) ++ data_labels 0 (laid_out (data_lines placed))

-- the value of a name; `_edata`, where no line defines it, is the first address past the data
abbrev pub name_value : List Placed → List ℕ → ℕ
name_value placed name = unwrap_or (defined (definitions_of placed) name) (data_end (laid_out (data_lines placed)))

-- the program that lines say. It starts at the label `main` of the text section, or else at block 0.
abbrev pub program_said : List Placed → Eir
program_said placed = record {
  blocks = blocks_from (op_for (name_value placed)) [] (text_lines placed);
  words = flat_map (λ line. words_for (name_value placed) line.statement) (laid_out (data_lines placed));
  start = unwrap_or (defined (block_labels first_block (text_lines placed)) (codes "main")) 0;
}

-- the names that all lines define
abbrev pub all_names : List Placed → List (List ℕ)
all_names placed = names_of (map (λ p. p.line) placed)

-- a text spells a program
pub record Spells (text : List ℕ) (p : Eir) : Type 0 where
  -- each line has a form
  pub formed : AllByRecursion (λ line. IsSome (form_of line)) (lines_of text)
  -- each statement stands in a section where it may
  pub placed : AllByRecursion (λ l. IsTrue (may_stand l.section l.line.statement)) (placed_of text)
  -- each number is in range
  pub in_range : AllByRecursion (λ l. IsTrue (is_in_range l.line.statement)) (placed_of text)
  -- no name is defined twice
  pub distinct : repeats [] (all_names (placed_of text)) ≡ false
  -- each name that is used is known
  pub known : AllByRecursion (λ l. IsTrue (are_known (all_names (placed_of text)) l.line.statement)) (placed_of text)
  -- the program is the one that the lines say
  pub program : p ≡ program_said (placed_of text)

-- the refusal that comes first: of a line by itself, then of a name, then of the size
abbrev pub refusal_of : List ℕ → Option EirFault
refusal_of text =
    let lines = map (λ p. p.line) (placed_of text) in
    or_else (lines_refusal section.Text 1 (map form_of (lines_of text)))
    (or_else (names_refusal (first_repeat [] 1 lines) (first_unknown (names_of lines) 1 lines))
    (if nat_le (size_of (program_said (placed_of text))) (2 ^ 21) then None else Some TooLarge))

-- the cause of a refusal; want of memory has none in the text
abbrev pub IsRefusedBy : EirFault → List ℕ → Type 0
IsRefusedBy Memory text = Unit {0}
IsRefusedBy fault text = refusal_of text ≡ Some fault
