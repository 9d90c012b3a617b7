-- The lines of a text, each in its section.
use Rattle.std.specs.Prelude.{ℕ, Bool, true, false, not, ◌||◌, ◌==◌, List, [], ◌∷◌, Option, Some, None}
use Rattle.std.specs.List.{slice_split, filter_map}
use Rattle.eir_line.specs.Line.{Line, Statement, Binary, Putc, Getc, Exit, Jump, JumpIf, Dump, Text, Data, Long, Bytes}
use Rattle.eir_line.specs.Grammar.{form_of}
use Rattle.eir_text.specs.declared.section.Section.{Section}
use Rattle.eir_text.specs.declared.section.Section.TheVariants as section

-- the text cut at its line feeds
abbrev pub lines_of : List ℕ → List (List ℕ)
lines_of text = slice_split (λ b. b == 10) text

-- a line of this form, and the section in force where it begins
pub record Placed : Type 0 where
  pub section : Section
  pub line : Line

abbrev pub section_after : Section → Statement → Section
section_after s Text = section.Text
section_after s (Data n) = section.Data n
section_after s _ = s

-- the lines of these forms, from a section on
abbrev pub placed_from : Section → List Line → List Placed
placed_from s [] = []
placed_from s (line ∷ lines) = record { section = s; line = line } ∷ placed_from (section_after s line.statement) lines

-- the lines of a text that have a form. A text begins in the text section.
abbrev pub placed_of : List ℕ → List Placed
placed_of text = placed_from section.Text (filter_map form_of (lines_of text))

abbrev pub is_text : Section → Bool
is_text section.Text = true
is_text (section.Data n) = false

abbrev pub is_jump : Statement → Bool
is_jump (Jump target) = true
is_jump (JumpIf c target r t) = true
is_jump _ = false

abbrev pub is_operation : Statement → Bool
is_operation (Binary op r t) = true
is_operation (Putc t) = true
is_operation (Getc r) = true
is_operation Exit = true
is_operation s = is_jump s

-- operations and `dump` stand in the text section alone, `.long` and `.string` in a data section alone
abbrev pub may_stand : Section → Statement → Bool
may_stand s Dump = is_text s
may_stand s (Long t) = not (is_text s)
may_stand s (Bytes bytes) = not (is_text s)
may_stand s statement = not (is_operation statement) || is_text s

-- the lines of the text section
abbrev pub text_lines : List Placed → List Line
text_lines placed = filter_map (λ p. line_in_text p.section p.line) placed where
  line_in_text : Section → Line → Option Line
  line_in_text section.Text line = Some line
  line_in_text (section.Data n) line = None

-- the lines of the data sections, with the numbers of their pieces
abbrev pub data_lines : List Placed → List (ℕ × Line)
data_lines placed = filter_map (λ p. line_in_data p.section p.line) placed where
  line_in_data : Section → Line → Option (ℕ × Line)
  line_in_data section.Text line = None
  line_in_data (section.Data n) line = Some (n, line)
