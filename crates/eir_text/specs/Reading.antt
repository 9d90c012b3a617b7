-- What the reader keeps of a text, and what it has found.
use Rattle.std.specs.Prelude.{◌≡◌, ◌≢◌, ℕ, List, map, Option, Some, None, unwrap_or}
use Rattle.std.specs.List.{list_any}
use Rattle.std.specs.Map.{lookup}
use Rattle.std.specs.Str.{bytes_eq}
use Rattle.std.specs.HashMap.{HashMap}
use Rattle.std.specs.HashSet.{HashSet}
use denote.Ref.{Bor}
use Rattle.eir_line.specs.Line.{Line}
use Rattle.eir_line.specs.Reading.{line_of}
use Rattle.eir_text.specs.declared.fault.EirFault.{EirFault}
use Rattle.eir_text.specs.declared.fault.EirFault.TheVariants.{Memory}
use Rattle.eir_text.specs.declared.lines.PlacedLine.{PlacedLine}
use Rattle.eir_text.specs.declared.blocks.Block.{Block}
use Rattle.eir_text.specs.declared.values.Values.{Values}
use Rattle.eir_text.specs.Sections.{Placed}
use Rattle.eir_text.specs.Blocks.{Current}
use Rattle.eir_text.specs.Names.{is_among}

-- the texts that references point to
abbrev pub texts : List (Bor (List ℕ)) → List (List ℕ)
texts names = map (λ x. x.now) names

-- a line that was read, in its section
abbrev pub place_of : PlacedLine → Placed
place_of l = record { section = l.section; line = line_of l.line }

abbrev pub places : List PlacedLine → List Placed
places ls = map place_of ls

-- the lines by themselves
abbrev pub lines_in : List PlacedLine → List Line
lines_in ls = map (λ p. p.line) (places ls)

-- a line of a data section, with the number of its piece
abbrev pub piece_of : ℕ × Bor PlacedLine → ℕ × Line
piece_of x = (x.0, line_of x.1.now.line)

-- the lines of pieces by themselves
abbrev pub piece_lines : List (ℕ × Bor PlacedLine) → List Line
piece_lines pieces = map (λ x. line_of x.1.now.line) pieces

-- the refusal is the fault; of want of memory nothing is said
abbrev pub Refuses : EirFault → Option EirFault → Type 0
Refuses fault refusal = fault ≢ Memory → refusal ≡ Some fault

-- the set has just these names
abbrev pub Holds : {S : Type 0} → HashSet (Bor (List ℕ)) S → List (List ℕ) → Type 0
Holds set names = (name : List ℕ) → list_any (λ k. bytes_eq name k.now) set.keys ≡ is_among names name

-- the number that a map has at a name
abbrev pub number_at : {S : Type 0} → HashMap (Bor (List ℕ)) ℕ S → List ℕ → Option ℕ
number_at numbers name = lookup (λ k. bytes_eq name k.now) numbers.entries

-- what a name stands for
abbrev pub value_in : Values → List ℕ → ℕ
value_in values name = unwrap_or (number_at values.numbers name) values.other

-- the current block, as the definitions speak of it
abbrev pub current_of : Block → Current
current_of b = record { number = b.number; has_operation = b.has_operation }

-- the first of two lines, if there is one, or else the second
abbrev pub first_of : Option ℕ → Option ℕ → Option ℕ
first_of None second = second
first_of (Some k) second = Some k
