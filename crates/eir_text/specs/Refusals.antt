-- Why a text is refused.
use Rattle.std.specs.Prelude.{ℕ, ◌+◌, nat_le, List, [], ◌∷◌, ◌++◌, Option, Some, None, if◌then◌else◌}
use Rattle.eir_line.specs.Line.{Line, is_in_range}
use Rattle.eir_text.specs.declared.fault.EirFault.{EirFault}
use Rattle.eir_text.specs.declared.fault.EirFault.TheVariants.{BadLine, NumberRange, DuplicateLabel, UnknownLabel}
use Rattle.eir_text.specs.declared.section.Section.{Section}
use Rattle.eir_text.specs.Names.{repeats, are_known}
use Rattle.eir_text.specs.Sections.{may_stand, section_after}

-- why a line of this number is refused by itself, in its section
abbrev pub line_refusal : Section → ℕ → Option Line → Option EirFault
line_refusal s k None = Some (BadLine k)
line_refusal s k (Some line) =
    if may_stand s line.statement then (if is_in_range line.statement then None else Some (NumberRange k)) else Some (BadLine k)

-- the section behind a line
abbrev pub section_behind : Section → Option Line → Section
section_behind s None = s
section_behind s (Some line) = section_after s line.statement

-- the first refusal, if there is one, or else the second
abbrev pub or_else : Option EirFault → Option EirFault → Option EirFault
or_else None second = second
or_else (Some fault) second = Some fault

-- the refusal of the lowest line that is refused by itself; the first of these lines has this number
abbrev pub lines_refusal : Section → ℕ → List (Option Line) → Option EirFault
lines_refusal s k [] = None
lines_refusal s k (form ∷ forms) = or_else (line_refusal s k form) (lines_refusal (section_behind s form) (k + 1) forms)

-- the lowest line that defines a name again; these names stand before
abbrev pub first_repeat : List (List ℕ) → ℕ → List Line → Option ℕ
first_repeat before k [] = None
first_repeat before k (line ∷ lines) = if repeats before line.labels then Some k else first_repeat (before ++ line.labels) (k + 1) lines

-- the lowest line that uses a name that isn't known
abbrev pub first_unknown : List (List ℕ) → ℕ → List Line → Option ℕ
first_unknown names k [] = None
first_unknown names k (line ∷ lines) = if are_known names line.statement then first_unknown names (k + 1) lines else Some k

-- the lower of the two lines; on one line the name that is defined again comes first
abbrev pub names_refusal : Option ℕ → Option ℕ → Option EirFault
names_refusal None None = None
names_refusal (Some k) None = Some (DuplicateLabel k)
names_refusal None (Some k) = Some (UnknownLabel k)
names_refusal (Some j) (Some k) = if nat_le j k then Some (DuplicateLabel j) else Some (UnknownLabel k)
