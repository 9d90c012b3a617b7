-- The status of an outcome, and its line.
use Rattle.std.specs.Prelude.{ℕ, List, [], ◌∷◌, ◌++◌, None, Some, codes, decimal}
use Rattle.elvm_cli.specs.Refusals.{kind_name}
use Rattle.elvm_cli.specs.declared.outcome.Outcome.{Outcome}
use Rattle.elvm_cli.specs.declared.outcome.Outcome.TheVariants.{Done, Usage, NoFile, TooLarge, Refused, NoInput, NoOutput, Fault, Limit, NoMemory}

-- the exit status
abbrev pub status_of : Outcome → ℕ
status_of Done = 0
status_of (Refused kind place) = 1
status_of Usage = 2
status_of Limit = 3
status_of (Fault code) = 4
status_of NoFile = 5
status_of NoInput = 6
status_of NoOutput = 7
status_of TooLarge = 8
status_of NoMemory = 9

-- the pieces, one behind the other
abbrev pub joined : List (List ℕ) → List ℕ
joined [] = []
joined (piece ∷ pieces) = piece ++ joined pieces

-- how the words go
abbrev pub usage_line : List ℕ
usage_line = codes "elvm: usage: elvm VERB [--target T] [--steps N] [--codel S] FILE\n"

-- of a file that is refused
abbrev pub refused_line : List ℕ → List ℕ → List ℕ
refused_line name kind = joined (codes "elvm: " ∷ name ∷ codes ": " ∷ kind ∷ codes "\n" ∷ [])

-- of a file that is refused at a place
abbrev pub placed_line : List ℕ → List ℕ → List ℕ → List ℕ
placed_line name kind place =
    joined (codes "elvm: " ∷ name ∷ codes ": " ∷ kind ∷ codes " at " ∷ place ∷ codes "\n" ∷ [])

-- of a run that met a fault
abbrev pub fault_line : List ℕ → List ℕ → List ℕ
fault_line name code =
    joined (codes "elvm: " ∷ name ∷ codes ": run fault " ∷ code ∷ codes "\n" ∷ [])

-- the line of an outcome; the name is the file's
abbrev pub line_of : List ℕ → Outcome → List ℕ
line_of name Done = []
line_of name Usage = joined (usage_line ∷ [])
line_of name NoFile = joined (codes "elvm: cannot read " ∷ name ∷ codes "\n" ∷ [])
line_of name TooLarge = joined (codes "elvm: " ∷ name ∷ codes ": too large\n" ∷ [])
line_of name (Refused kind None) = refused_line name (kind_name kind)
line_of name (Refused kind (Some place)) = placed_line name (kind_name kind) (decimal place)
line_of name NoInput = joined (codes "elvm: cannot read the input\n" ∷ [])
line_of name NoOutput = joined (codes "elvm: cannot write\n" ∷ [])
line_of name (Fault code) = fault_line name (decimal code)
line_of name Limit = joined (codes "elvm: step limit reached\n" ∷ [])
line_of name NoMemory = joined (codes "elvm: out of memory\n" ∷ [])
