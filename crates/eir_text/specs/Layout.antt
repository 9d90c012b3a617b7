-- The data pieces, laid out.
use Rattle.std.specs.Prelude.{ℕ, ◌+◌, nat_le, List, [], ◌∷◌, ◌++◌, length, map, if◌then◌else◌}
use Rattle.std.specs.List.{sum_by}
use Rattle.eir_line.specs.Line.{Line, Statement, Long, Bytes}

-- a line before the first of at least its number
abbrev pub put_in : ℕ × Line → List (ℕ × Line) → List (ℕ × Line)
put_in x [] = x ∷ []
put_in x (y ∷ ys) = if nat_le x.0 y.0 then x ∷ y ∷ ys else y ∷ put_in x ys

-- by rising number, in file order among equals
abbrev pub by_number : List (ℕ × Line) → List (ℕ × Line)
by_number [] = []
by_number (x ∷ xs) = put_in x (by_number xs)

-- the lines of the pieces as they are laid out
abbrev pub laid_out : List (ℕ × Line) → List Line
laid_out lines = map (λ x. x.1) (by_number lines)

-- how many words a statement lays out: `.string` one for each byte, and a zero word
abbrev pub word_count : Statement → ℕ
word_count (Long t) = 1
word_count (Bytes bytes) = length bytes + 1
word_count _ = 0

-- the first address past the data
abbrev pub data_end : List Line → ℕ
data_end lines = sum_by (λ line. word_count line.statement) lines

-- the labels of lines as they are laid out from an address on, with their values
abbrev pub data_labels : ℕ → List Line → List (List ℕ × ℕ)
data_labels address [] = []
data_labels address (line ∷ lines) = map (λ name. (name, address)) line.labels ++ data_labels (address + word_count line.statement) lines
