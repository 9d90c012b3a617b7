-- Names of labels, and what they stand for.
use Rattle.std.specs.Prelude.{ℕ, Bool, true, false, ◌||◌, List, [], ◌∷◌, ◌++◌, Option, Some, None, codes, if◌then◌else◌}
use Rattle.std.specs.List.{list_any, list_all, flat_map}
use Rattle.std.specs.Str.{bytes_eq}
use Rattle.eir_line.specs.Line.{Term, Statement, Line, Label, terms_of}

-- what a list of definitions gives a name, where this was found before (of several definitions the last counts)
abbrev pub defined_after : Option ℕ → List (List ℕ × ℕ) → List ℕ → Option ℕ
defined_after found [] name = found
defined_after found (d ∷ definitions) name = defined_after (if bytes_eq name d.0 then Some d.1 else found) definitions name

-- what a list of definitions gives a name
abbrev pub defined : List (List ℕ × ℕ) → List ℕ → Option ℕ
defined definitions name = defined_after None definitions name

-- the name is among these
abbrev pub is_among : List (List ℕ) → List ℕ → Bool
is_among names name = list_any (λ other. bytes_eq name other) names

-- the names that lines define
abbrev pub names_of : List Line → List (List ℕ)
names_of lines = flat_map (λ line. line.labels) lines

-- a line defines the name, or it is `_edata`
abbrev pub is_known : List (List ℕ) → List ℕ → Bool
is_known names name = bytes_eq name (codes "_edata") || is_among names name

abbrev pub term_is_known : List (List ℕ) → Term → Bool
term_is_known names (Label name addend) = is_known names name
term_is_known names _ = true

-- each label value of the statement has a name that is known
abbrev pub are_known : List (List ℕ) → Statement → Bool
are_known names s = list_all (term_is_known names) (terms_of s)

-- one of the names stands before them, or twice among them
abbrev pub repeats : List (List ℕ) → List (List ℕ) → Bool
repeats before [] = false
repeats before (name ∷ names) = is_among before name || repeats (before ++ name ∷ []) names
