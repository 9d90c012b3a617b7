-- Lists of values with the top first.
use Rattle.std.specs.Prelude.{ℕ, ◌-◌, Bool, true, false, List, ◌∷◌, length, drop, slice_index}

-- the values at the top; one that is missing reads as 0
abbrev pub top : List ℕ → ℕ
top values = slice_index values 0

abbrev pub second : List ℕ → ℕ
second values = slice_index values 1

abbrev pub third : List ℕ → ℕ
third values = slice_index values 2

-- the lowest of the values
abbrev pub lowest : ℕ → List ℕ → List ℕ
lowest count values = drop (length values - count) values

-- the values with the first at the top, if it is asked for
abbrev pub topped : Bool → ℕ → List ℕ → List ℕ
topped true value values = value ∷ values
topped false value values = values
