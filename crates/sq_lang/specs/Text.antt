-- The spelling of a program: decimal numbers, parted by blanks and line feeds.
use Rattle.std.specs.Prelude.{◌≡◌, ℕ, ◌<◌, Bool, true, false, not, ◌||◌, ◌==◌, List, [], ◌∷◌, ◌++◌, length, drop, ℤ, pos, neg_ℤ, FitsSigned, ⊤, if◌then◌else◌}
use Rattle.std.specs.Int.{w64}
use Rattle.std.specs.List.{AllByRecursion}
use Rattle.std.specs.Str.Parse.{IsNumeral, digits_value, starts_with_minus}

-- a space, a tab, a carriage return or a line feed
abbrev pub is_separator : ℕ → Bool
is_separator byte = byte == 32 || byte == 9 || byte == 13 || byte == 10

abbrev pub is_other : ℕ → Bool
is_other byte = not (is_separator byte)

abbrev pub AreSeparators : List ℕ → Type 0
AreSeparators bytes = AllByRecursion (λ byte. is_separator byte ≡ true) bytes

-- one byte or more, and no separator
abbrev pub IsPiece : List ℕ → Type 0
IsPiece bytes = (0 < length bytes) × AllByRecursion (λ byte. is_separator byte ≡ false) bytes

-- a separator comes first, or the text is over
abbrev pub IsParted : List ℕ → Type 0
IsParted [] = ⊤
IsParted (byte ∷ bytes) = is_separator byte ≡ true

-- the text begins with separators, if any, and then a whole piece
pub record Begins (text gap piece rest : List ℕ) : Type 0 where
  pub whole : text ≡ gap ++ (piece ++ rest)
  pub separators : AreSeparators gap
  pub unbroken : IsPiece piece
  pub parted : IsParted rest

-- what stands behind the `-`, if there is one
abbrev pub digits_in : List ℕ → List ℕ
digits_in piece = if starts_with_minus piece then drop 1 piece else piece

-- decimal digits, at least one, with a `-` directly before them or not
abbrev pub IsNumber : List ℕ → Type 0
IsNumber piece = IsNumeral 10 (digits_in piece)

-- the number that such a piece writes
abbrev pub number_in : List ℕ → ℤ
number_in piece = if starts_with_minus piece then neg_ℤ (pos (digits_value 10 (digits_in piece))) else pos (digits_value 10 (digits_in piece))

-- the piece writes a number within signed 64 bits, and this is it
pub record SpellsCell (piece : List ℕ) (cell : ℤ) : Type 0 where
  pub number : IsNumber piece
  pub value : cell ≡ number_in piece
  pub fits : FitsSigned w64 cell

-- the first pieces of the text spell these cells, and the tail is what follows
abbrev pub BeginsWithCells : List ℕ → List ℤ → List ℕ → Type 0
BeginsWithCells text [] tail = text ≡ tail
BeginsWithCells text (cell ∷ cells) tail = (gap piece rest : List ℕ) × Begins text gap piece rest × SpellsCell piece cell × BeginsWithCells rest cells tail

-- the pieces of the text spell these cells
abbrev pub sq_spells : List ℕ → List ℤ → Type 0
sq_spells text cells = (tail : List ℕ) × BeginsWithCells text cells tail × AreSeparators tail
