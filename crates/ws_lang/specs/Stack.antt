-- For proofs only: values in slots, the top last, seen with the top first.
use Rattle.std.specs.Prelude.{ℕ, List, [], ◌∷◌, take, reverse, Option, Some, None, ℤ}

-- the values in so many slots, the top first
unfoldable pub values_of : List ℤ → ℕ → List ℤ
values_of slots len = reverse (take len slots)

-- the second value and the top, if there are two
abbrev pub pair_of : List ℤ → Option (ℤ × ℤ)
pair_of [] = None
pair_of (y ∷ []) = None
pair_of (y ∷ x ∷ rest) = Some (x, y)

-- the two values at the top swapped, if there are two
abbrev pub swapped : List ℤ → List ℤ
swapped [] = []
swapped (y ∷ []) = y ∷ []
swapped (y ∷ x ∷ rest) = x ∷ y ∷ rest
