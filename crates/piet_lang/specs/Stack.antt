-- For proofs only: values in slots, the top last, seen with the top first.
use Rattle.std.specs.Prelude.{ℕ, List, [], ◌∷◌, ◌++◌, take, drop, reverse, Option, Some, None, ℤ}

-- the values in so many slots, the top first
unfoldable pub values_of : List ℤ → ℕ → List ℤ
values_of slots len = reverse (take len slots)

-- the second value and the top, if there are two
abbrev pub pair_of : List ℤ → Option (ℤ × ℤ)
pair_of [] = None
pair_of (y ∷ []) = None
pair_of (y ∷ x ∷ rest) = Some (x, y)

-- so many values at the top turned by so many places towards the bottom
abbrev pub rolled_by : List ℤ → ℕ → ℕ → List ℤ
rolled_by stack depth times = drop times (take depth stack) ++ (take times stack ++ drop depth stack)
