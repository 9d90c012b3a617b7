-- Numbers by their digits.
use Rattle.std.specs.Prelude.{ℕ, ◌+◌, ◌*◌, ◌-◌, List, [], ◌∷◌}

-- the number that digits write in a radix when they follow those of n
abbrev pub value_after : ℕ → ℕ → List ℕ → ℕ
value_after radix n [] = n
value_after radix n (b ∷ bytes) = value_after radix (n * radix + (b - 48)) bytes

-- the number that digits write in a radix
abbrev pub value_of : ℕ → List ℕ → ℕ
value_of radix digits = value_after radix 0 digits
