-- Numbers in LEB128 in as few bytes as they take.
use Rattle.std.specs.Prelude.{ℕ, zero, suc, ◌+◌, ◌-◌, ◌/◌, ◌%◌, Bool, true, false, nat_lt, List, [], ◌∷◌, ℤ, pos, negsuc, if◌then◌else◌}

-- the low seven bits of a number, or each of them turned over
abbrev pub low_bits : Bool → ℕ → ℕ
low_bits false n = n % 128
low_bits true n = 127 - n % 128

-- seven bits a byte, the lowest first, and 128 added to each byte but the last, which comes as soon as what is left is below a limit
abbrev pub leb : Bool → ℕ → ℕ → ℕ → List ℕ
leb turned limit zero n = low_bits turned n ∷ []
leb turned limit (suc k) n = if nat_lt n limit then low_bits turned n ∷ [] else ((low_bits turned n + 128) ∷ leb turned limit k (n / 128))

-- an unsigned number of 32 bits
unfoldable pub number_bytes : ℕ → List ℕ
number_bytes n = leb false 128 4 n

-- a signed number of 32 bits: the last byte has a bit for the sign, and the bits of one below 0 are those of its distance to -1, turned over
unfoldable pub integer_bytes : ℤ → List ℕ
integer_bytes (pos n) = leb false 64 4 n
integer_bytes (negsuc n) = leb true 64 4 n
