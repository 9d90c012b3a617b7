-- The digits of a number, one place after the other.
use Rattle.std.specs.Prelude.{ℕ, zero, suc, ◌+◌, ◌/◌, ◌%◌, ◌^◌, false, List, [], ◌∷◌, map, nat_le, if◌then◌else◌}
use Rattle.std.specs.Fmt.{digit_glyph}

-- the places above the lowest, the highest first
abbrev pub powers : ℕ → ℕ → List ℕ
powers base zero = []
powers base (suc k) = base ^ suc k ∷ powers base k

-- the digits of r at so many places above the lowest and at the lowest, where a has digits
abbrev pub digits_at : ℕ → ℕ → ℕ → ℕ → List ℕ
digits_at base zero a r = digit_glyph false r ∷ []
digits_at base (suc k) a r = if nat_le (base ^ suc k) a then digit_glyph false (r / base ^ suc k) ∷ digits_at base k a (r % base ^ suc k) else digits_at base k a r

-- what is left for the lowest place
abbrev pub rest_at : ℕ → ℕ → ℕ → ℕ → ℕ
rest_at base zero a r = r
rest_at base (suc k) a r = if nat_le (base ^ suc k) a then rest_at base k a (r % base ^ suc k) else rest_at base k a r

-- the units of a helper function that writes them: a turn for each that the digit counts, the call of its function, and that of the character
abbrev pub units_at : ℕ → ℕ → ℕ → ℕ → ℕ
units_at base zero a r = r + 2
units_at base (suc k) a r = if nat_le (base ^ suc k) a then r / base ^ suc k + 2 + units_at base k a (r % base ^ suc k) else units_at base k a r

-- as they are written
abbrev pub bytes : List ℕ → List ℕ
bytes cs = map (λ c. c % 2 ^ 8) cs
