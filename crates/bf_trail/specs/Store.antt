-- A word from lane y to a half record, digit by digit.
use Rattle.std.specs.Prelude.{◌≡◌, ℕ, zero, suc, ◌+◌, ◌*◌, ◌/◌, ◌%◌, ◌^◌, ◌<◌, List, [], ◌∷◌, ◌++◌}
use Rattle.bf_lang.specs.declared.command.Command.{Command}
use Rattle.bf_lang.specs.declared.command.Command.TheVariants.{Right, Left, Plus, Minus}
use Rattle.bf_tape.specs.Tape.{Tape, get}
use Rattle.bf_tape.specs.Does.{Does, loop}
use Rattle.bf_tape.specs.Slots.{holding}
use Rattle.bf_tape.specs.Code.{many, goto_code}
use Rattle.bf_columns.specs.Lanes.{lane_cell, laned}
use Rattle.bf_trail.specs.Trail.{IsBlank}
use Rattle.bf_trail.specs.Nest.{trail}
use Rattle.bf_trail.specs.Sides.{out_side_code, back_side_code, take_up_code, half, sided}

-- one unit of a digit: so many units in the cell of its byte, at a mark place right of the half record
abbrev pub store_unit : ℕ → List Command
store_unit j =
    goto_code (lane_cell 6 j) trail ++ out_side_code ++ many (8 + 4 * (j / 4)) Right ++ many (4 ^ (j % 4)) Plus ++ many (8 + 4 * (j / 4)) Left
    ++ back_side_code ++ goto_code trail (lane_cell 6 j)

-- so many digits, the lowest first, from the trail's beginning to itself
abbrev pub digits_out : ℕ → List Command
digits_out zero = []
digits_out (suc j) = digits_out j ++ goto_code trail (lane_cell 6 j) ++ loop (Minus ∷ store_unit j) ++ goto_code (lane_cell 6 j) trail

-- a byte of the half record becomes what was brought for it, from the half record's mark place to itself
abbrev pub byte_in : ℕ → List Command
byte_in i =
    many (1 + i) Right ++ loop (Minus ∷ []) ++ many (7 + 3 * i) Right ++ loop (Minus ∷ many (7 + 3 * i) Left ++ (Plus ∷ []) ++ many (7 + 3 * i) Right)
    ++ many (8 + 4 * i) Left

-- twelve digits, three bytes, and home with all marks taken up
abbrev pub store_code : List Command
store_code = digits_out 12 ++ out_side_code ++ byte_in 0 ++ byte_in 1 ++ byte_in 2 ++ take_up_code

-- what twelve digits make a byte
abbrev pub byte_from : (ℕ → ℕ) → ℕ → ℕ
byte_from a i = a (4 * i) + 4 * a (4 * i + 1) + 16 * a (4 * i + 2) + 64 * a (4 * i + 3)

-- the half record with a word's bytes, and lane y with 0
abbrev pub stored : Tape → ℕ → (ℕ → ℕ) → Tape
stored s p a = holding (laned 6 s (λ k. 0) 12) ((p + 3) ∷ (p + 2) ∷ (p + 1) ∷ []) (byte_from a 2 ∷ byte_from a 1 ∷ byte_from a 0 ∷ [])

-- the law, on a tape with a trail and a side laid on it
abbrev pub WordsAreStored : Type 0
WordsAreStored =
    (input : List ℕ) (s : Tape) (n side : ℕ) (a : ℕ → ℕ) → side < 2 → ((j : ℕ) → j < 12 → a j < 4) → IsBlank s (trail + 8) → get s trail ≡ 0
    → ((j : ℕ) → j < 12 → get s (lane_cell 6 j) ≡ a j)
    → Does input store_code trail (sided s trail n side) trail (stored s (half trail n side) a) (700 * n + 60000)
