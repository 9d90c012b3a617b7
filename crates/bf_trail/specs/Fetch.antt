-- A byte of a far record given out to digits near home.
use Rattle.std.specs.Prelude.{◌≡◌, ℕ, zero, suc, ◌+◌, ◌-◌, ◌*◌, ◌%◌, ◌^◌, ◌<◌, List, [], ◌∷◌, ◌++◌}
use Rattle.bf_lang.specs.declared.command.Command.{Command}
use Rattle.bf_lang.specs.declared.command.Command.TheVariants.{Right, Left, Plus}
use Rattle.bf_tape.specs.Tape.{Tape, get}
use Rattle.bf_tape.specs.Slots.{holding}
use Rattle.bf_tape.specs.Code.{many, goto_code}
use Rattle.bf_columns.specs.Lanes.{lane_cell}
use Rattle.bf_trail.specs.Nest.{trail}
use Rattle.bf_trail.specs.Sides.{out_side_code, back_side_code, half, AtHalf}
use Rattle.bf_columns.specs.Deal.{Units}

-- where a unit begins, from the half record's mark place on: at what is over, and the last digit's at the byte that is dealt
abbrev pub begins : ℕ → ℕ
begins zero = 12
begins (suc zero) = 12
begins (suc (suc zero)) = 12
begins (suc (suc (suc j))) = 8

-- one unit of digit j of byte i: back to the byte, and to the lane y of a column
abbrev pub unit_code : ℕ → ℕ → List Command
unit_code i j =
    many (begins j - 1 - i) Left ++ many (4 ^ j) Plus ++ many (1 + i) Left ++ back_side_code ++ goto_code trail (lane_cell 6 (4 * i + j)) ++ (Plus ∷ [])
    ++ goto_code (lane_cell 6 (4 * i + j)) trail ++ out_side_code ++ many (begins j) Right

-- a byte and four digits
abbrev pub fetched : Tape → ℕ → ℕ → (ℕ → ℕ) → Tape
fetched t p i u = holding t ((p + 1 + i) ∷ lane_cell 6 (4 * i + 0) ∷ lane_cell 6 (4 * i + 1) ∷ lane_cell 6 (4 * i + 2) ∷ lane_cell 6 (4 * i + 3) ∷ [])
    (((u 0 + 4 * u 1 + 16 * u 2 + 64 * u 3) % 256) ∷ u 0 ∷ u 1 ∷ u 2 ∷ u 3 ∷ [])

-- the law: at a half record that a trail leads to, the trips are units of the digits, and the byte stays the number of those that came home
abbrev pub TripsAreUnits : Type 0
TripsAreUnits =
    (input : List ℕ) (t : Tape) (n side i : ℕ) → side < 2 → i < 3 → AtHalf t trail n side → get t (half trail n side + 16) ≡ 0
    → Units input (fetched t (half trail n side) i) (half trail n side + 4) 4 (18 * n + 500) (unit_code i)
