-- The trail of an address: as many marks as its digits say, and the side beside its end.
use Rattle.std.specs.Prelude.{◌≡◌, ℕ, zero, suc, ◌+◌, ◌-◌, ◌*◌, ◌^◌, ◌<◌, List, [], ◌∷◌, ◌++◌}
use Rattle.bf_lang.specs.declared.command.Command.{Command}
use Rattle.bf_lang.specs.declared.command.Command.TheVariants.{Plus, Minus}
use Rattle.bf_tape.specs.Tape.{Tape, get, put}
use Rattle.bf_tape.specs.Does.{Does, loop}
use Rattle.bf_tape.specs.Code.{goto_code}
use Rattle.bf_columns.specs.Lanes.{laned, number}
use Rattle.bf_trail.specs.Trail.{there, here, out_code, back_code, IsBlank}
use Rattle.bf_trail.specs.Nest.{cell, trail, nest_code}
use Rattle.bf_trail.specs.Sides.{sided}

-- one more in so many digits from the sixth on, since their loops run once more than they say
abbrev pub raises : ℕ → List Command
raises zero = []
raises (suc i) = raises i ++ goto_code (cell (5 + i)) (cell (6 + i)) ++ (Plus ∷ [])

-- what the nest left in so many digits, from the tenth down
abbrev pub clears : ℕ → List Command
clears zero = []
clears (suc i) = clears i ++ goto_code (cell (11 - i)) (cell (10 - i)) ++ loop (Minus ∷ [])

-- the side, from its cell to beside the trail's end
abbrev pub side_trip : List Command
side_trip = Minus ∷ goto_code 168 trail ++ out_code ++ there ++ (Plus ∷ []) ++ here ++ back_code ++ goto_code trail 168

-- from home to home
abbrev pub trail_code : List Command
trail_code = goto_code 135 (cell 5) ++ raises 6 ++ nest_code ++ clears 6 ++ goto_code (cell 5) 168 ++ loop side_trip ++ goto_code 168 135

-- the law: the digits in lane x become a trail of as many marks, and the side stands beside its end
abbrev pub TrailsAreLaid : Type 0
TrailsAreLaid =
    (input : List ℕ) (s : Tape) (a : ℕ → ℕ) (side : ℕ) → side < 2 → ((j : ℕ) → j < 12 → a j < 4) → number a 12 < 2 ^ 23 → IsBlank s (trail + 8) → get s trail ≡ 0 → get s 168 ≡ side
    → Does input trail_code 135 (laned 3 s a 12) 135 (sided (put (laned 3 s (λ k. 0) 12) 168 0) trail (number a 12) side) (2 ^ 18 * (number a 12 + 1))
