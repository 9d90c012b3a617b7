-- The loops that lay as many marks as a number says whose digits stand in columns.
use Rattle.std.specs.Prelude.{◌≡◌, ℕ, zero, suc, ◌+◌, ◌-◌, ◌*◌, ◌^◌, ◌<◌, nat_lt, nat_eq, cond, List, ◌∷◌, ◌++◌}
use Rattle.bf_lang.specs.declared.command.Command.{Command}
use Rattle.bf_lang.specs.declared.command.Command.TheVariants.{Plus, Minus}
use Rattle.bf_tape.specs.Tape.{Tape, get}
use Rattle.bf_tape.specs.Does.{Does, loop}
use Rattle.bf_tape.specs.Code.{many, goto_code}
use Rattle.bf_columns.specs.Lanes.{laned, number}
use Rattle.bf_trail.specs.Trail.{out_code, back_code, lay_code, lay_most, laid, IsBlank}

-- the cell of a column's digit of the number
abbrev pub cell : ℕ → ℕ
cell j = 123 - 10 * j

-- the mark place before the first record
abbrev pub trail : ℕ
trail = 164

-- the marks for one unit of a digit
abbrev pub trip_code : ℕ → List Command
trip_code j = goto_code (cell j) trail ++ out_code ++ lay_code j ++ back_code ++ goto_code trail (cell j)

-- the trips of so many digits, the lowest first
abbrev pub lows_code : (ℕ → List Command) → ℕ → List Command
lows_code trip zero = goto_code (cell 5) (cell 0)
lows_code trip (suc i) = lows_code trip i ++ loop (Minus ∷ trip i) ++ goto_code (cell i) (cell (suc i))

-- the digits up to the fifth; a further digit runs all below it once more than it says
abbrev pub level_code : (ℕ → List Command) → ℕ → List Command
level_code trip zero = lows_code trip 5 ++ loop (Minus ∷ trip 5)
level_code trip (suc d) = loop (Minus ∷ goto_code (cell (6 + d)) (cell (5 + d)) ++ level_code trip d ++ many 4 Plus ++ goto_code (cell (5 + d)) (cell (6 + d)))

unfoldable pub nest_code : List Command
nest_code = level_code trip_code 6

-- the same of the digits from the sixth on
abbrev pub high : (ℕ → ℕ) → ℕ → ℕ
high a zero = 0
high a (suc d) = high a d + a (6 + d) * 4 ^ d

-- the digits from the sixth on are one more when the nest begins, since their loops run once more
abbrev pub started : (ℕ → ℕ) → ℕ → ℕ
started a k = cond (nat_lt k 6) (a k) (suc (a k))

-- what a nest of so many levels above the fifth digit leaves
abbrev pub spent : ℕ → (ℕ → ℕ) → ℕ → ℕ
spent d x k = cond (nat_lt k 5) 0 (cond (nat_lt k (5 + d)) 4 (cond (nat_eq k (5 + d)) 0 (x k)))

-- the commands of a trip on a trail that has at most so many marks afterwards
abbrev pub trip_most : ℕ → ℕ → ℕ
trip_most top j = 200 + 18 * top + lay_most j

-- of the trips for so many digits
abbrev pub lows_most : (ℕ → ℕ) → (ℕ → ℕ) → ℕ → ℕ
lows_most cost a zero = 50
lows_most cost a (suc i) = lows_most cost a i + (a i * (cost i + 2) + 11)

-- of the trips for 1024 marks and four times as many
abbrev pub pass_most : (ℕ → ℕ) → ℕ
pass_most cost = 4 * (cost 5 + 2) + 420

abbrev pub level_most : (ℕ → ℕ) → (ℕ → ℕ) → ℕ → ℕ
level_most cost a d = lows_most cost a 6 + 40 * d + high a d * pass_most cost

-- the law: the nest lays as many marks as the number of its digits says
abbrev pub NestsLayTheirNumber : Type 0
NestsLayTheirNumber =
    (input : List ℕ) (s : Tape) (a : ℕ → ℕ) → ((j : ℕ) → j < 12 → a j < 4) → IsBlank s (trail + 8) → get s trail ≡ 0
    → Does input nest_code (cell 11) (laned 3 s (started a) 12) (cell 11) (laid (laned 3 s (spent 6 a) 12) (trail + 8) (number a 12)) (level_most (trip_most (number a 12)) a 6)
