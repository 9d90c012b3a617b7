-- Words in the lanes of a sheet.
use Rattle.std.specs.Prelude.{◌≡◌, ◌≢◌, ℕ, zero, suc, ◌+◌, ◌-◌, ◌/◌, ◌%◌, ◌^◌, ◌<◌, nat_eq, nat_lt, cond, List, [], ◌∷◌, ◌++◌}
use Rattle.bf_lang.specs.declared.command.Command.{Command}
use Rattle.bf_lang.specs.declared.command.Command.TheVariants.{Minus}
use Rattle.bf_tape.specs.Tape.{Tape, set_cell}
use Rattle.bf_tape.specs.Does.{Does, loop}
use Rattle.bf_tape.specs.Code.{goto_code}
use Rattle.bf_columns.specs.Columns.{left10, homewards_code}
use Rattle.bf_columns.specs.Sheet.{Sheet, sheet, IsRegister}
use Rattle.bf_columns.specs.Worked.{body_of, onwards_code}
use Rattle.bf_columns.specs.Bodies.{copy_text, sum_text, sum_y_text, difference_text, difference_y_text, clear_text, to_x_text, to_y_text}

-- a digit of a word, of which digit 0 is the lowest
abbrev pub digit : ℕ → ℕ → ℕ
digit w zero = w % 4
digit w (suc j) = digit (w / 4) j

-- a word in each lane, the guides in theirs, and nothing in lane z and left of column 11
abbrev pub board : (ℕ → ℕ) → Sheet
board w j l = cond (nat_lt j 12) (cond (nat_eq l 5) 1 (cond (nat_eq l 9) 0 (digit (w l) j))) 0

-- words, with none in lane x
pub record IsBoard (w : ℕ → ℕ) : Type 0 where
  pub words : (l : ℕ) → w l < 2 ^ 24
  pub spare : w 3 ≡ 0

-- from home to home, these words become those, and all else on the tape stays
pub record Acts (code : List Command) (w w' : ℕ → ℕ) (most : ℕ) : Type 0 where
  pub does : (input : List ℕ) (t : Tape) → t.cells (t.base + 135) ≡ 0 → Does input code 135 (sheet t (board w)) 135 (sheet t (board w')) most

-- all columns from the right to the left, with the last carry given up, then home
abbrev pub sweep_code : List Command → List Command
sweep_code body = left10 ++ onwards_code body ++ goto_code 5 9 ++ loop (Minus ∷ []) ++ goto_code 9 5 ++ homewards_code

-- `mov r, s`
abbrev pub CopiesAreDone : Type 0
CopiesAreDone = (w : ℕ → ℕ) (d s : ℕ) → IsRegister d → IsRegister s → d ≢ s → IsBoard w → w 6 ≡ 0 → Acts (sweep_code (body_of d s copy_text)) w (set_cell w d (w s)) 2200

-- a register cleared, whatever stands in lane y
abbrev pub ClearsAreDone : Type 0
ClearsAreDone = (w : ℕ → ℕ) (d : ℕ) → IsRegister d → IsBoard w → Acts (sweep_code (body_of d d clear_text)) w (set_cell w d 0) 700

-- a register copied to lane y, and to lane x
abbrev pub RegistersGoToY : Type 0
RegistersGoToY = (w : ℕ → ℕ) (d : ℕ) → IsRegister d → IsBoard w → w 6 ≡ 0 → Acts (sweep_code (body_of d d to_y_text)) w (set_cell w 6 (w d)) 2200

abbrev pub RegistersGoToX : Type 0
RegistersGoToX = (w : ℕ → ℕ) (d : ℕ) → IsRegister d → IsBoard w → w 6 ≡ 0 → Acts (sweep_code (body_of d d to_x_text)) w (set_cell w 3 (w d)) 2200

-- `add r, s` and `sub r, s`
abbrev pub SumsAreDone : Type 0
SumsAreDone = (w : ℕ → ℕ) (d s : ℕ) → IsRegister d → IsRegister s → d ≢ s → IsBoard w → w 6 ≡ 0 → Acts (sweep_code (body_of d s sum_text)) w (set_cell w d ((w d + w s) % 2 ^ 24)) 4600

abbrev pub DifferencesAreDone : Type 0
DifferencesAreDone =
    (w : ℕ → ℕ) (d s : ℕ) → IsRegister d → IsRegister s → d ≢ s → IsBoard w → w 6 ≡ 0
    → Acts (sweep_code (body_of d s difference_text)) w (set_cell w d ((w d + (2 ^ 24 - w s)) % 2 ^ 24)) 4100

-- the same with the word in lane y, which goes
abbrev pub LaneSumsAreDone : Type 0
LaneSumsAreDone = (w : ℕ → ℕ) (d : ℕ) → IsRegister d → IsBoard w → Acts (sweep_code (body_of d d sum_y_text)) w (set_cell (set_cell w 6 0) d ((w d + w 6) % 2 ^ 24)) 3700

abbrev pub LaneDifferencesAreDone : Type 0
LaneDifferencesAreDone =
    (w : ℕ → ℕ) (d : ℕ) → IsRegister d → IsBoard w
    → Acts (sweep_code (body_of d d difference_y_text)) w (set_cell (set_cell w 6 0) d ((w d + (2 ^ 24 - w 6)) % 2 ^ 24)) 3200
