-- Bytes written from a register, and read into one.
use Rattle.std.specs.Prelude.{◌≡◌, ℕ, zero, suc, ◌+◌, ◌-◌, ◌%◌, ◌^◌, List, [], ◌∷◌, ◌++◌}
use Rattle.mach_core.specs.Rule.{IsInput, input_at}
use Rattle.bf_lang.specs.declared.command.Command.{Command}
use Rattle.bf_lang.specs.declared.command.Command.TheVariants.{Plus, Minus, Read, Write}
use Rattle.bf_tape.specs.Tape.{Tape, get, set_cell}
use Rattle.bf_tape.specs.Does.{Does, loop}
use Rattle.bf_tape.specs.Code.{goto_code}
use Rattle.bf_columns.specs.Lanes.{lane_cell}
use Rattle.bf_columns.specs.Columns.{right10}
use Rattle.bf_columns.specs.Text.{Text, spelled}
use Rattle.bf_columns.specs.Text.Text.{Done, Go, Up}
use Rattle.bf_columns.specs.Bodies.{ups, times, copies, clear_text}
use Rattle.bf_columns.specs.Deal.{deal_code, units_code}
use Rattle.bf_columns.specs.Sheet.{sheet, IsRegister}
use Rattle.bf_columns.specs.Worked.{body_of}
use Rattle.bf_columns.specs.Board.{board, IsBoard, sweep_code}

-- a register's digit, x and y of a column, and x of the column on its right
abbrev pub right_cells : ℕ → ℕ → List ℕ
right_cells d j = lane_cell d j ∷ lane_cell 3 j ∷ lane_cell 6 j ∷ lane_cell 3 (j - 1) ∷ []

-- the digit is added to x
abbrev pub low_text : Text
low_text = copies 0 1 2 Up (Go 1 Done)

-- then x goes to the right, each unit as four
abbrev pub high_text : Text
high_text = copies 0 1 2 Up (times 1 (λ t. Go 3 (ups 4 t)) (Go 1 Done))

abbrev pub high_code : ℕ → ℕ → List Command
high_code d j = spelled (right_cells d j) 1 high_text ++ right10

-- `putc r`
abbrev pub putc_code : ℕ → List Command
putc_code d =
    goto_code 135 (lane_cell 3 3) ++ high_code d 3 ++ high_code d 2 ++ high_code d 1 ++ spelled (lane_cell d 0 ∷ lane_cell 3 0 ∷ lane_cell 6 0 ∷ []) 1 low_text
    ++ (Write ∷ []) ++ loop (Minus ∷ []) ++ goto_code (lane_cell 3 0) 135

-- a tape with a byte more written
abbrev pub written : Tape → ℕ → Tape
written t n = record { base = t.base; cells = t.cells; taken = t.taken; output = t.output ++ n ∷ [] }

-- the law: the lowest byte of a register is written, and else nothing changes
abbrev pub BytesAreWritten : Type 0
BytesAreWritten =
    (input : List ℕ) (t : Tape) (w : ℕ → ℕ) (d : ℕ) → IsRegister d → IsBoard w → w 6 ≡ 0
    → Does input (putc_code d) 135 (sheet t (board w)) 135 (sheet (written t (w d % 2 ^ 8)) (board w)) (2 ^ 13)

-- one unit of a digit, from where it is over, or from the byte for the last digit, and back
abbrev pub unit_start : ℕ → ℕ
unit_start zero = 137
unit_start (suc zero) = 137
unit_start (suc (suc zero)) = 137
unit_start (suc (suc (suc j))) = 136

abbrev pub getc_unit : ℕ → ℕ → List Command
getc_unit d j = goto_code (unit_start j) (lane_cell d j) ++ (Plus ∷ []) ++ goto_code (lane_cell d j) (unit_start j)

-- `getc r`: by the cells 136 to 139
abbrev pub getc_code : ℕ → List Command
getc_code d =
    sweep_code (body_of d d clear_text) ++ goto_code 135 136 ++ (Read ∷ [])
    ++ deal_code 1 (λ j. units_code 1 (getc_unit d j)) (loop (Minus ∷ getc_unit d 3)) ++ goto_code 136 135

-- a tape with one byte more taken
abbrev pub read_on : Tape → Tape
read_on t = record { base = t.base; cells = t.cells; taken = t.taken + 1; output = t.output }

-- the cells right of home are 0
pub record IsClear (t : Tape) : Type 0 where
  pub home : get t 135 ≡ 0
  pub byte : get t 136 ≡ 0
  pub rest : get t 137 ≡ 0
  pub free : get t 138 ≡ 0
  pub quarter : get t 139 ≡ 0

-- the law: a register becomes the next byte of the input
abbrev pub BytesAreRead : Type 0
BytesAreRead =
    (input : List ℕ) (t : Tape) (w : ℕ → ℕ) (d : ℕ) → IsInput input → IsRegister d → IsBoard w → w 6 ≡ 0 → IsClear t
    → Does input (getc_code d) 135 (sheet t (board w)) 135 (sheet (read_on t) (board (set_cell w d (input_at input t.taken)))) (2 ^ 13)
