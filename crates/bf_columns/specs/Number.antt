-- Numbers put into lanes, and operations with a number.
use Rattle.std.specs.Prelude.{◌≡◌, ◌≢◌, ℕ, zero, suc, ◌+◌, ◌-◌, ◌*◌, ◌/◌, ◌%◌, ◌^◌, ◌<◌, ◌≤◌, nat_eq, nat_lt, List, [], ◌++◌}
use Rattle.bf_lang.specs.declared.command.Command.{Command}
use Rattle.bf_lang.specs.declared.command.Command.TheVariants.{Plus}
use Rattle.bf_tape.specs.Tape.{set_cell}
use Rattle.bf_tape.specs.Does.{loop}
use Rattle.bf_tape.specs.Code.{many, goto_code}
use Rattle.bf_columns.specs.Columns.{left10, right10}
use Rattle.bf_columns.specs.Bodies.{clear_text, sum_y_text, difference_y_text, less_y_text, more_y_text}
use Rattle.bf_columns.specs.Sheet.{IsRegister}
use Rattle.bf_columns.specs.Worked.{body_of}
use Rattle.bf_columns.specs.Board.{IsBoard, Acts, sweep_code}
use Rattle.bf_columns.specs.Told.{Asks, equal_code, order_code, differ_y_text}

-- so many digits by plain `+` in one lane, the lowest first, from the cell right of the lane's cells on
abbrev pub digits_code : ℕ → ℕ → List Command
digits_code k zero = []
digits_code k (suc m) = left10 ++ many (k % 4) Plus ++ digits_code (k / 4) m

-- a number of so many digits into a lane, from home; the guides lead home
abbrev pub put_number_code : ℕ → ℕ → ℕ → List Command
put_number_code l k m = goto_code 135 (130 + l) ++ digits_code k m ++ goto_code (130 + l - 10 * m) (135 - 10 * m) ++ loop right10

-- the law: where the lane has 0, it has the number afterwards
abbrev pub NumbersArePut : Type 0
NumbersArePut = (w : ℕ → ℕ) (l k m : ℕ) → l < 9 → l ≢ 5 → w l ≡ 0 → m ≤ 12 → k < 4 ^ m → Acts (put_number_code l k m) w (set_cell w l k) 400

-- `mov r, k`
abbrev pub mov_number_code : ℕ → ℕ → ℕ → List Command
mov_number_code d k m = sweep_code (body_of d d clear_text) ++ put_number_code d k m

abbrev pub NumbersAreMoved : Type 0
NumbersAreMoved = (w : ℕ → ℕ) (d k m : ℕ) → IsRegister d → IsBoard w → m ≤ 12 → k < 4 ^ m → Acts (mov_number_code d k m) w (set_cell w d k) 1100

-- `add r, k` and `sub r, k`, by lane y
abbrev pub add_number_code : ℕ → ℕ → ℕ → List Command
add_number_code d k m = put_number_code 6 k m ++ sweep_code (body_of d d sum_y_text)

abbrev pub NumbersAreAdded : Type 0
NumbersAreAdded = (w : ℕ → ℕ) (d k m : ℕ) → IsRegister d → IsBoard w → w 6 ≡ 0 → m ≤ 12 → k < 4 ^ m → Acts (add_number_code d k m) w (set_cell w d ((w d + k) % 2 ^ 24)) 4100

abbrev pub sub_number_code : ℕ → ℕ → ℕ → List Command
sub_number_code d k m = put_number_code 6 k m ++ sweep_code (body_of d d difference_y_text)

abbrev pub NumbersAreTaken : Type 0
NumbersAreTaken = (w : ℕ → ℕ) (d k m : ℕ) → IsRegister d → IsBoard w → w 6 ≡ 0 → m ≤ 12 → k < 4 ^ m → Acts (sub_number_code d k m) w (set_cell w d ((w d + (2 ^ 24 - k)) % 2 ^ 24)) 3600

-- the flag of a register against a number
abbrev pub NumberEqualsAreTold : Type 0
NumberEqualsAreTold =
    (w : ℕ → ℕ) (d k m : ℕ) → IsRegister d → IsBoard w → w 6 ≡ 0 → m ≤ 12 → k < 4 ^ m
    → Asks (put_number_code 6 k m ++ equal_code (body_of d d differ_y_text)) w w (nat_eq (w d) k) 6100

abbrev pub NumberLessAreTold : Type 0
NumberLessAreTold =
    (w : ℕ → ℕ) (d k m : ℕ) → IsRegister d → IsBoard w → w 6 ≡ 0 → m ≤ 12 → k < 4 ^ m
    → Asks (put_number_code 6 k m ++ order_code (body_of d d less_y_text)) w w (nat_lt (w d) k) 3700

abbrev pub NumberMoreAreTold : Type 0
NumberMoreAreTold =
    (w : ℕ → ℕ) (d k m : ℕ) → IsRegister d → IsBoard w → w 6 ≡ 0 → m ≤ 12 → k < 4 ^ m
    → Asks (put_number_code 6 k m ++ order_code (body_of d d more_y_text)) w w (nat_lt k (w d)) 3700
