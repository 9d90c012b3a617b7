-- Columns done from the left, and what a comparison answers.
use Rattle.std.specs.Prelude.{◌≡◌, ◌≢◌, ℕ, suc, ◌+◌, ◌*◌, ◌<◌, nat_eq, nat_lt, Bool, cond, List, [], ◌∷◌, ◌++◌}
use Rattle.bf_lang.specs.declared.command.Command.{Command}
use Rattle.bf_lang.specs.Balance.{IsBalanced}
use Rattle.bf_tape.specs.Tape.{Tape, get, put, set_cell}
use Rattle.bf_tape.specs.Does.{Does, loop}
use Rattle.bf_columns.specs.Columns.{left10, right10}
use Rattle.bf_columns.specs.Text.{Text, spelled, comes, each_below}
use Rattle.bf_columns.specs.Text.Text.{Done, Go, Up, Down, While}
use Rattle.bf_columns.specs.Bodies.{ups, moves, copies, home, lows, highs, less_text, more_text, less_y_text, more_y_text}
use Rattle.bf_columns.specs.Sheet.{sheet, IsRegister}
use Rattle.bf_columns.specs.Worked.{body_of, onwards_code}
use Rattle.bf_columns.specs.Board.{board, IsBoard}

-- from left of all columns to home, with a body at each column
abbrev pub homewards_by : List Command → List Command
homewards_by body = right10 ++ loop (body ++ right10)

-- to the place left of all columns
abbrev pub away_code : List Command
away_code = left10 ++ loop left10

-- tapes by how many columns are done from the left
pub record ColumnsBack (input : List ℕ) (body : List Command) (stop n most : ℕ) (at : ℕ → Tape) : Type 0 where
  pub balanced : IsBalanced body
  pub on : (k : ℕ) → k < n → get (at k) (stop + 10 * (k + 1)) ≢ 0
  pub home : get (at n) (stop + 10 * (n + 1)) ≡ 0
  pub does : (k : ℕ) → k < n → Does input body (stop + 10 * (k + 1)) (at k) (stop + 10 * (k + 1)) (at (suc k)) most

-- the law of loops from the left
abbrev pub ColumnsAreDoneBack : Type 0
ColumnsAreDoneBack = (input : List ℕ) (body : List Command) (stop n most : ℕ) (at : ℕ → Tape) → ColumnsBack input body stop n most at
    → Does input (homewards_by body) stop (at 0) (stop + 10 * (n + 1)) (at n) (n * (most + 11) + 11)

-- what a column makes of the number that its left neighbour's z tells, by both digits and y, which goes
abbrev pub Teller : Type 0
Teller = ℕ → ℕ → ℕ → ℕ → ℕ

abbrev pub answers : Text → Teller → ℕ → ℕ → ℕ → Bool
answers text r ny nz most =
    each_below 4 (λ a. each_below 4 (λ b. each_below ny (λ y. each_below nz (λ c.
    comes lows highs text 6 (a ∷ b ∷ 0 ∷ y ∷ 0 ∷ c ∷ 1 ∷ []) (a ∷ b ∷ 0 ∷ 0 ∷ r a b y c ∷ 0 ∷ 1 ∷ []) most))))

-- the borrow passed on
abbrev pub pass_text : Text
pass_text = moves 5 4 Up home

abbrev pub passed : Teller
passed a b y c = c

-- one more where x isn't 0, which was -3 to 3
abbrev pub counts_text : Text
counts_text = Go 2 (While (ups 3 (While (Down Done) (Go 4 (Up (Go 2 Done))))) home)

abbrev pub differ_text : Text
differ_text = moves 5 4 Up (copies 1 2 3 Down (copies 0 2 3 Up counts_text))

abbrev pub differing : Teller
differing a b y c = cond (nat_eq a b) c (suc c)

abbrev pub differ_y_text : Text
differ_y_text = moves 5 4 Up (moves 3 2 Down (copies 0 2 3 Up counts_text))

abbrev pub differing_y : Teller
differing_y a b y c = cond (nat_eq a y) c (suc c)

-- z of column 0, the flag, home: the flag becomes 1 where z is 0, or z goes to it
abbrev pub answer_cells : List ℕ
answer_cells = 129 ∷ 136 ∷ 135 ∷ []

abbrev pub none_text : Text
none_text = Go 1 (Up (Go 0 (While (While (Down Done) (Go 1 (Down (Go 0 Done)))) (Go 2 Done))))

abbrev pub some_text : Text
some_text = moves 0 1 Up (Go 2 Done)

-- equality: from the left, the columns that differ are counted
abbrev pub equal_code : List Command → List Command
equal_code body = away_code ++ homewards_by body ++ spelled answer_cells 2 none_text

-- order: the borrow goes to the left, and its last value back
abbrev pub order_code : List Command → List Command
order_code body = left10 ++ onwards_code body ++ homewards_by (spelled (10 ∷ 10 ∷ 13 ∷ 16 ∷ 19 ∷ 9 ∷ 15 ∷ []) 6 pass_text) ++ spelled answer_cells 2 some_text

-- from home to home, these words become those, and the flag, which was 0, an answer
pub record Asks (code : List Command) (w w' : ℕ → ℕ) (answer : Bool) (most : ℕ) : Type 0 where
  pub does : (input : List ℕ) (t : Tape) → get t 135 ≡ 0 → get t 136 ≡ 0 → Does input code 135 (sheet t (board w)) 135 (sheet (put t 136 (cond answer 1 0)) (board w')) most

-- the flag tells whether two registers are equal, or one is less, or more
abbrev pub EqualsAreTold : Type 0
EqualsAreTold = (w : ℕ → ℕ) (d s : ℕ) → IsRegister d → IsRegister s → d ≢ s → IsBoard w → w 6 ≡ 0 → Asks (equal_code (body_of d s differ_text)) w w (nat_eq (w d) (w s)) 6400

abbrev pub LessAreTold : Type 0
LessAreTold = (w : ℕ → ℕ) (d s : ℕ) → IsRegister d → IsRegister s → d ≢ s → IsBoard w → w 6 ≡ 0 → Asks (order_code (body_of d s less_text)) w w (nat_lt (w d) (w s)) 4300

abbrev pub MoreAreTold : Type 0
MoreAreTold = (w : ℕ → ℕ) (d s : ℕ) → IsRegister d → IsRegister s → d ≢ s → IsBoard w → w 6 ≡ 0 → Asks (order_code (body_of d s more_text)) w w (nat_lt (w s) (w d)) 4300

-- the same of a register and the word in lane y, which goes
abbrev pub LaneEqualsAreTold : Type 0
LaneEqualsAreTold = (w : ℕ → ℕ) (d : ℕ) → IsRegister d → IsBoard w → Asks (equal_code (body_of d d differ_y_text)) w (set_cell w 6 0) (nat_eq (w d) (w 6)) 5700

abbrev pub LaneLessAreTold : Type 0
LaneLessAreTold = (w : ℕ → ℕ) (d : ℕ) → IsRegister d → IsBoard w → Asks (order_code (body_of d d less_y_text)) w (set_cell w 6 0) (nat_lt (w d) (w 6)) 3300

abbrev pub LaneMoreAreTold : Type 0
LaneMoreAreTold = (w : ℕ → ℕ) (d : ℕ) → IsRegister d → IsBoard w → Asks (order_code (body_of d d more_y_text)) w (set_cell w 6 0) (nat_lt (w 6) (w d)) 3300
