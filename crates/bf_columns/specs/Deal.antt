-- A byte dealt to four digits.
use Rattle.std.specs.Prelude.{◌≡◌, ℕ, zero, suc, ◌+◌, ◌*◌, ◌/◌, ◌%◌, ◌<◌, ◌≤◌, List, [], ◌∷◌, ◌++◌}
use Rattle.bf_lang.specs.declared.command.Command.{Command}
use Rattle.bf_lang.specs.declared.command.Command.TheVariants.{Right, Left, Plus, Minus}
use Rattle.bf_lang.specs.Balance.{IsBalanced}
use Rattle.bf_tape.specs.Tape.{Tape, get, put, set_cell}
use Rattle.bf_tape.specs.Does.{Does, loop}
use Rattle.bf_tape.specs.Code.{many}

-- a unit taken from the byte for what is over, and then another one, and so on
abbrev pub split_level : ℕ → List Command → List Command
split_level by inner = Minus ∷ many by Right ++ (Plus ∷ []) ++ many by Left ++ loop inner

-- the fourth unit: what is over is 0 again, and the quarter one more. The head stays at what is over
abbrev pub split_last : ℕ → List Command
split_last by = Minus ∷ many by Right ++ many 3 Minus ++ many (2 * by) Right ++ (Plus ∷ []) ++ many (2 * by) Left

abbrev pub split_turn : ℕ → List Command
split_turn by = split_level by (split_level by (split_level by (split_last by))) ++ many by Left

-- cells at distances of `by`: a guard, the byte, what is over, a free one, the quarter
abbrev pub split_code : ℕ → List Command
split_code by = loop (split_turn by) ++ many (2 * by) Right

-- the first where nothing is over, and else the second
abbrev pub over : ℕ → ℕ → ℕ → ℕ
over a b zero = a
over a b (suc r) = b

-- the row of cells, and what they hold
pub record IsRow (s : Tape) (g by n m : ℕ) : Type 0 where
  pub guard : get s g ≡ 0
  pub byte : get s (g + by) ≡ n
  pub rest : get s (g + 2 * by) ≡ 0
  pub quarter : get s (g + 4 * by) ≡ m

abbrev pub split_most : ℕ → ℕ → ℕ
split_most by n = (n / 4 + 1) * (12 * by + 32) + 2 * by + 1

-- the law of split4: the head ends at what is over where that isn't 0, and else at the free cell
abbrev pub SplitDividesByFour : Type 0
SplitDividesByFour =
    (input : List ℕ) (s : Tape) (g by n m : ℕ) → 1 ≤ by → n < 256 → m + n / 4 < 256 → IsRow s g by n m
    → Does input (split_code by) (g + by) s (over (g + 3 * by) (g + 2 * by) (n % 4)) (put (put (put s (g + 4 * by) (m + n / 4)) (g + 2 * by) (n % 4)) (g + by) 0) (split_most by n)

-- the quarter becomes the byte, from the free cell to the byte
abbrev pub quarter_code : ℕ → List Command
quarter_code by = many by Right ++ loop (Minus ∷ many (3 * by) Left ++ (Plus ∷ []) ++ many (3 * by) Right) ++ many (3 * by) Left

-- one digit: what is over is given out by a body, from there to the free cell
abbrev pub part_code : ℕ → List Command → List Command
part_code by body = split_code by ++ loop body ++ quarter_code by

-- three digits by bodies, and the highest one by a last piece, which finds it in the byte
abbrev pub deal_code : ℕ → (ℕ → List Command) → List Command → List Command
deal_code by body last = part_code by (body 0) ++ part_code by (body 1) ++ part_code by (body 2) ++ last

-- a body that gives out as many units as are over, by a unit from what is over to itself
abbrev pub units_code : ℕ → List Command → List Command
units_code by unit = loop (Minus ∷ unit) ++ many by Right

-- the row over a tape
abbrev pub row_of : Tape → ℕ → ℕ → ℕ → ℕ → ℕ → Tape
row_of t g by n r q = put (put (put t (g + 4 * by) q) (g + 2 * by) r) (g + by) n

-- bodies that set digits, of which the tape is a function, from 0 to what is over, which goes; and a piece that sets the highest to the byte
pub record Gives (input : List ℕ) (at : (ℕ → ℕ) → Tape) (g by cost : ℕ) (body : ℕ → List Command) (last : List Command) : Type 0 where
  pub balanced : (j : ℕ) → IsBalanced (body j)
  pub guard : (u : ℕ → ℕ) → get (at u) g ≡ 0
  pub free : (u : ℕ → ℕ) → get (at u) (g + 3 * by) ≡ 0
  pub low : (j : ℕ) (u : ℕ → ℕ) (r q : ℕ) → j < 3 → 1 ≤ r → r < 4 → u j ≡ 0
      → Does input (body j) (g + 2 * by) (row_of (at u) g by 0 r q) (g + 3 * by) (row_of (at (set_cell u j r)) g by 0 0 q) cost
  pub top : (u : ℕ → ℕ) (n : ℕ) → n < 4 → u 3 ≡ 0 → Does input last (g + by) (row_of (at u) g by n 0 0) (g + by) (row_of (at (set_cell u 3 n)) g by 0 0 0) cost

-- units of digits: each adds one to its digit, and comes back to where it began: to what is over, but the last digit's to the byte
pub record Units (input : List ℕ) (at : (ℕ → ℕ) → Tape) (g by cost : ℕ) (unit : ℕ → List Command) : Type 0 where
  pub balanced : (j : ℕ) → IsBalanced (unit j)
  pub guard : (u : ℕ → ℕ) → get (at u) g ≡ 0
  pub free : (u : ℕ → ℕ) → get (at u) (g + 3 * by) ≡ 0
  pub low : (j : ℕ) (u : ℕ → ℕ) (n r q : ℕ) → j < 3 → u j < 3
      → Does input (unit j) (g + 2 * by) (row_of (at u) g by n r q) (g + 2 * by) (row_of (at (set_cell u j (u j + 1))) g by n r q) cost
  pub top : (u : ℕ → ℕ) (n r q : ℕ) → u 3 < 3 → Does input (unit 3) (g + by) (row_of (at u) g by n r q) (g + by) (row_of (at (set_cell u 3 (u 3 + 1))) g by n r q) cost

-- the law: loops of units give digits out
abbrev pub UnitsGive : Type 0
UnitsGive =
    (input : List ℕ) (at : (ℕ → ℕ) → Tape) (g by cost : ℕ) (unit : ℕ → List Command) → 1 ≤ by → Units input at g by cost unit
    → Gives input at g by (3 * cost + 7 + by) (λ j. units_code by (unit j)) (loop (Minus ∷ unit 3))

-- the digits of a byte
abbrev pub dealt : ℕ → (ℕ → ℕ) → ℕ → ℕ
dealt n u = set_cell (set_cell (set_cell (set_cell u 0 (n % 4)) 1 (n / 4 % 4)) 2 (n / 16 % 4)) 3 (n / 64)

-- the law: where the digits are 0, a byte goes to them
abbrev pub BytesAreDealt : Type 0
BytesAreDealt =
    (input : List ℕ) (at : (ℕ → ℕ) → Tape) (g by cost : ℕ) (body : ℕ → List Command) (last : List Command) (u : ℕ → ℕ) (n : ℕ) → 1 ≤ by → n < 256
    → Gives input at g by cost body last → u 0 ≡ 0 → u 1 ≡ 0 → u 2 ≡ 0 → u 3 ≡ 0
    → Does input (deal_code by body last) (g + by) (row_of (at u) g by n 0 0) (g + by) (row_of (at (dealt n u)) g by 0 0 0) (4 * cost + 1800 * by + 4000)
