-- A sheet of which some columns are done.
use Rattle.std.specs.Prelude.{◌≡◌, ◌≢◌, ℕ, zero, suc, ◌+◌, ◌-◌, ◌*◌, ◌<◌, ◌≤◌, nat_eq, nat_lt, true, cond, List, [], ◌∷◌, ◌++◌}
use Rattle.bf_lang.specs.declared.command.Command.{Command}
use Rattle.bf_tape.specs.Tape.{Tape}
use Rattle.bf_tape.specs.Does.{Does, loop}
use Rattle.bf_columns.specs.Columns.{left10, guide}
use Rattle.bf_columns.specs.Text.{Text, spelled}
use Rattle.bf_columns.specs.Bodies.{Rule, follows}
use Rattle.bf_columns.specs.Sheet.{Sheet, sheet, four_lanes, IsRegister, IsGuided}

-- the row of cells of a column, in a frame that begins one column left of it
abbrev pub cells_of : ℕ → ℕ → List ℕ
cells_of d s = (10 + d) ∷ (10 + s) ∷ 13 ∷ 16 ∷ 19 ∷ 9 ∷ 15 ∷ []

-- a text at one column
abbrev pub body_of : ℕ → ℕ → Text → List Command
body_of d s text = spelled (cells_of d s) 6 text

-- a text at each column from the one under the head to column 11; the head ends left of that
abbrev pub onwards_code : List Command → List Command
onwards_code body = loop (body ++ left10)

-- what is carried to the column that many left of the first, where so much comes to the first
abbrev pub carried : Rule → Sheet → ℕ → ℕ → ℕ → ℕ → ℕ → ℕ
carried r v d s first z zero = z
carried r v d s first z (suc i) = r.carry (v (first + i) d) (v (first + i) s) (v (first + i) 6) (carried r v d s first z i)

-- what a part of the rule makes of a column
abbrev pub made : (ℕ → ℕ → ℕ → ℕ → ℕ) → Rule → Sheet → ℕ → ℕ → ℕ → ℕ → ℕ → ℕ
made part r v d s first z k = part (v k d) (v k s) (v k 6) (carried r v d s first z (k - first))

-- one column after another from the first on, so many of them; other columns have something else
abbrev pub since : ℕ → ℕ → (ℕ → ℕ) → (ℕ → ℕ) → ℕ → ℕ
since first i f g k = cond (nat_lt k first) (g k) (cond (nat_lt k (first + i)) (f k) (g k))

-- the sheet where so many columns are done from the first on
abbrev pub worked : Rule → Sheet → ℕ → ℕ → ℕ → ℕ → ℕ → Sheet
worked r v d s first z i = four_lanes v d
    (since first i (made r.own r v d s first z) (λ k. v k d))
    (since first i (made r.spare r v d s first z) (λ k. 0))
    (since first i (made r.lane r v d s first z) (λ k. v k 6))
    (λ k. cond (nat_eq k (first + i)) (carried r v d s first z i) 0)

-- digits of two registers and y, and guides
pub record HasDigits (v : Sheet) (d s ny : ℕ) : Type 0 where
  pub own : (j : ℕ) → j < 12 → v j d < 4
  pub other : (j : ℕ) → j < 12 → v j s < 4
  pub lane : (j : ℕ) → j < 12 → v j 6 < ny

-- the carry stays below a number
abbrev pub Carries : Rule → ℕ → ℕ → Type 0
Carries r ny nz = (a b y z : ℕ) → a < 4 → b < 4 → y < ny → z < nz → r.carry a b y z < nz

-- the law: a text that follows a rule does its work at each column
abbrev pub ColumnsAreWorked : Type 0
ColumnsAreWorked =
    (input : List ℕ) (t : Tape) (v : Sheet) (d s first z ny nz most : ℕ) (text : Text) (r : Rule) → IsRegister d → IsRegister s → d ≢ s → first ≤ 12 → z < nz
    → IsGuided t v → HasDigits v d s ny → Carries r ny nz → follows text r ny nz most ≡ true
    → Does input (onwards_code (body_of d s text)) (guide 5 12 first) (sheet t (worked r v d s first z 0)) 5 (sheet t (worked r v d s first z (12 - first))) ((12 - first) * (most + 11) + 1)
