-- A trail of marks: each eighth cell from a first one on.
use Rattle.std.specs.Prelude.{◌≡◌, ℕ, zero, suc, ◌+◌, ◌*◌, ◌^◌, ◌<◌, List, [], ◌∷◌, ◌++◌}
use Rattle.bf_lang.specs.declared.command.Command.{Command}
use Rattle.bf_lang.specs.declared.command.Command.TheVariants.{Right, Left, Plus, Minus}
use Rattle.bf_lang.specs.Balance.{IsBalanced}
use Rattle.bf_tape.specs.Tape.{Tape, get, put}
use Rattle.bf_tape.specs.Does.{Does, loop}
use Rattle.bf_tape.specs.Code.{many}

-- the trail that begins after a cell has so many marks: they are 1, and the mark place after the last is 0, as the cell itself is
pub record Trail (s : Tape) (h n : ℕ) : Type 0 where
  pub before : get s h ≡ 0
  pub marks : (k : ℕ) → k < n → get s (h + 8 * (k + 1)) ≡ 1
  pub end : get s (h + 8 * (n + 1)) ≡ 0

abbrev pub right : List Command
right = many 8 Right

abbrev pub left : List Command
left = many 8 Left

-- from a record's mark place to the one of its second half, and back
abbrev pub there : List Command
there = many 4 Right

abbrev pub here : List Command
here = many 4 Left

-- along the marks to the trail's end, and to where it begins
abbrev pub out_code : List Command
out_code = right ++ loop right

abbrev pub back_code : List Command
back_code = left ++ loop left

-- the law of the scans
pub record Walked (input : List ℕ) (s : Tape) (h n : ℕ) : Type 0 where
  pub out : Does input out_code h s (h + 8 * (n + 1)) s (9 * (n + 1))
  pub back : Does input back_code (h + 8 * (n + 1)) s h s (9 * (n + 1))

abbrev pub TrailsAreWalked : Type 0
TrailsAreWalked = (input : List ℕ) (s : Tape) (h n : ℕ) → Trail s h n → Walked input s h n

-- so many marks from a cell on
abbrev pub laid : Tape → ℕ → ℕ → Tape
laid s h zero = s
laid s h (suc n) = put (laid s h n) (h + 8 * n) 1

-- all mark places from a cell on are 0, those of second halves too
pub record IsBlank (s : Tape) (h : ℕ) : Type 0 where
  pub at : (k : ℕ) → get s (h + 4 * k) ≡ 0

-- commands that lay so many marks from any trail's end on, and go to the new end
pub record Lays (input : List ℕ) (code : List Command) (n most : ℕ) : Type 0 where
  pub balanced : IsBalanced code
  pub does : (h : ℕ) (s : Tape) → IsBlank s h → Does input code h s (h + 8 * n) (laid s h n) most

-- so many marks one by one
abbrev pub row : ℕ → List Command
row zero = []
row (suc n) = Plus ∷ (right ++ row n)

-- one to the right, from the counter beside the trail's end to that beside the end laid meanwhile
abbrev pub pass_body : List Command
pass_body = Minus ∷ here ++ right ++ loop right ++ there ++ (Plus ∷ []) ++ here ++ left ++ loop left ++ there

-- what is laid once, with the last mark taken away; the counter brought there, and the first end marked
abbrev pub lay_turn : List Command → List Command
lay_turn lay =
    Minus ∷ here ++ right ++ lay ++ left ++ (Minus ∷ []) ++ left ++ loop left ++ there ++ loop pass_body
    ++ here ++ (Plus ∷ []) ++ right ++ loop right ++ there

-- four times what is laid once
abbrev pub four : List Command → List Command
four lay = there ++ many 4 Plus ++ loop (lay_turn lay) ++ here

-- 64 * 4^k marks
unfoldable pub far_code : ℕ → List Command
far_code zero = row 64
far_code (suc k) = four (far_code k)

-- 4^j marks
abbrev pub lay_code : ℕ → List Command
lay_code zero = row 1
lay_code (suc zero) = row 4
lay_code (suc (suc zero)) = row 16
lay_code (suc (suc (suc k))) = far_code k

abbrev pub lay_most : ℕ → ℕ
lay_most j = 4 ^ j * (75 * j + 9)

abbrev pub MarksAreLaid : Type 0
MarksAreLaid = (input : List ℕ) (j : ℕ) → Lays input (lay_code j) (4 ^ j) (lay_most j)
