-- A word from a half record to lane y, byte by byte.
use Rattle.std.specs.Prelude.{◌≡◌, ℕ, ◌+◌, ◌-◌, ◌*◌, ◌/◌, ◌%◌, ◌<◌, List, [], ◌∷◌, ◌++◌}
use Rattle.bf_lang.specs.declared.command.Command.{Command}
use Rattle.bf_lang.specs.declared.command.Command.TheVariants.{Right, Left, Plus, Minus}
use Rattle.bf_tape.specs.Tape.{Tape, get}
use Rattle.bf_tape.specs.Does.{Does, loop}
use Rattle.bf_tape.specs.Slots.{holding}
use Rattle.bf_tape.specs.Code.{many}
use Rattle.bf_columns.specs.Lanes.{lane_cell}
use Rattle.bf_columns.specs.Deal.{deal_code, units_code}
use Rattle.bf_trail.specs.Trail.{IsBlank}
use Rattle.bf_trail.specs.Nest.{trail}
use Rattle.bf_trail.specs.Sides.{out_side_code, take_up_code, half, sided, AtHalf}
use Rattle.bf_trail.specs.Fetch.{unit_code}

-- a byte of the half record goes to where bytes are dealt, and from there to four digits; the head begins and ends at the half record
abbrev pub byte_code : ℕ → List Command
byte_code i =
    many (1 + i) Right ++ loop (Minus ∷ many (7 - i) Right ++ (Plus ∷ []) ++ many (7 - i) Left) ++ many (7 - i) Right
    ++ deal_code 4 (λ j. units_code 4 (unit_code i j)) (loop (Minus ∷ unit_code i 3)) ++ many 8 Left

-- three bytes, and home with all marks taken up
abbrev pub load_code : List Command
load_code = out_side_code ++ byte_code 0 ++ byte_code 1 ++ byte_code 2 ++ take_up_code

-- the cells to work in, at mark places right of a half record's
pub record IsIdle (s : Tape) (p : ℕ) : Type 0 where
  pub byte : get s (p + 8) ≡ 0
  pub rest : get s (p + 12) ≡ 0
  pub free : get s (p + 16) ≡ 0
  pub quarter : get s (p + 20) ≡ 0

-- lane y of the four columns that belong to a byte
abbrev pub lanes_of : ℕ → List ℕ
lanes_of i = lane_cell 6 (4 * i + 0) ∷ lane_cell 6 (4 * i + 1) ∷ lane_cell 6 (4 * i + 2) ∷ lane_cell 6 (4 * i + 3) ∷ []

-- a byte's digits there
abbrev pub given : Tape → ℕ → ℕ → Tape
given t i v = holding t (lanes_of i) (v % 4 ∷ v / 4 % 4 ∷ v / 16 % 4 ∷ v / 64 ∷ [])

-- the lane has 0 there
pub record IsEmpty (t : Tape) (i : ℕ) : Type 0 where
  pub first : get t (lane_cell 6 (4 * i + 0)) ≡ 0
  pub second : get t (lane_cell 6 (4 * i + 1)) ≡ 0
  pub third : get t (lane_cell 6 (4 * i + 2)) ≡ 0
  pub fourth : get t (lane_cell 6 (4 * i + 3)) ≡ 0

-- the law of one byte
abbrev pub BytesAreLoaded : Type 0
BytesAreLoaded =
    (input : List ℕ) (t : Tape) (n side i v : ℕ) → side < 2 → i < 3 → v < 256 → AtHalf t trail n side → IsIdle t (half trail n side) → get t (half trail n side + 1 + i) ≡ v → IsEmpty t i
    → Does input (byte_code i) (half trail n side) t (half trail n side) (given t i v) (216 * n + 22000)

-- the law of a word: on a tape with a trail and a side laid on it, from the trail's beginning to itself
abbrev pub WordsAreLoaded : Type 0
WordsAreLoaded =
    (input : List ℕ) (s : Tape) (n side a b c : ℕ) → side < 2 → a < 256 → b < 256 → c < 256 → IsBlank s (trail + 8) → get s trail ≡ 0
    → get s (half trail n side + 1 + 0) ≡ a → get s (half trail n side + 1 + 1) ≡ b → get s (half trail n side + 1 + 2) ≡ c → IsEmpty s 0 → IsEmpty s 1 → IsEmpty s 2
    → Does input load_code trail (sided s trail n side) trail (given (given (given s 0 a) 1 b) 2 c) (700 * n + 67000)
