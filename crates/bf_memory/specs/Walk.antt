-- The walk along the records.
use Rattle.std.specs.Prelude.{◌≡◌, ℕ, zero, suc, ◌+◌, ◌-◌, ◌*◌, ◌%◌, ◌^◌, ◌<◌, ◌≤◌, nat_eq, Bool, cond, List, [], ◌∷◌, ◌++◌, length}
use Rattle.mach_core.specs.Rule.{IsInput}
use Rattle.bf_lang.specs.declared.command.Command.{Command}
use Rattle.bf_lang.specs.Balance.{IsBalanced}
use Rattle.bf_tape.specs.Tape.{Tape, get, put, set_cell}
use Rattle.bf_tape.specs.Slots.{holding}
use Rattle.bf_tape.specs.Does.{Does}
use Rattle.bf_tape.specs.Piece.{Piece}
use Rattle.bf_word.specs.Word.{low_byte, mid_byte, high_byte, word_in, with_word, IsClear}

-- Record k has the cells 158 + 22 * k to 179 + 22 * k: a counter, the value, the side, whether to walk on, and a mark, and then its two words. The walk out
-- begins at record -1, which lies in the cells to work in. Its frame begins at the record where it stands, and shows the next one too. The frame of the walk home
-- begins at the record before. Each record from 0 on to which the walk came has a 1 in its cell 15.

-- the cells of the left record that are carried: the address, the value, whether to walk on, and the side
abbrev pub carried : List ℕ
carried = 0 ∷ 1 ∷ 2 ∷ 10 ∷ 11 ∷ 12 ∷ 14 ∷ 13 ∷ []

-- the same cells of the right record
abbrev pub ahead : List ℕ
ahead = 22 ∷ 23 ∷ 24 ∷ 32 ∷ 33 ∷ 34 ∷ 36 ∷ 35 ∷ []

abbrev pub zeros : List ℕ
zeros = 0 ∷ 0 ∷ 0 ∷ 0 ∷ 0 ∷ 0 ∷ 0 ∷ 0 ∷ []

-- an address, three bytes, whether to walk on, and a side
abbrev pub load_of : ℕ → ℕ → ℕ → ℕ → ℕ → ℕ → List ℕ
load_of d x y z go side = low_byte d ∷ mid_byte d ∷ high_byte d ∷ x ∷ y ∷ z ∷ go ∷ side ∷ []

-- one less, of words
abbrev pub less_one : ℕ → ℕ
less_one d = (d + (2 ^ 24 - 1)) % 2 ^ 24

-- 1 where a number is not 0
abbrev pub flag : ℕ → ℕ
flag d = cond (nat_eq d 0) 0 1

-- cells in which the first so many records have a mark
abbrev pub marked : (ℕ → ℕ) → ℕ → ℕ → ℕ → ℕ
marked cells b zero = cells
marked cells b (suc j) = set_cell (marked cells b j) (b + 22 * j + 37) 1

-- the tape with the frame so many records on, and marks on the way there
abbrev pub trailed : Tape → ℕ → Tape
trailed s j = record { base = s.base + 22 * j; cells = marked s.cells s.base j; taken = s.taken; output = s.output }

-- the walk out, after so many turns, with an address left
abbrev pub walking : Tape → ℕ → ℕ → ℕ → ℕ → ℕ → ℕ → ℕ → Tape
walking s d x y z go side j = holding (trailed s j) carried (load_of d x y z go side)

-- the tape with the frame one record before
abbrev pub before : Tape → ℕ → Tape
before s j = record { base = s.base + 22 * j - 22; cells = marked s.cells s.base j; taken = s.taken; output = s.output }

-- the walk home, with so many records to go and the value in the right record
abbrev pub returning : Tape → ℕ → ℕ → ℕ → ℕ → Tape
returning s x y z j = holding (before s j) (32 ∷ 33 ∷ 34 ∷ []) (x ∷ y ∷ z ∷ [])

-- the cells 0 to 15 of each record are 0
abbrev pub IsAtRest : Tape → Type 0
IsAtRest s = (k c : ℕ) → c < 16 → s.cells (s.base + (22 * k + c)) ≡ 0

-- the cells to work in, of a frame in the walk
pub record IsFree (t : Tape) : Type 0 where
  pub left : (c : ℕ) → c < 15 → get t c ≡ 0
  pub right : (c : ℕ) → 22 ≤ c → c < 38 → get t c ≡ 0

-- what one turn of the walk out does before the shift: all that is carried goes to the right record, the address is counted down, and the right record gets a mark
abbrev pub Outward : List ℕ → List Command → ℕ → Type 0
Outward input body most =
    (t : Tape) (d x y z side : ℕ) → IsFree t → d < 2 ^ 24
    → Does input body 0 (holding t carried (load_of d x y z 1 side)) 0 (holding (put (holding t carried zeros) 37 1) ahead (load_of (less_one d) x y z (flag d) side)) most

-- what one turn of the walk home does before the shift: the mark goes, and the value goes to the left record
abbrev pub Homeward : List ℕ → List Command → ℕ → Type 0
Homeward input body most =
    (t : Tape) (x y z : ℕ) → ((c : ℕ) → 10 ≤ c → c < 13 → get t c ≡ 0)
    → Does input body 0 (holding t (32 ∷ 33 ∷ 34 ∷ []) (x ∷ y ∷ z ∷ [])) 0 (holding (put (holding t (32 ∷ 33 ∷ 34 ∷ []) (0 ∷ 0 ∷ 0 ∷ [])) 37 0) (10 ∷ 11 ∷ 12 ∷ []) (x ∷ y ∷ z ∷ [])) most

-- the tape with the frame so many cells on
abbrev pub framed : Tape → ℕ → Tape
framed s by = record { base = s.base + by; cells = s.cells; taken = s.taken; output = s.output }

-- at a record, so many records on from record -1, with a value and a side
abbrev pub at_record : Tape → ℕ → ℕ → ℕ → Tape
at_record s v side j = walking s 0 (low_byte v) (mid_byte v) (high_byte v) 0 side j

-- a piece that is a turn of the walk out
pub record GoesOut (body : Piece) : Type 0 where
  pub home : body.cell ≡ 0
  pub balanced : IsBalanced body.commands
  pub short : length body.commands ≤ 2 ^ 14
  pub does : (input : List ℕ) → IsInput input → Outward input body.commands (2 ^ 21 + 2 ^ 12)

-- a piece that is a turn of the walk home
pub record GoesHome (body : Piece) : Type 0 where
  pub home : body.cell ≡ 0
  pub balanced : IsBalanced body.commands
  pub short : length body.commands ≤ 2 ^ 13
  pub does : (input : List ℕ) → IsInput input → Homeward input body.commands (2 ^ 20)

-- what an access adds: from record -1, where an address is counted down, to the record that it counts to, the one or the other piece there, and home with a value
pub record Accesses (old new high low : Piece) : Type 0 where
  pub added : List Command
  pub commands : new.commands ≡ old.commands ++ added
  pub short : length added ≤ length high.commands + length low.commands + 2 ^ 16
  pub balanced : IsBalanced added
  pub does : (input : List ℕ) (s s' : Tape) (n v v' most : ℕ) (is_high : Bool) → IsInput input → n < 2 ^ 24 → IsAtRest (framed s 136) → IsAtRest (framed s' 136)
      → Does input (cond is_high high.commands low.commands) 0 (put (at_record (framed s 136) v (cond is_high 1 0) (n + 1)) 3 1) 0 (put (at_record (framed s' 136) v' (cond is_high 1 0) (n + 1)) 3 1) most
      → Does input added old.cell (put (with_word (with_word s 136 n) 146 v) 149 (cond is_high 1 0)) new.cell (with_word s' 146 v') (2 ^ 22 * (n + 1) + most + 2 ^ 15)

-- a piece that turns an address over to the other end of the range, and tells the side
pub record TurnsOver (body : Piece) : Type 0 where
  pub home : body.cell ≡ 123
  pub balanced : IsBalanced body.commands
  pub short : length body.commands ≤ 2 ^ 14
  pub does : (input : List ℕ) (s : Tape) (a : ℕ) → IsInput input → IsClear s → a < 2 ^ 24
      → Does input body.commands 123 (with_word s 136 a) 123 (put (with_word s 136 (2 ^ 24 - 1 - a)) 149 1) (2 ^ 21)

-- a piece that sets the value to a word of the record
pub record Fetches (arm : Piece) (word : ℕ) : Type 0 where
  pub home : arm.cell ≡ 0
  pub balanced : IsBalanced arm.commands
  pub short : length arm.commands ≤ 2 ^ 13
  pub does : (input : List ℕ) (s : Tape) → IsInput input → word_in s 10 ≡ 0 → get s 4 ≡ 0 → Does input arm.commands 0 s 0 (with_word s 10 (word_in s word)) (2 ^ 22)

-- a piece that sets a word of the record to the value, which goes
pub record Keeps (arm : Piece) (word : ℕ) : Type 0 where
  pub home : arm.cell ≡ 0
  pub balanced : IsBalanced arm.commands
  pub short : length arm.commands ≤ 2 ^ 13
  pub does : (input : List ℕ) (s : Tape) → IsInput input → Does input arm.commands 0 s 0 (with_word (with_word s word (word_in s 10)) 10 0) (2 ^ 20)
