-- What a Frag is, and what a call adds to it.
use Rattle.std.specs.Prelude.{◌≡◌, ◌≢◌, ℕ, zero, suc, ◌+◌, ◌-◌, ◌%◌, ◌^◌, ◌<◌, ◌≤◌, Bool, false, cond, List, [], ◌∷◌, ◌++◌, length}
use Rattle.mach_core.specs.Rule.{IsInput, input_at}
use Rattle.bf_lang.specs.declared.command.Command.{Command}
use Rattle.bf_lang.specs.Balance.{IsBalanced}
use Rattle.bf_tape.specs.Tape.{Tape, get, put}
use Rattle.bf_tape.specs.Does.{Does}

-- commands, and the named cell at which the head stands after them
pub record Piece : Type 0 where
  pub commands : List Command
  pub cell : ℕ

pub record IsPiece (p : Piece) : Type 0 where
  pub balanced : IsBalanced p.commands
  pub cell : p.cell < 256

-- with these commands behind it, after which the head is at a cell
abbrev pub joined : Piece → List Command → ℕ → Piece
joined p code cell = record { commands = p.commands ++ code; cell = cell }

-- at most `long` commands came, which have this effect on each tape of this kind by running at most `most`
pub record Adds (old new : Piece) (kind : Tape → Type 0) (effect : List ℕ → Tape → Tape) (most long : ℕ) : Type 0 where
  pub added : List Command
  pub commands : new.commands ≡ old.commands ++ added
  pub short : length added ≤ long
  pub balanced : IsBalanced added
  pub does : (input : List ℕ) (s : Tape) → IsInput input → kind s → Does input added old.cell s new.cell (effect input s) most

-- on every tape
abbrev pub any : Tape → Type 0
any s = Unit {0}

-- a cell added to another, and cleared
abbrev pub moved : Tape → ℕ → ℕ → Tape
moved s from to = put (put s to ((get s to + get s from) % 2 ^ 8)) from 0

-- a cell taken from another, and cleared
abbrev pub drained : Tape → ℕ → ℕ → Tape
drained s from to = put (put s to ((get s to + (2 ^ 8 - get s from)) % 2 ^ 8)) from 0

-- a cell added to another
abbrev pub doubled : Tape → ℕ → ℕ → Tape
doubled s from to = put s to ((get s to + get s from) % 2 ^ 8)

-- a cell set to another, and a third cleared
abbrev pub copied : Tape → ℕ → ℕ → ℕ → Tape
copied s from to spare = put (put s to (get s from)) spare 0

-- the next byte of the input in a cell
abbrev pub taken_in : List ℕ → Tape → ℕ → Tape
taken_in input s c = let t = put s c (input_at input s.taken) in record { base = t.base; cells = t.cells; taken = s.taken + 1; output = s.output }

-- a cell written
abbrev pub written_out : Tape → ℕ → Tape
written_out s c = record { base = s.base; cells = s.cells; taken = s.taken; output = s.output ++ get s c ∷ [] }

-- the frame moved
abbrev pub shifted : Tape → ℕ → Bool → Tape
shifted s by right = record { base = cond right (s.base + by) (s.base - by); cells = s.cells; taken = s.taken; output = s.output }

-- to the left, the frame's base doesn't pass the first cell of the tape
abbrev pub IsRoom : ℕ → Bool → Tape → Type 0
IsRoom by right s = right ≡ false → by ≤ s.base

-- the frame in which the named cell has another name
abbrev pub renamed : Tape → ℕ → ℕ → Tape
renamed s old new = record { base = s.base + old - new; cells = s.cells; taken = s.taken; output = s.output }

-- turns of a body, from cell 0 to cell 0, as long as a cell is not 0, in so many commands
pub data Repeats (input : List ℕ) (body : List Command) (c : ℕ) : Tape → Tape → ℕ → Type 0 where
  Over : (s : Tape) → get s c ≡ 0 → Repeats input body c s s 0
  Turn : (s s' s'' : Tape) (a b : ℕ) → get s c ≢ 0 → Does input body 0 s 0 s' a → Repeats input body c s' s'' b → Repeats input body c s s'' (a + 512 + b)

-- what a loop adds
pub record Loops (old new body : Piece) (c : ℕ) : Type 0 where
  pub added : List Command
  pub commands : new.commands ≡ old.commands ++ added
  pub short : length added ≤ length body.commands + 1024
  pub balanced : IsBalanced added
  pub does : (input : List ℕ) (s s' : Tape) (n : ℕ) → IsInput input → Repeats input body.commands c s s' n → Does input added old.cell s c s' (n + 512)

-- so many turns of a body, which leaves the base, and a shift each, as long as a cell is not 0, in so many commands
pub data Walks (input : List ℕ) (body : List Command) (c by : ℕ) (right : Bool) : Tape → Tape → ℕ → ℕ → Type 0 where
  Over : (s : Tape) → get s c ≡ 0 → Walks input body c by right s s 0 0
  Turn : (s s' s'' : Tape) (t a b : ℕ) → get s c ≢ 0 → Does input body 0 s 0 s' a → s'.base ≡ s.base → IsRoom by right s' → Walks input body c by right (shifted s' by right) s'' t b
      → Walks input body c by right s s'' (suc t) (a + 1024 + b)

-- what a loop with shifts adds
pub record Strolls (old new body : Piece) (c by : ℕ) (right : Bool) : Type 0 where
  pub added : List Command
  pub commands : new.commands ≡ old.commands ++ added
  pub short : length added ≤ length body.commands + 2048
  pub balanced : IsBalanced added
  pub does : (input : List ℕ) (s s' : Tape) (t n : ℕ) → IsInput input → Walks input body.commands c by right s s' t n → Does input added old.cell s c s' (n + 512)

-- turns of a body from a cell to itself, each after the cell became one less, until it is 0, in so many commands
pub data Counts (input : List ℕ) (body : List Command) (c : ℕ) : Tape → Tape → ℕ → Type 0 where
  Over : (s : Tape) → get s c ≡ 0 → Counts input body c s s 0
  Turn : (s s' s'' : Tape) (a b k : ℕ) → get s c ≡ suc k → Does input body c (put s c k) c s' a → Counts input body c s' s'' b → Counts input body c s s'' (a + 2 + b)

-- what a counted loop adds
pub record Times (old new body : Piece) (c : ℕ) : Type 0 where
  pub added : List Command
  pub commands : new.commands ≡ old.commands ++ added
  pub short : length added ≤ length body.commands + 512
  pub balanced : IsBalanced added
  pub does : (input : List ℕ) (s s' : Tape) (n : ℕ) → IsInput input → Counts input body.commands c s s' n → Does input added old.cell s c s' (n + 512)

-- what a choice adds: the one piece where a cell is not 0, and the other where it is, each with a 1 in the cell to spare, which it keeps
pub record Chooses (old new this other : Piece) (c spare : ℕ) : Type 0 where
  pub added : List Command
  pub commands : new.commands ≡ old.commands ++ added
  pub short : length added ≤ length this.commands + length other.commands + 4096
  pub balanced : IsBalanced added
  pub does_this : (input : List ℕ) (s t : Tape) (n : ℕ) → IsInput input → get s c ≢ 0 → Does input this.commands 0 (put s spare 1) 0 t n → get t spare ≡ 1 → Does input added old.cell s spare (put (put t spare 0) c 0) (n + 8192)
  pub does_other : (input : List ℕ) (s t : Tape) (n : ℕ) → IsInput input → get s c ≡ 0 → Does input other.commands 0 (put s spare 1) 0 t n → get t spare ≡ 1 → Does input added old.cell s spare (put t spare 0) (n + 8192)
