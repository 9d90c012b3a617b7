-- What an operation asks of the memory, and the commands that serve it at the end of a turn. `h` is the cell at which the head is before commands.
use Rattle.std.specs.Prelude.{◌≡◌, ℕ, ◌+◌, ◌*◌, ◌^◌, ◌<◌, ◌≤◌, List, ◌++◌, length}
use Rattle.mach_core.specs.Rule.{IsInput}
use Rattle.eir_core.specs.declared.ops.Reg.{Reg}
use Rattle.eir_core.specs.declared.ops.Reg.TheVariants.{A, B, C, D, SP, BP}
use Rattle.eir_core.specs.Memory.{Memory, word_at}
use Rattle.bf_lang.specs.declared.command.Command.{Command}
use Rattle.bf_lang.specs.Balance.{IsBalanced}
use Rattle.bf_tape.specs.Tape.{Tape, get, put}
use Rattle.bf_tape.specs.Does.{Does}
use Rattle.bf_tape.specs.Code.{goto_code, times_code}
use Rattle.bf_tape.specs.Piece.{Piece}
use Rattle.bf_word.specs.Word.{with_word}
use Rattle.bf_word.specs.WordCode.{clear_word_code, move_word_code}
use Rattle.bf_memory.specs.Row.{Holds, slot, steps_to}
use Rattle.bf_memory.specs.MemoryCode.{load_code, store_code}
use Rattle.bf_ops.specs.Frame.{cell_of, IsFrame}

-- nothing, that a register become the word at an address, or that the word at an address become another
pub data Ask : Type 0 where
  Nothing : Ask
  Loading : Reg → ℕ → Ask
  Storing : ℕ → ℕ → Ask

-- the cell that says that a load is for a register, among those behind its word
abbrev pub flag_of : Reg → ℕ
flag_of x = cell_of x + 6

-- a tape on which something is asked: the address in the cells 107 to 109, a store's word in 87 to 89, and the cell 46 raised for a load, 47 for a store
abbrev pub asking : Ask → Tape → Tape
asking Nothing s = s
asking (Loading x n) s = put (put (with_word s 107 n) (flag_of x) 1) 46 1
asking (Storing n v) s = put (with_word (with_word s 107 n) 87 v) 47 1

-- what it is when that was served
abbrev pub served : Ask → Memory → Tape → Tape
served Nothing m s = s
served (Loading x n) m s = with_word s (cell_of x) (word_at m n)
served (Storing n v) m s = with_word s (slot n) v

-- the commands that this takes at most
abbrev pub wait_of : Ask → ℕ
wait_of Nothing = 1024
wait_of (Loading x n) = steps_to n + 3 * 2 ^ 18 + 2 ^ 14
wait_of (Storing n v) = steps_to n + 2 ^ 14

-- all that is asked are words
abbrev pub IsOfWords : Ask → Type 0
IsOfWords Nothing = Unit {0}
IsOfWords (Loading x n) = n < 2 ^ 24
IsOfWords (Storing n v) = (n < 2 ^ 24) × (v < 2 ^ 24)

-- the commands that serve what is asked, of which there may be nothing
pub record Serves (old new : Piece) : Type 0 where
  pub added : List Command
  pub commands : new.commands ≡ old.commands ++ added
  pub balanced : IsBalanced added
  pub idle : (input : List ℕ) (s : Tape) → IsInput input → get s 46 ≡ 0 → get s 47 ≡ 0 → Does input added old.cell s new.cell s 1024
  pub does : (input : List ℕ) (s : Tape) (m : Memory) (ask : Ask) → IsInput input → IsFrame s → Holds m s → IsOfWords ask → Does input added old.cell (asking ask s) new.cell (served ask m s) (wait_of ask)

-- a word that was loaded goes to the register that asked
abbrev pub give_code : ℕ → Reg → List Command
give_code h x = times_code h (flag_of x) (clear_word_code (flag_of x) (cell_of x) ++ move_word_code (cell_of x + 2) 107 (cell_of x) ++ goto_code 109 (flag_of x))

abbrev pub gives_code : ℕ → List Command
gives_code h = give_code h A ++ give_code (flag_of A) B ++ give_code (flag_of B) C ++ give_code (flag_of C) D ++ give_code (flag_of D) SP ++ give_code (flag_of SP) BP

abbrev pub serve_load_code : ℕ → List Command
serve_load_code h = times_code h 46 (load_code 46 107 107 ++ gives_code 148 ++ goto_code (flag_of BP) 46)

abbrev pub serve_store_code : ℕ → List Command
serve_store_code h = times_code h 47 (store_code 47 107 87 ++ clear_word_code 151 107 ++ clear_word_code 109 87 ++ goto_code 89 47)

-- ending at cell 47
abbrev pub serve_code : ℕ → List Command
serve_code h = serve_load_code h ++ serve_store_code 46

-- where a register's flag is raised, the word in the cells 107 to 109 goes to it; where none is, nothing changes
pub record Gives (old new : Piece) (x : Reg) : Type 0 where
  pub added : List Command
  pub commands : new.commands ≡ old.commands ++ added
  pub balanced : IsBalanced added
  pub short : length added ≤ 2 ^ 13
  pub idle : (input : List ℕ) (s : Tape) → IsInput input → get s (flag_of x) ≡ 0 → Does input added old.cell s new.cell s 512
  pub given : (input : List ℕ) (s : Tape) (v : ℕ) → IsInput input → IsFrame s → v < 2 ^ 24
      → Does input added old.cell (put (with_word s 107 v) (flag_of x) 1) new.cell (with_word s (cell_of x) v) (3 * 2 ^ 18 + 2 ^ 13)

-- the one of all registers whose flag is raised gets that word
pub record GivesAny (old new : Piece) : Type 0 where
  pub added : List Command
  pub commands : new.commands ≡ old.commands ++ added
  pub balanced : IsBalanced added
  pub short : length added ≤ 2 ^ 16
  pub given : (input : List ℕ) (s : Tape) (x : Reg) (v : ℕ) → IsInput input → IsFrame s → v < 2 ^ 24
      → Does input added old.cell (put (with_word s 107 v) (flag_of x) 1) new.cell (with_word s (cell_of x) v) (3 * 2 ^ 18 + 3 * 2 ^ 12)

-- what serves loads alone, or stores alone
pub record ServesLoads (old new : Piece) : Type 0 where
  pub added : List Command
  pub commands : new.commands ≡ old.commands ++ added
  pub balanced : IsBalanced added
  pub short : length added ≤ 2 ^ 18
  pub idle : (input : List ℕ) (s : Tape) → IsInput input → get s 46 ≡ 0 → Does input added old.cell s new.cell s 512
  pub does : (input : List ℕ) (s : Tape) (m : Memory) (x : Reg) (n : ℕ) → IsInput input → IsFrame s → Holds m s → n < 2 ^ 24
      → Does input added old.cell (asking (Loading x n) s) new.cell (served (Loading x n) m s) (steps_to n + 3 * 2 ^ 18 + 7 * 2 ^ 11)

pub record ServesStores (old new : Piece) : Type 0 where
  pub added : List Command
  pub commands : new.commands ≡ old.commands ++ added
  pub balanced : IsBalanced added
  pub short : length added ≤ 2 ^ 18
  pub idle : (input : List ℕ) (s : Tape) → IsInput input → get s 47 ≡ 0 → Does input added old.cell s new.cell s 512
  pub does : (input : List ℕ) (s : Tape) (m : Memory) (n v : ℕ) → IsInput input → IsFrame s → Holds m s → n < 2 ^ 24 → v < 2 ^ 24
      → Does input added old.cell (asking (Storing n v) s) new.cell (served (Storing n v) m s) (steps_to n + 2 ^ 13)
