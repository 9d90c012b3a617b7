-- A memory of words as a row of records to the right of the frame.
use Rattle.std.specs.Prelude.{◌≡◌, ℕ, List, ◌++◌, length, ◌+◌, ◌-◌, ◌*◌, ◌^◌, ◌<◌, ◌≤◌, min, nat_eq, nat_lt, cond}
use Rattle.std.specs.FinMap as map
use Rattle.std.specs.Ordering.{nat_cmp}
use Rattle.mach_core.specs.Rule.{IsInput}
use Rattle.mach_core.specs.Sparse.{value_at, with_value}
use Rattle.bf_lang.specs.declared.command.Command.{Command}
use Rattle.bf_lang.specs.Balance.{IsBalanced}
use Rattle.bf_tape.specs.Tape.{Tape, get}
use Rattle.bf_tape.specs.Piece.{Piece}
use Rattle.bf_tape.specs.Does.{Does}
use Rattle.bf_word.specs.Word.{word_in, with_word, IsClear}

-- the words other than 0, at their addresses
abbrev pub Memory : Type 0
Memory = map.FinMap nat_cmp ℕ

abbrev pub word_at : Memory → ℕ → ℕ
word_at m address = value_at 0 m address

abbrev pub with_word_at : Memory → ℕ → ℕ → Memory
with_word_at m address word = with_value (nat_eq 0) m address word

-- how near an address is to one of the two ends
abbrev pub near : ℕ → ℕ
near a = min a (2 ^ 24 - 1 - a)

-- 1 for an address of the upper half, and else 0
abbrev pub side : ℕ → ℕ
side a = cond (nat_lt a (2 ^ 23)) 0 1

-- the first cell, counted from the base, of the word at an address: record k has the words k and 2^24 - 1 - k from cell 174 + 22 * k on
abbrev pub slot : ℕ → ℕ
slot a = cond (nat_lt a (2 ^ 23)) (174 + 22 * a) (174 + 22 * (2 ^ 24 - 1 - a) + 3)

-- the tape has the words of a memory, and nothing else in the records
pub record Holds (m : Memory) (s : Tape) : Type 0 where
  pub words : (a : ℕ) → a < 2 ^ 24 → word_in s (slot a) ≡ word_at m a
  pub empty : (k c : ℕ) → c < 16 → get s (158 + 22 * k + c) ≡ 0

-- the commands of an access to an address: so many, and so many for each record on the way there and back
abbrev pub steps_to : ℕ → ℕ
steps_to a = 3 * 2 ^ 23 * (near a + 1)

-- what `load` adds: commands that set a word of the frame to the one at an address, and change nothing else
pub record Loads (old new : Piece) (addr dst : ℕ) : Type 0 where
  pub added : List Command
  pub commands : new.commands ≡ old.commands ++ added
  pub short : length added ≤ 2 ^ 17
  pub balanced : IsBalanced added
  pub does : (input : List ℕ) (s : Tape) (m : Memory) → IsInput input → IsClear s → Holds m s
      → Does input added old.cell s new.cell (with_word s dst (word_at m (word_in s addr))) (steps_to (word_in s addr))

-- what `store` adds: commands that set the word at an address, and change nothing else
pub record Stores (old new : Piece) (addr src : ℕ) : Type 0 where
  pub added : List Command
  pub commands : new.commands ≡ old.commands ++ added
  pub short : length added ≤ 2 ^ 17
  pub balanced : IsBalanced added
  pub does : (input : List ℕ) (s : Tape) (m : Memory) → IsInput input → IsClear s → Holds m s
      → Does input added old.cell s new.cell (with_word s (slot (word_in s addr)) (word_in s src)) (steps_to (word_in s addr))

-- the law of a memory: a word that is stored on the tape is stored in the memory, and all others stay
abbrev pub StoredWordsAreHeld : Type 0
StoredWordsAreHeld = (m : Memory) (s : Tape) (a v : ℕ) → a < 2 ^ 24 → v < 2 ^ 24 → Holds m s → Holds (with_word_at m a v) (with_word s (slot a) v)
