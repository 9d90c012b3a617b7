-- The block that a word names.
use Rattle.std.specs.Prelude.{◌≡◌, ℕ, ◌+◌, ◌-◌, ◌*◌, ◌%◌, ◌^◌, ◌<◌, ◌≤◌, nat_lt, cond, List, ◌++◌, length, slice_index}
use Rattle.mach_core.specs.Rule.{IsInput}
use Rattle.bf_lang.specs.declared.command.Command.{Command}
use Rattle.bf_lang.specs.Balance.{IsBalanced}
use Rattle.bf_tape.specs.Tape.{Tape, get, put}
use Rattle.bf_tape.specs.Does.{Does}
use Rattle.bf_tape.specs.Piece.{Piece}
use Rattle.bf_word.specs.Word.{word_in, with_word, IsClear, IsCounter}
use Rattle.bf_choice.specs.Choice.{AreFree, aimed}

-- the counter at cell 114 has no borrow, and nothing is aimed at
pub record IsCounted (d : ℕ) (s : Tape) : Type 0 where
  pub counter : IsCounter 114 s
  pub free : AreFree d s

-- the counter has no borrow, and nothing is aimed at where it is 0
pub record IsCounting (d : ℕ) (s : Tape) : Type 0 where
  pub counter : IsCounter 114 s
  pub free : word_in s 114 ≡ 0 → AreFree d s

-- the counter is one less, and a number is aimed at where it was 0
abbrev pub counted_once : ℕ → ℕ → Tape → Tape
counted_once d n s = let t = with_word s 114 ((word_in s 114 + (2 ^ 24 - 1)) % 2 ^ 24) in cond (nat_lt (word_in s 114) 1) (aimed d n t) t

-- the counter is one less for each number, and the one at which it was 0 is aimed at
abbrev pub counted : ℕ → List ℕ → Tape → Tape
counted d numbers s = aimed d (slice_index numbers (word_in s 114)) (with_word s 114 ((word_in s 114 + length numbers * (2 ^ 24 - 1)) % 2 ^ 24))

-- where the cell 44 is raised, the block of the word at cell 114 becomes the goal; else nothing changes
pub record LooksUp (old new : Piece) (d : ℕ) (numbers : List ℕ) : Type 0 where
  pub added : List Command
  pub commands : new.commands ≡ old.commands ++ added
  pub balanced : IsBalanced added
  pub short : length added ≤ length numbers * 8704 + 4096
  pub idle : (input : List ℕ) (s : Tape) → IsInput input → get s 44 ≡ 0 → Does input added old.cell s 44 s 512
  pub found : (input : List ℕ) (s : Tape) (v : ℕ) → IsInput input → AreFree d s → IsClear s → get s 44 ≡ 0 → v < 2 ^ 24
      → Does input added old.cell (put (with_word s 114 v) 44 1) 44 (aimed d (slice_index numbers v) s) (length numbers * 2 ^ 14 + 2 ^ 13)
