-- What is told of two words that were posed.
use Rattle.std.specs.Prelude.{◌≡◌, ℕ, ◌+◌, ◌-◌, ◌*◌, ◌%◌, ◌^◌, ◌<◌, ◌≤◌, Bool, cond, nat_eq, nat_lt, List, ◌++◌, length}
use Rattle.mach_core.specs.Rule.{IsInput}
use Rattle.bf_lang.specs.declared.command.Command.{Command}
use Rattle.bf_lang.specs.Balance.{IsBalanced}
use Rattle.bf_tape.specs.Tape.{Tape, get, put}
use Rattle.bf_tape.specs.Does.{Does}
use Rattle.bf_tape.specs.Piece.{Piece}
use Rattle.bf_tape.specs.Code.{goto_code, clear_code, drain_code, times_code}
use Rattle.bf_word.specs.Word.{with_word, IsClear}
use Rattle.bf_word.specs.WordCode.{move_word_code, clear_word_code, lower_code, once_code}
use Rattle.bf_jump.specs.Pose.{told_of}

-- the answer in the cell 49: it is 0 where what is told of the words is not so
abbrev pub answer : Bool → ℕ → ℕ → Bool → ℕ
answer same a b otherwise = (cond otherwise 1 0 + (2 ^ 8 - cond (cond same (nat_eq a b) (nat_lt a b)) 1 0)) % 2 ^ 8

-- where the cell 47 is raised, the counter at cell 114 is one less and tells whether it was 0, in place of what it told before
abbrev pub same_code : ℕ → List Command
same_code h = times_code h 47 (clear_code 47 123 ++ once_code 123 114 ++ goto_code 114 47)

pub record TellsSame (old new : Piece) : Type 0 where
  pub added : List Command
  pub commands : new.commands ≡ old.commands ++ added
  pub balanced : IsBalanced added
  pub short : length added ≤ 2 ^ 11
  pub does : (input : List ℕ) (t : Tape) (v o : ℕ) (same : Bool) → IsInput input → IsClear t → v < 2 ^ 24 → get t 47 ≡ cond same 1 0
      → Does input added old.cell (put (with_word t 114 v) 123 o) new.cell (put (with_word (put t 47 0) 114 (cond same ((v + (2 ^ 24 - 1)) % 2 ^ 24) v)) 123 (cond same (cond (nat_lt v 1) 1 0) o)) (2 ^ 12)

-- the cells of the words, those to work in and the cell 47 are 0
pub record IsUntold (s : Tape) : Type 0 where
  pub first : (c : ℕ) → 87 ≤ c → c < 90 → get s c ≡ 0
  pub second : (c : ℕ) → 97 ≤ c → c < 100 → get s c ≡ 0
  pub sameness : get s 47 ≡ 0
  pub clear : IsClear s

-- the words are taken from one another, and the answer comes to the cell 49
abbrev pub tell_code : ℕ → List Command
tell_code h = move_word_code h 87 114 ++ lower_code 89 114 97 ++ same_code 99 ++ clear_word_code 47 114 ++ drain_code 116 123 49

pub record Tells (old new : Piece) : Type 0 where
  pub added : List Command
  pub commands : new.commands ≡ old.commands ++ added
  pub balanced : IsBalanced added
  pub short : length added ≤ 2 ^ 14
  pub does : (input : List ℕ) (s : Tape) (a b : ℕ) (same otherwise : Bool) → IsInput input → IsUntold s → a < 2 ^ 24 → b < 2 ^ 24
      → Does input added old.cell (told_of s a b same otherwise) new.cell (put s 49 (answer same a b otherwise)) (3 * 2 ^ 20)
