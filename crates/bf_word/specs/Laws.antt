-- What holds of the definitions.
use Rattle.std.specs.Prelude.{◌≡◌, ℕ, ◌^◌, ◌<◌}
use Rattle.bf_tape.specs.Tape.{Tape, get}
use Rattle.bf_word.specs.Word.{word_in, with_word, AreDistinct, IsOutside}

-- a word that was set is there, and every word and every cell beside it stays
pub record WordsAreSet : Type 0 where
  pub there : (s : Tape) (w v : ℕ) → v < 2 ^ 24 → word_in (with_word s w v) w ≡ v
  pub words_kept : (s : Tape) (w v d : ℕ) → AreDistinct w d → word_in (with_word s w v) d ≡ word_in s d
  pub cells_kept : (s : Tape) (w v c : ℕ) → IsOutside c w → get (with_word s w v) c ≡ get s c
