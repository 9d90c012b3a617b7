-- The tape before the first turn.
use Rattle.std.specs.Prelude.{◌≡◌, ℕ, ◌+◌, ◌-◌, ◌*◌, ◌^◌, ◌≤◌, List, [], ◌∷◌, ◌++◌, length}
use Rattle.mach_core.specs.Rule.{IsInput}
use Rattle.bf_lang.specs.declared.command.Command.{Command}
use Rattle.bf_lang.specs.Balance.{IsBalanced}
use Rattle.bf_tape.specs.Tape.{Tape, put}
use Rattle.bf_tape.specs.Does.{Does}
use Rattle.bf_tape.specs.Piece.{Piece}
use Rattle.bf_word.specs.Word.{with_word}
use Rattle.bf_choice.specs.Choice.{chosen, digits_of}

-- words in the first words of neighbouring records, from a cell on
abbrev pub laid : ℕ → List ℕ → Tape → Tape
laid cell [] s = s
laid cell (v ∷ vs) s = laid (cell + 22) vs (with_word s cell v)

-- the frame so many cells further back
abbrev pub back_by : Tape → ℕ → Tape
back_by s by = record { base = s.base - by; cells = s.cells; taken = s.taken; output = s.output }

-- the tape of a machine that starts
abbrev pub blank : Tape
blank = record { base = 0; cells = λ p. 0; taken = 0; output = [] }

-- the tape with a program's data words, and with the cell 0 raised
abbrev pub loaded : List ℕ → Tape
loaded words = put (laid 174 words blank) 0 1

-- what is added makes that tape of the blank one, and chooses a number
pub record Begins (old new : Piece) (words : List ℕ) (d start : ℕ) : Type 0 where
  pub added : List Command
  pub commands : new.commands ≡ old.commands ++ added
  pub balanced : IsBalanced added
  pub short : length added ≤ length words * 5632 + 2 ^ 15
  pub does : (input : List ℕ) → IsInput input → Does input added old.cell blank new.cell (chosen d (digits_of d start) (loaded words)) (length words * 2 ^ 15 + 2 ^ 22)
