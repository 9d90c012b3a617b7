-- The commands of the Brainfuck program of a program. `h` is the cell at which the head is before them.
use Rattle.std.specs.Prelude.{ℕ, zero, suc, true, false, List, [], ◌∷◌, ◌++◌, length}
use Rattle.word24.specs.declared.word.Word.{Word}
use Rattle.word24.specs.Word.{number_of}
use Rattle.eir_core.specs.Eir.{Eir}
use Rattle.bf_lang.specs.declared.command.Command.{Command}
use Rattle.bf_tape.specs.Code.{goto_code, add_code, shift_code, while_code}
use Rattle.bf_word.specs.WordCode.{set_code}
use Rattle.bf_choice.specs.Choice.{digit_cell, aim_code, advance_code}
use Rattle.bf_turn.specs.Number.{number_at, digits_in}
use Rattle.bf_turn.specs.Code.{turn_code}

-- the data words, and the way back
abbrev pub words_code : List Word → List Command
words_code [] = []
words_code (w ∷ words) = set_code 0 16 (number_of w) ++ shift_code 18 22 true ++ words_code words

abbrev pub back_code : ℕ → List Command
back_code zero = []
back_code (suc n) = back_code n ++ shift_code 0 22 false

abbrev pub lay_code : ℕ → List Word → List Command
lay_code h words = goto_code h 158 ++ words_code words ++ goto_code 0 0 ++ back_code (length words) ++ goto_code 0 0 ++ goto_code 158 0

-- what comes before the loop, where a number is chosen first
abbrev pub start_code : ℕ → List Word → ℕ → ℕ → List Command
start_code h words d n = lay_code h words ++ add_code 0 0 1 ++ aim_code 0 d n ++ advance_code (digit_cell 0 d) d ++ goto_code (digit_cell (digit_cell 0 d) d) 0

abbrev pub begin_code : Eir → List Command
begin_code p = start_code 0 p.words (digits_in p) (number_at p p.start 0)

-- the whole program
abbrev pub whole_code : Eir → List Command
whole_code p = begin_code p ++ while_code 0 0 (turn_code p)
