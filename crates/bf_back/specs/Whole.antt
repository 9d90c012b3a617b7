-- The whole program.
use Rattle.std.specs.Prelude.{◌≡◌, ℕ, ◌+◌, ◌*◌, ◌≤◌, ◌^◌, true, List, ◌++◌, length, map}
use Rattle.mach_core.specs.Rule.{IsInput}
use Rattle.word24.specs.Word.{number_of}
use Rattle.eir_core.specs.Eir.{Eir, IsEir, size_of}
use Rattle.eir_core.specs.Step.{eir_start}
use Rattle.sim_trait.specs.Bound.{Slowdown}
use Rattle.sim_trait.specs.Laws.{Translates}
use Rattle.bf_lang.specs.declared.command.Command.{Command}
use Rattle.bf_lang.specs.Balance.{IsBalanced}
use Rattle.bf_lang.specs.Text.{bf_spells}
use Rattle.bf_lang.specs.Step.{bf_rule, bf_start}
use Rattle.bf_lang.specs.Laws.{text_of}
use Rattle.bf_tape.specs.Does.{Does, loop}
use Rattle.bf_turn.specs.Turn.{IsTurn, choosing}
use Rattle.bf_back.specs.Data.{blank, loaded}
use Rattle.bf_back.specs.Related.{Related}

-- the numbers of a program's data words
abbrev pub words_of : Eir → List ℕ
words_of p = map number_of p.words

-- commands make the tape at which a program's first turn begins
pub record Opens (p : Eir) (setup : List Command) : Type 0 where
  pub sound : IsEir p
  pub short : length setup ≤ length p.words * 5632 + 2 ^ 15
  pub begins : (input : List ℕ) → IsInput input → Does input setup 0 blank 0 (choosing p (eir_start p) (loaded (words_of p))) (length p.words * 2 ^ 15 + 2 ^ 22)

-- a beginning, and a loop whose turns are the program's steps
pub record IsWhole (p : Eir) (code : List Command) : Type 0 where
  pub setup : List Command
  pub body : List Command
  pub parts : code ≡ setup ++ loop body
  pub balanced : IsBalanced body
  pub short : length code ≤ 32100 * size_of p + 2 ^ 18
  pub turn : IsTurn p body
  pub begins : (input : List ℕ) → IsInput input → Does input setup 0 blank 0 (choosing p (eir_start p) (loaded (words_of p))) (length p.words * 2 ^ 15 + 2 ^ 22)

-- how much slower a Brainfuck program may be: by a factor, and by how far the program reaches into its memory
abbrev pub brainfuck_slowdown : Slowdown
brainfuck_slowdown = record { factor = 2 ^ 24; by_reach = true }

-- the text of this code stands for the program
abbrev pub StandsFor : Eir → List Command → Type 0
StandsFor p code = Translates bf_spells bf_rule bf_start Related brainfuck_slowdown p (text_of code) code
