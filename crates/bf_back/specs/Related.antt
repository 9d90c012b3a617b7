-- A program of EIR and the Brainfuck program for it are at the same.
use Rattle.std.specs.Prelude.{◌≡◌, ℕ, ◌-◌, ◌<◌, ◌≤◌, false, List, length}
use Rattle.eir_core.specs.Eir.{Eir}
use Rattle.eir_core.specs.Step.{Config}
use Rattle.eir_core.specs.Words.{IsWords, IsPlaced}
use Rattle.bf_lang.specs.declared.command.Command.{Command}
use Rattle.bf_lang.specs.Step.{Config as BfConfig, open_before}
use Rattle.bf_tape.specs.Tape.{Tape, Shows}
use Rattle.bf_turn.specs.Turn.{IsSettled, choosing}

-- behind the `[` to which the last `]` goes back
abbrev pub loop_place : List Command → ℕ
loop_place code = open_before code (length code - 1) 0

-- a turn of the loop begins, on a tape that has the registers, the memory and the number of the next operation
pub record IsAtTurn (p : Eir) (code : List Command) (c : Config) (d : BfConfig) : Type 0 where
  pub place : d.place ≡ loop_place code
  pub tape : Tape
  pub shows : Shows (record { config = d; taken = tape.taken; output = tape.output }) 0 (choosing p c tape)
  pub settled : IsSettled p c tape

-- while the program runs a turn begins, and where it has ended the other one has too
pub record Related (p : Eir) (code : List Command) (c : Config) (d : BfConfig) : Type 0 where
  pub words : IsWords c
  pub placed : IsPlaced p c
  pub going : c.block < length p.blocks → IsAtTurn p code c d
  pub ended : length p.blocks ≤ c.block → (d.place ≡ length code) × (d.fell ≡ false)
