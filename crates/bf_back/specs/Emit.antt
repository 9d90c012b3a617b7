-- Texts of a program.
use Rattle.std.specs.Prelude.{ℕ, List}
use Rattle.sim_trait.specs.Laws.{Translates}
use Rattle.eir_core.specs.Eir.{Eir}
use Rattle.bf_lang.specs.declared.command.Command.{Command}
use Rattle.bf_lang.specs.Text.{bf_spells}
use Rattle.bf_lang.specs.Step.{bf_rule, bf_start}
use Rattle.bf_lang.specs.Laws.{text_of}
use Rattle.bf_back.specs.Related.{Related}
use Rattle.bf_back.specs.Code.{whole_code}
use Rattle.bf_back.specs.Whole.{brainfuck_slowdown}

-- a text of a Brainfuck program that does what this program does, step by step
abbrev pub IsTextOf : Eir → List ℕ → Type 0
IsTextOf p text = (q : List Command) × Translates bf_spells bf_rule bf_start Related brainfuck_slowdown p text q

-- the text of the code that is defined for a program
abbrev pub program_text : Eir → List ℕ
program_text p = text_of (whole_code p)
