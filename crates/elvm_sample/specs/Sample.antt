-- What the line of a sample tells.
use Rattle.std.specs.Prelude.{◌≡◌, ℕ, ◌*◌, true, List, [], length}
use Rattle.mach_core.specs.Rule.{run}
use Rattle.eir_core.specs.Eir.{Eir}
use Rattle.eir_core.specs.Step.{eir_rule, eir_start}
use Rattle.sim_trait.specs.Bound.{sharp_bound}
use Rattle.sim_trait.specs.Faithful.{Faithful}
use Rattle.ws_lang.specs.Spelling.{ws_spells}
use Rattle.ws_lang.specs.Step.{ws_rule, ws_start}
use Rattle.ws_back.specs.Slowdown.{whitespace_slowdown}
use Rattle.elvm_sample.specs.Program.{sample_program}
use Rattle.elvm_sample.specs.Ends.{EndsAfter}
use Rattle.elvm_sample.specs.Line.{last_of, sample_line}

-- a Whitespace text that does what the program does, within the sharp bound
abbrev pub StandsFor : Eir → List ℕ → Type 0
StandsFor program text = Faithful ws_spells ws_rule ws_start (sharp_bound whitespace_slowdown true) program text

-- what the sample program of n blocks writes in its 5 n steps
abbrev pub sample_output : ℕ → List ℕ
sample_output n = (run (eir_rule (sample_program n)) (eir_start (sample_program n)) [] (5 * n)).output

-- the line of n blocks, for a Whitespace text of the sample program and the steps to that text's end, which are the same on every input
pub record IsSample (n : ℕ) (line : List ℕ) : Type 0 where
  pub text : List ℕ
  pub moves : ℕ
  pub stands : StandsFor (sample_program n) text
  pub ends : (input : List ℕ) → EndsAfter (ws_rule stands.program) (ws_start stands.program) input moves
  pub spelled : line ≡ sample_line n (last_of (sample_output n)) (length text) moves
