-- What a line tells.
use Rattle.std.proofs.Common.{◌≡◌, ◌∙◌, ℕ, List, Option, Result, Ok, Err, IfOk, Vec, Global, length, ap}
use Rattle.ws_lang.specs.Instruction.{Instruction}
use Rattle.ws_lang.specs.Spelling.{ws_spells}
use Rattle.ws_lang.specs.Step.{ws_rule, ws_start}
use Rattle.elvm_sample.specs.Program.{sample_program}
use Rattle.elvm_sample.specs.Ends.{EndsAfter}
use Rattle.elvm_sample.specs.Line.{last_of, sample_line}
use Rattle.elvm_sample.specs.Sample.{IsSample, StandsFor, sample_output}

-- the line that was made is that of the sample
pub told : {E : Type 0} (n : ℕ) (text : List ℕ) (last : Option ℕ) (count moves : ℕ) (line : Result (Vec ℕ Global) E) → StandsFor (sample_program n) text
    → ((code : List Instruction) (input : List ℕ) → ws_spells text code → EndsAfter (ws_rule code) (ws_start code) input moves)
    → last ≡ last_of (sample_output n) → count ≡ length text → IfOk line (λ l. l.items ≡ sample_line n last count moves) → IfOk line (λ l. IsSample n l.items)
told n text last count moves (Ok l) stands ends is_last is_count is = record {
  text = text;
  moves = moves;
  stands = stands;
  ends = λ input. ends stands.program input stands.spelled;
  spelled = is ∙ (ap (λ (o : Option ℕ). sample_line n o count moves) is_last ∙ ap (λ (w : ℕ). sample_line n (last_of (sample_output n)) w moves) is_count);
}
told n text last count moves (Err e) stands ends is_last is_count is = tt
