-- The run of a Whitespace text of a sample program.
use Rattle.std.proofs.Common.{◌≡◌, ◌≢◌, ◌∙◌, Result, Ok, Err, IfOk, ℕ, ◌+◌, ◌*◌, ◌^◌, ◌≤◌, true, List, [], sym, ap, subst, arith, mul-one}
use Rattle.mach_core.specs.Rule.{IsInput, Moment, run}
use Rattle.mach_core.proofs.Growing.{same_run}
use Rattle.sim_trait.specs.Bound.{bound, sharp_bound}
use Rattle.sim_trait.specs.Consequences.{FollowedRun}
use Rattle.sim_trait.proofs.Consequence.{followed_run}
use Rattle.ws_lang.specs.declared.fault.WsFault.{WsFault}
use Rattle.ws_lang.specs.declared.fault.WsFault.TheVariants.{Memory}
use Rattle.ws_lang.specs.Instruction.{Instruction}
use Rattle.ws_lang.specs.Refusal.{IsRefused}
use Rattle.ws_lang.specs.Spelling.{signs_of, ws_spells}
use Rattle.ws_lang.specs.Step.{Config, ws_rule, ws_start}
use Rattle.ws_lang.proofs.DecodeLemmas.{one_code}
use Rattle.ws_lang.proofs.VerdictLemmas.{one_answer}
use Rattle.ws_back.specs.Slowdown.{whitespace_slowdown}
use Rattle.elvm_sample.specs.Program.{sample_program}
use Rattle.elvm_sample.specs.Ends.{EndsAfter, EndsWithin}
use Rattle.elvm_sample.specs.Sample.{StandsFor}
use Rattle.elvm_sample.proofs.Blocks.{sample_size}
use Rattle.elvm_sample.proofs.Running.{never_takes, sample_ends}

no_input : IsInput []
no_input k d within = absurd (omega arith)

alike : (n : ℕ) (text : List ℕ) (h : StandsFor (sample_program n) text) → FollowedRun (ws_rule h.program) (ws_start h.program) (sharp_bound whitespace_slowdown true) (sample_program n) []
alike n text h = followed_run (ws_rule h.program) (ws_start h.program) (sharp_bound whitespace_slowdown true) (sample_program n) h.follows [] no_input

-- the program of a text is the one that it spells
pub is_spelled : (n : ℕ) (text : List ℕ) (h : StandsFor (sample_program n) text) (code : List Instruction) → ws_spells text code → h.program ≡ code
is_spelled n text h code spelled = one_code (signs_of text) h.program code h.spelled.spelled spelled.spelled

-- it ends within the bound
pub ends_within : (n : ℕ) (text : List ℕ) (code : List Instruction) → n ≤ 20000 → StandsFor (sample_program n) text → ws_spells text code
    → EndsWithin (ws_rule code) (ws_start code) [] (2 ^ 8 * (6 * n + 1) * (5 * n + 1))
ends_within n text code few h spelled =
    let end = (alike n text h).ends (5 * n) (sample_ends n [] few).ended in
    let general : end.0 ≤ bound whitespace_slowdown (sample_program n) [] (5 * n) = omega (arith, end.1) in
    let most : end.0 ≤ 2 ^ 8 * (6 * n + 1) * (5 * n + 1) = rw (sample_size n, mul-one) at general in
    subst (λ (c : List Instruction). EndsWithin (ws_rule c) (ws_start c) [] (2 ^ 8 * (6 * n + 1) * (5 * n + 1))) (is_spelled n text h code spelled) (end.0, most, end.2)

-- it takes no byte, so that it ends so on every input
pub ends_alike : (n : ℕ) (text : List ℕ) (code : List Instruction) (moves : ℕ) → n ≤ 20000 → StandsFor (sample_program n) text → ws_spells text code
    → EndsAfter (ws_rule code) (ws_start code) [] moves → (input : List ℕ) → EndsAfter (ws_rule code) (ws_start code) input moves
ends_alike n text code moves few h spelled e input =
    let taken : (k : ℕ) → (run (ws_rule code) (ws_start code) [] k).taken ≤ 0 = subst (λ (c : List Instruction). (k : ℕ) → (run (ws_rule c) (ws_start c) [] k).taken ≤ 0) (is_spelled n text h code spelled) (λ k. omega (arith, (alike n text h).taken k, never_takes n [] k few)) in
    let same : (k : ℕ) → run (ws_rule code) (ws_start code) input k ≡ run (ws_rule code) (ws_start code) [] k =
    λ k. sym (same_run (ws_rule code) (ws_start code) [] input k (λ j less. absurd (omega (arith, less, taken k)))) in
    record {
      ended = ap (λ (m : Moment Config). (ws_rule code).standing m.config) (same moves) ∙ e.ended;
      before = λ k less. ap (λ (m : Moment Config). (ws_rule code).standing m.config) (same k) ∙ e.before k less;
    }

-- that holds of each program that the text spells
pub every_code : {E : Type 0} (n : ℕ) (text : List ℕ) (code : List Instruction) → n ≤ 20000 → StandsFor (sample_program n) text → ws_spells text code → (count : Result ℕ E)
    → IfOk count (λ moves. EndsAfter (ws_rule code) (ws_start code) [] moves)
    → IfOk count (λ moves. (other : List Instruction) (input : List ℕ) → ws_spells text other → EndsAfter (ws_rule other) (ws_start other) input moves)
every_code n text code few h spelled (Ok moves) e = λ other input also.
    let same : code ≡ other = one_code (signs_of text) code other spelled.spelled also.spelled in
    subst (λ (c : List Instruction). EndsAfter (ws_rule c) (ws_start c) input moves) same (ends_alike n text code moves few h spelled e input)
every_code n text code few h spelled (Err fault) e = tt

-- it isn't refused but for want of memory
pub only_memory : (n : ℕ) (text : List ℕ) (fault : WsFault) → StandsFor (sample_program n) text → IsRefused text fault → fault ≢ Memory → ⊥
only_memory n text fault h refused other = (one_answer text).taken h.program fault other h.spelled refused
