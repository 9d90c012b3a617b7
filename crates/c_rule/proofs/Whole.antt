-- The rule runs flat code.
use Rattle.std.proofs.Common.{◌≡◌, ◌≢◌, ℕ, zero, suc, ◌+◌, ◌≤◌, List, [], ◌∷◌, ◌++◌, Option, Some, None, Bool, true, false, refl, sym, ap, ◌∙◌, arith, append-nil}
use Rattle.std.specs.Prelude.{nat_le, cond, ◌||◌, drop, slice_get, codes, if◌then◌else◌}
use Rattle.std.specs.Str.{bytes_eq}
use Rattle.mach_core.specs.declared.machine.Status.TheVariants as status
use Rattle.mach_core.specs.Rule.{Moment, input_at, stepped, run_from, run, at_start}
use Rattle.mach_core.proofs.Runs.{run_from-add, run_from-still, run_from-over}
use Rattle.mach_core.proofs.Growing.{output_grows_to}
use Rattle.c_syntax.specs.Words.{meaning}
use Rattle.c_syntax.specs.Plain.{CUnit}
use Rattle.c_eval.specs.State as state
use Rattle.c_eval.specs.State.{Value, Word, HelperLimit, State, Outcome, Run}
use Rattle.c_eval.specs.Run.{after, ◌>>=◌, give, next_byte, objects_now, with_objects, most_charge}
use Rattle.c_eval.specs.Memory.{enter}
use Rattle.c_eval.specs.Operators.{all_converted}
use Rattle.c_eval.specs.BuiltIns.{built_in, character}
use Rattle.c_eval.specs.Text.{text_of}
use Rattle.c_eval.specs.Meaning as end
use Rattle.c_eval.specs.Meaning.{argument_objects, Meaning, seen, own_rules, opening, meaning_of}
use Rattle.c_code.specs.Code
use Rattle.c_code.specs.Code.{Instruction}
use Rattle.c_code.specs.Machine.{Control, Entry, Program, arguments, pushed, begun, called, called_through, step_of, step_at, drive, program_of, nothing_yet, run_code, shown}
use Rattle.c_flow.proofs.Whole.{law_of_code}
use Rattle.c_rule.specs.Stepping.{code_of, state_of, config_of, moment_of, takes, fed, code_rule, Config, At, store_of}
use Rattle.c_rule.specs.Laws.{RuleRunsCode, RuleMeansText, RunsBeginMeanings, text_code, text_start, told}
use Rattle.c_rule.proofs.Parting.{mapped, bare, behind, Writes, writes_of, undefined_silent}
use Rattle.c_rule.proofs.Instructions.{instruction_steps}

-- ---- the input

neither_same : (a b : Bool) (x x' y y' z : Run Value) → (a || b) ≡ false → (if a then x else if b then y else z) ≡ (if a then x' else if b then y' else z)
neither_same false false x x' y y' z e = refl
neither_same false true x x' y y' z e = absurd (cc e)
neither_same true b x x' y y' z e = absurd (cc e)

built_same : (i j name : List ℕ) (vs : List Value) → (bytes_eq name (codes "getchar") || bytes_eq name (codes "__builtin_getc")) ≡ false → built_in i false name vs ≡ built_in j false name vs
unfolding built_in
built_same i j name vs e = neither_same (bytes_eq name (codes "getchar")) (bytes_eq name (codes "__builtin_getc")) _ _ _ _ _ e

-- an instruction that takes nothing does the same on another input
same_input : (p : Program) (byte : ℕ) (i : Instruction) (c : Control) → takes (Some i) ≡ false → step_of p i c ≡ step_of (fed (code_of p) byte) i c
unfolding step_of called_through
same_input p byte (Code.BuiltIn name params n) c e =
    ap (λ (m : Run Value). m >>= λ v. give (pushed c (drop n c.stack) v)) (built_same p.input (byte ∷ []) name (all_converted params (arguments n c.stack)) e)
same_input p byte i c e = refl

-- ---- one step

-- what a step makes of a moment, by what the instruction does by itself
abbrev step_moment : Bool → State → Outcome Control → Moment Config
step_moment taking st r = record { config = config_of r; taken = cond taking (st.taken + 1) st.taken; output = st.output ++ (state_of r).output }

moment_behind : (st : State) (r : Outcome Control) → moment_of (mapped (λ s. behind st s) r) ≡ step_moment false st r
moment_behind st (state.Gives c s) = refl
moment_behind st (state.Ended s) = refl
moment_behind st (state.Going s) = refl
moment_behind st (state.Undefined act s) = refl

writing_moment : {m : Run Control} (st : State) → Writes m → moment_of (m st) ≡ step_moment false st (m (bare st))
writing_moment {m = m} st t = ap moment_of (t.writes st) ∙ moment_behind st (m (bare st))

abbrev one_taken : Control → List Value → Value → State → List ℕ → Moment Config
one_taken c rest v st output = record { config = At (pushed c rest v) (store_of st); taken = st.taken + 1; output = output }

-- an instruction that takes a byte
taking_moment : (a b : Bool) (input : List ℕ) (c : Control) (rest : List Value) (z z' : Run Value) (st : State) → (a || b) ≡ true →
    moment_of (((if a then (next_byte input >>= λ c. give (character c)) else if b then (next_byte input >>= λ c. give (Word c)) else z) >>= λ v. give (pushed c rest v)) st)
    ≡ step_moment true st (((if a then (next_byte (input_at input st.taken ∷ []) >>= λ c. give (character c)) else if b then (next_byte (input_at input st.taken ∷ []) >>= λ c. give (Word c)) else z') >>= λ v. give (pushed c rest v)) (bare st))
unfolding next_byte ◌>>=◌ after give
taking_moment true b input c rest z z' st e = ap (one_taken c rest (character (input_at input st.taken)) st) (sym (append-nil st.output))
taking_moment false true input c rest z z' st e = ap (one_taken c rest (Word (input_at input st.taken)) st) (sym (append-nil st.output))
taking_moment false false input c rest z z' st e = absurd (cc e)

instruction_taking : (p : Program) (i : Instruction) (c : Control) (st : State) → takes (Some i) ≡ true → moment_of (step_of p i c st) ≡ step_moment true st (step_of (fed (code_of p) (input_at p.input st.taken)) i c (bare st))
unfolding step_of built_in
instruction_taking p (Code.BuiltIn name params n) c st e = taking_moment (bytes_eq name (codes "getchar")) (bytes_eq name (codes "__builtin_getc")) p.input c (drop n c.stack) _ _ st e
instruction_taking p i c st e = absurd (cc e)

by_taking : (p : Program) (i : Instruction) (c : Control) (st : State) (b : Bool) → takes (Some i) ≡ b → moment_of (step_of p i c st) ≡ step_moment b st (step_of (fed (code_of p) (cond b (input_at p.input st.taken) 0)) i c (bare st))
by_taking p i c st true e = instruction_taking p i c st e
by_taking p i c st false e = ap (λ (m : Run Control). moment_of (m st)) (same_input p 0 i c e) ∙ writing_moment st (instruction_steps (fed (code_of p) 0) i c e).writes

-- a step by itself, behind what was taken and written
one_step : (p : Program) (i : Option Instruction) (c : Control) (st : State) → moment_of (step_at p i c st) ≡ step_moment (takes i) st (step_at (fed (code_of p) (cond (takes i) (input_at p.input st.taken) 0)) i c (bare st))
unfolding step_at
one_step p None c st = writing_moment st (writes_of (undefined_silent HelperLimit))
one_step p (Some i) c st = by_taking p i c st (takes (Some i)) refl

-- ---- so many steps

ended_not_going : status.Ended ≢ status.Going
ended_not_going e = absurd (cc e)

fault_not_going : (code : ℕ) → status.Fault code ≢ status.Going
fault_not_going code e = absurd (cc e)

-- behind an outcome
goes_on : (p : Program) (n : ℕ) (r : Outcome Control) → ((c : Control) (st : State) → run_from (code_rule (code_of p)) p.input (moment_of (state.Gives c st)) n ≡ moment_of (drive p n c st)) →
    run_from (code_rule (code_of p)) p.input (moment_of r) n ≡ moment_of (after r (λ d. drive p n d))
unfolding after
goes_on p n (state.Gives c st) h = h c st
goes_on p n (state.Ended st) h = run_from-still (code_rule (code_of p)) p.input (moment_of (state.Ended st)) n ended_not_going
goes_on p n (state.Going st) h = run_from-still (code_rule (code_of p)) p.input (moment_of (state.Going st)) n (fault_not_going 0)
goes_on p n (state.Undefined act st) h = run_from-still (code_rule (code_of p)) p.input (moment_of (state.Undefined act st)) n (fault_not_going _)

pub rule_runs_code : RuleRunsCode
unfolding drive give ◌>>=◌
rule_runs_code p c st zero = refl
rule_runs_code p c st (suc n) =
    let rule = code_rule (code_of p) in
    let m = moment_of (state.Gives c st) in
    let one_first : suc n ≡ 1 + n = omega arith in
    let first : stepped rule p.input m ≡ moment_of (step_at p (slice_get p.instructions c.at) c st) = sym (one_step p (slice_get p.instructions c.at) c st) in
    ap (run_from rule p.input m) one_first
    ∙ (run_from-add rule p.input m 1 n
    ∙ (ap (λ (x : Moment Config). run_from rule p.input x n) first
    ∙ goes_on p n (step_at p (slice_get p.instructions c.at) c st) (λ d s. rule_runs_code p d s n)))

-- ---- whole texts

begun_start : (b : Bool) (n : ℕ) (m : Run Control) (st : State) → moment_of (m (record st { charge = st.charge + n })) ≡ record { config = config_of (m (record st { charge = st.charge + n })); taken = st.taken; output = st.output } →
    moment_of (begun b n m st) ≡ record { config = config_of (begun b n m st); taken = st.taken; output = st.output }
unfolding begun
begun_start false n m st e = refl
begun_start true n m st e = e

-- the opening call takes nothing and writes nothing
called_start : (entry : Option Entry) (st : State) → moment_of (called nothing_yet [] entry [] st) ≡ record { config = config_of (called nothing_yet [] entry [] st); taken = st.taken; output = st.output }
unfolding called enter objects_now with_objects ◌>>=◌ after give
called_start None st = refl
called_start (Some e) st = begun_start (nat_le (st.charge + e.charge) most_charge) e.charge _ st refl

shown_told : (r : Outcome Control) (m : Meaning) → shown r ≡ Some m → moment_of r ≡ told m
shown_told (state.Gives c st) m e = absurd (cc e)
shown_told (state.Ended st) m e = let same : seen end.Ended st ≡ m = cc e in ap told same
shown_told (state.Going st) m e = let same : seen end.Going st ≡ m = cc e in ap told same
shown_told (state.Undefined act st) m e = let same : seen (end.Undefined act) st ≡ m = cc e in ap told same

-- so many steps from a text's start
pub run_is : (u : CUnit) (input : List ℕ) (fuel n : ℕ) → run (code_rule (text_code u)) (text_start u fuel) input n ≡ moment_of (run_code (program_of (own_rules u) (text_of u) input) n (opening (text_of u) fuel))
unfolding run_code ◌>>=◌
run_is u input fuel n =
    let p = program_of (own_rules u) (text_of u) input in
    let st = opening (text_of u) fuel in
    ap (λ (x : Moment Config). run_from (code_rule (code_of p)) input x n) (sym (called_start (meaning p.entries (codes "main")) st))
    ∙ goes_on p n (called nothing_yet [] (meaning p.entries (codes "main")) [] st) (λ c s. rule_runs_code p c s n)

pub rule_means_text : RuleMeansText
rule_means_text u input fuel =
    let law = law_of_code u input fuel in
    (law.0, λ n. run_is u input fuel (law.0 + n) ∙ shown_told (run_code (program_of (own_rules u) (text_of u) input) (law.0 + n) (opening (text_of u) fuel)) (meaning_of u input fuel) (law.1 n))

-- a run of so many steps begins what the text means
pub runs_begin_meanings : RunsBeginMeanings
runs_begin_meanings u input fuel count =
    let rule = code_rule (text_code u) in
    let start = text_start u fuel in
    let law = rule_means_text u input fuel in
    let le : count ≤ law.0 + count = omega arith in
    let more = output_grows_to rule start input count (law.0 + count) le in
    record {
      output = (more.0, more.1 ∙ ap (λ (m : Moment Config). m.output) (law.1 count));
      stopped = λ still. sym (run_from-over rule input (at_start start) count (law.0 + count) le still) ∙ law.1 count;
    }
