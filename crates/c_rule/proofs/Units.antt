-- A run that wants a byte has just spent a unit on it.
use Rattle.std.proofs.Common.{◌≡◌, ℕ, zero, suc, ◌+◌, ◌-◌, ◌≤◌, List, [], Option, Some, None, Bool, true, false, refl, sym, ap, ◌∙◌, subst, arith}
use Rattle.std.specs.Prelude.{◌||◌, drop, slice_get, codes, if◌then◌else◌}
use Rattle.std.specs.Str.{bytes_eq}
use Rattle.mach_core.specs.declared.machine.Status.TheVariants as status
use Rattle.mach_core.specs.Rule.{Moment}
use Rattle.c_syntax.specs.Words.{meaning}
use Rattle.c_syntax.specs.Plain.{CUnit}
use Rattle.c_eval.specs.State as state
use Rattle.c_eval.specs.State.{Value, Word, State, Outcome, Run}
use Rattle.c_eval.specs.Run.{after, ◌>>=◌, give, undefined, paid, spend, next_byte}
use Rattle.c_eval.specs.BuiltIns.{built_in, character}
use Rattle.c_eval.specs.Text.{text_of}
use Rattle.c_eval.specs.Meaning as end
use Rattle.c_eval.specs.Meaning.{Rules, Meaning, seen, own_rules, opening, meaning_of}
use Rattle.c_eval.proofs.Following.{more}
use Rattle.c_code.specs.Code
use Rattle.c_code.specs.Code.{Instruction}
use Rattle.c_code.specs.Machine.{Control, Program, pushed, onward, called, step_of, step_at, drive, program_of, nothing_yet, run_code, shown}
use Rattle.c_flow.proofs.Leading.{by_parts, given_on}
use Rattle.c_flow.proofs.Whole.{law_of_code}
use Rattle.c_rule.specs.Stepping.{Config, state_of, config_of, moment_of, standing_of, wants_in, takes}
use Rattle.c_rule.specs.Laws.{text_code, WantsBehindUnit, ReadsBehindUnits}
use Rattle.c_rule.proofs.Parting.{mapped, bare, behind}
use Rattle.c_rule.proofs.Fuel.{IsGoing, GoesWith, Fuelled, fuel_of, fuel_then}
use Rattle.c_rule.proofs.Parting.{give_silent, undefined_silent}
use Rattle.c_rule.proofs.Instructions.{instruction_steps, instruction_fuel, called_silent}
use Rattle.c_rule.proofs.Fits.{Safe, SafeEntry, LeadsSafely, text_leads, text_entries}
use Rattle.c_rule.proofs.Arriving.{Here, Arrives, Comes, instruction_reaches, called_reaches}
use Rattle.c_rule.proofs.Whole.{run_is}

-- ---- the last instruction

after_same : {A B : Type 0} (r : Outcome A) (f g : A → Run B) → ((a : A) (st : State) → f a st ≡ g a st) → after r f ≡ after r g
unfolding after
after_same (state.Gives a st) f g e = e a st
after_same (state.Ended st) f g e = refl
after_same (state.Going st) f g e = refl
after_same (state.Undefined act st) f g e = refl

-- the instruction at the place where a control stands
abbrev next : Program → Control → Run Control
next p d = step_at p (slice_get p.instructions d.at) d

drive_last : (p : Program) (n : ℕ) (c : Control) (st : State) → drive p (suc n) c st ≡ after (drive p n c st) (λ d. next p d)
unfolding drive give ◌>>=◌ after
drive_last p zero c st = given_on (next p c) st
drive_last p (suc n) c st = after_same (next p c st) (λ d. drive p (suc n) d) (λ d s. after (drive p n d s) (λ e. next p e)) (λ d s. drive_last p n d s) ∙ sym (by_parts (next p c st) (λ d. drive p n d) (λ e. next p e))

run_last : (p : Program) (n : ℕ) (st : State) → run_code p (suc n) st ≡ after (run_code p n st) (λ d. next p d)
unfolding run_code ◌>>=◌
run_last p n st =
    let r = called nothing_yet [] (meaning p.entries (codes "main")) [] st in
    after_same r (λ c. drive p (suc n) c) (λ c s. after (drive p n c s) (λ d. next p d)) (λ c s. drive_last p n c s) ∙ sym (by_parts r (λ c. drive p n c) (λ d. next p d))

-- a step that came to a result
record Came (r : Outcome Control) (g : Control → Run Control) (d : Control) (s : State) : Type 0 where
  control : Control
  moment : State
  from : r ≡ state.Gives control moment
  step : g control moment ≡ state.Gives d s

came : (r : Outcome Control) (g : Control → Run Control) (d : Control) (s : State) → after r g ≡ state.Gives d s → Came r g d s
unfolding after
came (state.Gives c st) g d s e = record { control = c; moment = st; from = refl; step = e }
came (state.Ended st) g d s e = absurd (cc e)
came (state.Going st) g d s e = absurd (cc e)
came (state.Undefined act st) g d s e = absurd (cc e)

-- ---- where steps come to

-- a program that leads to safe places
record Sound (p : Program) : Type 0 where
  leads : LeadsSafely p
  entries : (name : List ℕ) → SafeEntry p (meaning p.entries name)

-- what is kept behind a result; and it is safe there, or a unit was paid
record Stepped (p : Program) (i : Option Instruction) (d : Control) : Type 0 where
  here : Here p d
  at : (i ≡ Some Code.Pay → ⊥) → Safe p d.at

arrives_of : (p : Program) (r : Outcome Control) (d : Control) (s : State) → r ≡ state.Gives d s → Comes p r → Arrives p d
arrives_of p r d s e t = subst (λ x. Comes p x) e t

spent_here : (p : Program) (c : Control) (l : ℕ) (st : State) (d : Control) (s : State) → Here p c → spend (give (onward c)) l st ≡ state.Gives d s → Here p d
unfolding spend give
spent_here p c zero st d s h e = absurd (cc e)
spent_here p c (suc l) st d s h e = let same : onward c ≡ d = cc e in subst (λ x. Here p x) same (record { opened = h.opened; frames = h.frames })

instruction_stepped : (p : Program) (i : Instruction) (c : Control) (st : State) (d : Control) (s : State) → Sound p → slice_get p.instructions c.at ≡ Some i → Here p c → step_of p i c st ≡ state.Gives d s → Stepped p (Some i) d
unfolding step_of paid
instruction_stepped p Code.Pay c st d s t e h f = record { here = spent_here p c st.left st d s h f; at = λ g. absurd (g refl) }
instruction_stepped p i c st d s t e h f =
    let a = arrives_of p (step_of p i c st) d s f ((instruction_reaches p i c t.entries e h (t.leads c.at i e) refl).reaches st) in
    record { here = a.here; at = λ g. a.at }

option_stepped : (p : Program) (o : Option Instruction) (c : Control) (st : State) (d : Control) (s : State) → Sound p → slice_get p.instructions c.at ≡ o → Here p c → step_at p o c st ≡ state.Gives d s → Stepped p o d
unfolding step_at undefined
option_stepped p None c st d s t e h f = absurd (cc f)
option_stepped p (Some i) c st d s t e h f = instruction_stepped p i c st d s t e h f

-- before the first instruction
start_arrives : (p : Program) (st : State) (d : Control) (s : State) → Sound p → Safe p 1 → run_code p 0 st ≡ state.Gives d s → Arrives p d
unfolding run_code drive ◌>>=◌
start_arrives p st d s t safe e =
    let same : run_code p 0 st ≡ called nothing_yet [] (meaning p.entries (codes "main")) [] st = given_on (called nothing_yet [] (meaning p.entries (codes "main")) []) st in
    arrives_of p (called nothing_yet [] (meaning p.entries (codes "main")) [] st) d s (sym same ∙ e)
    ((called_reaches p nothing_yet [] (meaning p.entries (codes "main")) [] (record { opened = tt; frames = tt }) safe (t.entries (codes "main"))).reaches st)

run_here : (p : Program) (n : ℕ) (st : State) (d : Control) (s : State) → Sound p → Safe p 1 → run_code p n st ≡ state.Gives d s → Here p d
run_here p zero st d s t safe e = (start_arrives p st d s t safe e).here
run_here p (suc n) st d s t safe e =
    let b = came (run_code p n st) (λ c. next p c) d s (sym (run_last p n st) ∙ e) in
    (option_stepped p (slice_get p.instructions b.control.at) b.control b.moment d s t refl (run_here p n st b.control b.moment t safe b.from) b.step).here

-- ---- units

next_fuel : (p : Program) (o : Option Instruction) (c : Control) → Fuelled (step_at p o c)
unfolding step_at
next_fuel p None c = fuel_of (undefined_silent _)
next_fuel p (Some i) c = instruction_fuel p i c

drive_fuel : (p : Program) (n : ℕ) (c : Control) → Fuelled (drive p n c)
unfolding drive
drive_fuel p zero c = fuel_of (give_silent c)
drive_fuel p (suc n) c = fuel_then (next_fuel p (slice_get p.instructions c.at) c) (λ d. drive_fuel p n d)

run_fuel : (p : Program) (n : ℕ) → Fuelled (run_code p n)
unfolding run_code
run_fuel p n = fuel_then (fuel_of (called_silent nothing_yet [] (meaning p.entries (codes "main")) [])) (λ c. drive_fuel p n c)

-- the same result with fewer units
record Less (r : Outcome Control) (j : ℕ) (d : Control) (s : State) : Type 0 where
  moment : State
  from : r ≡ state.Gives d moment
  units : s ≡ more (suc j) moment

less_of : (j : ℕ) (r r' : Outcome Control) (d : Control) (s : State) → GoesWith j r r' → r' ≡ state.Gives d s → suc j ≤ s.left → Less r j d s
less_of j (state.Gives a x) r' d s g e le =
    let both : state.Gives a (more (suc j) x) ≡ state.Gives d s = sym g ∙ e in
    let same : a ≡ d = cc both in
    let units : more (suc j) x ≡ s = cc both in
    record { moment = x; from = ap (λ c. state.Gives c x) same; units = sym units }
less_of j (state.Ended x) r' d s g e le = absurd (cc (sym g ∙ e))
less_of j (state.Undefined act x) r' d s g e le = absurd (cc (sym g ∙ e))
less_of j (state.Going x) r' d s g e le =
    let few : s.left ≤ j = (subst (λ (y : Outcome Control). (IsGoing y → ⊥) → (state_of y).left ≤ j) e g) (λ b. b) in
    absurd (omega (arith, few, le))

-- a unit that was paid
record Paid (c : Control) (st : State) (d : Control) (s : State) : Type 0 where
  units : st.left ≡ suc s.left
  output : s.output ≡ st.output
  taken : s.taken ≡ st.taken

paid_unit : (c : Control) (l : ℕ) (st : State) (d : Control) (s : State) → st.left ≡ l → spend (give (onward c)) l st ≡ state.Gives d s → Paid c st d s
unfolding spend give
paid_unit c zero st d s f e = absurd (cc e)
paid_unit c (suc l) st d s f e =
    let same : record st { left = l } ≡ s = cc e in
    let left : l ≡ s.left = ap (λ x. x.left) same in
    record { units = omega (arith, f, left); output = sym (ap (λ x. x.output) same); taken = sym (ap (λ x. x.taken) same) }

none_left : (c : Control) (st : State) (l : ℕ) → l ≡ 0 → spend (give (onward c)) l st ≡ state.Going st
unfolding spend
none_left c st zero e = refl
none_left c st (suc l) e = absurd (cc e)

-- ---- a byte is taken

record Took (st : State) (r : Outcome Control) : Type 0 where
  to : Control
  from : r ≡ state.Gives to (record st { taken = st.taken + 1 })

took_by : (a b : Bool) (input : List ℕ) (c : Control) (rest : List Value) (z : Run Value) (st : State) → (a || b) ≡ true →
    Took st (((if a then (next_byte input >>= λ c. give (character c)) else if b then (next_byte input >>= λ c. give (Word c)) else z) >>= λ v. give (pushed c rest v)) st)
unfolding next_byte ◌>>=◌ after give
took_by true b input c rest z st e = record { to = _; from = refl }
took_by false true input c rest z st e = record { to = _; from = refl }
took_by false false input c rest z st e = absurd (cc e)

instruction_took : (p : Program) (i : Instruction) (c : Control) (st : State) → takes (Some i) ≡ true → Took st (step_of p i c st)
unfolding step_of built_in
instruction_took p (Code.BuiltIn name params n) c st e = took_by (bytes_eq name (codes "getchar")) (bytes_eq name (codes "__builtin_getc")) p.input c (drop n c.stack) _ st e
instruction_took p i c st e = absurd (cc e)

option_took : (p : Program) (o : Option Instruction) (c : Control) (st : State) → takes o ≡ true → Took st (step_at p o c st)
unfolding step_at
option_took p None c st e = absurd (cc e)
option_took p (Some i) c st e = instruction_took p i c st e

-- ---- without units nothing more is taken

abbrev Dry : Program → ℕ → Outcome Control → Type 0
Dry p t (state.Gives d s) = Arrives p d × ((s.left ≡ 0) × (s.taken ≡ t))
Dry p t (state.Ended s) = s.taken ≡ t
Dry p t (state.Going s) = s.taken ≡ t
Dry p t (state.Undefined act s) = s.taken ≡ t

same_taken : (st : State) (r : Outcome Control) → (state_of (mapped (λ s. behind st s) r)).taken ≡ st.taken
same_taken st (state.Gives a s) = refl
same_taken st (state.Ended s) = refl
same_taken st (state.Going s) = refl
same_taken st (state.Undefined act s) = refl

dry_of : (p : Program) (t : ℕ) (r : Outcome Control) → (state_of r).taken ≡ t → (state_of r).left ≤ 0 → ((d : Control) (s : State) → r ≡ state.Gives d s → Arrives p d) → Dry p t r
dry_of p t (state.Gives d s) e le h = (h d s refl, (omega (arith, le), e))
dry_of p t (state.Ended s) e le h = e
dry_of p t (state.Going s) e le h = e
dry_of p t (state.Undefined act s) e le h = e

pay_arrives : (p : Program) (c : Control) (st : State) (d : Control) (s : State) → st.left ≡ 0 → spend (give (onward c)) st.left st ≡ state.Gives d s → Arrives p d
pay_arrives p c st d s none f = absurd (cc (sym (none_left c st st.left none) ∙ f))

dry_arrives : (p : Program) (i : Instruction) (c : Control) (st : State) (d : Control) (s : State) → Sound p → slice_get p.instructions c.at ≡ Some i → Arrives p c → st.left ≡ 0 → step_of p i c st ≡ state.Gives d s → Arrives p d
unfolding step_of paid
dry_arrives p Code.Pay c st d s sound e a none f = pay_arrives p c st d s none f
dry_arrives p i c st d s sound e a none f = arrives_of p (step_of p i c st) d s f ((instruction_reaches p i c sound.entries e a.here (sound.leads c.at i e) refl).reaches st)

dry_instruction : (p : Program) (t : ℕ) (i : Instruction) (c : Control) (st : State) → Sound p → slice_get p.instructions c.at ≡ Some i → Arrives p c → st.left ≡ 0 → st.taken ≡ t → Dry p t (step_of p i c st)
dry_instruction p t i c st sound e a none took =
    let quiet : takes (Some i) ≡ false = ap takes (sym e) ∙ a.at in
    let taken : (state_of (step_of p i c st)).taken ≡ t = ap (λ (r : Outcome Control). (state_of r).taken) ((instruction_steps p i c quiet).writes.writes st) ∙ (same_taken st (step_of p i c (bare st)) ∙ took) in
    let spent : (state_of (step_of p i c st)).left ≤ st.left = (instruction_fuel p i c).spends st in
    dry_of p t (step_of p i c st) taken (omega (arith, spent, none)) (λ d s f. dry_arrives p i c st d s sound e a none f)

dry_option : (p : Program) (t : ℕ) (o : Option Instruction) (c : Control) (st : State) → Sound p → slice_get p.instructions c.at ≡ o → Arrives p c → st.left ≡ 0 → st.taken ≡ t → Dry p t (step_at p o c st)
unfolding step_at undefined
dry_option p t None c st sound e a none took = took
dry_option p t (Some i) c st sound e a none took = dry_instruction p t i c st sound e a none took

dry_after : (p : Program) (t : ℕ) (r : Outcome Control) → Sound p → Dry p t r → Dry p t (after r (λ d. next p d))
unfolding after
dry_after p t (state.Gives d s) sound h = dry_option p t (slice_get p.instructions d.at) d s sound refl h.0 h.1.0 h.1.1
dry_after p t (state.Ended s) sound h = h
dry_after p t (state.Going s) sound h = h
dry_after p t (state.Undefined act s) sound h = h

run_dry : (p : Program) (t n m : ℕ) (st : State) → Sound p → Dry p t (run_code p n st) → Dry p t (run_code p (m + n) st)
run_dry p t n zero st sound h = let e : n ≡ zero + n = omega arith in subst (λ k. Dry p t (run_code p k st)) e h
run_dry p t n (suc m) st sound h =
    let e : suc (m + n) ≡ suc m + n = omega arith in
    subst (λ k. Dry p t (run_code p k st)) e (subst (λ r. Dry p t r) (sym (run_last p (m + n) st)) (dry_after p t (run_code p (m + n) st) sound (run_dry p t n m st sound h)))

dry_taken : (p : Program) (t : ℕ) (r : Outcome Control) (m : Meaning) → Dry p t r → shown r ≡ Some m → m.taken ≡ t
dry_taken p t (state.Gives d s) m h e = absurd (cc e)
dry_taken p t (state.Ended s) m h e = let same : seen end.Ended s ≡ m = cc e in sym (ap (λ (x : Meaning). x.taken) same) ∙ h
dry_taken p t (state.Going s) m h e = let same : seen end.Going s ≡ m = cc e in sym (ap (λ (x : Meaning). x.taken) same) ∙ h
dry_taken p t (state.Undefined act s) m h e = let same : seen (end.Undefined act) s ≡ m = cc e in sym (ap (λ (x : Meaning). x.taken) same) ∙ h

going_stays : (p : Program) (n m : ℕ) (st s : State) → run_code p n st ≡ state.Going s → run_code p (m + n) st ≡ state.Going s
unfolding after
going_stays p n zero st s e = let z : zero + n ≡ n = omega arith in ap (λ k. run_code p k st) z ∙ e
going_stays p n (suc m) st s e = let z : suc m + n ≡ suc (m + n) = omega arith in ap (λ k. run_code p k st) z ∙ (run_last p (m + n) st ∙ ap (λ r. after r (λ d. next p d)) (going_stays p n m st s e))

-- ---- the whole

sound : (u : CUnit) (input : List ℕ) → Sound (program_of (own_rules u) (text_of u) input)
sound u input = record { leads = text_leads (own_rules u) (text_of u) input; entries = text_entries (own_rules u) (text_of u) input }

-- so many units less one, which is spent on the byte
going_before : (u : CUnit) (input : List ℕ) (n f : ℕ) (c : Control) (s : State) → run_code (program_of (own_rules u) (text_of u) input) n (opening (text_of u) f) ≡ state.Gives c s → s.left ≡ 0 →
    slice_get (program_of (own_rules u) (text_of u) input).instructions c.at ≡ Some Code.Pay → meaning_of u input f ≡ seen end.Going s
unfolding after step_at step_of paid
going_before u input n f c s e none pay =
    let p = program_of (own_rules u) (text_of u) input in
    let st = opening (text_of u) f in
    let law = law_of_code u input f in
    let stops : run_code p (suc n) st ≡ state.Going s =
    run_last p n st ∙ (ap (λ r. after r (λ d. next p d)) e ∙ (ap (λ o. step_at p o c s) pay ∙ none_left c s s.left none)) in
    let stays : run_code p (law.0 + suc n) st ≡ state.Going s = going_stays p (suc n) law.0 st s stops in
    let shows : Some (seen end.Going s) ≡ Some (meaning_of u input f) = sym (ap shown stays) ∙ law.1 (suc n) in
    sym (cc shows)

taken_behind : (u : CUnit) (input : List ℕ) (n f : ℕ) (c : Control) (s : State) → run_code (program_of (own_rules u) (text_of u) input) n (opening (text_of u) f) ≡ state.Gives c s → s.left ≡ 0 →
    takes (slice_get (program_of (own_rules u) (text_of u) input).instructions c.at) ≡ true → (meaning_of u input f).taken ≡ s.taken + 1
unfolding after
taken_behind u input n f c s e none w =
    let p = program_of (own_rules u) (text_of u) input in
    let st = opening (text_of u) f in
    let law = law_of_code u input f in
    let took = option_took p (slice_get p.instructions c.at) c s w in
    let goes : run_code p (suc n) st ≡ state.Gives took.to (record s { taken = s.taken + 1 }) = run_last p n st ∙ (ap (λ r. after r (λ d. next p d)) e ∙ took.from) in
    let stepped = option_stepped p (slice_get p.instructions c.at) c s took.to (record s { taken = s.taken + 1 }) (sound u input) refl (run_here p n st c s (sound u input) refl e) took.from in
    let arrives : Arrives p took.to = record { at = stepped.at (λ g. absurd (cc (sym (ap takes g) ∙ w))); here = stepped.here } in
    let dry : Dry p (s.taken + 1) (run_code p (suc n) st) = subst (λ r. Dry p (s.taken + 1) r) (sym goes) (arrives, (none, refl)) in
    dry_taken p (s.taken + 1) (run_code p (law.0 + suc n) st) (meaning_of u input f) (run_dry p (s.taken + 1) (suc n) law.0 st (sound u input) dry) (law.1 (suc n))

-- with fewer units, of which enough are left
fewer : (u : CUnit) (input : List ℕ) (n fuel f j : ℕ) (c : Control) (s : State) → fuel ≡ f + suc j → run_code (program_of (own_rules u) (text_of u) input) n (opening (text_of u) fuel) ≡ state.Gives c s → suc j ≤ s.left →
    Less (run_code (program_of (own_rules u) (text_of u) input) n (opening (text_of u) f)) j c s
fewer u input n fuel f j c s split e le =
    let p = program_of (own_rules u) (text_of u) input in
    let g : GoesWith j (run_code p n (opening (text_of u) f)) (run_code p n (opening (text_of u) (f + suc j))) = (run_fuel p n).goes_with j (opening (text_of u) f) in
    less_of j (run_code p n (opening (text_of u) f)) (run_code p n (opening (text_of u) fuel)) c s (subst (λ k. GoesWith j (run_code p n (opening (text_of u) f)) (run_code p n (opening (text_of u) k))) (sym split) g) e le

-- at a byte with just so many units as were spent
at_byte : (u : CUnit) (input : List ℕ) (n fuel f j : ℕ) (d : Control) (s : State) → fuel ≡ f + j → s.left ≡ j → run_code (program_of (own_rules u) (text_of u) input) n (opening (text_of u) fuel) ≡ state.Gives d s →
    takes (slice_get (program_of (own_rules u) (text_of u) input).instructions d.at) ≡ true → (meaning_of u input f).taken ≡ s.taken + 1
at_byte u input n fuel f zero d s split left e w =
    let same : fuel ≡ f = omega (arith, split) in
    taken_behind u input n f d s (ap (λ k. run_code (program_of (own_rules u) (text_of u) input) n (opening (text_of u) k)) (sym same) ∙ e) left w
at_byte u input n fuel f (suc j) d s split left e w =
    let t = fewer u input n fuel f j d s split e (omega (arith, left)) in
    let units : s.left ≡ t.moment.left + suc j = ap (λ x. x.left) t.units in
    let taken : s.taken ≡ t.moment.taken = ap (λ x. x.taken) t.units in
    taken_behind u input n f d t.moment t.from (omega (arith, units, left)) w ∙ ap (λ k. k + 1) (sym taken)

-- what was shown before a unit was paid is shown behind it
shown_same : (m : Meaning) (st s : State) → m ≡ seen end.Going st → s.output ≡ st.output → s.taken ≡ st.taken → m ≡ record { end = end.Going; output = s.output; taken = s.taken }
shown_same m st s e output taken = e ∙ (ap (λ o. record { end = end.Going; output = o; taken = st.taken }) (sym output) ∙ ap (λ t. record { end = end.Going; output = s.output; taken = t }) (sym taken))

-- with the units that were spent before the last one the run stops where that is wanted
stops_before : (u : CUnit) (input : List ℕ) (n fuel f : ℕ) (c d : Control) (st s : State) → run_code (program_of (own_rules u) (text_of u) input) n (opening (text_of u) fuel) ≡ state.Gives c st →
    slice_get (program_of (own_rules u) (text_of u) input).instructions c.at ≡ Some Code.Pay → Paid c st d s → fuel ≡ f + suc s.left → meaning_of u input f ≡ record { end = end.Going; output = s.output; taken = s.taken }
stops_before u input n fuel f c d st s e pay unit split =
    let units = unit.units in
    let less = fewer u input n fuel f s.left c st split e (omega (arith, units)) in
    let left : st.left ≡ less.moment.left + suc s.left = ap (λ x. x.left) less.units in
    let output : st.output ≡ less.moment.output = ap (λ x. x.output) less.units in
    let taken : st.taken ≡ less.moment.taken = ap (λ x. x.taken) less.units in
    shown_same (meaning_of u input f) less.moment s (going_before u input n f c less.moment less.from (omega (arith, left, units)) pay) (unit.output ∙ output) (unit.taken ∙ taken)

at_pay : (u : CUnit) (input : List ℕ) (n fuel : ℕ) (c d : Control) (st s : State) → run_code (program_of (own_rules u) (text_of u) input) n (opening (text_of u) fuel) ≡ state.Gives c st →
    slice_get (program_of (own_rules u) (text_of u) input).instructions c.at ≡ Some Code.Pay → Paid c st d s → run_code (program_of (own_rules u) (text_of u) input) (suc n) (opening (text_of u) fuel) ≡ state.Gives d s →
    takes (slice_get (program_of (own_rules u) (text_of u) input).instructions d.at) ≡ true → WantsBehindUnit u input fuel (moment_of (state.Gives d s))
at_pay u input n fuel c d st s e pay unit f w =
    let spent : st.left ≤ fuel = subst (λ (r : Outcome Control). (state_of r).left ≤ fuel) e ((run_fuel (program_of (own_rules u) (text_of u) input) n).spends (opening (text_of u) fuel)) in
    let units = unit.units in
    let split : fuel ≡ (fuel - suc s.left) + suc s.left = omega (arith, spent, units) in
    let split_one : fuel ≡ ((fuel - suc s.left) + 1) + s.left = omega (arith, spent, units) in
    record {
      units = fuel - suc s.left;
      below = omega (arith, spent, units);
      before = stops_before u input n fuel (fuel - suc s.left) c d st s e pay unit split;
      behind = at_byte u input (suc n) fuel ((fuel - suc s.left) + 1) s.left d s split_one refl f w;
    }

is_paid : (o : Option Instruction) → ((o ≡ Some Code.Pay → ⊥) → ⊥) → o ≡ Some Code.Pay
is_paid None h = absurd (h (λ g. cc g))
is_paid (Some Code.Pay) h = refl
is_paid (Some i) h = absurd (h (λ g. cc g))

-- a step that pays, where it comes to a place that isn't safe
pays : (p : Program) (c d : Control) (st s : State) → Stepped p (slice_get p.instructions c.at) d → takes (slice_get p.instructions d.at) ≡ true → slice_get p.instructions c.at ≡ Some Code.Pay
pays p c d st s stepped w = is_paid (slice_get p.instructions c.at) (λ g. cc (sym (stepped.at g) ∙ w))

paid_step : (p : Program) (c d : Control) (st s : State) → slice_get p.instructions c.at ≡ Some Code.Pay → next p c st ≡ state.Gives d s → Paid c st d s
unfolding step_at step_of paid
paid_step p c d st s pay e = paid_unit c st.left st d s refl (sym (ap (λ o. step_at p o c st) pay) ∙ e)

-- the step before is the one that pays
behind_unit : (u : CUnit) (input : List ℕ) (fuel count : ℕ) (d : Control) (s : State) → run_code (program_of (own_rules u) (text_of u) input) count (opening (text_of u) fuel) ≡ state.Gives d s →
    takes (slice_get (program_of (own_rules u) (text_of u) input).instructions d.at) ≡ true → WantsBehindUnit u input fuel (moment_of (state.Gives d s))
behind_unit u input fuel zero d s e w = absurd (cc (sym (start_arrives (program_of (own_rules u) (text_of u) input) (opening (text_of u) fuel) d s (sound u input) refl e).at ∙ w))
behind_unit u input fuel (suc n) d s e w =
    let p = program_of (own_rules u) (text_of u) input in
    let st = opening (text_of u) fuel in
    let b = came (run_code p n st) (λ c. next p c) d s (sym (run_last p n st) ∙ e) in
    let kept = run_here p n st b.control b.moment (sound u input) refl b.from in
    let pay = pays p b.control d b.moment s (option_stepped p (slice_get p.instructions b.control.at) b.control b.moment d s (sound u input) refl kept b.step) w in
    at_pay u input n fuel b.control d b.moment s b.from pay (paid_step p b.control d b.moment s pay b.step) e w

wanting : (u : CUnit) (input : List ℕ) (fuel count : ℕ) (r : Outcome Control) → run_code (program_of (own_rules u) (text_of u) input) count (opening (text_of u) fuel) ≡ r → standing_of (config_of r) ≡ status.Going → wants_in (text_code u) (config_of r) ≡ true →
    WantsBehindUnit u input fuel (moment_of r)
wanting u input fuel count (state.Gives d s) e going wants = behind_unit u input fuel count d s e wants
wanting u input fuel count (state.Ended s) e going wants = absurd (cc going)
wanting u input fuel count (state.Going s) e going wants = absurd (cc going)
wanting u input fuel count (state.Undefined act s) e going wants = absurd (cc going)

pub reads_behind_units : ReadsBehindUnits
reads_behind_units u input fuel count going wants =
    let r = run_code (program_of (own_rules u) (text_of u) input) count (opening (text_of u) fuel) in
    let law = run_is u input fuel count in
    let stands : standing_of (config_of r) ≡ status.Going = sym (ap (λ (m : Moment Config). standing_of m.config) law) ∙ going in
    let wanted : wants_in (text_code u) (config_of r) ≡ true = sym (ap (λ (m : Moment Config). wants_in (text_code u) m.config) law) ∙ wants in
    subst (λ m. WantsBehindUnit u input fuel m) (sym law) (wanting u input fuel count r refl stands wanted)
