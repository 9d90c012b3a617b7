-- Values of the stack and of the heap are signed numbers of 64 bits all along a run.
use Rattle.std.proofs.Common.{◌≡◌, ℕ, zero, suc, ◌+◌, ◌-◌, ◌*◌, ◌^◌, ◌<◌, Bool, true, false, cond, List, [], ◌∷◌, Option, None, Some, unwrap_or, length, drop, slice_get, ℤ, pos, negsuc, nat_le, nat_eq, int_lt, refl, ap, ◌∙◌, arith}
use Rattle.std.specs.Prelude.{⊤, ◌+ℤ◌, ◌-ℤ◌, ◌*ℤ◌}
use Rattle.std.specs.List.{AllByRecursion}
use Rattle.std.specs.FinMap as map
use Rattle.std.specs.Cmp.{int_cmp_total}
use Rattle.std.specs.Ordering.{int_cmp}
use Rattle.std.proofs.lemmas.Bool.Decides.{nat_tests}
use Rattle.mach_core.specs.Sparse.{value_at, with_value}
use Rattle.mach_core.specs.declared.machine.Status.{Status}
use Rattle.mach_core.specs.declared.machine.Status.TheVariants.{Going, Ended, Fault}
use Rattle.mach_core.proofs.Inputs.{fed_byte}
use Rattle.mach_core.specs.Rule.{Moment, IsInput, fed_at, if_going, stepped, applied, run_from, run, at_start}
use Rattle.mach_core.specs.Integer.{is_zero, floor_quotient, floor_remainder, is_in_range}
use Rattle.ws_lang.specs.Spelling.{signed}
use Rattle.ws_lang.specs.Instruction.{Instruction, Push, Duplicate, Swap, Discard, Copy, Slide, Add, Subtract, Multiply, Divide, Modulo, Store, Retrieve, Mark, Call, Jump, JumpIfZero, JumpIfNegative, Return, End, WriteCharacter, WriteNumber, ReadCharacter, ReadNumber, IsInRange}
use Rattle.ws_lang.specs.Laws.{SeenFits, ReadingFits, HasValuesInRange}
use Rattle.ws_lang.specs.Step.{Heap, Config, Act, Goes, Writes, Takes, Fails, Seen, Reading, Blanks, Digits, Outside, with_top, with_two, onward, going_to, computed, pushed, value_below, slid, returning, place_of, act_of, is_blank, is_digit, in_digits, reading_on, closed, after_digits, after_blanks, act_reading, act_at, act_in, act, is_taking, outcome, standing_of, ws_rule, ws_start}

abbrev Fits : ℤ → Type 0
Fits z = is_in_range z ≡ true

abbrev AllFit : List ℤ → Type 0
AllFit values = AllByRecursion Fits values

abbrev HeapFits : Heap → Type 0
HeapFits heap = (address : ℤ) → Fits (value_at (pos 0) heap address)

abbrev ActFits : Act → Type 0
ActFits (Goes d) = HasValuesInRange d
ActFits (Writes bytes d) = HasValuesInRange d
ActFits (Takes on) = (byte : ℕ) → byte < 2 ^ 8 → HasValuesInRange (on byte)
ActFits (Fails code) = ⊤

cond_fits : (b : Bool) (o u : Option ℤ) → Fits (unwrap_or o (pos 0)) → Fits (unwrap_or u (pos 0)) → Fits (unwrap_or (cond b o u) (pos 0))
cond_fits true o u p q = p
cond_fits false o u p q = q

removed : (heap : Heap) (a q : ℤ) → HeapFits heap → Fits (value_at (pos 0) (map.remove heap a) q)
removed heap a q all = ap (λ o. is_in_range (unwrap_or o (pos 0))) (map.get-remove int_cmp_total heap a q) ∙ cond_fits _ None (map.get heap q) refl (all q)

inserted : (heap : Heap) (a v q : ℤ) → Fits v → HeapFits heap → Fits (value_at (pos 0) (map.insert heap a v) q)
inserted heap a v q fits all = ap (λ o. is_in_range (unwrap_or o (pos 0))) (map.get-insert int_cmp_total heap a v q) ∙ cond_fits _ (Some v) (map.get heap q) fits (all q)

stored : (heap : Heap) (a v : ℤ) → Fits v → HeapFits heap → HeapFits (with_value is_zero heap a v)
stored heap a (pos zero) fits all q = removed heap a q all
stored heap a (pos (suc n)) fits all q = inserted heap a (pos (suc n)) q fits all
stored heap a (negsuc n) fits all q = inserted heap a (negsuc n) q fits all

byte_fits : (n : ℕ) → n < 2 ^ 8 → Fits (pos n)
byte_fits n small = grind (arith, nat_tests)

all_drop : (n : ℕ) (values : List ℤ) → AllFit values → AllFit (drop n values)
all_drop zero values all = all
all_drop (suc n) [] all = tt
all_drop (suc n) (x ∷ values) all = all_drop n values all.1

abbrev OptionFits : Option ℤ → Type 0
OptionFits None = ⊤
OptionFits (Some x) = Fits x

one_fits : (values : List ℤ) (n : ℕ) → AllFit values → OptionFits (slice_get values n)
one_fits [] n all = tt
one_fits (x ∷ values) zero all = all.0
one_fits (x ∷ values) (suc n) all = one_fits values n all.1

module _ (code : List Instruction) (c : Config) (h : HasValuesInRange c) where
  top : (stack : List ℤ) (make : ℤ → List ℤ → Act) → AllFit stack → ((x : ℤ) (rest : List ℤ) → Fits x → AllFit rest → ActFits (make x rest)) → ActFits (with_top stack make)
  top [] make all more = tt
  top (x ∷ rest) make all more = more x rest all.0 all.1

  two : (stack : List ℤ) (make : ℤ → ℤ → List ℤ → Act) → AllFit stack → ((x y : ℤ) (rest : List ℤ) → Fits x → Fits y → AllFit rest → ActFits (make x y rest)) → ActFits (with_two stack make)
  two [] make all more = tt
  two (y ∷ []) make all more = tt
  two (y ∷ x ∷ rest) make all more = more x y rest all.1.0 all.0 all.1.1

  -- with this stack in its place
  stacked : (place : ℕ) (stack : List ℤ) → AllFit stack → HasValuesInRange (record c { place = place; stack = stack })
  stacked place stack all = record { stack = all; heap = h.heap; reading = h.reading }

  computed_fits : (value : ℤ) (rest : List ℤ) → AllFit rest → ActFits (computed c value rest)
  computed_fits value rest all = by (is_in_range value) refl where
    by : (b : Bool) → is_in_range value ≡ b → ActFits (cond b (Goes (onward c (value ∷ rest))) (Fails 2))
    by true e = record { stack = (e, all); heap = h.heap; reading = h.reading }
    by false e = tt

  divided_fits : (b : Bool) (value : ℤ) (rest : List ℤ) → AllFit rest → ActFits (cond b (Fails 3) (computed c value rest))
  divided_fits true value rest all = tt
  divided_fits false value rest all = computed_fits value rest all

  pushed_fits : (o : Option ℤ) → OptionFits o → ActFits (pushed c o)
  pushed_fits None fits = tt
  pushed_fits (Some x) fits = stacked (c.place + 1) (x ∷ c.stack) (fits, h.stack)

  below_fits : (n : ℤ) → OptionFits (value_below c.stack n)
  below_fits (pos n) = one_fits c.stack n h.stack
  below_fits (negsuc n) = tt

  slid_fits : (n x : ℤ) (rest : List ℤ) → Fits x → AllFit rest → ActFits (slid c n x rest)
  slid_fits (negsuc n) x rest fits all = tt
  slid_fits (pos n) x rest fits all = by (nat_le n (length rest)) where
    by : (b : Bool) → ActFits (cond b (Goes (onward c (x ∷ drop n rest))) (Fails 1))
    by true = stacked (c.place + 1) (x ∷ drop n rest) (fits, all_drop n rest all)
    by false = tt

  either_fits : (b : Bool) (k : ℕ) (rest : List ℤ) → AllFit rest → HasValuesInRange (cond b (going_to c k rest) (onward c rest))
  either_fits true k rest all = stacked k rest all
  either_fits false k rest all = stacked (c.place + 1) rest all

  returns_fit : (returns : List ℕ) → ActFits (returning c returns)
  returns_fit [] = tt
  returns_fit (place ∷ returns) = record { stack = h.stack; heap = h.heap; reading = h.reading }

  instruction_fits : (i : Instruction) → IsInRange i → ActFits (act_of code c i)
  instruction_fits (Push n) r = stacked (c.place + 1) (n ∷ c.stack) (r.0, h.stack)
  instruction_fits Duplicate r = top c.stack _ h.stack (λ x rest p q. stacked (c.place + 1) (x ∷ x ∷ rest) (p, (p, q)))
  instruction_fits Swap r = two c.stack _ h.stack (λ x y rest p q s. stacked (c.place + 1) (x ∷ y ∷ rest) (p, (q, s)))
  instruction_fits Discard r = top c.stack _ h.stack (λ x rest p q. stacked (c.place + 1) rest q)
  instruction_fits (Copy n) r = pushed_fits (value_below c.stack n) (below_fits n)
  instruction_fits (Slide n) r = top c.stack _ h.stack (λ x rest p q. slid_fits n x rest p q)
  instruction_fits Add r = two c.stack _ h.stack (λ x y rest p q s. computed_fits (x +ℤ y) rest s)
  instruction_fits Subtract r = two c.stack _ h.stack (λ x y rest p q s. computed_fits (x -ℤ y) rest s)
  instruction_fits Multiply r = two c.stack _ h.stack (λ x y rest p q s. computed_fits (x *ℤ y) rest s)
  instruction_fits Divide r = two c.stack _ h.stack (λ x y rest p q s. divided_fits (is_zero y) (floor_quotient x y) rest s)
  instruction_fits Modulo r = two c.stack _ h.stack (λ x y rest p q s. divided_fits (is_zero y) (floor_remainder x y) rest s)
  instruction_fits Store r = two c.stack _ h.stack (λ x y rest p q s. record { stack = s; heap = stored c.heap x y q h.heap; reading = h.reading })
  instruction_fits Retrieve r = top c.stack _ h.stack (λ x rest p q. stacked (c.place + 1) (value_at (pos 0) c.heap x ∷ rest) (h.heap x, q))
  instruction_fits (Mark label) r = stacked (c.place + 1) c.stack h.stack
  instruction_fits (Call label) r = record { stack = h.stack; heap = h.heap; reading = h.reading }
  instruction_fits (Jump label) r = stacked (place_of label code) c.stack h.stack
  instruction_fits (JumpIfZero label) r = top c.stack _ h.stack (λ x rest p q. either_fits (is_zero x) (place_of label code) rest q)
  instruction_fits (JumpIfNegative label) r = top c.stack _ h.stack (λ x rest p q. either_fits (int_lt x (pos 0)) (place_of label code) rest q)
  instruction_fits Return r = returns_fit c.returns
  instruction_fits End r = record { stack = h.stack; heap = h.heap; reading = h.reading }
  instruction_fits WriteCharacter r = top c.stack _ h.stack (λ x rest p q. stacked (c.place + 1) rest q)
  instruction_fits WriteNumber r = top c.stack _ h.stack (λ x rest p q. stacked (c.place + 1) rest q)
  instruction_fits ReadCharacter r = top c.stack _ h.stack (λ x rest p q byte small. record { stack = q; heap = stored c.heap x (pos byte) (byte_fits byte small) h.heap; reading = h.reading })
  instruction_fits ReadNumber r = top c.stack _ h.stack (λ x rest p q. record { stack = q; heap = h.heap; reading = tt })

  on_fits : (address : ℤ) (seen : Seen) → SeenFits seen → HasValuesInRange (reading_on c address seen)
  on_fits address seen fits = record { stack = h.stack; heap = h.heap; reading = fits }

  closed_fits : (address value : ℤ) → Fits value → HasValuesInRange (closed c address value)
  closed_fits address value fits = record { stack = h.stack; heap = stored c.heap address value fits h.heap; reading = tt }

  seen_fits : (negative : Bool) (n : ℕ) → SeenFits (in_digits negative n)
  seen_fits negative n = by (is_in_range (signed negative n)) refl where
    by : (b : Bool) → is_in_range (signed negative n) ≡ b → SeenFits (cond b (Digits negative n) Outside)
    by true e = e
    by false e = tt

  digits_fit : (address : ℤ) (negative : Bool) (n byte : ℕ) → Fits (signed negative n) → HasValuesInRange (after_digits c address negative n byte)
  digits_fit address negative n byte fits = by (is_digit byte) where
    by : (b : Bool) → HasValuesInRange (cond b (reading_on c address (in_digits negative (10 * n + (byte - 48)))) (closed c address (signed negative n)))
    by true = on_fits address (in_digits negative (10 * n + (byte - 48))) (seen_fits negative (10 * n + (byte - 48)))
    by false = closed_fits address (signed negative n) fits

  blanks_fit : (address : ℤ) (byte : ℕ) → HasValuesInRange (after_blanks c address byte)
  blanks_fit address byte = by (is_blank byte) (nat_eq byte 43) (nat_eq byte 45) where
    by : (a b d : Bool) → HasValuesInRange (cond a (reading_on c address Blanks) (cond b (reading_on c address (Digits false 0)) (cond d (reading_on c address (Digits true 0)) (after_digits c address false 0 byte))))
    by true b d = on_fits address Blanks tt
    by false true d = on_fits address (Digits false 0) refl
    by false false true = on_fits address (Digits true 0) refl
    by false false false = digits_fit address false 0 byte refl

  seen_act_fits : (address : ℤ) (seen : Seen) → SeenFits seen → ActFits (act_reading c address seen)
  seen_act_fits address Blanks fits = λ byte small. blanks_fit address byte
  seen_act_fits address (Digits negative n) fits = λ byte small. digits_fit address negative n byte fits
  seen_act_fits address Outside fits = tt

  outcome_fits : (a : Act) (byte : ℕ) → ActFits a → byte < 2 ^ 8 → HasValuesInRange (outcome c a byte)
  outcome_fits (Goes d) byte fits small = fits
  outcome_fits (Writes bytes d) byte fits small = fits
  outcome_fits (Takes on) byte fits small = fits byte small
  outcome_fits (Fails code) byte fits small = record { stack = h.stack; heap = h.heap; reading = h.reading }

abbrev CodeFits : List Instruction → Type 0
CodeFits code = AllByRecursion IsInRange code

abbrev InstructionFits : Option Instruction → Type 0
InstructionFits None = ⊤
InstructionFits (Some i) = IsInRange i

found_fits : (code : List Instruction) (k : ℕ) → CodeFits code → InstructionFits (slice_get code k)
found_fits [] k all = tt
found_fits (i ∷ code) zero all = all.0
found_fits (i ∷ code) (suc k) all = found_fits code k all.1

there_fits : (code : List Instruction) (c : Config) → HasValuesInRange c → (o : Option Instruction) → InstructionFits o → ActFits (act_at code c o)
there_fits code c h None fits = h
there_fits code c h (Some i) fits = instruction_fits code c h i fits

act_fits : (code : List Instruction) (c : Config) → CodeFits code → HasValuesInRange c → ActFits (act code c)
act_fits code c all h = by c.reading h.reading where
  by : (reading : Option Reading) → ReadingFits reading → ActFits (act_in code c reading)
  by None fits = there_fits code c h (slice_get code c.place) (found_fits code c.place all)
  by (Some reading) fits = seen_act_fits code c h reading.address reading.seen fits

applied_fits : (code : List Instruction) (input : List ℕ) (m : Moment Config) → CodeFits code → IsInput input → HasValuesInRange m.config → HasValuesInRange (applied (ws_rule code) input m).config
applied_fits code input m all is h = by (standing_of code m.config) where
  by : (s : Status) → HasValuesInRange (if_going s (stepped (ws_rule code) input m) m).config
  by Going =
      outcome_fits code m.config h (act code m.config) (fed_at (ws_rule code) input m) (act_fits code m.config all h)
      (fed_byte (is_taking (act code m.config)) input m.taken is)
  by Ended = h
  by (Fault number) = h

run_fits : (code : List Instruction) (input : List ℕ) (m : Moment Config) (n : ℕ) → CodeFits code → IsInput input → HasValuesInRange m.config → HasValuesInRange (run_from (ws_rule code) input m n).config
run_fits code input m zero all is h = h
run_fits code input m (suc n) all is h = applied_fits code input (run_from (ws_rule code) input m n) all is (run_fits code input m n all is h)

start_fits : (address : ℤ) → Fits (value_at (pos 0) (ws_start []).heap address)
start_fits address = ap (λ o. is_in_range (unwrap_or o (pos 0))) (map.get-empty int_cmp address)

-- of a program whose numbers are
pub values_stay_in_range : (code : List Instruction) (input : List ℕ) (n : ℕ) → AllByRecursion IsInRange code → IsInput input → HasValuesInRange (run (ws_rule code) (ws_start code) input n).config
values_stay_in_range code input n all is = run_fits code input (at_start (ws_start code)) n all is (record { stack = tt; heap = start_fits; reading = tt })
