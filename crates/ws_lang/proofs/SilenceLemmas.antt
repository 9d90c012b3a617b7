-- A step that goes on meets no fault.
use Rattle.std.proofs.Common.{◌≡◌, ℕ, ◌<◌, Bool, true, false, cond, List, [], ◌∷◌, length, Option, Some, None, ℤ, pos, negsuc, ◌+ℤ◌, ◌-ℤ◌, ◌*ℤ◌, refl, sym, ap, subst, ◌∙◌, arith}
use Rattle.std.specs.Prelude.{nat_lt, nat_le, nat_eq, int_lt, slice_get}
use Rattle.mach_core.specs.declared.machine.Status.{Status}
use Rattle.mach_core.specs.declared.machine.Status.TheVariants.{Going, Ended, Fault}
use Rattle.mach_core.specs.Rule.{IsFault, if_going}
use Rattle.mach_core.specs.Integer.{is_zero, floor_quotient, floor_remainder, is_in_range}
use Rattle.ws_lang.specs.Instruction.{Instruction, Push, Duplicate, Swap, Discard, Copy, Slide, Add, Subtract, Multiply, Divide, Modulo, Store, Retrieve, Mark, Call, Jump, JumpIfZero, JumpIfNegative, Return, End, WriteCharacter, WriteNumber, ReadCharacter, ReadNumber}
use Rattle.ws_lang.specs.Step.{Config, Reading, Seen, Blanks, Digits, Outside, Act, Goes, Writes, Takes, Fails, with_top, with_two, computed, pushed, value_below, slid, returning, act_of, act_reading, act_at, act_in, act, outcome, is_taking, bytes_of, after_blanks, after_digits, is_blank, is_digit, ws_rule}
use Rattle.ws_lang.specs.Silence.{MeetsFault, FaultsAreQuiet}

-- one that goes on is at a fault only where it was before
abbrev Keeps : Config → Act → Type 0
Keeps c (Goes d) = IsFault d.status → IsFault c.status
Keeps c (Writes bytes d) = IsFault d.status → IsFault c.status
Keeps c (Takes on) = (byte : ℕ) → IsFault (on byte).status → IsFault c.status
Keeps c (Fails code) = Unit {0}

keeps_top : (c : Config) (stack : List ℤ) (f : ℤ → List ℤ → Act) → ((x : ℤ) (rest : List ℤ) → Keeps c (f x rest)) → Keeps c (with_top stack f)
keeps_top c [] f h = tt
keeps_top c (x ∷ rest) f h = h x rest

keeps_two : (c : Config) (stack : List ℤ) (f : ℤ → ℤ → List ℤ → Act) → ((x y : ℤ) (rest : List ℤ) → Keeps c (f x y rest)) → Keeps c (with_two stack f)
keeps_two c [] f h = tt
keeps_two c (y ∷ []) f h = tt
keeps_two c (y ∷ x ∷ rest) f h = h x y rest

keeps_cond : (c : Config) (b : Bool) (p q : Act) → Keeps c p → Keeps c q → Keeps c (cond b p q)
keeps_cond c true p q h k = h
keeps_cond c false p q h k = k

keeps_either : (c : Config) (b : Bool) (d e : Config) → (IsFault d.status → IsFault c.status) → (IsFault e.status → IsFault c.status) → IsFault (cond b d e).status → IsFault c.status
keeps_either c true d e h k = h
keeps_either c false d e h k = k

keeps_computed : (c : Config) (value : ℤ) (rest : List ℤ) → Keeps c (computed c value rest)
keeps_computed c value rest = keeps_cond c (is_in_range value) _ (Fails 2) (λ h. h) tt

keeps_pushed : (c : Config) (o : Option ℤ) → Keeps c (pushed c o)
keeps_pushed c None = tt
keeps_pushed c (Some x) = λ h. h

keeps_slid : (c : Config) (n x : ℤ) (rest : List ℤ) → Keeps c (slid c n x rest)
keeps_slid c (pos n) x rest = keeps_cond c (nat_le n (length rest)) _ (Fails 1) (λ h. h) tt
keeps_slid c (negsuc n) x rest = tt

keeps_returning : (c : Config) (returns : List ℕ) → Keeps c (returning c returns)
keeps_returning c [] = tt
keeps_returning c (place ∷ returns) = λ h. h

keeps_act_of : (code : List Instruction) (c : Config) (i : Instruction) → Keeps c (act_of code c i)
keeps_act_of code c (Push n) = λ h. h
keeps_act_of code c Duplicate = keeps_top c c.stack _ (λ x rest h. h)
keeps_act_of code c Swap = keeps_two c c.stack _ (λ x y rest h. h)
keeps_act_of code c Discard = keeps_top c c.stack _ (λ x rest h. h)
keeps_act_of code c (Copy n) = keeps_pushed c (value_below c.stack n)
keeps_act_of code c (Slide n) = keeps_top c c.stack _ (λ x rest. keeps_slid c n x rest)
keeps_act_of code c Add = keeps_two c c.stack _ (λ x y rest. keeps_computed c (x +ℤ y) rest)
keeps_act_of code c Subtract = keeps_two c c.stack _ (λ x y rest. keeps_computed c (x -ℤ y) rest)
keeps_act_of code c Multiply = keeps_two c c.stack _ (λ x y rest. keeps_computed c (x *ℤ y) rest)
keeps_act_of code c Divide = keeps_two c c.stack _ (λ x y rest. keeps_cond c (is_zero y) (Fails 3) _ tt (keeps_computed c (floor_quotient x y) rest))
keeps_act_of code c Modulo = keeps_two c c.stack _ (λ x y rest. keeps_cond c (is_zero y) (Fails 3) _ tt (keeps_computed c (floor_remainder x y) rest))
keeps_act_of code c Store = keeps_two c c.stack _ (λ x y rest h. h)
keeps_act_of code c Retrieve = keeps_top c c.stack _ (λ x rest h. h)
keeps_act_of code c (Mark label) = λ h. h
keeps_act_of code c (Call label) = λ h. h
keeps_act_of code c (Jump label) = λ h. h
keeps_act_of code c (JumpIfZero label) = keeps_top c c.stack _ (λ x rest. keeps_either c (is_zero x) _ _ (λ h. h) (λ h. h))
keeps_act_of code c (JumpIfNegative label) = keeps_top c c.stack _ (λ x rest. keeps_either c (int_lt x (pos 0)) _ _ (λ h. h) (λ h. h))
keeps_act_of code c Return = keeps_returning c c.returns
keeps_act_of code c End = λ h. absurd h
keeps_act_of code c WriteCharacter = keeps_top c c.stack _ (λ x rest h. h)
keeps_act_of code c WriteNumber = keeps_top c c.stack _ (λ x rest h. h)
keeps_act_of code c ReadCharacter = keeps_top c c.stack _ (λ x rest byte h. h)
keeps_act_of code c ReadNumber = keeps_top c c.stack _ (λ x rest h. h)

keeps_after_digits : (c : Config) (address : ℤ) (negative : Bool) (n byte : ℕ) → IsFault (after_digits c address negative n byte).status → IsFault c.status
keeps_after_digits c address negative n byte = keeps_either c (is_digit byte) _ _ (λ h. h) (λ h. h)

keeps_after_blanks : (c : Config) (address : ℤ) (byte : ℕ) → IsFault (after_blanks c address byte).status → IsFault c.status
keeps_after_blanks c address byte =
    keeps_either c (is_blank byte) _ _ (λ h. h)
    (keeps_either c (nat_eq byte 43) _ _ (λ h. h)
    (keeps_either c (nat_eq byte 45) _ _ (λ h. h)
    (keeps_after_digits c address false 0 byte)))

keeps_reading : (c : Config) (address : ℤ) (seen : Seen) → Keeps c (act_reading c address seen)
keeps_reading c address Blanks = keeps_after_blanks c address
keeps_reading c address (Digits negative n) = keeps_after_digits c address negative n
keeps_reading c address Outside = tt

keeps_at : (code : List Instruction) (c : Config) (o : Option Instruction) → Keeps c (act_at code c o)
keeps_at code c None = λ h. h
keeps_at code c (Some i) = keeps_act_of code c i

keeps_in : (code : List Instruction) (c : Config) (o : Option Reading) → Keeps c (act_in code c o)
keeps_in code c None = keeps_at code c (slice_get code c.place)
keeps_in code c (Some r) = keeps_reading c r.address r.seen

-- a configuration that is going was not over, and has a place within the program
going_status : (s : Status) (b : Bool) → if_going s (cond b Going (Fault 4)) s ≡ Going → s ≡ Going
going_status Going b e = refl
going_status Ended b e = e
going_status (Fault code) b e = e

-- where a place within the program is at a fault, it was met by a step
within_fault : (s : Status) (b : Bool) → b ≡ true → IsFault (if_going s (cond b Going (Fault 4)) s) → IsFault s
within_fault Going b e h = subst (λ v. IsFault (cond v Going (Fault 4))) e h
within_fault Ended b e h = h
within_fault (Fault code) b e h = h

not_fault : (s : Status) → s ≡ Going → IsFault s → ⊥
not_fault s e h = subst IsFault e h

-- a step that leads to a fault does nothing else
quiet : (c : Config) (a : Act) (byte : ℕ) → Keeps c a → c.status ≡ Going → IsFault (outcome c a byte).status → (is_taking a ≡ false) × (bytes_of a ≡ []) × (outcome c a byte ≡ record c { status = (outcome c a byte).status })
quiet c (Goes d) byte k going h = absurd (not_fault c.status going (k h))
quiet c (Writes bytes d) byte k going h = absurd (not_fault c.status going (k h))
quiet c (Takes on) byte k going h = absurd (not_fault c.status going (k byte h))
quiet c (Fails code) byte k going h = (refl, refl, refl)

-- a fault that a step met is how the configuration stands
met_standing : (s : Status) (b : Bool) → IsFault s → if_going s (cond b Going (Fault 4)) s ≡ s
met_standing Going b h = absurd h
met_standing Ended b h = absurd h
met_standing (Fault code) b h = refl

below_test : (n k : ℕ) → n < k → nat_lt n k ≡ true
below_test n k h = grind arith

met : (code : List Instruction) (c : Config) (byte : ℕ) → MeetsFault code c byte → (is_taking (act code c) ≡ false) × (bytes_of (act code c) ≡ []) × (outcome c (act code c) byte ≡ record c { status = (ws_rule code).standing (outcome c (act code c) byte) })
met code c byte m =
    let d = outcome c (act code c) byte in
    let within : nat_lt d.place (length code) ≡ true = below_test d.place (length code) m.within in
    let fault : IsFault d.status = within_fault d.status (nat_lt d.place (length code)) within m.fault in
    let all = quiet c (act code c) byte (keeps_in code c c.reading) (going_status c.status (nat_lt c.place (length code)) m.going) fault in
    (all.0, all.1, all.2 ∙ ap (λ s. record c { status = s }) (sym (met_standing d.status (nat_lt d.place (length code)) fault)))

pub faults_are_quiet : (code : List Instruction) → FaultsAreQuiet code
faults_are_quiet code = record {
  takes = λ c byte m. (met code c byte m).0;
  writes = λ c byte m. (met code c byte m).1;
  stays = λ c byte m. (met code c byte m).2;
}
