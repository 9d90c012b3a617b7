-- Only an instruction that pays leads to one that takes a byte.
use Rattle.std.proofs.Common.{◌≡◌, ℕ, zero, suc, ◌+◌, List, [], ◌∷◌, Option, Some, None, Bool, true, false, refl}
use Rattle.std.specs.Prelude.{nat_le, ◌==◌, drop, slice_get, if◌then◌else◌}
use Rattle.c_syntax.specs.Words.{meaning}
use Rattle.c_eval.specs.State as state
use Rattle.c_eval.specs.State.{Value, Word, Null, Function, Missing, Act, Cell, Unset, Holds, State, Outcome, Run}
use Rattle.c_eval.specs.Run.{after, ◌>>=◌, give, undefined, exit, spend, paid, recharged, most_charge}
use Rattle.c_eval.specs.Memory.{cells_at, offset_of}
use Rattle.c_eval.specs.Operators.{of_word, is_true, all_converted}
use Rattle.c_eval.specs.BuiltIns.{cells_from}
use Rattle.c_code.specs.Code
use Rattle.c_code.specs.Code.{Instruction}
use Rattle.c_code.specs.Machine.{Open, Block, Handler, Frame, Control, Entry, Program, with_top, with_two, arguments, returned_to, broken_off, continued, left_block, begun, at_entry, called, called_through, digit_put, letter_put, step_of}
use Rattle.c_rule.proofs.Fits.{Safe, targets, AllSafe, SafeEntry, safe_here}

-- ---- what is kept

abbrev pub SafeAgain : Program → Option ℕ → Type 0
SafeAgain p None = Unit {0}
SafeAgain p (Some again) = Safe p again

pub record SafeHandler (p : Program) (again : Option ℕ) (past : ℕ) : Type 0 where
  pub on_continue : SafeAgain p again
  pub on_break : Safe p past

-- `break` and `continue` lead to safe places
abbrev pub SafeOpen : Program → List Open → Type 0
SafeOpen p [] = Unit {0}
SafeOpen p (Block n slots ∷ os) = SafeOpen p os
SafeOpen p (Handler again past ∷ os) = SafeHandler p again past × SafeOpen p os

pub record SafeFrame (p : Program) (f : Frame) : Type 0 where
  pub back : Safe p f.back
  pub opened : SafeOpen p f.opened

-- and so does a return
abbrev pub SafeFrames : Program → List Frame → Type 0
SafeFrames p [] = Unit {0}
SafeFrames p (f ∷ fs) = SafeFrame p f × SafeFrames p fs

-- what a machine keeps leads to safe places
pub record Here (p : Program) (c : Control) : Type 0 where
  pub opened : SafeOpen p c.opened
  pub frames : SafeFrames p c.frames

-- and so does where it stands
pub record Arrives (p : Program) (c : Control) : Type 0 where
  pub at : Safe p c.at
  pub here : Here p c

abbrev pub Comes : Program → Outcome Control → Type 0
Comes p (state.Gives d s) = Arrives p d
Comes p _ = Unit {0}

pub record Reaches (p : Program) (m : Run Control) : Type 0 where
  pub reaches : (st : State) → Comes p (m st)

-- ---- words

reach_give : (p : Program) (d : Control) → Arrives p d → Reaches p (give d)
unfolding give
reach_give p d t = record { reaches = λ st. t }

reach_undefined : (p : Program) (act : Act) → Reaches p (undefined act)
unfolding undefined
reach_undefined p act = record { reaches = λ st. tt }

reach_exit : (p : Program) → Reaches p exit
unfolding exit
reach_exit p = record { reaches = λ st. tt }

reach_recharged : (p : Program) (n : ℕ) (d : Control) → Arrives p d → Reaches p (recharged n d)
unfolding recharged
reach_recharged p n d t = record { reaches = λ st. t }

comes_after : {A : Type 0} (p : Program) (r : Outcome A) (f : A → Run Control) → ((a : A) → Reaches p (f a)) → Comes p (after r f)
unfolding after
comes_after p (state.Gives a s) f t = (t a).reaches s
comes_after p (state.Ended s) f t = tt
comes_after p (state.Going s) f t = tt
comes_after p (state.Undefined act s) f t = tt

reach_then : {A : Type 0} (p : Program) (m : Run A) {f : A → Run Control} → ((a : A) → Reaches p (f a)) → Reaches p (m >>= f)
unfolding ◌>>=◌
reach_then p m {f = f} t = record { reaches = λ st. comes_after p (m st) f t }

reach_top : (p : Program) (stack : List Value) {f : Value → List Value → Run Control} → ((v : Value) (rest : List Value) → Reaches p (f v rest)) → Reaches p (with_top stack f)
unfolding with_top
reach_top p [] t = reach_undefined p _
reach_top p (v ∷ vs) t = t v vs

reach_two : (p : Program) (stack : List Value) {f : Value → Value → List Value → Run Control} → ((x y : Value) (rest : List Value) → Reaches p (f x y rest)) → Reaches p (with_two stack f)
unfolding with_two
reach_two p [] t = reach_undefined p _
reach_two p (y ∷ []) t = reach_undefined p _
reach_two p (y ∷ x ∷ vs) t = t x y vs

reach_word : (p : Program) (v : Value) {f : ℕ → Run Control} → ((n : ℕ) → Reaches p (f n)) → Reaches p (of_word v f)
unfolding of_word
reach_word p (Word n) t = t n
reach_word p v t = reach_undefined p _

comes_spend : (p : Program) (m : Run Control) (l : ℕ) (st : State) → Reaches p m → Comes p (spend m l st)
unfolding spend
comes_spend p m zero st t = tt
comes_spend p m (suc l) st t = t.reaches (record st { left = l })

reach_paid : (p : Program) {m : Run Control} → Reaches p m → Reaches p (paid false m)
unfolding paid
reach_paid p {m = m} t = record { reaches = λ st. comes_spend p m st.left st t }

comes_begun : (p : Program) (b : Bool) (n : ℕ) (m : Run Control) (st : State) → Reaches p m → Comes p (begun b n m st)
unfolding begun
comes_begun p false n m st t = tt
comes_begun p true n m st t = t.reaches (record st { charge = st.charge + n })

reach_if : (p : Program) (b : Bool) (d e : Control) → Arrives p d → Arrives p e → Reaches p (give (if b then d else e))
reach_if p true d e t u = reach_give p d t
reach_if p false d e t u = reach_give p e u

safe_if : (p : Program) (b : Bool) (m n : ℕ) → Safe p m → Safe p n → Safe p (if b then m else n)
safe_if p true m n t u = t
safe_if p false m n t u = u

-- ---- the machine's words

-- at another place, with what was kept
arrived : (p : Program) (c : Control) (at : ℕ) (stack : List Value) → Here p c → Safe p at → Arrives p (record c { at = at; stack = stack })
arrived p c at stack h safe = record { at = safe; here = record { opened = h.opened; frames = h.frames } }

on : (p : Program) (c : Control) (at : ℕ) (stack : List Value) → Here p c → Safe p at → Reaches p (give (record c { at = at; stack = stack }))
on p c at stack h safe = reach_give p _ (arrived p c at stack h safe)

pub called_reaches : (p : Program) (c : Control) (rest : List Value) (entry : Option Entry) (vs : List Value) → Here p c → Safe p (suc c.at) → SafeEntry p entry → Reaches p (called c rest entry vs)
unfolding called
called_reaches p c rest None vs h safe t = record { reaches = λ st. tt }
called_reaches p c rest (Some e) vs h safe t = record {
  reaches = λ st. comes_begun p (nat_le (st.charge + e.charge) most_charge) e.charge _ st
      (reach_then p _ (λ n. reach_give p (at_entry c rest e vs st.charge n) (record { at = t; here = record { opened = tt; frames = (record { back = safe; opened = h.opened }, h.frames) } })));
}

through_reaches : (p : Program) (c : Control) (rest : List Value) (v : Value) (vs : List Value) → Here p c → Safe p (suc c.at) → ((name : List ℕ) → SafeEntry p (meaning p.entries name)) → Reaches p (called_through p c rest v vs)
unfolding called_through
through_reaches p c rest (Function name) vs h safe t = reach_paid p (called_reaches p c rest (meaning p.entries name) vs h safe (t name))
through_reaches p c rest Null vs h safe t = reach_paid p (reach_undefined p _)
through_reaches p c rest v vs h safe t = reach_paid p (reach_undefined p _)

returned_reaches : (p : Program) (v : Value) (fs : List Frame) → SafeFrames p fs → Reaches p (returned_to v fs)
unfolding returned_to
returned_reaches p v [] t = reach_undefined p _
returned_reaches p v (f ∷ fs) t = reach_then p _ (λ _. reach_then p _ (λ w. reach_recharged p f.charge _ (record { at = t.0.back; here = record { opened = t.0.opened; frames = t.1 } })))

broken_reaches : (p : Program) (stack : List Value) (fs : List Frame) (slots : List (Option ℕ)) (os : List Open) → SafeFrames p fs → SafeOpen p os → Reaches p (broken_off stack fs slots os)
unfolding broken_off
broken_reaches p stack fs slots [] t u = returned_reaches p Missing fs t
broken_reaches p stack fs slots (Block n before ∷ os) t u = reach_then p _ (λ _. broken_reaches p stack fs before os t u)
broken_reaches p stack fs slots (Handler again past ∷ os) t u = reach_give p _ (record { at = u.0.on_break; here = record { opened = u.1; frames = t } })

continued_reaches : (p : Program) (stack : List Value) (fs : List Frame) (slots : List (Option ℕ)) (os : List Open) → SafeFrames p fs → SafeOpen p os → Reaches p (continued stack fs slots os)
unfolding continued
continued_reaches p stack fs slots [] t u = returned_reaches p Missing fs t
continued_reaches p stack fs slots (Block n before ∷ os) t u = reach_then p _ (λ _. continued_reaches p stack fs before os t u)
continued_reaches p stack fs slots (Handler None past ∷ os) t u = continued_reaches p stack fs slots os t u.1
continued_reaches p stack fs slots (Handler (Some again) past ∷ os) t u = reach_give p _ (record { at = u.0.on_continue; here = record { opened = u; frames = t } })

left_reaches : (p : Program) (c : Control) (os : List Open) → SafeOpen p os → SafeFrames p c.frames → Safe p (suc c.at) → Reaches p (left_block c os)
unfolding left_block
left_reaches p c [] t u safe = reach_undefined p _
left_reaches p c (Block n before ∷ os) t u safe = reach_then p _ (λ _. reach_give p _ (record { at = safe; here = record { opened = t; frames = u } }))
left_reaches p c (Handler again past ∷ os) t u safe = reach_undefined p _

drop_open : (p : Program) (os : List Open) → SafeOpen p os → SafeOpen p (drop 1 os)
drop_open p [] t = tt
drop_open p (Block n slots ∷ os) t = t
drop_open p (Handler again past ∷ os) t = t.1

digit_reaches : (p : Program) (c : Control) (rest : List Value) (v : Value) → Here p c → Safe p c.at → Safe p (suc c.at) → Reaches p (digit_put c rest v)
unfolding digit_put
digit_reaches p c rest (Word n) h here safe = reach_then p _ (λ _. on p c c.at rest h here)
digit_reaches p c rest Missing h here safe = on p c (suc c.at) rest h safe
digit_reaches p c rest v h here safe = reach_undefined p _

letter_reaches : (p : Program) (c : Control) (rest : List Value) (v : Value) (cells : List Cell) → Here p c → Safe p c.at → Safe p (suc c.at) → Reaches p (letter_put c rest v cells)
unfolding letter_put
letter_reaches p c rest v [] h here safe = reach_undefined p _
letter_reaches p c rest v (Unset ∷ cells) h here safe = reach_undefined p _
letter_reaches p c rest v (Holds (Word zero) ∷ cells) h here safe = on p c (suc c.at) rest h safe
letter_reaches p c rest v (Holds (Word (suc n)) ∷ cells) h here safe = reach_paid p (reach_then p _ (λ _. on p c c.at _ h here))
letter_reaches p c rest v (Holds w ∷ cells) h here safe = reach_undefined p _

-- ---- instructions

abbrev pub is_pay : Instruction → Bool
is_pay Code.Pay = true
is_pay i = false

-- a step that doesn't pay comes to a safe place
pub instruction_reaches : (p : Program) (i : Instruction) (c : Control) → ((name : List ℕ) → SafeEntry p (meaning p.entries name)) → slice_get p.instructions c.at ≡ Some i → Here p c → AllSafe p (targets i c.at) → is_pay i ≡ false → Reaches p (step_of p i c)
unfolding step_of
instruction_reaches p (Code.Push v) c es s h t e = on p c _ _ h t.0
instruction_reaches p Code.Drop c es s h t e = reach_top p _ (λ v rest. on p c _ _ h t.0)
instruction_reaches p Code.Use c es s h t e = reach_top p _ (λ v rest. reach_then p _ (λ w. on p c _ _ h t.0))
instruction_reaches p Code.Forget c es s h t e = reach_top p _ (λ v rest. on p c _ _ h t.0)
instruction_reaches p Code.Truth c es s h t e = reach_top p _ (λ v rest. on p c _ _ h t.0)
instruction_reaches p Code.Negate c es s h t e = reach_top p _ (λ v rest. on p c _ _ h t.0)
instruction_reaches p (Code.Convert u) c es s h t e = reach_top p _ (λ v rest. on p c _ _ h t.0)
instruction_reaches p Code.CheckWord c es s h t e = reach_top p _ (λ v rest. reach_word p v (λ n. on p c _ _ h t.0))
instruction_reaches p (Code.Slot n) c es s h t e = reach_then p _ (λ v. on p c _ _ h t.0)
instruction_reaches p (Code.Global o) c es s h t e = on p c _ _ h t.0
instruction_reaches p Code.Nowhere c es s h t e = reach_undefined p _
instruction_reaches p (Code.Fetch u) c es s h t e = reach_top p _ (λ v rest. reach_then p _ (λ w. on p c _ _ h t.0))
instruction_reaches p (Code.Follow u) c es s h t e = reach_top p _ (λ v rest. reach_then p _ (λ w. on p c _ _ h t.0))
instruction_reaches p (Code.Member n) c es s h t e = reach_top p _ (λ v rest. reach_then p _ (λ w. on p c _ _ h t.0))
instruction_reaches p (Code.OneWord op) c es s h t e = reach_top p _ (λ v rest. reach_then p _ (λ w. on p c _ _ h t.0))
instruction_reaches p (Code.Operate tags op u w) c es s h t e = reach_two p _ (λ x y rest. reach_then p _ (λ w. on p c _ _ h t.0))
instruction_reaches p (Code.Step tags op u) c es s h t e = reach_top p _ (λ v rest. reach_then p _ (λ w. on p c _ _ h t.0))
instruction_reaches p (Code.Assign u) c es s h t e = reach_two p _ (λ x y rest. reach_then p _ (λ w. on p c _ _ h t.0))
instruction_reaches p (Code.Update tags op u w) c es s h t e = reach_two p _ (λ x y rest. reach_then p _ (λ w. on p c _ _ h t.0))
instruction_reaches p (Code.JumpUnless n) c es s h t e = reach_top p _ (λ v rest. on p c _ _ h (safe_if p (is_true v) _ _ t.0 t.1.0))
instruction_reaches p (Code.Jump n) c es s h t e = on p c _ _ h t.0
instruction_reaches p (Code.Back n) c es s h t e = on p c _ _ h t.0
instruction_reaches p (Code.JumpAt word n) c es s h t e = reach_top p _ (λ v rest. reach_word p v (λ x. reach_if p (word == x) _ _ (arrived p c _ rest h t.1.0) (arrived p c _ c.stack h t.0)))
instruction_reaches p Code.Pay c es s h t e = absurd (cc e)
instruction_reaches p (Code.BuiltIn name params n) c es s h t e = reach_then p _ (λ v. on p c _ _ h t.0)
instruction_reaches p (Code.Put byte) c es s h t e = reach_then p _ (λ _. on p c _ _ h t.0)
instruction_reaches p Code.Decimal c es s h t e = reach_top p _ (λ v rest. reach_then p _ (λ _. on p c _ _ h t.0))
instruction_reaches p Code.Unsigned c es s h t e = reach_top p _ (λ v rest. reach_then p _ (λ _. on p c _ _ h t.0))
instruction_reaches p Code.Character c es s h t e = reach_top p _ (λ v rest. reach_then p _ (λ _. on p c _ _ h t.0))
instruction_reaches p Code.Hex c es s h t e = reach_top p _ (λ v rest. reach_word p v (λ n. on p c _ _ h t.0))
instruction_reaches p Code.Digits c es s h t e = reach_top p _ (λ v rest. digit_reaches p c rest v h (safe_here p c.at Code.Digits refl s) t.0)
instruction_reaches p Code.Text c es s h t e = reach_top p _ (λ v rest. reach_then p _ (λ os. letter_reaches p c rest v (cells_from (cells_at os v) (offset_of v)) h (safe_here p c.at Code.Text refl s) t.0))
instruction_reaches p (Code.Turn n) c es s h t e = on p c _ _ h t.0
instruction_reaches p (Code.Printed n) c es s h t e = on p c _ _ h t.0
instruction_reaches p Code.Stuck c es s h t e = reach_undefined p _
instruction_reaches p (Code.Call name params n) c es s h t e = reach_paid p (called_reaches p c (drop n c.stack) (meaning p.entries name) (all_converted params (arguments n c.stack)) h t.0 (es name))
instruction_reaches p (Code.CallThrough params n) c es s h t e = reach_top p (drop n c.stack) (λ v rest. through_reaches p c rest v (all_converted params (arguments n c.stack)) h t.0 es)
instruction_reaches p Code.Return c es s h t e = reach_top p _ (λ v rest. reach_then p _ (λ _. returned_reaches p v c.frames h.frames))
instruction_reaches p (Code.First n k u) c es s h t e = reach_top p _ (λ v rest. reach_then p _ (λ place. reach_then p _ (λ _. on p c _ _ h t.0)))
instruction_reaches p (Code.Clear n k kinds) c es s h t e = reach_then p _ (λ place. reach_then p _ (λ _. on p c _ _ h t.0))
instruction_reaches p (Code.Spell n k words) c es s h t e = reach_then p _ (λ place. reach_then p _ (λ _. on p c _ _ h t.0))
instruction_reaches p (Code.Enter cells count) c es s h t e = reach_then p _ (λ o. reach_give p _ (record { at = t.0; here = record { opened = h.opened; frames = h.frames } }))
instruction_reaches p Code.Leave c es s h t e = left_reaches p c c.opened h.opened h.frames t.0
instruction_reaches p (Code.Loop again past) c es s h t e = reach_give p _ (record { at = t.0; here = record { opened = (record { on_continue = t.1.0; on_break = t.1.1.0 }, h.opened); frames = h.frames } })
instruction_reaches p (Code.Switch past) c es s h t e = reach_give p _ (record { at = t.0; here = record { opened = (record { on_continue = tt; on_break = t.1.0 }, h.opened); frames = h.frames } })
instruction_reaches p Code.Done c es s h t e = reach_give p _ (record { at = t.0; here = record { opened = drop_open p c.opened h.opened; frames = h.frames } })
instruction_reaches p Code.Break c es s h t e = broken_reaches p c.stack c.frames c.slots c.opened h.frames h.opened
instruction_reaches p Code.Continue c es s h t e = continued_reaches p c.stack c.frames c.slots c.opened h.frames h.opened
instruction_reaches p Code.End c es s h t e = reach_exit p
