-- The machine that runs flat code: each instruction is a part of a run.
use Rattle.std.specs.Prelude.{ℕ, zero, suc, ◌+◌, ◌-◌, Bool, true, false, not, nat_le, ◌==◌, List, [], ◌∷◌, ◌++◌, length, map, drop, Option, Some, None, slice_get, codes, if◌then◌else◌}
use Rattle.std.specs.Fmt.{digits, signed_decimal}
use Rattle.word24.specs.Word.{signed_of}
use Rattle.c_syntax.specs.Words.{meaning}
use Rattle.c_syntax.specs.declared.tree.StepOp.{StepOp}
use Rattle.c_types.specs.Types.{CType, Int, Tags}
use Rattle.c_eval.specs.State as state
use Rattle.c_eval.specs.State.{Value, Word, Null, Point, Function, Missing, Cell, Unset, Holds, UnsetCell, OutsideObject, OtherKind, NullCall, HelperLimit, ChargeLimit, Outcome, Run}
use Rattle.c_eval.specs.Run.{◌>>=◌, give, undefined, exit, paid, put, put_all, objects_now, recharged, most_charge}
use Rattle.c_eval.specs.Memory.{cells_at, offset_of, at_offset, load, kind_of, enter, leave, member_at}
use Rattle.c_eval.specs.Operators.{used, of_word, is_true, truth_value, converted, all_converted, operated, on_word, value_at, pointed_value, assigned, updated}
use Rattle.c_eval.specs.Environment.{Environment}
use Rattle.c_eval.specs.BuiltIns.{built_in, cells_from}
use Rattle.c_eval.specs.Eval.{clear, spell, step_op, step_value}
use Rattle.c_eval.specs.Text.{Definition, Text}
use Rattle.c_eval.specs.Meaning.{argument_objects, argument_names, Rules, Ended, Going, Undefined, Meaning, seen}
use Rattle.c_code.specs.Code

-- what is open: a block, with its first object and the slots before it, or a loop or a `switch`, with where `continue` and `break` go; a `switch` has nothing to do again
pub data Open : Type 0 where
  Block : (first : ℕ) → (slots : List (Option ℕ)) → Open
  Handler : (again : Option ℕ) → (past : ℕ) → Open

-- a function that waits for a call to return
pub record Frame : Type 0 where
  pub back : ℕ
  pub stack : List Value
  pub slots : List (Option ℕ)
  pub opened : List Open
  -- of the called function: its result, its first object, and the charge before it
  pub result : CType
  pub first : ℕ
  pub charge : ℕ

-- where the machine stands
pub record Control : Type 0 where
  pub at : ℕ
  pub stack : List Value
  -- the object in each slot
  pub slots : List (Option ℕ)
  -- what is open, the innermost first
  pub opened : List Open
  pub frames : List Frame

pub record Entry : Type 0 where
  pub at : ℕ
  pub params : List (List ℕ)
  pub result : CType
  pub charge : ℕ
  -- the slots behind those of its parameters
  pub more : ℕ

pub record Program : Type 0 where
  pub instructions : List Code.Instruction
  pub entries : List (List ℕ × Entry)
  pub input : List ℕ

abbrev pub onward : Control → Control
onward c = record c { at = suc c.at }

abbrev pub pushed : Control → List Value → Value → Control
pushed c rest v = record c { at = suc c.at; stack = v ∷ rest }

-- the top of the stack, and the two on top
unfoldable pub with_top : List Value → (Value → List Value → Run Control) → Run Control
with_top [] f = undefined HelperLimit
with_top (v ∷ vs) f = f v vs

unfoldable pub with_two : List Value → (Value → Value → List Value → Run Control) → Run Control
with_two (y ∷ x ∷ vs) f = f x y vs
with_two _ f = undefined HelperLimit

-- so many values from the stack, the last one on top, onto others
abbrev pub arguments_onto : ℕ → List Value → List Value → List Value
arguments_onto zero stack vs = vs
arguments_onto (suc n) [] vs = vs
arguments_onto (suc n) (v ∷ stack) vs = arguments_onto n stack (v ∷ vs)

-- arguments, the first of which was pushed first
abbrev pub arguments : ℕ → List Value → List Value
arguments n stack = arguments_onto n stack []

abbrev pub numbered : ℕ → ℕ → List (Option ℕ)
numbered n zero = []
numbered n (suc k) = Some n ∷ numbered (suc n) k

-- all blocks are left, the innermost first
unfoldable pub unwind : List Open → Run (Unit {0})
unwind [] = give tt
unwind (Block n slots ∷ os) = leave n >>= λ _. unwind os
unwind (Handler again past ∷ os) = unwind os

-- where the machine stands behind a jump out of what is open
abbrev pub standing : List Value → List Frame → ℕ → List (Option ℕ) → List Open → Control
standing stack frames at slots os = record { at = at; stack = stack; slots = slots; opened = os; frames = frames }

-- a function returns: its blocks and then its arguments are left, and the charge is as before
unfoldable pub returned_to : Value → List Frame → Run Control
returned_to v [] = undefined HelperLimit
returned_to v (f ∷ fs) =
    leave f.first >>= λ _. give (converted f.result v) >>= λ w. recharged f.charge (record { at = f.back; stack = w ∷ f.stack; slots = f.slots; opened = f.opened; frames = fs })

-- a `break` leaves the blocks in the innermost loop or `switch`, and goes past it; outside of all it leaves the function
unfoldable pub broken_off : List Value → List Frame → List (Option ℕ) → List Open → Run Control
broken_off stack frames slots [] = returned_to Missing frames
broken_off stack frames slots (Block n before ∷ os) = leave n >>= λ _. broken_off stack frames before os
broken_off stack frames slots (Handler again past ∷ os) = give (standing stack frames past slots os)

-- a `continue` passes over a `switch`
unfoldable pub continued : List Value → List Frame → List (Option ℕ) → List Open → Run Control
continued stack frames slots [] = returned_to Missing frames
continued stack frames slots (Block n before ∷ os) = leave n >>= λ _. continued stack frames before os
continued stack frames slots (Handler None past ∷ os) = continued stack frames slots os
continued stack frames slots (Handler (Some again) past ∷ os) = give (standing stack frames again slots (Handler (Some again) past ∷ os))

-- the end of the innermost block, and of the innermost loop
unfoldable pub left_block : Control → List Open → Run Control
left_block c (Block n before ∷ os) = leave n >>= λ _. give (record c { at = suc c.at; slots = before; opened = os })
left_block c _ = undefined HelperLimit

-- in a new block: its slots lie behind those before
abbrev pub in_new_block : Control → ℕ → ℕ → Control
in_new_block c o count = record c { at = suc c.at; slots = c.slots ++ numbered o count; opened = Block o c.slots ∷ c.opened }

abbrev pub slot_in : Option (Option ℕ) → Option ℕ
slot_in None = None
slot_in (Some o) = o

unfoldable pub pointer_in : Option ℕ → ℕ → Run Value
pointer_in None offset = undefined OutsideObject
pointer_in (Some o) offset = give (Point o offset)

-- the object in a slot
unfoldable pub slot_pointer : Control → ℕ → ℕ → Run Value
slot_pointer c slot offset = pointer_in (slot_in (slice_get c.slots slot)) offset

-- the objects of the arguments, as slots; a parameter without an argument has none
abbrev pub argument_slots : List (List ℕ) → List Value → ℕ → List (Option ℕ)
argument_slots names vs n = map (λ entry. entry.1) (argument_names names vs n)

-- where the charge is within the limit, the call is live
unfoldable pub begun : Bool → ℕ → Run Control → Run Control
begun false n m st = state.Undefined ChargeLimit st
begun true n m st = m (record st { charge = st.charge + n })

abbrev pub waiting : Control → List Value → Entry → ℕ → ℕ → Frame
waiting c rest e n charge =
    record { back = suc c.at; stack = rest; slots = c.slots; opened = c.opened; result = e.result; first = n; charge = charge }

abbrev pub at_entry : Control → List Value → Entry → List Value → ℕ → ℕ → Control
at_entry c rest e vs charge n =
    record { at = e.at; stack = []; slots = argument_slots e.params vs n ++ numbered (n + length (argument_objects e.params vs)) e.more; opened = []; frames = waiting c rest e n charge ∷ c.frames }

-- a call: its charge is tested, its arguments get objects, and its code begins
unfoldable pub called : Control → List Value → Option Entry → List Value → Run Control
called c rest None vs st = state.Undefined OutsideObject st
called c rest (Some e) vs st = begun (nat_le (st.charge + e.charge) most_charge) e.charge (enter (argument_objects e.params vs) >>= λ n. give (at_entry c rest e vs st.charge n)) st

unfoldable pub called_through : Program → Control → List Value → Value → List Value → Run Control
called_through p c rest (Function name) vs = paid false (called c rest (meaning p.entries name) vs)
called_through p c rest Null vs = paid false (undefined NullCall)
called_through p c rest v vs = paid false (undefined OtherKind)

unfoldable pub step_at_place : Tags → StepOp → CType → Value → Run Value
step_at_place tags op t place =
    load (kind_of t) place >>= λ old. operated tags (step_op op) t Int old (Word 1) >>= λ new. assigned t place new >>= λ _. give (step_value op old new)

-- a digit is written; behind the last one stands a mark
unfoldable pub digit_put : Control → List Value → Value → Run Control
digit_put c rest (Word n) = put n >>= λ _. give (record c { stack = rest })
digit_put c rest Missing = give (record c { at = suc c.at; stack = rest })
digit_put c rest v = undefined OtherKind

-- a string's next character is written, and the pointer goes on; behind the last one it is dropped
unfoldable pub letter_put : Control → List Value → Value → List Cell → Run Control
letter_put c rest v [] = undefined OutsideObject
letter_put c rest v (Unset ∷ cells) = undefined UnsetCell
letter_put c rest v (Holds (Word zero) ∷ cells) = give (record c { at = suc c.at; stack = rest })
letter_put c rest v (Holds (Word (suc n)) ∷ cells) = paid false (put (suc n) >>= λ _. give (record c { stack = at_offset v (suc (offset_of v)) ∷ rest }))
letter_put c rest v (Holds w ∷ cells) = undefined OtherKind

unfoldable pub step_of : Program → Code.Instruction → Control → Run Control
step_of p (Code.Push v) c = give (pushed c c.stack v)
step_of p Code.Drop c = with_top c.stack (λ v rest. give (record c { at = suc c.at; stack = rest }))
step_of p Code.Use c = with_top c.stack (λ v rest. used v >>= λ w. give (pushed c rest w))
step_of p Code.Forget c = with_top c.stack (λ v rest. give (pushed c rest Missing))
step_of p Code.Truth c = with_top c.stack (λ v rest. give (pushed c rest (truth_value (is_true v))))
step_of p Code.Negate c = with_top c.stack (λ v rest. give (pushed c rest (truth_value (not (is_true v)))))
step_of p (Code.Convert t) c = with_top c.stack (λ v rest. give (pushed c rest (converted t v)))
step_of p Code.CheckWord c = with_top c.stack (λ v rest. of_word v (λ n. give (pushed c rest (Word n))))
step_of p (Code.Slot s) c = slot_pointer c s 0 >>= λ v. give (pushed c c.stack v)
step_of p (Code.Global o) c = give (pushed c c.stack (Point o 0))
step_of p Code.Nowhere c = undefined OutsideObject
step_of p (Code.Fetch t) c = with_top c.stack (λ v rest. value_at false t v >>= λ w. give (pushed c rest w))
step_of p (Code.Follow t) c = with_top c.stack (λ v rest. pointed_value false t v >>= λ w. give (pushed c rest w))
step_of p (Code.Member n) c = with_top c.stack (λ v rest. member_at n v >>= λ w. give (pushed c rest w))
step_of p (Code.OneWord op) c = with_top c.stack (λ v rest. on_word op v >>= λ w. give (pushed c rest w))
step_of p (Code.Operate tags op t u) c = with_two c.stack (λ x y rest. operated tags op t u x y >>= λ w. give (pushed c rest w))
step_of p (Code.Step tags op t) c = with_top c.stack (λ v rest. step_at_place tags op t v >>= λ w. give (pushed c rest w))
step_of p (Code.Assign t) c = with_two c.stack (λ x y rest. assigned t x y >>= λ w. give (pushed c rest w))
step_of p (Code.Update tags op t u) c = with_two c.stack (λ x y rest. updated tags op t u x y >>= λ w. give (pushed c rest w))
step_of p (Code.JumpUnless n) c = with_top c.stack (λ v rest. give (record c { at = if is_true v then suc c.at else suc c.at + n; stack = rest }))
step_of p (Code.Jump n) c = give (record c { at = suc c.at + n })
step_of p (Code.Back n) c = give (record c { at = suc c.at - n })
step_of p (Code.JumpAt word n) c = with_top c.stack (λ v rest. of_word v (λ x. give (if word == x then record c { at = suc c.at + n; stack = rest } else onward c)))
step_of p Code.Pay c = paid false (give (onward c))
step_of p (Code.BuiltIn name params n) c = built_in p.input false name (all_converted params (arguments n c.stack)) >>= λ v. give (pushed c (drop n c.stack) v)
step_of p (Code.Put byte) c = put byte >>= λ _. give (onward c)
step_of p Code.Decimal c = with_top c.stack (λ v rest. of_word v (λ n. put_all (signed_decimal (signed_of n))) >>= λ _. give (record c { at = suc c.at; stack = rest }))
step_of p Code.Unsigned c = with_top c.stack (λ v rest. of_word v (λ n. put_all (digits 10 false n)) >>= λ _. give (record c { at = suc c.at; stack = rest }))
step_of p Code.Character c = with_top c.stack (λ v rest. of_word v put >>= λ _. give (record c { at = suc c.at; stack = rest }))
step_of p Code.Hex c = with_top c.stack (λ v rest. of_word v (λ n. give (record c { at = suc c.at; stack = map Word (digits 16 false n) ++ Missing ∷ rest })))
step_of p Code.Digits c = with_top c.stack (λ v rest. digit_put c rest v)
step_of p Code.Text c = with_top c.stack (λ v rest. objects_now >>= λ os. letter_put c rest v (cells_from (cells_at os v) (offset_of v)))
step_of p (Code.Turn n) c = give (record c { at = suc c.at; stack = arguments n c.stack ++ drop n c.stack })
step_of p (Code.Printed n) c = give (pushed c (drop n c.stack) Missing)
step_of p Code.Stuck c = undefined OtherKind
step_of p (Code.Call name params n) c = paid false (called c (drop n c.stack) (meaning p.entries name) (all_converted params (arguments n c.stack)))
step_of p (Code.CallThrough params n) c = with_top (drop n c.stack) (λ v rest. called_through p c rest v (all_converted params (arguments n c.stack)))
step_of p Code.Return c = with_top c.stack (λ v rest. unwind c.opened >>= λ _. returned_to v c.frames)
step_of p (Code.First s k t) c = with_top c.stack (λ v rest. slot_pointer c s k >>= λ place. assigned t place v >>= λ _. give (record c { at = suc c.at; stack = rest }))
step_of p (Code.Clear s k kinds) c = slot_pointer c s k >>= λ place. clear kinds place >>= λ _. give (onward c)
step_of p (Code.Spell s k words) c = slot_pointer c s k >>= λ place. spell words place >>= λ _. give (onward c)
step_of p (Code.Enter cells count) c = enter cells >>= λ o. give (in_new_block c o count)
step_of p Code.Leave c = left_block c c.opened
step_of p (Code.Loop again past) c = give (record c { at = suc c.at; opened = Handler (Some (suc c.at + again)) (suc c.at + past) ∷ c.opened })
step_of p (Code.Switch past) c = give (record c { at = suc c.at; opened = Handler None (suc c.at + past) ∷ c.opened })
step_of p Code.Done c = give (record c { at = suc c.at; opened = drop 1 c.opened })
step_of p Code.Break c = broken_off c.stack c.frames c.slots c.opened
step_of p Code.Continue c = continued c.stack c.frames c.slots c.opened
step_of p Code.End c = exit

unfoldable pub step_at : Program → Option Code.Instruction → Control → Run Control
step_at p None c = undefined HelperLimit
step_at p (Some i) c = step_of p i c

-- so many instructions; where the machine stands then, if it is still going
unfoldable pub drive : Program → ℕ → Control → Run Control
drive p zero c = give c
drive p (suc n) c = step_at p (slice_get p.instructions c.at) c >>= λ d. drive p n d

-- ---- a whole text

abbrev pub parameter_slots : List (List ℕ) → ℕ → List (List ℕ × Option ℕ)
parameter_slots [] n = []
parameter_slots (x ∷ xs) n = (x, Some n) ∷ parameter_slots xs (suc n)

-- the place of a function's body in its code
abbrev pub body_place : Definition → Environment
body_place f = record { scope = f.scope; objects = parameter_slots f.params 0; next = length f.params; literals_before = 0 }

abbrev pub site_of : List (List ℕ × Option ℕ) → Definition → Code.Site
site_of names f = record { owner = Some f.name; names = names }

-- the code of a function: its parameters have the first slots
abbrev pub function_code : List (List ℕ × Option ℕ) → Definition → List Code.Instruction
function_code names f = Code.stmt_code f.body (length f.params + Code.slots_for f.body) (site_of names f) (body_place f) ++ Code.Push Missing ∷ Code.Return ∷ []

abbrev pub functions_code : List (List ℕ × Option ℕ) → List Definition → List Code.Instruction
functions_code names [] = []
functions_code names (f ∷ fs) = function_code names f ++ functions_code names fs

abbrev pub entry_of : Rules → Definition → ℕ → Entry
entry_of rules f at = record { at = at; params = f.params; result = f.result; charge = rules.charge f.name; more = Code.slots_for f.body }

abbrev pub entries_of : Rules → List (List ℕ × Option ℕ) → List Definition → ℕ → List (List ℕ × Entry)
entries_of rules names [] at = []
entries_of rules names (f ∷ fs) at = (f.name, entry_of rules f at) ∷ entries_of rules names fs (at + length (function_code names f))

abbrev pub program_of : Rules → Text → List ℕ → Program
program_of rules t input = record { instructions = Code.Nowhere ∷ Code.End ∷ functions_code t.names t.functions; entries = entries_of rules t.names t.functions 2; input = input }

abbrev pub nothing_yet : Control
nothing_yet = record { at = 0; stack = []; slots = []; opened = []; frames = [] }

-- the opening call costs no unit, and goes back to the end
unfoldable pub run_code : Program → ℕ → Run Control
run_code p n = called nothing_yet [] (meaning p.entries (codes "main")) [] >>= λ c. drive p n c

-- what is seen of a run that has ended, or wants a unit where none is left, or is at an undefined act
abbrev pub shown : Outcome Control → Option Meaning
shown (state.Gives c st) = None
shown (state.Ended st) = Some (seen Ended st)
shown (state.Going st) = Some (seen Going st)
shown (state.Undefined act st) = Some (seen (Undefined act) st)
