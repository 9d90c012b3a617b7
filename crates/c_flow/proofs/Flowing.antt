-- The code of statements goes where their flow goes.
use Rattle.std.proofs.Common.{◌≡◌, ℕ, suc, ◌+◌, List, [], ◌∷◌, ◌++◌, length, Option, Some, Bool, refl, sym, ap, ◌∙◌, arith, length-append}
use Rattle.std.specs.Prelude.{slice_get}
use Rattle.c_eval.specs.State.{Value, Cell, State, Gives, Run}
use Rattle.c_eval.specs.Run.{after, ◌>>=◌, give, choose, objects_now, with_objects}
use Rattle.c_eval.specs.Memory.{enter, leave, within}
use Rattle.c_eval.specs.Operators.{is_true}
use Rattle.c_eval.specs.Eval.{Flow, Next, Broke, Continued, Returned, go_on}
use Rattle.c_code.specs.Code as code
use Rattle.c_code.specs.Code.{Instruction, choice_code}
use Rattle.c_code.specs.Machine.{Control, in_new_block, left_block, unwind, broken_off, continued, returned_to, with_top, step_of}
use Rattle.c_flow.proofs.Leading.{Bounded, Keeps, Leads, moved, by_parts, in_parts, leads_then, leads_self, leads_give, leads_as, leads_from, leads_to, leads_again, leads_first, leads_skip}
use Rattle.c_flow.proofs.Standing.{Stands, stands_first, stands_rest, end_place, behind_one}
use Rattle.c_flow.proofs.Landing.{Lands}
use Rattle.c_flow.proofs.Choosing.{jump_leads}

-- where a statement's flow goes: behind it, out of or on with what is around it, or back to the caller
unfoldable pub goes : Control → ℕ → Flow → Run Control
goes c to Next = give (moved c to c.stack)
goes c to Broke = broken_off c.stack c.frames c.slots c.opened
goes c to Continued = continued c.stack c.frames c.slots c.opened
goes c to (Returned v) = unwind c.opened >>= λ _. returned_to v c.frames

-- in a frame with these slots, code does what a run does and goes where its flow goes
abbrev pub Goes : Bounded → List (Option ℕ) → List Instruction → Run Flow → Type 0
Goes p slots is m = (c : Control) (to : ℕ) → to ≡ c.at + length is → c.slots ≡ slots → Stands p.program c.at is → Leads p (give c) m (goes c to)

-- or it does what a run does, and leaves nothing
abbrev pub Effects : Bounded → List (Option ℕ) → List Instruction → Run (Unit {0}) → Type 0
Effects p slots is m = (c : Control) (to : ℕ) → to ≡ c.at + length is → c.slots ≡ slots → Stands p.program c.at is → Leads p (give c) m (λ _. give (moved c to c.stack))

-- or it leaves a value that is true or not
pub record Tests (p : Bounded) (slots : List (Option ℕ)) (is : List Instruction) (b : Run Bool) : Type 0 where
  pub value : Run Value
  pub lands : Lands p slots is value
  pub truth : (st : State) → (value >>= λ x. give (is_true x)) st ≡ b st

-- ---- one after the other

-- where a flow goes doesn't depend on where the machine stands
pub same_goes : (c : Control) (at to : ℕ) (flow : Flow) (st : State) → goes (moved c at c.stack) to flow st ≡ goes c to flow st
unfolding goes
same_goes c at to Next st = refl
same_goes c at to Broke st = refl
same_goes c at to Continued st = refl
same_goes c at to (Returned v) st = refl

-- code at another place
pub goes_at : (p : Bounded) (c : Control) (at to : ℕ) {r : Run Control} {m : Run Flow} → Leads p r m (goes (moved c at c.stack) to) → Leads p r m (goes c to)
goes_at p c at to t = leads_to p (goes (moved c at c.stack) to) (goes c to) (λ flow st. same_goes c at to flow st) t

-- what comes next is elsewhere
pub next_goes : (p : Bounded) (c : Control) (at to : ℕ) {r : Run Control} {m : Run Flow} → Leads p (give (moved c at c.stack)) (give Next) (goes c to) → Leads p r m (goes c at) → Leads p r m (goes c to)
unfolding goes
next_goes p c at to {m = m} t u = leads_again p (goes c at) (goes c to) m u (λ flow. on flow)
  where
    on : (flow : Flow) → Leads p (goes c at flow) (give flow) (goes c to)
    on Next = t
    on Broke = leads_give p (goes c at Broke) (goes c to) Broke (λ st. refl)
    on Continued = leads_give p (goes c at Continued) (goes c to) Continued (λ st. refl)
    on (Returned v) = leads_give p (goes c at (Returned v)) (goes c to) (Returned v) (λ st. refl)

-- nothing is left to do
pub next_given : (p : Bounded) (c : Control) (at to : ℕ) → at ≡ to → Leads p (give (moved c at c.stack)) (give Next) (goes c to)
unfolding goes give
next_given p c at to e = leads_give p (give (moved c at c.stack)) (goes c to) Next (λ st. ap (λ k. Gives (moved c k c.stack) st) e)

-- an instruction that only goes on
pub next_skipped : (p : Bounded) (c c' : Control) (to : ℕ) (i : Instruction) → slice_get p.program.instructions c.at ≡ Some i → ((st : State) → step_of p.program i c st ≡ Gives (moved c' to c'.stack) st) → Leads p (give c) (give Next) (goes c' to)
next_skipped p c c' to i e s = leads_skip p c (moved c' to c'.stack) i e s (next_given p c' to to refl)

pub then_goes : (p : Bounded) (slots : List (Option ℕ)) (is js : List Instruction) (m m' : Run Flow) → Goes p slots is m → Goes p slots js m' → Goes p slots (is ++ js) (m >>= λ flow. go_on flow m')
unfolding goes go_on
then_goes p slots is js m m' t u c to e sl s = leads_then p (goes c mid) (t c mid refl sl (stands_first p.program c.at is js s)) (λ flow. on flow)
  where
    mid : ℕ
    mid = c.at + length is

    on : (flow : Flow) → Leads p (goes c mid flow) (go_on flow m') (goes c to)
    on Next = goes_at p c mid to (u (moved c mid c.stack) to (end_place c.at to is js e) sl (stands_rest p.program c.at mid is js refl s))
    on Broke = leads_give p (goes c mid Broke) (goes c to) Broke (λ st. refl)
    on Continued = leads_give p (goes c mid Continued) (goes c to) Continued (λ st. refl)
    on (Returned v) = leads_give p (goes c mid (Returned v)) (goes c to) (Returned v) (λ st. refl)

-- a value is dropped
pub drop_leads : {A : Type 0} (p : Bounded) (slots : List (Option ℕ)) (is : List Instruction) (m : Run Value) (a : A) (c : Control) (to : ℕ) (h : A → Run Control) → Lands p slots is m →
    to ≡ c.at + length (is ++ code.Drop ∷ []) → c.slots ≡ slots → Stands p.program c.at (is ++ code.Drop ∷ []) → ((st : State) → Gives (moved c to c.stack) st ≡ h a st) → Leads p (give c) (m >>= λ _. give a) h
unfolding step_of with_top give
drop_leads p slots is m a c to h t e sl s f =
    let mid : ℕ = c.at + length is in
    leads_then p (λ v. give (moved c mid (v ∷ c.stack))) (t c mid refl sl (stands_first p.program c.at is (code.Drop ∷ []) s))
    (λ v. leads_skip p (moved c mid (v ∷ c.stack)) (moved c to c.stack) code.Drop (stands_rest p.program c.at mid is (code.Drop ∷ []) refl s).0
    (λ st. ap (λ k. Gives (moved c k c.stack) st) (behind_one c.at to is code.Drop e)) (leads_give p (give (moved c to c.stack)) h a f))

pub drop_effects : (p : Bounded) (slots : List (Option ℕ)) (is : List Instruction) (m : Run Value) → Lands p slots is m → Effects p slots (is ++ code.Drop ∷ []) (m >>= λ _. give tt)
unfolding give
drop_effects p slots is m t c to e sl s = drop_leads p slots is m tt c to (λ _. give (moved c to c.stack)) t e sl s (λ st. refl)

pub drop_goes : (p : Bounded) (slots : List (Option ℕ)) (is : List Instruction) (m : Run Value) → Lands p slots is m → Goes p slots (is ++ code.Drop ∷ []) (m >>= λ _. give Next)
unfolding goes give
drop_goes p slots is m t c to e sl s = drop_leads p slots is m Next c to (goes c to) t e sl s (λ st. refl)

-- an effect is a statement
pub effect_goes : (p : Bounded) (slots : List (Option ℕ)) (is : List Instruction) (m : Run (Unit {0})) → Effects p slots is m → Goes p slots is (m >>= λ _. give Next)
unfolding goes
effect_goes p slots is m t c to e sl s = leads_then p (λ _. give (moved c to c.stack)) (t c to e sl s) (λ _. leads_give p (give (moved c to c.stack)) (goes c to) Next (λ st. refl))

-- ---- choices

pub test_leads : {A : Type 0} (p : Bounded) (slots : List (Option ℕ)) (is : List Instruction) (b : Run Bool) (c : Control) (mid : ℕ) (g : Bool → Run A) (h : A → Run Control) → Tests p slots is b → mid ≡ c.at + length is → c.slots ≡ slots → Stands p.program c.at is →
    ((x : Value) → Leads p (give (moved c mid (x ∷ c.stack))) (g (is_true x)) h) → Leads p (give c) (b >>= g) h
unfolding ◌>>=◌ give after
test_leads p slots is b c mid g h t e sl s u =
    leads_as p (t.value >>= λ x. g (is_true x)) (b >>= g) (λ st. sym (by_parts (t.value st) (λ x. give (is_true x)) g) ∙ ap (λ r. after r g) (t.truth st)) (leads_then p (λ x. give (moved c mid (x ∷ c.stack))) (t.lands c mid e sl s) u)

if_place : (mid to : ℕ) (yea : List Instruction) → to ≡ mid + suc (length yea) → suc mid + length yea ≡ to
if_place mid to yea e = omega (arith, e)

pub if_goes : (p : Bounded) (slots : List (Option ℕ)) (is yea : List Instruction) (b : Run Bool) (m : Run Flow) → Tests p slots is b → Goes p slots yea m → Goes p slots (is ++ (code.JumpUnless (length yea) ∷ yea)) (b >>= λ x. choose x m (give Next))
if_goes p slots is yea b m t u c to e sl s =
    let mid : ℕ = c.at + length is in
    let behind = stands_rest p.program c.at mid is (code.JumpUnless (length yea) ∷ yea) refl s in
    let place = if_place mid to yea (end_place c.at to is (code.JumpUnless (length yea) ∷ yea) e) in
    test_leads p slots is b c mid (λ x. choose x m (give Next)) (goes c to) t refl sl (stands_first p.program c.at is _ s)
    (λ x. jump_leads p c mid (length yea) x (is_true x) m (give Next) (goes c to) refl behind.0
    (goes_at p c (suc mid) to (u (moved c (suc mid) c.stack) to (sym place) sl behind.1)) (next_given p c (suc mid + length yea) to place))

mid_place : (mid to : ℕ) (yea nay : List Instruction) → to ≡ mid + length (code.JumpUnless (length yea + 1) ∷ (yea ++ (code.Jump (length nay) ∷ nay))) → suc (suc mid + length yea) + length nay ≡ to
mid_place mid to yea nay e =
    let l : length (yea ++ (code.Jump (length nay) ∷ nay)) ≡ length yea + suc (length nay) = length-append yea (code.Jump (length nay) ∷ nay) in
    omega (arith, e, l)

nay_place : (mid k : ℕ) → suc mid + (k + 1) ≡ suc (suc mid + k)
nay_place mid k = omega arith

pub choice_goes : (p : Bounded) (slots : List (Option ℕ)) (is yea nay : List Instruction) (b : Run Bool) (m m' : Run Flow) → Tests p slots is b → Goes p slots yea m → Goes p slots nay m' → Goes p slots (choice_code is yea nay) (b >>= λ x. choose x m m')
unfolding step_of give
choice_goes p slots is yea nay b m m' t u v c to e sl s =
    let mid : ℕ = c.at + length is in
    let over : ℕ = suc mid + length yea in
    let behind = stands_rest p.program c.at mid is _ refl s in
    let other = stands_rest p.program (suc mid) over yea (code.Jump (length nay) ∷ nay) refl behind.1 in
    let place = mid_place mid to yea nay (end_place c.at to is _ e) in
    test_leads p slots is b c mid (λ x. choose x m m') (goes c to) t refl sl (stands_first p.program c.at is _ s)
    (λ x. jump_leads p c mid (length yea + 1) x (is_true x) m m' (goes c to) refl behind.0
    (next_goes p c over to (next_skipped p (moved c over c.stack) c to (code.Jump (length nay)) other.0 (λ st. ap (λ k. Gives (moved c k c.stack) st) place))
    (goes_at p c (suc mid) over (u (moved c (suc mid) c.stack) over refl sl (stands_first p.program (suc mid) yea _ behind.1))))
    (leads_from p (give (moved c (suc over) c.stack)) (give (moved c (suc mid + (length yea + 1)) c.stack)) (λ st. ap (λ k. give (moved c k c.stack) st) (nay_place mid (length yea)))
    (goes_at p c (suc over) to (v (moved c (suc over) c.stack) to (sym place) sl other.1))))

-- ---- blocks

pub enter_keeps : {depth : ℕ} (new : List (List Cell)) → Keeps depth (enter new)
unfolding enter objects_now with_objects ◌>>=◌ give after
enter_keeps new st lt = omega arith

leave_keeps : {depth : ℕ} (o : ℕ) → Keeps depth (leave o)
unfolding leave objects_now with_objects ◌>>=◌ give after
leave_keeps o st lt = omega arith

-- the block's objects die, and then the flow goes on
pub left_with : {A : Type 0} (p : Bounded) (r : Run Control) (o : ℕ) (a : A) (h : A → Run Control) → ((st : State) → r st ≡ (leave o >>= λ _. h a) st) → Leads p r (leave o >>= λ _. give a) h
left_with p r o a h e = leads_from p (leave o >>= λ _. h a) r e (leads_then p (λ _. h a) (leads_self p (leave o) (λ _. h a) (leave_keeps o)) (λ _. leads_give p (h a) h a (λ st. refl)))

left_behind : (p : Bounded) (c : Control) (o count mid to : ℕ) → suc mid ≡ to → slice_get p.program.instructions mid ≡ Some code.Leave → (flow : Flow) → Leads p (goes (in_new_block c o count) mid flow) (leave o >>= λ _. give flow) (goes c to)
unfolding goes broken_off continued unwind left_block step_of give
left_behind p c o count mid to e s Next =
    leads_first p (moved (in_new_block c o count) mid c.stack) (leave o >>= λ _. give (moved c (suc mid) c.stack)) code.Leave s (λ st. refl)
    (leads_as p _ _ (λ st. refl) (leads_then p (λ _. give (moved c (suc mid) c.stack)) (leads_self p (leave o) (λ _. give (moved c (suc mid) c.stack)) (leave_keeps o)) (λ _. next_given p c (suc mid) to e)))
left_behind p c o count mid to e s Broke = left_with p (goes (in_new_block c o count) mid Broke) o Broke (goes c to) (λ st. refl)
left_behind p c o count mid to e s Continued = left_with p (goes (in_new_block c o count) mid Continued) o Continued (goes c to) (λ st. refl)
left_behind p c o count mid to e s (Returned v) = left_with p (goes (in_new_block c o count) mid (Returned v)) o (Returned v) (goes c to) (λ st. sym (in_parts (leave o) (λ _. unwind c.opened) (λ _. returned_to v c.frames) st))

-- a block: its objects live from its entry to its end, however the flow goes; at its end the stack may be another
pub block_goes : (p : Bounded) (c : Control) (stack : List Value) (mid to count : ℕ) (new : List (List Cell)) (body : ℕ → Run Flow) → slice_get p.program.instructions c.at ≡ Some (code.Enter new count) → suc mid ≡ to → slice_get p.program.instructions mid ≡ Some code.Leave →
    ((o : ℕ) → Leads p (give (in_new_block c o count)) (body o) (goes (in_new_block (moved c c.at stack) o count) mid)) → Leads p (give c) (within new body) (goes (moved c c.at stack) to)
unfolding within step_of
block_goes p c stack mid to count new body s e l t =
    leads_first p c (enter new >>= λ o. give (in_new_block c o count)) (code.Enter new count) s (λ st. refl)
    (leads_then p (λ o. give (in_new_block c o count)) (leads_self p (enter new) (λ o. give (in_new_block c o count)) (enter_keeps new))
    (λ o. leads_then p (goes (in_new_block (moved c c.at stack) o count) mid) (t o) (λ flow. left_behind p (moved c c.at stack) o count mid to e l flow)))
