-- Code that chooses, and code of arguments.
use Rattle.std.proofs.Common.{◌≡◌, ℕ, zero, suc, ◌+◌, List, [], ◌∷◌, ◌++◌, length, Option, Some, Bool, true, false, refl, sym, ap, ◌∙◌, arith, length-append, append-nil}
use Rattle.std.specs.Prelude.{slice_get, drop, if◌then◌else◌}
use Rattle.c_eval.specs.State.{Value, Gives, Run}
use Rattle.c_eval.specs.Run.{◌>>=◌, give, choose}
use Rattle.c_eval.specs.Operators.{is_true}
use Rattle.c_code.specs.Code as code
use Rattle.c_code.specs.Code.{Instruction, choice_code}
use Rattle.c_code.specs.Machine.{Control, with_top, step_of, arguments_onto}
use Rattle.c_flow.proofs.Leading.{Bounded, Leads, moved, leads_then, leads_again, leads_give, leads_from, leads_skip}
use Rattle.c_flow.proofs.Standing.{stands_first, stands_rest, end_place}
use Rattle.c_flow.proofs.Landing.{Lands}

-- a test was made: the one, or else the other
pub jump_leads : {A : Type 0} (p : Bounded) (c : Control) (at count : ℕ) (x : Value) (b : Bool) (m m' : Run A) (h : A → Run Control) → is_true x ≡ b → slice_get p.program.instructions at ≡ Some (code.JumpUnless count) →
    Leads p (give (moved c (suc at) c.stack)) m h → Leads p (give (moved c (suc at + count) c.stack)) m' h → Leads p (give (moved c at (x ∷ c.stack))) (choose b m m') h
unfolding choose step_of with_top give
jump_leads p c at count x true m m' h e s t u = leads_skip p (moved c at (x ∷ c.stack)) (moved c (suc at) c.stack) (code.JumpUnless count) s (λ st. ap (λ b. Gives (moved c (if b then suc at else suc at + count) c.stack) st) e) t
jump_leads p c at count x false m m' h e s t u =
    leads_skip p (moved c at (x ∷ c.stack)) (moved c (suc at + count) c.stack) (code.JumpUnless count) s (λ st. ap (λ b. Gives (moved c (if b then suc at else suc at + count) c.stack) st) e) u

-- behind the one a jump goes past the other
pub past_other : {A : Type 0} (p : Bounded) (c : Control) (at to count : ℕ) (g : A → List Value) {r : Run Control} {m : Run A} → slice_get p.program.instructions at ≡ Some (code.Jump count) → suc at + count ≡ to →
    Leads p r m (λ a. give (moved c at (g a))) → Leads p r m (λ a. give (moved c to (g a)))
unfolding step_of give
past_other p c at to count g {m = m} s e t =
    leads_again p (λ a. give (moved c at (g a))) (λ a. give (moved c to (g a))) m t (λ a. leads_skip p (moved c at (g a)) (moved c to (g a)) (code.Jump count) s (λ st. ap (λ k. Gives (moved c k (g a)) st) e) (leads_give p (give (moved c to (g a))) (λ a. give (moved c to (g a))) a (λ st. refl)))

mid_place : (mid to : ℕ) (yea nay : List Instruction) → to ≡ mid + length (code.JumpUnless (length yea + 1) ∷ (yea ++ (code.Jump (length nay) ∷ nay))) → suc (suc mid + length yea) + length nay ≡ to
mid_place mid to yea nay e =
    let l : length (yea ++ (code.Jump (length nay) ∷ nay)) ≡ length yea + suc (length nay) = length-append yea (code.Jump (length nay) ∷ nay) in
    omega (arith, e, l)

nay_place : (mid k : ℕ) → suc mid + (k + 1) ≡ suc (suc mid + k)
nay_place mid k = omega arith

pub choice_lands : (p : Bounded) (slots : List (Option ℕ)) (a yea nay : List Instruction) (l m m' : Run Value) → Lands p slots a l → Lands p slots yea m → Lands p slots nay m' →
    Lands p slots (choice_code a yea nay) (l >>= λ x. choose (is_true x) m m')
choice_lands p slots a yea nay l m m' r t u c to e sl s =
    let mid : ℕ = c.at + length a in
    let behind = stands_rest p.program c.at mid a _ refl s in
    let over = stands_rest p.program (suc mid) (suc mid + length yea) yea (code.Jump (length nay) ∷ nay) refl behind.1 in
    let place = mid_place mid to yea nay (end_place c.at to a _ e) in
    leads_then p (λ x. give (moved c mid (x ∷ c.stack))) (r c mid refl sl (stands_first p.program c.at a _ s))
    (λ x. jump_leads p c mid (length yea + 1) x (is_true x) m m' (λ v. give (moved c to (v ∷ c.stack))) refl behind.0
    (past_other p c (suc mid + length yea) to (length nay) (λ v. v ∷ c.stack) over.0 place
    (t (moved c (suc mid) c.stack) (suc mid + length yea) refl sl (stands_first p.program (suc mid) yea (code.Jump (length nay) ∷ nay) behind.1)))
    (leads_from p (give (moved c (suc (suc mid + length yea)) c.stack)) (give (moved c (suc mid + (length yea + 1)) c.stack)) (λ st. ap (λ k. give (moved c k c.stack) st) (nay_place mid (length yea)))
    (u (moved c (suc (suc mid + length yea)) c.stack) to (sym place) sl over.1)))

-- ---- arguments

abbrev pub push_all : List Value → List Value → List Value
push_all stack [] = stack
push_all stack (v ∷ vs) = push_all (v ∷ stack) vs

none_first : (k : ℕ) → zero + k ≡ k
none_first k = omega arith

one_over : (l k : ℕ) → suc l + k ≡ l + suc k
one_over l k = omega arith

popped : (vs stack acc : List Value) (k : ℕ) → arguments_onto (length vs + k) (push_all stack vs) acc ≡ arguments_onto k stack (vs ++ acc)
popped [] stack acc k = ap (λ n. arguments_onto n stack acc) (none_first k)
popped (v ∷ vs) stack acc k = ap (λ n. arguments_onto n (push_all (v ∷ stack) vs) acc) (one_over (length vs) k) ∙ popped vs (v ∷ stack) acc (suc k)

dropped : (vs stack : List Value) (k : ℕ) → drop (length vs + k) (push_all stack vs) ≡ drop k stack
dropped [] stack k = ap (λ n. drop n stack) (none_first k)
dropped (v ∷ vs) stack k = ap (λ n. drop n (push_all (v ∷ stack) vs)) (one_over (length vs) k) ∙ dropped vs (v ∷ stack) (suc k)

onto_none : (vs : List Value) → vs ++ [] ≡ vs
onto_none vs = append-nil vs

no_more : (n : ℕ) → n ≡ n + zero
no_more n = omega arith

pub arguments_are : (vs stack : List Value) (n : ℕ) → length vs ≡ n → arguments_onto n (push_all stack vs) [] ≡ vs
arguments_are vs stack n e = ap (λ k. arguments_onto k (push_all stack vs) []) (sym e ∙ no_more (length vs)) ∙ (popped vs stack [] zero ∙ onto_none vs)

pub rest_is : (vs stack : List Value) (n : ℕ) → length vs ≡ n → drop n (push_all stack vs) ≡ stack
rest_is vs stack n e = ap (λ k. drop k (push_all stack vs)) (sym e ∙ no_more (length vs)) ∙ dropped vs stack zero
