-- Whole runs follow each other.
use Rattle.std.proofs.Common.{◌≡◌, ℕ, zero, suc, ◌+◌, ◌≤◌, List, [], Option, Some, None, Bool, true, false, refl, sym, ap, ◌∙◌, subst, arith, append-nil}
use Rattle.std.specs.Prelude.{◌-◌, codes}
use Rattle.c_syntax.specs.Plain.{CUnit}
use Rattle.c_types.specs.Types.{CType}
use Rattle.c_eval.specs.State as state
use Rattle.c_eval.specs.State.{Value, Act, number_of, State, Outcome, Run}
use Rattle.c_eval.specs.Run.{stop}
use Rattle.c_eval.specs.Eval.{World, Flow, Next, Broke, Continued, Returned}
use Rattle.c_eval.specs.Text.{Definition, Text, text_of, function_named}
use Rattle.c_eval.specs.Meaning.{result_of, body_environment, runs, Rules, world_of, charged_run, call_by, calls_to, opening, run_of, eval, End, Ended, Going, Undefined, Meaning, meaning_in, own_rules, meaning_of}
use Rattle.c_eval.specs.Laws.{GoesOnFrom, MoreFuelExtends, EndedStays, UndefinedStays, TakenBytesDecide, GoingIsOutOfFuel, ActsAreNumbered}
use Rattle.c_eval.proofs.Following.{more, state_of, Agree, Extends, Follows, Grows, bind_follows, give_follows, undefined_follows, exit_follows, paid_deeper, stop_follows, charged_follows, is_own, Proper}
use Rattle.c_eval.proofs.Parts.{within_follows}
use Rattle.c_eval.proofs.Meanings.{Calls, CallsFollow, WorldFollows, beside, does_follows}

result_of_follows : {depth : ℕ} {strict : Bool} {k : ℕ} {i j : List ℕ} (t : CType) (flow : Flow) → Follows depth strict k i j (result_of t flow) (result_of t flow)
unfolding result_of
result_of_follows t Next = give_follows _
result_of_follows t Broke = give_follows _
result_of_follows t Continued = give_follows _
result_of_follows t (Returned v) = give_follows _

pub runs_follow : {strict : Bool} (f : Definition) (names : List (List ℕ × Option ℕ)) (n n' k : ℕ) → n' ≡ n + k → (w : World) (j : List ℕ) (c : Calls) (vs : List Value) → WorldFollows n strict k w j c →
    Follows n strict k w.input j (runs f names n w vs) (runs f names n' (beside w j c) vs)
unfolding runs
runs_follow f names n n' k e w j c vs t =
    bind_follows (within_follows _ (λ o. does_follows f.body n n' k e w j c (body_environment f names vs o) t)) (λ flow. result_of_follows f.result flow)

-- what helper functions do in the second follows what they do in the first
pub data HelpFollows (strict : Bool) (k : ℕ) (i j : List ℕ) : Option (List Value → Run Value) → Option (List Value → Run Value) → Type 0 where
  Neither : HelpFollows strict k i j None None
  Both : {f g : List Value → Run Value} → ((depth : ℕ) (vs : List Value) → Follows depth strict k i j (f vs) (g vs)) → HelpFollows strict k i j (Some f) (Some g)

-- rules of the same charges, of which the second help as the first
pub record RulesFollow (strict : Bool) (k : ℕ) (i j : List ℕ) (rules rules' : Rules) : Type 0 where
  pub charge : (name : List ℕ) → rules'.charge name ≡ rules.charge name
  pub helps : (name : List ℕ) → HelpFollows strict k i j (rules.helps name) (rules'.helps name)

charged_run_follows : {strict : Bool} (rules rules' : Rules) (t : Text) (k : ℕ) (i j : List ℕ) (c d : Calls) (n n' : ℕ) → n' ≡ n + k → (name : List ℕ) (f : Option Definition) (vs : List Value) →
    RulesFollow strict k i j rules rules' → CallsFollow n strict k i j c d → Follows n strict k i j (charged_run rules t i c n name f vs) (charged_run rules' t j d n' name f vs)
unfolding charged_run
charged_run_follows rules rules' t k i j c d n n' e name None vs r s = undefined_follows state.OutsideObject (λ asked. refl)
charged_run_follows rules rules' t k i j c d n n' e name (Some f) vs r s =
    rw (r.charge name) (charged_follows (rules.charge name) (runs_follow f t.names n n' k e (world_of t i name c) j d vs (record { calls = s; own = λ asked. refl })))

call_by_follows : {depth : ℕ} {strict : Bool} {k : ℕ} {i j : List ℕ} {h h' : Option (List Value → Run Value)} (vs : List Value) {m m' : Run Value} → HelpFollows strict k i j h h' → Follows depth strict k i j m m' →
    Follows (suc depth) strict k i j (call_by h vs m) (call_by h' vs m')
unfolding call_by
call_by_follows vs Neither t = paid_deeper false (λ asked. refl) t
call_by_follows {depth = depth} vs (Both help) t = help (suc depth) vs

stays : (n k : ℕ) → k ≡ 0 → n ≡ n + k
stays n k z = omega (arith, z)

none_more : (n k : ℕ) → n ≡ zero + k → k ≡ 0 → n ≡ zero
none_more n k e z = omega (arith, e, z)

one_less : (n n' k : ℕ) → suc n' ≡ suc n + k → n' ≡ n + k
one_less n n' k e = omega (arith, e)

none_left : (n k : ℕ) → zero ≡ suc n + k → ⊥
none_left n k e = omega (arith, e)

stop_grows : (A : Type 0) → Grows {A = A} stop
unfolding stop
stop_grows A st = record { output = ([], sym (append-nil st.output)); taken = omega arith }

-- at equal depth and fuel
calls_self : {strict : Bool} (n : ℕ) (rules : Rules) (t : Text) (i : List ℕ) → RulesFollow strict 0 i i rules rules → CallsFollow n strict 0 i i (calls_to n rules t i) (calls_to n rules t i)
unfolding calls_to
calls_self zero rules t i r name vs = stop_follows (stop_grows Value) (λ z. refl)
calls_self (suc n) rules t i r name vs =
    call_by_follows vs (r.helps name) (charged_run_follows rules rules t 0 i i (calls_to n rules t i) (calls_to n rules t i) n n (stays n 0 refl) name (function_named t name) vs r (calls_self n rules t i r))

calls_stop : (n : ℕ) (rules : Rules) (t : Text) (i name : List ℕ) (vs : List Value) → n ≡ zero → calls_to n rules t i name vs ≡ stop
unfolding calls_to
calls_stop n rules t i name vs e = ap (λ n. calls_to n rules t i name vs) e

pub calls_follow : {strict : Bool} (n n' k : ℕ) → n' ≡ n + k → (rules rules' : Rules) (t : Text) (i j : List ℕ) → RulesFollow strict k i j rules rules' → RulesFollow strict 0 j j rules' rules' → CallsFollow n strict k i j (calls_to n rules t i) (calls_to n' rules' t j)
unfolding calls_to
calls_follow zero n' k e rules rules' t i j r s name vs = stop_follows ((calls_self n' rules' t j s name vs).grows) (λ z. calls_stop n' rules' t j name vs (none_more n' k e z))
calls_follow (suc n) zero k e rules rules' t i j r s name vs = absurd (none_left n k e)
calls_follow (suc n) (suc n') k e rules rules' t i j r s name vs =
    call_by_follows vs (r.helps name)
    (charged_run_follows rules rules' t k i j (calls_to n rules t i) (calls_to n' rules' t j) n n' (one_less n n' k e) name (function_named t name) vs r (calls_follow n n' k (one_less n n' k e) rules rules' t i j r s))

suc_sum : (f k : ℕ) → suc (f + k) ≡ suc f + k
suc_sum f k = omega arith

-- by rules that follow each other, a run follows one with less fuel and another input
pub run_follows : {strict : Bool} (rules rules' : Rules) (t : Text) (i j : List ℕ) (f k : ℕ) → RulesFollow strict k i j rules rules' → RulesFollow strict 0 j j rules' rules' →
    Follows (suc f) strict k i j (run_of rules t i f) (run_of rules' t j (f + k))
unfolding run_of
run_follows rules rules' t i j f k r s =
    bind_follows
    (charged_run_follows rules rules' t k i j (calls_to (suc f) rules t i) (calls_to (suc (f + k)) rules' t j) (suc f) (suc (f + k)) (suc_sum f k) (codes "main") (function_named t (codes "main")) [] r
    (calls_follow (suc f) (suc (f + k)) k (suc_sum f k) rules rules' t i j r s))
    (λ v. exit_follows)

pub eval_follows : {strict : Bool} (rules rules' : Rules) (t : Text) (i j : List ℕ) (f k : ℕ) → RulesFollow strict k i j rules rules' → RulesFollow strict 0 j j rules' rules' → Agree (state_of (eval rules t i f)).taken i j →
    Extends k (eval rules t i f) (eval rules' t j (f + k))
unfolding eval
eval_follows rules rules' t i j f k r s agree = (run_follows rules rules' t i j f k r s).follows (opening t f) agree

-- ---- what is seen

own_rules_follow : {strict : Bool} (u : CUnit) (k : ℕ) (i j : List ℕ) → RulesFollow strict k i j (own_rules u) (own_rules u)
own_rules_follow u k i j = record { charge = λ name. refl; helps = λ name. Neither }

output_seen : {A : Type 0} (r : Outcome A) → (meaning_in r).output ≡ (state_of r).output
output_seen (state.Gives a st) = refl
output_seen (state.Ended st) = refl
output_seen (state.Going st) = refl
output_seen (state.Undefined act st) = refl

taken_seen : {A : Type 0} (r : Outcome A) → (meaning_in r).taken ≡ (state_of r).taken
taken_seen (state.Gives a st) = refl
taken_seen (state.Ended st) = refl
taken_seen (state.Going st) = refl
taken_seen (state.Undefined act st) = refl

settled_from : (m m' : Meaning) → m' ≡ m → GoesOnFrom m m'
settled_from m m' e = subst (λ x. GoesOnFrom m x) (sym e) (record { output = ([], sym (append-nil m.output)); taken = omega arith; settled = λ no. refl })

pub goes_on_from : {A : Type 0} (k : ℕ) (r r' : Outcome A) → Extends k r r' → GoesOnFrom (meaning_in r) (meaning_in r')
goes_on_from k (state.Gives a st) r' e = settled_from _ _ (ap meaning_in e)
goes_on_from k (state.Ended st) r' e = settled_from _ _ (ap meaning_in e)
goes_on_from k (state.Undefined act st) r' e = settled_from _ _ (ap meaning_in e)
goes_on_from k (state.Going st) r' e =
    record { output = (e.past.output.0, output_seen r' ∙ e.past.output.1); taken = subst (λ n. st.taken ≤ n) (sym (taken_seen r')) e.past.taken; settled = λ no. absurd (no refl) }

pub same_seen : {A : Type 0} (r r' : Outcome A) → Extends 0 r r' → meaning_in r' ≡ meaning_in r
same_seen (state.Gives a st) r' e = ap meaning_in e
same_seen (state.Ended st) r' e = ap meaning_in e
same_seen (state.Undefined act st) r' e = ap meaning_in e
same_seen (state.Going st) r' e = ap meaning_in (e.same refl)

rest_of : (less more : ℕ) → less ≤ more → less + (more - less) ≡ more
rest_of less more le = omega (arith, le)

pub more_fuel_extends : MoreFuelExtends
unfolding meaning_of
more_fuel_extends u input less more le =
    subst (λ f. GoesOnFrom (meaning_of u input less) (meaning_of u input f)) (rest_of less more le)
    (goes_on_from (more - less) _ _ (eval_follows {strict = true} (own_rules u) (own_rules u) (text_of u) input input less (more - less) (own_rules_follow u _ input input) (own_rules_follow u 0 input input) (λ b below. refl)))

not_going : (e : End) → e ≡ Ended → e ≡ Going → ⊥
not_going Ended e g = absurd (cc g)
not_going Going e g = absurd (cc e)
not_going (Undefined act) e g = absurd (cc e)

undefined_not_going : (act : Act) (e : End) → e ≡ Undefined act → e ≡ Going → ⊥
undefined_not_going act Ended e g = absurd (cc e)
undefined_not_going act Going e g = absurd (cc e)
undefined_not_going act (Undefined other) e g = absurd (cc g)

pub ended_stays : EndedStays
ended_stays u input less more le e = (more_fuel_extends u input less more le).settled (λ g. not_going _ e g)

pub undefined_stays : UndefinedStays
undefined_stays u input less more act le e = (more_fuel_extends u input less more le).settled (λ g. undefined_not_going act _ e g)

pub taken_bytes_decide : TakenBytesDecide
unfolding meaning_of
taken_bytes_decide u i j fuel agree =
    subst (λ f. meaning_of u j f ≡ meaning_of u i fuel) no_more
    (same_seen _ _ (eval_follows {strict = true} (own_rules u) (own_rules u) (text_of u) i j fuel 0 (own_rules_follow u 0 i j) (own_rules_follow u 0 j j) (subst (λ n. Agree n i j) (taken_seen (eval (own_rules u) (text_of u) i fuel)) agree)))
  where
    no_more : fuel + 0 ≡ fuel
    no_more = omega arith

-- ---- how a run stops

proper_run : (u : CUnit) (input : List ℕ) (fuel : ℕ) → Proper fuel (eval (own_rules u) (text_of u) input fuel)
unfolding eval
proper_run u input fuel =
    (run_follows {strict = true} (own_rules u) (own_rules u) (text_of u) input input fuel 0 (own_rules_follow u 0 input input) (own_rules_follow u 0 input input)).proper refl (opening (text_of u) fuel) (omega arith)

going_spent : {A : Type 0} (left : ℕ) (r : Outcome A) (st : State) → Proper left r → r ≡ state.Going st → st.left ≡ 0
going_spent {A = A} left r st p e = let P : Outcome A → Type 0 = λ x. Proper left x in subst P e p

pub going_is_out_of_fuel : GoingIsOutOfFuel
going_is_out_of_fuel u input fuel st e = going_spent fuel _ st (proper_run u input fuel) e

own_number : (act : Act) → is_own act ≡ true → number_of act ≤ 12
own_number state.ZeroDivisor e = omega arith
own_number state.OutsideObject e = omega arith
own_number state.OtherKind e = omega arith
own_number state.UnsetCell e = omega arith
own_number state.LiteralWrite e = omega arith
own_number state.PointerArithmetic e = omega arith
own_number state.PointerOrder e = omega arith
own_number state.PointerEquality e = omega arith
own_number state.ShiftCount e = omega arith
own_number state.NoResult e = omega arith
own_number state.ChargeLimit e = omega arith
own_number state.NullCall e = omega arith
own_number state.HelperLimit e = absurd (cc e)

act_seen : {A : Type 0} (left : ℕ) (r : Outcome A) (act : Act) → Proper left r → (meaning_in r).end ≡ Undefined act → number_of act ≤ 12
act_seen left (state.Gives a st) act p e = absurd (cc e)
act_seen left (state.Ended st) act p e = absurd (cc e)
act_seen left (state.Going st) act p e = absurd (cc e)
act_seen left (state.Undefined other st) act p e = subst (λ x. number_of x ≤ 12) (same e) (own_number other p)
  where
    same : {a b : Act} → Undefined a ≡ Undefined b → a ≡ b
    same h = cc h

pub acts_are_numbered : ActsAreNumbered
unfolding meaning_of
acts_are_numbered u input fuel act e = act_seen fuel _ act (proper_run u input fuel) e
