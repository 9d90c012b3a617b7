-- From where it stands the machine does what a part of a run does, and then what follows.
use Rattle.std.proofs.Common.{◌≡◌, ℕ, zero, suc, ◌+◌, ◌<◌, ◌≤◌, List, [], Some, true, false, refl, sym, ap, ◌∙◌, subst, arith}
use Rattle.std.specs.Prelude.{slice_get}
use Rattle.c_eval.specs.State.{Value, Act, State, Outcome, Gives, Ended, Going, Undefined, Run}
use Rattle.c_eval.specs.Run.{after, ◌>>=◌, give, undefined, spend, paid}
use Rattle.c_eval.proofs.Following.{Follows, Proper, is_own}
use Rattle.c_code.specs.Code.{Instruction}
use Rattle.c_code.specs.Machine.{Control, Program, step_of, step_at, drive}

-- a program, and a bound on the units of fuel that are left
pub record Bounded : Type 0 where
  pub program : Program
  pub depth : ℕ

-- no units are gained
abbrev pub Keeps : {A : Type 0} → ℕ → Run A → Type 0
Keeps depth m = (st : State) → st.left < depth → Proper st.left (m st)

-- behind one part of a run the machine goes on as it does behind another part and what follows that
pub record Leads {A : Type 0} (p : Bounded) (r : Run Control) (m : Run A) (h : A → Run Control) : Type 0 where
  pub leads : (st : State) → st.left < p.depth → (k : ℕ) × ((n : ℕ) → after (r st) (λ d. drive p.program (k + n) d) ≡ after (m st) (λ a. h a >>= λ d. drive p.program n d))
  pub keeps : Keeps p.depth m

-- at another place, with another stack
abbrev pub moved : Control → ℕ → List Value → Control
moved c at stack = record c { at = at; stack = stack }

none_first : (n : ℕ) → zero + n ≡ n
none_first n = omega arith

one_first : (k n : ℕ) → suc k + n ≡ suc (k + n)
one_first k n = omega arith

both_first : (a b n : ℕ) → (a + b) + n ≡ a + (b + n)
both_first a b n = omega arith

-- ---- units

-- what follows itself keeps the units
pub kept_by : {A : Type 0} {depth : ℕ} {m : Run A} (i : List ℕ) → Follows depth true 0 i i m m → Keeps depth m
kept_by i t = t.proper refl

pub kept : {A : Type 0} {depth : ℕ} {m : Run A} → Follows depth true 0 [] [] m m → Keeps depth m
kept t = t.proper refl

proper_up : {A : Type 0} (l n : ℕ) (r : Outcome A) → l ≤ n → Proper l r → Proper n r
proper_up l n (Gives a st) le p = omega (arith, le, p)
proper_up l n (Ended st) le p = tt
proper_up l n (Going st) le p = p
proper_up l n (Undefined act st) le p = p

pub after_proper : {A B : Type 0} (l n : ℕ) (r : Outcome A) (f : A → Run B) → l < n → Proper l r → ((a : A) → Keeps n (f a)) → Proper l (after r f)
unfolding after
after_proper l n (Gives a st) f lt p h = proper_up st.left l (f a st) p (h a st (omega (arith, lt, p)))
after_proper l n (Ended st) f lt p h = p
after_proper l n (Going st) f lt p h = p
after_proper l n (Undefined act st) f lt p h = p

pub keeps_then : {A B : Type 0} {depth : ℕ} (m : Run A) (g : A → Run B) → Keeps depth m → ((a : A) → Keeps depth (g a)) → Keeps depth (m >>= g)
unfolding ◌>>=◌
keeps_then {depth = depth} m g t u st lt = after_proper st.left depth (m st) g lt (t st lt) u

pub give_keeps : {A : Type 0} {depth : ℕ} (a : A) → Keeps depth (give a)
unfolding give
give_keeps a st lt = omega arith

pub undefined_keeps : (A : Type 0) {depth : ℕ} (act : Act) → is_own act ≡ true → Keeps {A = A} depth (undefined act)
unfolding undefined
undefined_keeps A act own st lt = own

pub keeps_as : {A : Type 0} {depth : ℕ} (m m' : Run A) → ((st : State) → m st ≡ m' st) → Keeps depth m → Keeps depth m'
keeps_as m m' e t st lt = subst (λ r. Proper st.left r) (e st) (t st lt)

-- ---- runs in other words

pub by_parts : {A B C : Type 0} (r : Outcome A) (f : A → Run B) (g : B → Run C) → after (after r f) g ≡ after r (λ a st. after (f a st) g)
unfolding after
by_parts (Gives a st) f g = refl
by_parts (Ended st) f g = refl
by_parts (Going st) f g = refl
by_parts (Undefined act st) f g = refl

pub in_parts : {A B C : Type 0} (m : Run A) (f : A → Run B) (g : B → Run C) (st : State) → (m >>= λ a. (f a >>= g)) st ≡ ((m >>= f) >>= g) st
unfolding ◌>>=◌
in_parts m f g st = sym (by_parts (m st) f g)

given_again : {A : Type 0} (r : Outcome A) → after r (λ a. give a) ≡ r
unfolding after give
given_again (Gives a st) = refl
given_again (Ended st) = refl
given_again (Going st) = refl
given_again (Undefined act st) = refl

pub given_on : {A : Type 0} (m : Run A) (st : State) → (m >>= λ a. give a) st ≡ m st
unfolding ◌>>=◌
given_on m st = given_again (m st)

same_after : {A B : Type 0} (r : Outcome A) (f g : A → Run B) → ((a : A) (st : State) → f a st ≡ g a st) → after r f ≡ after r g
unfolding after
same_after (Gives a st) f g e = e a st
same_after (Ended st) f g e = refl
same_after (Going st) f g e = refl
same_after (Undefined act st) f g e = refl

-- ---- one after the other

joined : {A B : Type 0} (p : Bounded) (left k : ℕ) (r : Outcome Control) (x : Outcome A) (h : A → Run Control) (g : A → Run B) (h' : B → Run Control) → left < p.depth → Proper left x →
    ((n : ℕ) → after r (λ d. drive p.program (k + n) d) ≡ after x (λ a. h a >>= λ d. drive p.program n d)) → ((a : A) → Leads p (h a) (g a) h') →
    (j : ℕ) × ((n : ℕ) → after r (λ d. drive p.program (j + n) d) ≡ after (after x g) (λ b. h' b >>= λ d. drive p.program n d))
unfolding after ◌>>=◌
joined p left k r (Gives a st) h g h' lt le e u =
    let second = (u a).leads st (omega (arith, lt, le)) in
    (k + second.0, λ n. ap (λ j. after r (λ d. drive p.program j d)) (both_first k second.0 n) ∙ (e (second.0 + n) ∙ second.1 n))
joined p left k r (Ended st) h g h' lt le e u = (k, e)
joined p left k r (Going st) h g h' lt le e u = (k, e)
joined p left k r (Undefined act st) h g h' lt le e u = (k, e)

pub leads_then : {A B : Type 0} (p : Bounded) {r : Run Control} {m : Run A} (h : A → Run Control) {g : A → Run B} {h' : B → Run Control} → Leads p r m h → ((a : A) → Leads p (h a) (g a) h') → Leads p r (m >>= g) h'
unfolding ◌>>=◌
leads_then p {r = r} {m = m} h {g = g} {h' = h'} t u =
    record { leads = λ st lt. joined p st.left (t.leads st lt).0 (r st) (m st) h g h' lt (t.keeps st lt) (t.leads st lt).1 u; keeps = keeps_then m g t.keeps (λ a. (u a).keeps) }

-- the machine does it at once
pub leads_self : {A : Type 0} (p : Bounded) (m : Run A) (h : A → Run Control) → Keeps p.depth m → Leads p (m >>= h) m h
unfolding ◌>>=◌
leads_self p m h t =
    record { leads = λ st lt. (zero, λ n. ap (λ k. after (after (m st) h) (λ d. drive p.program k d)) (none_first n) ∙ by_parts (m st) h (λ d. drive p.program n d)); keeps = t }

-- nothing is left to do
pub leads_give : {A : Type 0} (p : Bounded) (r : Run Control) (h : A → Run Control) (a : A) → ((st : State) → r st ≡ h a st) → Leads p r (give a) h
unfolding ◌>>=◌ give after
leads_give p r h a e = record {
  leads = λ st lt. (zero, λ n. ap (λ k. after (r st) (λ d. drive p.program k d)) (none_first n) ∙ ap (λ x. after x (λ d. drive p.program n d)) (e st));
  keeps = give_keeps a;
}

-- it is the same in other words
pub leads_as : {A : Type 0} (p : Bounded) {r : Run Control} {h : A → Run Control} (m m' : Run A) → ((st : State) → m st ≡ m' st) → Leads p r m h → Leads p r m' h
leads_as p {h = h} m m' e t =
    record { leads = λ st lt. ((t.leads st lt).0, λ n. (t.leads st lt).1 n ∙ ap (λ x. after x (λ a. h a >>= λ d. drive p.program n d)) (e st)); keeps = keeps_as m m' e t.keeps }

-- what follows goes on elsewhere
pub leads_again : {A : Type 0} (p : Bounded) {r : Run Control} (h h' : A → Run Control) (m : Run A) → Leads p r m h → ((a : A) → Leads p (h a) (give a) h') → Leads p r m h'
unfolding ◌>>=◌
leads_again p h h' m t u = leads_as p (m >>= λ a. give a) m (λ st. given_again (m st)) (leads_then p h t u)

pub leads_from : {A : Type 0} (p : Bounded) (r r' : Run Control) {m : Run A} {h : A → Run Control} → ((st : State) → r' st ≡ r st) → Leads p r m h → Leads p r' m h
leads_from p r r' e t =
    record { leads = λ st lt. ((t.leads st lt).0, λ n. ap (λ x. after x (λ d. drive p.program ((t.leads st lt).0 + n) d)) (e st) ∙ (t.leads st lt).1 n); keeps = t.keeps }

pub leads_to : {A : Type 0} (p : Bounded) {r : Run Control} {m : Run A} (h h' : A → Run Control) → ((a : A) (st : State) → h a st ≡ h' a st) → Leads p r m h → Leads p r m h'
unfolding ◌>>=◌
leads_to p {m = m} h h' e t = record {
  leads = λ st lt. ((t.leads st lt).0, λ n. (t.leads st lt).1 n ∙ same_after (m st) _ _ (λ a st1. ap (λ x. after x (λ d. drive p.program n d)) (e a st1)));
  keeps = t.keeps;
}

-- one instruction, and then the rest
pub leads_first : {A : Type 0} (p : Bounded) (c : Control) (r : Run Control) {m : Run A} {h : A → Run Control} (i : Instruction) → slice_get p.program.instructions c.at ≡ Some i → ((st : State) → step_of p.program i c st ≡ r st) → Leads p r m h → Leads p (give c) m h
unfolding drive step_at ◌>>=◌ after give
leads_first p c r i e s t = record {
  leads = λ st lt.
      let k = (t.leads st lt).0 in
      (suc k, λ n. ap (λ j. drive p.program j c st) (one_first k n) ∙ (ap (λ o. after (step_at p.program o c st) (λ d. drive p.program (k + n) d)) e ∙ (ap (λ x. after x (λ d. drive p.program (k + n) d)) (s st) ∙ (t.leads st lt).1 n)));
  keeps = t.keeps;
}

-- an instruction that is a part of a run
pub leads_step : {A : Type 0} (p : Bounded) (c : Control) (m : Run A) (h : A → Run Control) (i : Instruction) → slice_get p.program.instructions c.at ≡ Some i → Keeps p.depth m → ((st : State) → step_of p.program i c st ≡ (m >>= h) st) → Leads p (give c) m h
leads_step p c m h i e t s = leads_first p c (m >>= h) i e s (leads_self p m h t)

-- one that only goes on elsewhere
pub leads_skip : {A : Type 0} (p : Bounded) (c c' : Control) {m : Run A} {h : A → Run Control} (i : Instruction) → slice_get p.program.instructions c.at ≡ Some i → ((st : State) → step_of p.program i c st ≡ Gives c' st) → Leads p (give c') m h → Leads p (give c) m h
unfolding give
leads_skip p c c' i e s t = leads_first p c (give c') i e s t

-- ---- fuel

abbrev pub at_depth : Bounded → ℕ → Bounded
at_depth p n = record p { depth = n }

pub leads_lower : {A : Type 0} (p : Bounded) (n : ℕ) {r : Run Control} {m : Run A} {h : A → Run Control} → n ≤ p.depth → Leads p r m h → Leads (at_depth p n) r m h
leads_lower p n le t = record { leads = λ st lt. t.leads st (omega (arith, lt, le)); keeps = λ st lt. t.keeps st (omega (arith, lt, le)) }

spent : {A : Type 0} (p : Bounded) (r : Run Control) (m : Run A) (h : A → Run Control) → Leads p r m h → (st : State) (l : ℕ) → l < suc p.depth →
    (k : ℕ) × ((n : ℕ) → after (spend r l st) (λ d. drive p.program (k + n) d) ≡ after (spend m l st) (λ a. h a >>= λ d. drive p.program n d))
unfolding spend after
spent p r m h t st zero lt = (zero, λ n. refl)
spent p r m h t st (suc l) lt = t.leads (record st { left = l }) (omega (arith, lt))

pub spend_keeps : {A : Type 0} (depth : ℕ) (m : Run A) → Keeps depth m → (st : State) (l : ℕ) → st.left ≡ l → l < suc depth → Proper st.left (spend m l st)
unfolding spend
spend_keeps depth m t st zero e lt = e
spend_keeps depth m t st (suc l) e lt = proper_up l st.left (m (record st { left = l })) (omega (arith, e)) (t (record st { left = l }) (omega (arith, lt)))

-- a unit is paid on both sides
pub leads_paid : {A : Type 0} (p : Bounded) {r : Run Control} {m : Run A} {h : A → Run Control} → Leads p r m h → Leads (at_depth p (suc p.depth)) (paid false r) (paid false m) h
unfolding paid
leads_paid p {r = r} {m = m} {h = h} t = record { leads = λ st lt. spent p r m h t st st.left lt; keeps = λ st lt. spend_keeps p.depth m t.keeps st st.left refl lt }
