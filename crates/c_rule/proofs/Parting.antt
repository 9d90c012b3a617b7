-- What a part of a run does doesn't depend on what was taken and written before it.
use Rattle.std.proofs.Common.{◌≡◌, ℕ, zero, suc, List, [], ◌∷◌, ◌++◌, Bool, true, false, refl, sym, ap, ◌∙◌, append_assoc, append-nil}
use Rattle.std.specs.Prelude.{if◌then◌else◌}
use Rattle.c_eval.specs.State.{Object, Act, State, Outcome, Gives, Ended, Going, Undefined, Run}
use Rattle.c_eval.specs.Run.{after, ◌>>=◌, give, undefined, unless, exit, spend, paid, put, put_all, objects_now, with_objects, recharged}
use Rattle.c_rule.specs.Stepping.{fresh, store_of}

abbrev pub mapped : {A : Type 0} → (State → State) → Outcome A → Outcome A
mapped f (Gives a st) = Gives a (f st)
mapped f (Ended st) = Ended (f st)
mapped f (Going st) = Going (f st)
mapped f (Undefined act st) = Undefined act (f st)

-- nothing was taken and nothing written
abbrev pub bare : State → State
bare st = fresh (store_of st)

abbrev pub with_output : State → State → List ℕ → State
with_output st s output = record { objects = s.objects; left = s.left; spare = st.spare; words = st.words; charge = s.charge; taken = st.taken; output = output }

-- and no units are left either
abbrev pub idle : State → State
idle st = fresh (record { objects = st.objects; left = 0; charge = st.charge })

-- a state with the units of an earlier one, and with what was taken and written there
abbrev pub like : State → State → State
like st s = record { objects = s.objects; left = st.left; spare = st.spare; words = st.words; charge = s.charge; taken = st.taken; output = st.output }

-- a state behind what was taken and written in an earlier one
abbrev pub behind : State → State → State
behind st s = with_output st s (st.output ++ s.output)

-- it takes nothing, writes nothing and pays nothing
pub record Silent {A : Type 0} (m : Run A) : Type 0 where
  pub silent : (st : State) → m st ≡ mapped (λ s. like st s) (m (idle st))

-- it takes nothing, and writes what it writes behind the rest
pub record Writes {A : Type 0} (m : Run A) : Type 0 where
  pub writes : (st : State) → m st ≡ mapped (λ s. behind st s) (m (bare st))

-- ---- one after the other

twice_like : {A : Type 0} (st s : State) (r : Outcome A) → mapped (λ x. like st x) (mapped (λ x. like s x) r) ≡ mapped (λ x. like st x) r
twice_like st s (Gives a x) = refl
twice_like st s (Ended x) = refl
twice_like st s (Going x) = refl
twice_like st s (Undefined act x) = refl

twice_behind : {A : Type 0} (st s : State) (r : Outcome A) → mapped (λ x. behind st x) (mapped (λ x. behind s x) r) ≡ mapped (λ x. behind (behind st s) x) r
twice_behind st s (Gives a x) = ap (λ o. Gives a (with_output st x o)) (sym (append_assoc st.output s.output x.output))
twice_behind st s (Ended x) = ap (λ o. Ended (with_output st x o)) (sym (append_assoc st.output s.output x.output))
twice_behind st s (Going x) = ap (λ o. Going (with_output st x o)) (sym (append_assoc st.output s.output x.output))
twice_behind st s (Undefined act x) = ap (λ o. Undefined act (with_output st x o)) (sym (append_assoc st.output s.output x.output))

silent_after : {A B : Type 0} (st : State) (r : Outcome A) (f : A → Run B) → ((a : A) → Silent (f a)) → after (mapped (λ s. like st s) r) f ≡ mapped (λ s. like st s) (after r f)
unfolding after
silent_after st (Gives a s) f t = (t a).silent (like st s) ∙ sym (ap (mapped (λ x. like st x)) ((t a).silent s) ∙ twice_like st s (f a (idle s)))
silent_after st (Ended s) f t = refl
silent_after st (Going s) f t = refl
silent_after st (Undefined act s) f t = refl

pub silent_then : {A B : Type 0} {m : Run A} {f : A → Run B} → Silent m → ((a : A) → Silent (f a)) → Silent (m >>= f)
unfolding ◌>>=◌
silent_then {m = m} {f = f} t u = record { silent = λ st. ap (λ r. after r f) (t.silent st) ∙ silent_after st (m (idle st)) f u }

writes_after : {A B : Type 0} (st : State) (r : Outcome A) (f : A → Run B) → ((a : A) → Writes (f a)) → after (mapped (λ s. behind st s) r) f ≡ mapped (λ s. behind st s) (after r f)
unfolding after
writes_after st (Gives a s) f t = (t a).writes (behind st s) ∙ sym (ap (mapped (λ x. behind st x)) ((t a).writes s) ∙ twice_behind st s (f a (bare s)))
writes_after st (Ended s) f t = refl
writes_after st (Going s) f t = refl
writes_after st (Undefined act s) f t = refl

pub writes_then : {A B : Type 0} {m : Run A} {f : A → Run B} → Writes m → ((a : A) → Writes (f a)) → Writes (m >>= f)
unfolding ◌>>=◌
writes_then {m = m} {f = f} t u = record { writes = λ st. ap (λ r. after r f) (t.writes st) ∙ writes_after st (m (bare st)) f u }

none_behind : {A : Type 0} (st : State) (r : Outcome A) → mapped (λ x. behind st x) (mapped (λ x. like (bare st) x) r) ≡ mapped (λ x. like st x) r
none_behind st (Gives a x) = ap (λ o. Gives a (with_output st (like st x) o)) (append-nil st.output)
none_behind st (Ended x) = ap (λ o. Ended (with_output st (like st x) o)) (append-nil st.output)
none_behind st (Going x) = ap (λ o. Going (with_output st (like st x) o)) (append-nil st.output)
none_behind st (Undefined act x) = ap (λ o. Undefined act (with_output st (like st x) o)) (append-nil st.output)

-- what writes nothing writes nothing behind the rest
pub writes_of : {A : Type 0} {m : Run A} → Silent m → Writes m
writes_of {m = m} t = record { writes = λ st. t.silent st ∙ sym (ap (mapped (λ x. behind st x)) (t.silent (bare st)) ∙ none_behind st (m (idle st))) }

-- ---- the words of runs

pub give_silent : {A : Type 0} (a : A) → Silent (give a)
unfolding give
give_silent a = record { silent = λ st. refl }

pub undefined_silent : {A : Type 0} (act : Act) → Silent {A = A} (undefined act)
unfolding undefined
undefined_silent act = record { silent = λ st. refl }

pub exit_silent : {A : Type 0} → Silent {A = A} exit
unfolding exit
exit_silent = record { silent = λ st. refl }

pub unless_silent : {A : Type 0} (b : Bool) (act : Act) {m : Run A} → Silent m → Silent (unless b act m)
unfolding unless
unless_silent true act t = t
unless_silent false act t = undefined_silent act

pub if_silent : {A : Type 0} (b : Bool) {x y : Run A} → Silent x → Silent y → Silent (if b then x else y)
if_silent true t u = t
if_silent false t u = u

pub if_writes : {A : Type 0} (b : Bool) {x y : Run A} → Writes x → Writes y → Writes (if b then x else y)
if_writes true t u = t
if_writes false t u = u

spend_writes : {A : Type 0} (n : ℕ) (m : Run A) (st : State) → Writes m → spend m n st ≡ mapped (λ s. behind st s) (spend m n (bare st))
unfolding spend
spend_writes zero m st t = ap (λ o. Going (with_output st st o)) (sym (append-nil st.output))
spend_writes (suc n) m st t = t.writes (record st { left = n })

pub paid_writes : {A : Type 0} {m : Run A} → Writes m → Writes (paid false m)
unfolding paid
paid_writes {m = m} t = record { writes = λ st. spend_writes st.left m st t }

pub put_writes : (c : ℕ) → Writes (put c)
unfolding put
put_writes c = record { writes = λ st. refl }

pub put_all_writes : (cs : List ℕ) → Writes (put_all cs)
unfolding put_all
put_all_writes [] = writes_of (give_silent tt)
put_all_writes (c ∷ cs) = writes_then (put_writes c) (λ _. put_all_writes cs)

pub objects_now_silent : Silent objects_now
unfolding objects_now
objects_now_silent = record { silent = λ st. refl }

pub with_objects_silent : (os : List Object) → Silent (with_objects os)
unfolding with_objects
with_objects_silent os = record { silent = λ st. refl }

pub recharged_silent : {A : Type 0} (c : ℕ) (a : A) → Silent (recharged c a)
unfolding recharged
recharged_silent c a = record { silent = λ st. refl }
