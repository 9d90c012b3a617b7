-- How a run follows another one that has less fuel and another input.
use Rattle.std.proofs.Common.{◌≡◌, ℕ, zero, suc, ◌+◌, ◌<◌, ◌≤◌, List, [], ◌∷◌, ◌++◌, Bool, true, false, refl, sym, ap, ◌∙◌, subst, arith, append_assoc, append-nil}
use Rattle.std.specs.Prelude.{◌%◌, ◌^◌, nat_le, if◌then◌else◌}
use Rattle.mach_core.specs.Rule.{input_at}
use Rattle.c_eval.specs.State.{Object, Act, HelperLimit, State, Outcome, Gives, Ended, Going, Undefined, Run}
use Rattle.c_eval.specs.Run.{after, ◌>>=◌, give, undefined, unless, choose, exit, spend, spend_spare, paid, stop, put, next_byte, objects_now, with_objects, recharged, charged_by, charged, most_charge}

abbrev pub more : ℕ → State → State
more k st = record st { left = st.left + k }

abbrev pub state_of : {A : Type 0} → Outcome A → State
state_of (Gives a st) = st
state_of (Ended st) = st
state_of (Going st) = st
state_of (Undefined act st) = st

-- the output goes on, and no fewer bytes are taken
pub record Past (st st' : State) : Type 0 where
  pub output : (tail : List ℕ) × (st'.output ≡ st.output ++ tail)
  pub taken : st.taken ≤ st'.taken

-- two inputs have the same first bytes
abbrev pub Agree : ℕ → List ℕ → List ℕ → Type 0
Agree n i j = (b : ℕ) → b < n → input_at i b ≡ input_at j b

-- what is going goes on, and is going still where there is no more fuel
pub record GoesOn {A : Type 0} (k : ℕ) (st : State) (r : Outcome A) : Type 0 where
  pub past : Past st (state_of r)
  pub same : k ≡ 0 → r ≡ Going (more k st)

-- the second ends as the first does, with so many more units left
abbrev pub Extends : {A : Type 0} → ℕ → Outcome A → Outcome A → Type 0
Extends k (Gives a st) r = r ≡ Gives a (more k st)
Extends k (Ended st) r = r ≡ Ended (more k st)
Extends k (Undefined act st) r = r ≡ Undefined act (more k st)
Extends k (Going st) r = GoesOn k st r

-- the acts that a text which a programmer wrote can come to
abbrev pub is_own : Act → Bool
is_own HelperLimit = false
is_own act = true

-- no units are gained, the run is going only where none is left, and it comes to no other act
abbrev pub Proper : {A : Type 0} → ℕ → Outcome A → Type 0
Proper left (Gives a st) = st.left ≤ left
Proper left (Ended st) = Unit {0}
Proper left (Going st) = st.left ≡ 0
Proper left (Undefined act st) = is_own act ≡ true

-- the second, on the second input and with so many more units, does what the first does on the first, if the inputs agree on what the first has taken
-- where asked for, the first is proper with less fuel than depth
pub record Follows {A : Type 0} (depth : ℕ) (strict : Bool) (k : ℕ) (i j : List ℕ) (m m' : Run A) : Type 0 where
  pub follows : (st : State) → Agree (state_of (m st)).taken i j → Extends k (m st) (m' (more k st))
  pub grows : (st : State) → Past st (state_of (m st))
  pub grows_too : (st : State) → Past st (state_of (m' st))
  pub proper : strict ≡ true → (st : State) → st.left < depth → Proper st.left (m st)

abbrev pub Grows : {A : Type 0} → Run A → Type 0
Grows m = (st : State) → Past st (state_of (m st))

pub past_here : (st : State) → Past st st
past_here st = record { output = ([], sym (append-nil st.output)); taken = omega arith }

pub past_on : (a b c : State) → Past a b → Past b c → Past a c
past_on a b c p q =
    record { output = (p.output.0 ++ q.output.0, q.output.1 ∙ ap (λ x. x ++ q.output.0) p.output.1 ∙ append_assoc a.output p.output.0 q.output.0); taken = omega (arith, p.taken, q.taken) }

-- neither what was written nor what was taken has changed
pub past_kept : (st st' : State) → st'.output ≡ st.output → st'.taken ≡ st.taken → Past st st'
past_kept st st' o t = record { output = ([], o ∙ sym (append-nil st.output)); taken = omega (arith, t) }

pub agree_before : (m n : ℕ) (i j : List ℕ) → m ≤ n → Agree n i j → Agree m i j
agree_before m n i j le agree b below = agree b (omega (arith, le, below))

-- ---- one after the other

pub after_grows : {A B : Type 0} (r : Outcome A) (f : A → Run B) → ((a : A) → Grows (f a)) → Past (state_of r) (state_of (after r f))
unfolding after
after_grows (Gives a st) f g = g a st
after_grows (Ended st) f g = past_here st
after_grows (Undefined act st) f g = past_here st
after_grows (Going st) f g = past_here st

pub bind_grows : {A B : Type 0} (m : Run A) (f : A → Run B) → Grows m → ((a : A) → Grows (f a)) → Grows (m >>= f)
unfolding ◌>>=◌
bind_grows m f g h st = past_on st (state_of (m st)) _ (g st) (after_grows (m st) f h)

pub after_follows : {A B : Type 0} (depth : ℕ) (strict : Bool) (k : ℕ) (i j : List ℕ) (r r' : Outcome A) (f f' : A → Run B) → (Agree (state_of r).taken i j → Extends k r r') → ((a : A) → Follows depth strict k i j (f a) (f' a)) →
    Agree (state_of (after r f)).taken i j → Extends k (after r f) (after r' f')
unfolding after
after_follows depth strict k i j (Gives a st) r' f f' e t agree =
    subst (λ x. Extends k (f a st) (after x f')) (sym (e (agree_before st.taken _ i j ((t a).grows st).taken agree))) ((t a).follows st agree)
after_follows depth strict k i j (Ended st) r' f f' e t agree = ap (λ x. after x f') (e agree)
after_follows depth strict k i j (Undefined act st) r' f f' e t agree = ap (λ x. after x f') (e agree)
after_follows depth strict k i j (Going st) r' f f' e t agree =
    record { past = past_on st (state_of r') _ (e agree).past (after_grows r' f' (λ a. (t a).grows_too)); same = λ z. ap (λ x. after x f') ((e agree).same z) }

proper_up : {A : Type 0} (l n : ℕ) (r : Outcome A) → l ≤ n → Proper l r → Proper n r
proper_up l n (Gives a st) le p = omega (arith, le, p)
proper_up l n (Ended st) le p = tt
proper_up l n (Going st) le p = p
proper_up l n (Undefined act st) le p = p

after_proper : {A B : Type 0} (l n : ℕ) (r : Outcome A) (f : A → Run B) → l < n → Proper l r → ((a : A) (st : State) → st.left < n → Proper st.left (f a st)) → Proper l (after r f)
unfolding after
after_proper l n (Gives a st) f lt p h = proper_up st.left l (f a st) p (h a st (omega (arith, lt, p)))
after_proper l n (Ended st) f lt p h = p
after_proper l n (Going st) f lt p h = p
after_proper l n (Undefined act st) f lt p h = p

pub bind_follows : {A B : Type 0} {depth : ℕ} {strict : Bool} {k : ℕ} {i j : List ℕ} {m m' : Run A} {f f' : A → Run B} → Follows depth strict k i j m m' → ((a : A) → Follows depth strict k i j (f a) (f' a)) → Follows depth strict k i j (m >>= f) (m' >>= f')
unfolding ◌>>=◌
bind_follows {depth = depth} {strict = strict} {k = k} {i = i} {j = j} {m = m} {m' = m'} {f = f} {f' = f'} t u = record {
  follows = λ st agree. after_follows depth strict k i j (m st) (m' (more k st)) f f' (t.follows st) u agree;
  grows = λ st. past_on st (state_of (m st)) _ (t.grows st) (after_grows (m st) f (λ a. (u a).grows));
  grows_too = λ st. past_on st (state_of (m' st)) _ (t.grows_too st) (after_grows (m' st) f' (λ a. (u a).grows_too));
  proper = λ asked st lt. after_proper st.left depth (m st) f lt (t.proper asked st lt) (λ a. (u a).proper asked);
}

pub give_follows : {A : Type 0} {depth : ℕ} {strict : Bool} {k : ℕ} {i j : List ℕ} (a : A) → Follows depth strict k i j (give a) (give a)
unfolding give
give_follows a = record { follows = λ st agree. refl; grows = past_here; grows_too = past_here; proper = λ asked st lt. omega arith }

pub undefined_follows : {A : Type 0} {depth : ℕ} {strict : Bool} {k : ℕ} {i j : List ℕ} (act : Act) → (strict ≡ true → is_own act ≡ true) → Follows {A = A} depth strict k i j (undefined act) (undefined act)
unfolding undefined
undefined_follows act own = record { follows = λ st agree. refl; grows = past_here; grows_too = past_here; proper = λ asked st lt. own asked }

pub exit_follows : {A : Type 0} {depth : ℕ} {strict : Bool} {k : ℕ} {i j : List ℕ} → Follows {A = A} depth strict k i j exit exit
unfolding exit
exit_follows = record { follows = λ st agree. refl; grows = past_here; grows_too = past_here; proper = λ asked st lt. tt }

pub unless_follows : {A : Type 0} {depth : ℕ} {strict : Bool} {k : ℕ} {i j : List ℕ} (b : Bool) (act : Act) {m m' : Run A} → (strict ≡ true → is_own act ≡ true) → Follows depth strict k i j m m' → Follows depth strict k i j (unless b act m) (unless b act m')
unfolding unless
unless_follows true act own t = t
unless_follows false act own t = undefined_follows act own

pub choose_follows : {A : Type 0} {depth : ℕ} {strict : Bool} {k : ℕ} {i j : List ℕ} (b : Bool) {x x' y y' : Run A} → Follows depth strict k i j x x' → Follows depth strict k i j y y' → Follows depth strict k i j (choose b x y) (choose b x' y')
unfolding choose
choose_follows true t u = t
choose_follows false t u = u

pub if_follows : {A : Type 0} {depth : ℕ} {strict : Bool} {k : ℕ} {i j : List ℕ} (b : Bool) {x x' y y' : Run A} → Follows depth strict k i j x x' → Follows depth strict k i j y y' → Follows depth strict k i j (if b then x else y) (if b then x' else y')
if_follows true t u = t
if_follows false t u = u

pub choose_grows : {A : Type 0} (b : Bool) (x y : Run A) → Grows x → Grows y → Grows (choose b x y)
unfolding choose
choose_grows true x y g h = g
choose_grows false x y g h = h

-- what has stopped for want of depth is followed by each run that grows, and stops where no fuel is more
pub stop_follows : {A : Type 0} {strict : Bool} {k : ℕ} {i j : List ℕ} {m' : Run A} → Grows m' → (k ≡ 0 → m' ≡ stop) → Follows 0 strict k i j stop m'
unfolding stop
stop_follows {A = A} {k = k} {m' = m'} g same = record {
  follows = λ st agree. record { past = past_less st (m' (more k st)) (g (more k st)); same = λ z. ap (λ m. m (more k st)) (same z) };
  grows = past_here;
  grows_too = g;
  proper = λ asked st lt. absurd (omega (arith, lt));
}
  where
    past_less : (st : State) (r : Outcome A) → Past (more k st) (state_of r) → Past st (state_of r)
    past_less st r p = record { output = p.output; taken = p.taken }

-- at less depth
pub lower : {A : Type 0} {less depth : ℕ} {strict : Bool} {k : ℕ} {i j : List ℕ} {m m' : Run A} → less ≤ depth → Follows depth strict k i j m m' → Follows less strict k i j m m'
lower le t = record { follows = t.follows; grows = t.grows; grows_too = t.grows_too; proper = λ asked st lt. t.proper asked st (omega (arith, lt, le)) }

-- ---- fuel

spend_grows : {A : Type 0} (n : ℕ) (m : Run A) (st : State) → Grows m → Past st (state_of (spend m n st))
unfolding spend
spend_grows zero m st g = past_here st
spend_grows (suc n) m st g = let p = g (record st { left = n }) in record { output = p.output; taken = p.taken }

spend_spare_grows : {A : Type 0} (n : ℕ) (m : Run A) (st : State) → Grows m → Past st (state_of (spend_spare m n st))
unfolding spend_spare
spend_spare_grows zero m st g = past_here st
spend_spare_grows (suc n) m st g = let p = g (record st { spare = n }) in record { output = p.output; taken = p.taken }

pub paid_grows : {A : Type 0} (inner : Bool) (m : Run A) → Grows m → Grows (paid inner m)
unfolding paid
paid_grows false m g st = spend_grows st.left m st g
paid_grows true m g st = spend_spare_grows st.spare m st g

past_more : (k : ℕ) (st st' : State) → Past (more k st) st' → Past st st'
past_more k st st' p = record { output = p.output; taken = p.taken }

spend_follows : {A : Type 0} {depth : ℕ} {strict : Bool} (k n : ℕ) (i j : List ℕ) (m m' : Run A) (st : State) → Follows depth strict k i j m m' → Agree (state_of (spend m n st)).taken i j → Extends k (spend m n st) (spend m' (n + k) (more k st))
unfolding spend
spend_follows k zero i j m m' st t agree = record {
  past = past_more k st _ (spend_grows (zero + k) m' (more k st) t.grows_too);
  same = λ z. ap (λ n. spend m' n (more k st)) (none z);
}
  where
    none : k ≡ 0 → zero + k ≡ 0
    none z = omega (arith, z)
spend_follows k (suc n) i j m m' st t agree = subst (λ x. Extends k (m (record st { left = n })) (spend m' x (more k st))) one_more (t.follows (record st { left = n }) agree)
  where
    one_more : suc (n + k) ≡ suc n + k
    one_more = omega arith

spend_spare_follows : {A : Type 0} {depth : ℕ} {strict : Bool} (k n : ℕ) (i j : List ℕ) (m m' : Run A) (st : State) → Follows depth strict k i j m m' → Agree (state_of (spend_spare m n st)).taken i j → Extends k (spend_spare m n st) (spend_spare m' n (more k st))
unfolding spend_spare
spend_spare_follows k zero i j m m' st t agree = refl
spend_spare_follows k (suc n) i j m m' st t agree = t.follows (record st { spare = n }) agree

spend_proper : {A : Type 0} (n depth : ℕ) (m : Run A) (st : State) → st.left ≡ n → n < suc depth → ((st : State) → st.left < depth → Proper st.left (m st)) → Proper st.left (spend m n st)
unfolding spend
spend_proper zero depth m st e lt h = e
spend_proper (suc n) depth m st e lt h = proper_up n st.left (m (record st { left = n })) (omega (arith, e)) (h (record st { left = n }) (omega (arith, lt)))

none_inner : (strict : Bool) → (strict ≡ true → true ≡ false) → strict ≡ true → ⊥
none_inner strict own asked = absurd (cc (own asked))

-- a unit is paid from one depth more
pub paid_deeper : {A : Type 0} {depth : ℕ} {strict : Bool} {k : ℕ} {i j : List ℕ} (inner : Bool) {m m' : Run A} → (strict ≡ true → inner ≡ false) → Follows depth strict k i j m m' → Follows (suc depth) strict k i j (paid inner m) (paid inner m')
unfolding paid
paid_deeper {depth = depth} {k = k} {i = i} {j = j} false {m = m} {m' = m'} own t = record {
  follows = λ st agree. spend_follows k st.left i j m m' st t agree;
  grows = λ st. spend_grows st.left m st t.grows;
  grows_too = λ st. spend_grows st.left m' st t.grows_too;
  proper = λ asked st lt. spend_proper st.left depth m st refl lt (t.proper asked);
}
paid_deeper {strict = strict} {k = k} {i = i} {j = j} true {m = m} {m' = m'} own t = record {
  follows = λ st agree. spend_spare_follows k st.spare i j m m' st t agree;
  grows = λ st. spend_spare_grows st.spare m st t.grows;
  grows_too = λ st. spend_spare_grows st.spare m' st t.grows_too;
  proper = λ asked st lt. absurd (none_inner strict own asked);
}

pub paid_follows : {A : Type 0} {depth : ℕ} {strict : Bool} {k : ℕ} {i j : List ℕ} (inner : Bool) {m m' : Run A} → (strict ≡ true → inner ≡ false) → Follows depth strict k i j m m' → Follows depth strict k i j (paid inner m) (paid inner m')
paid_follows inner own t = lower (omega arith) (paid_deeper inner own t)

-- ---- input, output, objects

pub put_follows : {depth : ℕ} {strict : Bool} {k : ℕ} {i j : List ℕ} (c : ℕ) → Follows depth strict k i j (put c) (put c)
unfolding put
put_follows c = record { follows = λ st agree. refl; grows = written; grows_too = written; proper = λ asked st lt. omega arith }
  where
    written : (st : State) → Past st (record st { output = st.output ++ c % 2 ^ 8 ∷ [] })
    written st = record { output = (c % 2 ^ 8 ∷ [], refl); taken = omega arith }

taking : (st : State) → Past st (record st { taken = st.taken + 1 })
taking st = record { output = ([], sym (append-nil st.output)); taken = omega arith }

pub next_byte_follows : {depth : ℕ} {strict : Bool} {k : ℕ} {i j : List ℕ} → Follows depth strict k i j (next_byte i) (next_byte j)
unfolding next_byte
next_byte_follows {k = k} {i = i} {j = j} =
    record { follows = λ st agree. ap (λ c. Gives c (record (more k st) { taken = st.taken + 1 })) (sym (agree st.taken (omega arith))); grows = taking; grows_too = taking; proper = λ asked st lt. omega arith }

pub objects_now_follows : {depth : ℕ} {strict : Bool} {k : ℕ} {i j : List ℕ} → Follows depth strict k i j objects_now objects_now
unfolding objects_now
objects_now_follows = record { follows = λ st agree. refl; grows = past_here; grows_too = past_here; proper = λ asked st lt. omega arith }

pub with_objects_follows : {depth : ℕ} {strict : Bool} {k : ℕ} {i j : List ℕ} (os : List Object) → Follows depth strict k i j (with_objects os) (with_objects os)
unfolding with_objects
with_objects_follows os =
    record { follows = λ st agree. refl; grows = λ st. past_kept st (record st { objects = os }) refl refl; grows_too = λ st. past_kept st (record st { objects = os }) refl refl; proper = λ asked st lt. omega arith }

-- ---- charge

recharged_follows : {A : Type 0} {depth : ℕ} {strict : Bool} {k : ℕ} {i j : List ℕ} (c : ℕ) (a : A) → Follows depth strict k i j (recharged c a) (recharged c a)
unfolding recharged
recharged_follows c a =
    record { follows = λ st agree. refl; grows = λ st. past_kept st (record st { charge = c }) refl refl; grows_too = λ st. past_kept st (record st { charge = c }) refl refl; proper = λ asked st lt. omega arith }

charged_by_grows : {A : Type 0} (b : Bool) (n : ℕ) (m : Run A) → Grows m → Grows (charged_by b n m)
unfolding charged_by recharged
charged_by_grows false n m g st = past_here st
charged_by_grows true n m g st =
    past_on st (state_of (m (record st { charge = st.charge + n }))) _ (record { output = (g (record st { charge = st.charge + n })).output; taken = (g (record st { charge = st.charge + n })).taken })
    (after_grows (m (record st { charge = st.charge + n })) (recharged st.charge) (λ a st1. past_kept st1 (record st1 { charge = st.charge }) refl refl))

charged_by_follows : {A : Type 0} (depth : ℕ) (strict : Bool) (k : ℕ) (i j : List ℕ) (b : Bool) (n : ℕ) (m m' : Run A) (st : State) → Follows depth strict k i j m m' → Agree (state_of (charged_by b n m st)).taken i j →
    Extends k (charged_by b n m st) (charged_by b n m' (more k st))
unfolding charged_by
charged_by_follows depth strict k i j false n m m' st t agree = refl
charged_by_follows depth strict k i j true n m m' st t agree =
    after_follows depth strict k i j (m (record st { charge = st.charge + n })) (m' (more k (record st { charge = st.charge + n }))) (recharged st.charge) (recharged st.charge) (t.follows (record st { charge = st.charge + n }))
    (λ a. recharged_follows st.charge a) agree

charged_by_proper : {A : Type 0} (depth : ℕ) (b : Bool) (n : ℕ) (m : Run A) (st : State) → st.left < depth → ((st : State) → st.left < depth → Proper st.left (m st)) → Proper st.left (charged_by b n m st)
unfolding charged_by recharged
charged_by_proper depth false n m st lt h = refl
charged_by_proper depth true n m st lt h =
    after_proper st.left depth (m (record st { charge = st.charge + n })) (recharged st.charge) lt (h (record st { charge = st.charge + n }) lt) (λ a st1 lt1. omega arith)

pub charged_follows : {A : Type 0} {depth : ℕ} {strict : Bool} {k : ℕ} {i j : List ℕ} (n : ℕ) {m m' : Run A} → Follows depth strict k i j m m' → Follows depth strict k i j (charged n m) (charged n m')
unfolding charged
charged_follows {depth = depth} {strict = strict} {k = k} {i = i} {j = j} n {m = m} {m' = m'} t = record {
  follows = λ st agree. charged_by_follows depth strict k i j (nat_le (st.charge + n) most_charge) n m m' st t agree;
  grows = λ st. charged_by_grows (nat_le (st.charge + n) most_charge) n m t.grows st;
  grows_too = λ st. charged_by_grows (nat_le (st.charge + n) most_charge) n m' t.grows_too st;
  proper = λ asked st lt. charged_by_proper depth (nat_le (st.charge + n) most_charge) n m st lt (t.proper asked);
}
