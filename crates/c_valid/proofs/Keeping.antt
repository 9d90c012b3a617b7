-- Parts of a run that keep its state valid, and what they give.
use Rattle.std.proofs.Common.{◌≡◌, ℕ, zero, suc, ◌+◌, ◌<◌, List, [], ◌∷◌, Bool, true, false, nat_le, refl, arith}
use Rattle.std.specs.Prelude.{◌^◌, if◌then◌else◌}
use Rattle.mach_core.specs.Rule.{input_at}
use Rattle.c_eval.specs.State.{Object, Act, State, Outcome, Gives, Ended, Going, Undefined, Run}
use Rattle.c_eval.specs.Run.{after, ◌>>=◌, give, undefined, unless, choose, exit, spend, spend_spare, paid, stop, put, next_byte, objects_now, with_objects, recharged, charged_by, charged, most_charge}
use Rattle.c_valid.specs.Valid.{AreBytes, ObjectsAreValid, StateIsValid, IsKept}

-- from each valid state a part leads to one, and what it gives is as told
pub record Keeps {A : Type 0} (G : A → Type 0) (m : Run A) : Type 0 where
  pub keeps : (st : State) → StateIsValid st → IsKept G (m st)

-- of what is given nothing is told
abbrev pub Any : {A : Type 0} → A → Type 0
Any a = Unit {0}

pub after_keeps : {A B : Type 0} (G : A → Type 0) (H : B → Type 0) (r : Outcome A) (f : A → Run B) → IsKept G r → ((a : A) → G a → Keeps H (f a)) → IsKept H (after r f)
unfolding after
after_keeps G H (Gives a st) f k t = (t a k.0).keeps st k.1
after_keeps G H (Ended st) f k t = k
after_keeps G H (Going st) f k t = k
after_keeps G H (Undefined act st) f k t = k

pub bind_keeps : {A B : Type 0} {G : A → Type 0} {H : B → Type 0} {m : Run A} {f : A → Run B} → Keeps G m → ((a : A) → G a → Keeps H (f a)) → Keeps H (m >>= f)
unfolding ◌>>=◌
bind_keeps {G = G} {H = H} {m = m} {f = f} k t = record { keeps = λ st valid. after_keeps G H (m st) f (k.keeps st valid) t }

pub give_keeps : {A : Type 0} {G : A → Type 0} (a : A) → G a → Keeps G (give a)
unfolding give
give_keeps a g = record { keeps = λ st valid. (g, valid) }

pub undefined_keeps : {A : Type 0} {G : A → Type 0} (act : Act) → Keeps {A = A} G (undefined act)
unfolding undefined
undefined_keeps act = record { keeps = λ st valid. valid }

pub exit_keeps : {A : Type 0} {G : A → Type 0} → Keeps {A = A} G exit
unfolding exit
exit_keeps = record { keeps = λ st valid. valid }

pub stop_keeps : {A : Type 0} {G : A → Type 0} → Keeps {A = A} G stop
unfolding stop
stop_keeps = record { keeps = λ st valid. valid }

pub unless_keeps : {A : Type 0} {G : A → Type 0} (b : Bool) (act : Act) {m : Run A} → (b ≡ true → Keeps G m) → Keeps G (unless b act m)
unfolding unless
unless_keeps true act t = t refl
unless_keeps false act t = undefined_keeps act

pub choose_keeps : {A : Type 0} {G : A → Type 0} (b : Bool) {x y : Run A} → Keeps G x → Keeps G y → Keeps G (choose b x y)
unfolding choose
choose_keeps true t u = t
choose_keeps false t u = u

pub if_keeps : {A : Type 0} {G : A → Type 0} (b : Bool) {x y : Run A} → Keeps G x → Keeps G y → Keeps G (if b then x else y)
if_keeps true t u = t
if_keeps false t u = u

-- ---- fuel and charge

spend_keeps : {A : Type 0} (G : A → Type 0) (n : ℕ) (m : Run A) (st : State) → Keeps G m → StateIsValid st → IsKept G (spend m n st)
unfolding spend
spend_keeps G zero m st k valid = valid
spend_keeps G (suc n) m st k valid = k.keeps (record st { left = n }) valid

spend_spare_keeps : {A : Type 0} (G : A → Type 0) (n : ℕ) (m : Run A) (st : State) → Keeps G m → StateIsValid st → IsKept G (spend_spare m n st)
unfolding spend_spare
spend_spare_keeps G zero m st k valid = valid
spend_spare_keeps G (suc n) m st k valid = k.keeps (record st { spare = n }) valid

pub paid_keeps : {A : Type 0} {G : A → Type 0} (inner : Bool) {m : Run A} → Keeps G m → Keeps G (paid inner m)
unfolding paid
paid_keeps {G = G} false {m = m} k = record { keeps = λ st valid. spend_keeps G st.left m st k valid }
paid_keeps {G = G} true {m = m} k = record { keeps = λ st valid. spend_spare_keeps G st.spare m st k valid }

recharged_keeps : {A : Type 0} (G : A → Type 0) (c : ℕ) (a : A) → G a → Keeps G (recharged c a)
unfolding recharged
recharged_keeps G c a g = record { keeps = λ st valid. (g, valid) }

charged_by_keeps : {A : Type 0} (G : A → Type 0) (b : Bool) (n : ℕ) (m : Run A) (st : State) → Keeps G m → StateIsValid st → IsKept G (charged_by b n m st)
unfolding charged_by
charged_by_keeps G false n m st k valid = valid
charged_by_keeps G true n m st k valid = after_keeps G G (m (record st { charge = st.charge + n })) (recharged st.charge) (k.keeps (record st { charge = st.charge + n }) valid) (λ a g. recharged_keeps G st.charge a g)

pub charged_keeps : {A : Type 0} {G : A → Type 0} (n : ℕ) {m : Run A} → Keeps G m → Keeps G (charged n m)
unfolding charged
charged_keeps {G = G} n {m = m} k = record { keeps = λ st valid. charged_by_keeps G (nat_le (st.charge + n) most_charge) n m st k valid }

-- ---- input, output, objects

pub put_keeps : (c : ℕ) → Keeps Any (put c)
unfolding put
put_keeps c = record { keeps = λ st valid. (tt, valid) }

-- past the input's end there are zeros
input_byte : (input : List ℕ) (n : ℕ) → AreBytes input → input_at input n < 2 ^ 8
input_byte [] n bytes = omega arith
input_byte (c ∷ cs) zero bytes = bytes.0
input_byte (c ∷ cs) (suc n) bytes = input_byte cs n bytes.1

pub next_byte_keeps : (input : List ℕ) → AreBytes input → Keeps (λ c. c < 2 ^ 8) (next_byte input)
unfolding next_byte
next_byte_keeps input bytes = record { keeps = λ st valid. (input_byte input st.taken bytes, valid) }

pub objects_now_keeps : Keeps ObjectsAreValid objects_now
unfolding objects_now
objects_now_keeps = record { keeps = λ st valid. (valid, valid) }

pub with_objects_keeps : (os : List Object) → ObjectsAreValid os → Keeps Any (with_objects os)
unfolding with_objects
with_objects_keeps os valid = record { keeps = λ st before. (tt, valid) }
