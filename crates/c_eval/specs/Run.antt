-- The words from which runs are made.
use Rattle.std.specs.Prelude.{ℕ, zero, suc, ◌+◌, ◌-◌, ◌%◌, ◌^◌, Bool, true, false, nat_le, List, [], ◌∷◌, ◌++◌}
use Rattle.mach_core.specs.Rule.{input_at}
use Rattle.c_eval.specs.State.{Object, Act, ChargeLimit, HelperLimit, Outcome, Gives, Ended, Going, Undefined, Run}

-- what follows an outcome: only where the run goes on
unfoldable pub after : {A B : Type 0} → Outcome A → (A → Run B) → Outcome B
after (Gives a st) f = f a st
after (Ended st) f = Ended st
after (Going st) f = Going st
after (Undefined act st) f = Undefined act st

-- one part, and then what follows from what it gave
infixl 10 ◌>>=◌
unfoldable pub ◌>>=◌ : {A B : Type 0} → Run A → (A → Run B) → Run B
(m >>= f) st = after (m st) f

-- a value, and nothing else happens
unfoldable pub give : {A : Type 0} → A → Run A
give a st = Gives a st

-- an undefined act
unfoldable pub undefined : {A : Type 0} → Act → Run A
undefined act st = Undefined act st

-- the act is undefined, unless the rule is kept
unfoldable pub unless : {A : Type 0} → Bool → Act → Run A → Run A
unless true act m = m
unless false act m = undefined act

-- the one or the other
unfoldable pub choose : {A : Type 0} → Bool → Run A → Run A → Run A
choose true a b = a
choose false a b = b

-- the run ends
unfoldable pub exit : {A : Type 0} → Run A
exit st = Ended st

-- ---- fuel

-- a unit of the run's fuel
unfoldable pub spend : {A : Type 0} → Run A → ℕ → Run A
spend m zero st = Going st
spend m (suc n) st = m (record st { left = n })

-- a unit of the second fuel
unfoldable pub spend_spare : {A : Type 0} → Run A → ℕ → Run A
spend_spare m zero st = Undefined HelperLimit st
spend_spare m (suc n) st = m (record st { spare = n })

-- a unit is spent, and then the rest: the run's own, or in a helper function the second fuel's
unfoldable pub paid : {A : Type 0} → (inner : Bool) → Run A → Run A
paid false m st = spend m st.left st
paid true m st = spend_spare m st.spare st

-- the definition's depth is used up: it isn't met, since each run is given more depth than fuel
unfoldable pub stop : {A : Type 0} → Run A
stop st = Going st

-- ---- input and output

-- a byte is written, modulo 256
unfoldable pub put : ℕ → Run (Unit {0})
put c st = Gives tt (record st { output = st.output ++ c % 2 ^ 8 ∷ [] })

-- bytes one after the other
unfoldable pub put_all : List ℕ → Run (Unit {0})
put_all [] = give tt
put_all (c ∷ cs) = put c >>= λ _. put_all cs

-- the next byte of the input, which is 0 past its end
unfoldable pub next_byte : List ℕ → Run ℕ
next_byte input st = Gives (input_at input st.taken) (record st { taken = st.taken + 1 })

-- ---- objects

-- the objects as they are
unfoldable pub objects_now : Run (List Object)
objects_now st = Gives st.objects st

-- the objects become these
unfoldable pub with_objects : List Object → Run (Unit {0})
with_objects os st = Gives tt (record st { objects = os })

-- ---- charge

-- the charges of the live calls and 1024 words for helper functions are together at most 2^22
abbrev pub most_charge : ℕ
most_charge = 2 ^ 22 - 1024

-- the charge becomes this
unfoldable pub recharged : {A : Type 0} → ℕ → A → Run A
recharged c a st = Gives a (record st { charge = c })

-- the body of a call, where its charge is within the limit
unfoldable pub charged_by : {A : Type 0} → Bool → ℕ → Run A → Run A
charged_by false n m st = Undefined ChargeLimit st
charged_by true n m st = after (m (record st { charge = st.charge + n })) (recharged st.charge)

-- a call of this charge, which is live until it returns
unfoldable pub charged : {A : Type 0} → ℕ → Run A → Run A
charged n m st = charged_by (nat_le (st.charge + n) most_charge) n m st
