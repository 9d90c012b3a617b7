-- Parts of a run, one after the other.
use Rattle.std.proofs.Common.{◌≡◌, List, [], ◌∷◌, refl, ap, ◌∙◌}
use Rattle.c_eval.specs.State.{Act, NoResult, Value, Word, Null, Point, Letter, Function, Missing, State, Outcome, Gives, Ended, Going, Undefined, Run}
use Rattle.c_eval.specs.Run.{after, ◌>>=◌, give, undefined}
use Rattle.c_eval.specs.Operators.{used}
use Rattle.c_valid.specs.Valid.{StateIsValid, IsKept}
use Rattle.c_valid.proofs.Keeping.{Keeps}

after_same : {A B : Type 0} (G : A → Type 0) (r : Outcome A) (f g : A → Run B) → IsKept G r → ((a : A) (st : State) → G a → StateIsValid st → f a st ≡ g a st) → after r f ≡ after r g
unfolding after
after_same G (Gives a st) f g k h = h a st k.0 k.1
after_same G (Ended st) f g k h = refl
after_same G (Going st) f g k h = refl
after_same G (Undefined act st) f g k h = refl

-- what follows does the same on all that is given
pub bind_same : {A B : Type 0} (G : A → Type 0) (m : Run A) (f g : A → Run B) (st : State) → Keeps G m → StateIsValid st → ((a : A) (st : State) → G a → StateIsValid st → f a st ≡ g a st) → (m >>= f) st ≡ (m >>= g) st
unfolding ◌>>=◌
bind_same G m f g st k v h = after_same G (m st) f g (k.keeps st v) h

after_together : {A B C : Type 0} (r : Outcome A) (f : A → Run B) (g : B → Run C) → after (after r f) g ≡ after r (λ a. f a >>= g)
unfolding after ◌>>=◌
after_together (Gives a st) f g = refl
after_together (Ended st) f g = refl
after_together (Going st) f g = refl
after_together (Undefined act st) f g = refl

pub together : {A B C : Type 0} (m : Run A) (f : A → Run B) (g : B → Run C) (st : State) → ((m >>= f) >>= g) st ≡ (m >>= (λ a. f a >>= g)) st
unfolding ◌>>=◌
together m f g st = after_together (m st) f g

pub first_is : {A B : Type 0} (m n : Run A) (f : A → Run B) (st : State) → m st ≡ n st → (m >>= f) st ≡ (n >>= f) st
unfolding ◌>>=◌
first_is m n f st e = ap (λ r. after r f) e

-- ---- what never gives nothing

-- it gives a value that can be used
pub record Solid (m : Run Value) : Type 0 where
  pub solid : (st : State) → (m >>= used) st ≡ m st

pub give_solid : (v : Value) → used v ≡ give v → Solid (give v)
unfolding ◌>>=◌ after give
give_solid v e = record { solid = λ st. ap (λ (r : Run Value). r st) e }

pub undefined_solid : (act : Act) → Solid (undefined act)
unfolding ◌>>=◌ after undefined
undefined_solid act = record { solid = λ st. refl }

after_solid : {A : Type 0} (r : Outcome A) (f : A → Run Value) → ((a : A) → Solid (f a)) → after (after r f) used ≡ after r f
unfolding after ◌>>=◌
after_solid (Gives a st) f h = (h a).solid st
after_solid (Ended st) f h = refl
after_solid (Going st) f h = refl
after_solid (Undefined act st) f h = refl

pub bind_solid : {A : Type 0} (m : Run A) (f : A → Run Value) → ((a : A) → Solid (f a)) → Solid (m >>= f)
unfolding ◌>>=◌
bind_solid m f h = record { solid = λ st. after_solid (m st) f h }

used_is_solid : (v : Value) → Solid (used v)
unfolding used
used_is_solid (Word n) = give_solid (Word n) refl
used_is_solid Null = give_solid Null refl
used_is_solid (Point o k) = give_solid (Point o k) refl
used_is_solid (Letter f i text k) = give_solid (Letter f i text k) refl
used_is_solid (Function f) = give_solid (Function f) refl
used_is_solid Missing = undefined_solid NoResult

pub used_solid : (m : Run Value) → Solid (m >>= used)
used_solid m = bind_solid m used used_is_solid

-- ---- arguments

second_argument : (r : Outcome Value) (v : Value) (F : List Value → Run Value) → after (after (after r (λ y. give [] >>= λ vs. give (y ∷ vs))) (λ vs. give (v ∷ vs))) F ≡ after r (λ y. F (v ∷ y ∷ []))
unfolding after ◌>>=◌ give
second_argument (Gives y st) v F = refl
second_argument (Ended st) v F = refl
second_argument (Going st) v F = refl
second_argument (Undefined act st) v F = refl

first_argument : (r : Outcome Value) (b : Run Value) (F : List Value → Run Value) → after (after r (λ v. (b >>= λ y. give [] >>= λ vs. give (y ∷ vs)) >>= λ vs. give (v ∷ vs))) F ≡ after r (λ v. b >>= λ y. F (v ∷ y ∷ []))
unfolding after ◌>>=◌
first_argument (Gives v st) b F = second_argument (b st) v F
first_argument (Ended st) b F = refl
first_argument (Going st) b F = refl
first_argument (Undefined act st) b F = refl

only_argument : (r : Outcome Value) (F : List Value → Run Value) → after (after r (λ v. give [] >>= λ vs. give (v ∷ vs))) F ≡ after r (λ v. F (v ∷ []))
unfolding after ◌>>=◌ give
only_argument (Gives v st) F = refl
only_argument (Ended st) F = refl
only_argument (Going st) F = refl
only_argument (Undefined act st) F = refl

pub one_argument : (a : Run Value) (F : List Value → Run Value) (st : State) → ((a >>= λ v. give [] >>= λ vs. give (v ∷ vs)) >>= F) st ≡ (a >>= λ v. F (v ∷ [])) st
unfolding ◌>>=◌
one_argument a F st = only_argument (a st) F

pub two_arguments : (a b : Run Value) (F : List Value → Run Value) (st : State) → ((a >>= λ v. (b >>= λ y. give [] >>= λ vs. give (y ∷ vs)) >>= λ vs. give (v ∷ vs)) >>= F) st ≡ (a >>= λ v. b >>= λ y. F (v ∷ y ∷ [])) st
unfolding ◌>>=◌
two_arguments a b F st = first_argument (a st) b F

third_of : (r : Outcome Value) (v y : Value) (F : List Value → Run Value) → after (after (after (after r (λ z. give [] >>= λ vs. give (z ∷ vs))) (λ vs. give (y ∷ vs))) (λ vs. give (v ∷ vs))) F ≡ after r (λ z. F (v ∷ y ∷ z ∷ []))
unfolding after ◌>>=◌ give
third_of (Gives z st) v y F = refl
third_of (Ended st) v y F = refl
third_of (Going st) v y F = refl
third_of (Undefined act st) v y F = refl

second_of : (r : Outcome Value) (v : Value) (c : Run Value) (F : List Value → Run Value) → after (after (after r (λ y. (c >>= λ z. give [] >>= λ vs. give (z ∷ vs)) >>= λ vs. give (y ∷ vs))) (λ vs. give (v ∷ vs))) F ≡ after r (λ y. c >>= λ z. F (v ∷ y ∷ z ∷ []))
unfolding after ◌>>=◌
second_of (Gives y st) v c F = third_of (c st) v y F
second_of (Ended st) v c F = refl
second_of (Going st) v c F = refl
second_of (Undefined act st) v c F = refl

first_of_three : (r : Outcome Value) (b c : Run Value) (F : List Value → Run Value)
    → after (after r (λ v. (b >>= λ y. (c >>= λ z. give [] >>= λ vs. give (z ∷ vs)) >>= λ vs. give (y ∷ vs)) >>= λ vs. give (v ∷ vs))) F ≡ after r (λ v. b >>= λ y. c >>= λ z. F (v ∷ y ∷ z ∷ []))
unfolding after ◌>>=◌
first_of_three (Gives v st) b c F = second_of (b st) v c F
first_of_three (Ended st) b c F = refl
first_of_three (Going st) b c F = refl
first_of_three (Undefined act st) b c F = refl

pub three_arguments : (a b c : Run Value) (F : List Value → Run Value) (st : State)
    → ((a >>= λ v. (b >>= λ y. (c >>= λ z. give [] >>= λ vs. give (z ∷ vs)) >>= λ vs. give (y ∷ vs)) >>= λ vs. give (v ∷ vs)) >>= F) st ≡ (a >>= λ v. b >>= λ y. c >>= λ z. F (v ∷ y ∷ z ∷ [])) st
unfolding ◌>>=◌
three_arguments a b c F st = first_of_three (a st) b c F

-- what is given goes on at once
pub give_on : {A B : Type 0} (a : A) (f : A → Run B) (st : State) → (give a >>= f) st ≡ f a st
unfolding ◌>>=◌ after give
give_on a f st = refl

-- what follows does the same on whatever is given
after_each : {A B : Type 0} (r : Outcome A) (f g : A → Run B) → ((a : A) (st : State) → f a st ≡ g a st) → after r f ≡ after r g
unfolding after
after_each (Gives a st) f g h = h a st
after_each (Ended st) f g h = refl
after_each (Going st) f g h = refl
after_each (Undefined act st) f g h = refl

pub bind_each : {A B : Type 0} (m : Run A) (f g : A → Run B) (st : State) → ((a : A) (st : State) → f a st ≡ g a st) → (m >>= f) st ≡ (m >>= g) st
unfolding ◌>>=◌
bind_each m f g st h = after_each (m st) f g h

-- two parts, and what follows both and is used
pub pair_used : (G : Value → Type 0) (m n : Run Value) → Keeps G m → Keeps G n → (f g : Value → Value → Run Value) (st : State) → StateIsValid st → ((x y : Value) (st : State) → G x → G y → StateIsValid st → (f x y >>= used) st ≡ g x y st)
    → ((m >>= λ x. n >>= λ y. f x y) >>= used) st ≡ (m >>= λ x. n >>= λ y. g x y) st
pair_used G m n km kn f g st v h =
    together m (λ x. n >>= λ y. f x y) used st
    ∙ bind_same G m (λ x. (n >>= λ y. f x y) >>= used) (λ x. n >>= λ y. g x y) st km v (λ x st vx vs. together n (λ y. f x y) used st ∙ bind_same G n (λ y. f x y >>= used) (λ y. g x y) st kn vs (λ y st vy vt. h x y st vx vy vt))
