-- What a part of a run does with more units.
use Rattle.std.proofs.Common.{◌≡◌, ℕ, zero, suc, ◌+◌, ◌≤◌, List, [], ◌∷◌, Bool, true, false, refl, sym, ap, ◌∙◌, subst, arith}
use Rattle.std.specs.Prelude.{codes, if◌then◌else◌}
use Rattle.std.specs.Str.{bytes_eq}
use Rattle.c_eval.specs.State.{Value, Word, Cell, Unset, Holds, OutsideObject, OtherKind, UnsetCell, State, Outcome, Gives, Ended, Going, Undefined, Run}
use Rattle.c_eval.specs.Run.{after, ◌>>=◌, spend, paid, put, put_all, next_byte}
use Rattle.c_eval.specs.Memory.{cells_at, offset_of}
use Rattle.c_eval.specs.Operators.{of_word}
use Rattle.c_eval.specs.BuiltIns.{put_string, put_string_at, with_one, built_in, cells_from}
use Rattle.c_eval.proofs.Following.{more}
use Rattle.c_rule.specs.Stepping.{state_of}
use Rattle.c_rule.proofs.Parting.{mapped, like, idle, Silent, give_silent, undefined_silent, exit_silent, objects_now_silent}

abbrev pub IsGoing : {A : Type 0} → Outcome A → Type 0
IsGoing (Gives a st) = ⊥
IsGoing (Ended st) = ⊥
IsGoing (Going st) = Unit {0}
IsGoing (Undefined act st) = ⊥

-- the second has so many units more, and one: it comes to what the first comes to, with these left; where the first lacks a unit, not so many are left
abbrev pub GoesWith : {A : Type 0} → ℕ → Outcome A → Outcome A → Type 0
GoesWith j (Gives a s) r = r ≡ Gives a (more (suc j) s)
GoesWith j (Ended s) r = r ≡ Ended (more (suc j) s)
GoesWith j (Undefined act s) r = r ≡ Undefined act (more (suc j) s)
GoesWith j (Going s) r = (IsGoing r → ⊥) → (state_of r).left ≤ j

pub record Fuelled {A : Type 0} (m : Run A) : Type 0 where
  pub spends : (st : State) → (state_of (m st)).left ≤ st.left
  pub goes_with : (j : ℕ) (st : State) → GoesWith j (m st) (m (more (suc j) st))

-- ---- one after the other

spends_after : {A B : Type 0} (n : ℕ) (r : Outcome A) (f : A → Run B) → (state_of r).left ≤ n → ((a : A) → Fuelled (f a)) → (state_of (after r f)).left ≤ n
unfolding after
spends_after n (Gives a s) f le t = let h : (state_of (f a s)).left ≤ s.left = (t a).spends s in omega (arith, le, h)
spends_after n (Ended s) f le t = le
spends_after n (Going s) f le t = le
spends_after n (Undefined act s) f le t = le

lacks_after : {A B : Type 0} (j : ℕ) (r : Outcome A) (f : A → Run B) → ((IsGoing r → ⊥) → (state_of r).left ≤ j) → ((a : A) → Fuelled (f a)) → (IsGoing (after r f) → ⊥) → (state_of (after r f)).left ≤ j
unfolding after
lacks_after j (Gives a s) f h t g = let le : s.left ≤ j = h (λ x. x) in let k : (state_of (f a s)).left ≤ s.left = (t a).spends s in omega (arith, le, k)
lacks_after j (Ended s) f h t g = h g
lacks_after j (Going s) f h t g = h g
lacks_after j (Undefined act s) f h t g = h g

goes_after : {A B : Type 0} (j : ℕ) (r r' : Outcome A) (f : A → Run B) → GoesWith j r r' → ((a : A) → Fuelled (f a)) → GoesWith j (after r f) (after r' f)
unfolding after
goes_after j (Gives a s) r' f e t = subst (λ x. GoesWith j (f a s) (after x f)) (sym e) ((t a).goes_with j s)
goes_after j (Ended s) r' f e t = ap (λ x. after x f) e
goes_after j (Going s) r' f e t = lacks_after j r' f e t
goes_after j (Undefined act s) r' f e t = ap (λ x. after x f) e

pub fuel_then : {A B : Type 0} {m : Run A} {f : A → Run B} → Fuelled m → ((a : A) → Fuelled (f a)) → Fuelled (m >>= f)
unfolding ◌>>=◌
fuel_then {m = m} {f = f} t u = record { spends = λ st. spends_after st.left (m st) f (t.spends st) u; goes_with = λ j st. goes_after j (m st) (m (more (suc j) st)) f (t.goes_with j st) u }

left_like : {A : Type 0} (st : State) (r : Outcome A) → (state_of (mapped (λ s. like st s) r)).left ≡ st.left
left_like st (Gives a s) = refl
left_like st (Ended s) = refl
left_like st (Going s) = refl
left_like st (Undefined act s) = refl

goes_like : {A : Type 0} (j : ℕ) (st : State) (r : Outcome A) → GoesWith j (mapped (λ s. like st s) r) (mapped (λ s. like (more (suc j) st) s) r)
goes_like j st (Gives a s) = refl
goes_like j st (Ended s) = refl
goes_like j st (Going s) = λ g. absurd (g tt)
goes_like j st (Undefined act s) = refl

pub fuel_of : {A : Type 0} {m : Run A} → Silent m → Fuelled m
fuel_of {A = A} {m = m} t = record {
  spends = λ st. let e : (state_of (m st)).left ≡ st.left = ap (λ (r : Outcome A). (state_of r).left) (t.silent st) ∙ left_like st (m (idle st)) in omega (arith, e);
  goes_with = λ j st.
      subst (λ (r : Outcome A). GoesWith j r (m (more (suc j) st))) (sym (t.silent st))
      (subst (λ (r : Outcome A). GoesWith j (mapped (λ s. like st s) (m (idle st))) r) (sym (t.silent (more (suc j) st))) (goes_like j st (m (idle st))));
}

-- ---- words

pub put_fuel : (n : ℕ) → Fuelled (put n)
unfolding put
put_fuel n = record { spends = λ st. omega arith; goes_with = λ j st. refl }

pub put_all_fuel : (cs : List ℕ) → Fuelled (put_all cs)
unfolding put_all
put_all_fuel [] = fuel_of (give_silent tt)
put_all_fuel (c ∷ cs) = fuel_then (put_fuel c) (λ _. put_all_fuel cs)

next_byte_fuel : (input : List ℕ) → Fuelled (next_byte input)
unfolding next_byte
next_byte_fuel input = record { spends = λ st. omega arith; goes_with = λ j st. refl }

spend_spends : {A : Type 0} (m : Run A) (l : ℕ) (st : State) → st.left ≡ l → Fuelled m → (state_of (spend m l st)).left ≤ st.left
unfolding spend
spend_spends m zero st e t = omega arith
spend_spends m (suc l) st e t = let h : (state_of (m (record st { left = l }))).left ≤ l = t.spends (record st { left = l }) in omega (arith, e, h)

spend_goes : {A : Type 0} (m : Run A) (j l : ℕ) (st : State) → Fuelled m → GoesWith j (spend m l st) (spend m (l + suc j) (more (suc j) st))
unfolding spend
spend_goes m j zero st t = let e : suc j ≡ zero + suc j = omega arith in subst (λ n. GoesWith j (Going st) (spend m n (more (suc j) st))) e (λ g. t.spends (record st { left = j }))
spend_goes m j (suc l) st t = let e : suc (l + suc j) ≡ suc l + suc j = omega arith in subst (λ n. GoesWith j (m (record st { left = l })) (spend m n (more (suc j) st))) e (t.goes_with j (record st { left = l }))

pub paid_fuel : {A : Type 0} {m : Run A} → Fuelled m → Fuelled (paid false m)
unfolding paid
paid_fuel {m = m} t = record { spends = λ st. spend_spends m st.left st refl t; goes_with = λ j st. spend_goes m j st.left st t }

if_fuel : {A : Type 0} (b : Bool) {x y : Run A} → Fuelled x → Fuelled y → Fuelled (if b then x else y)
if_fuel true t u = t
if_fuel false t u = u

pub of_word_fuel : {A : Type 0} (v : Value) {f : ℕ → Run A} → ((n : ℕ) → Fuelled (f n)) → Fuelled (of_word v f)
unfolding of_word
of_word_fuel (Word n) t = t n
of_word_fuel v t = fuel_of (undefined_silent OtherKind)

one_fuel : (vs : List Value) {f : Value → Run Value} → ((v : Value) → Fuelled (f v)) → Fuelled (with_one vs f)
unfolding with_one
one_fuel [] t = fuel_of (undefined_silent OtherKind)
one_fuel (v ∷ vs) t = t v

put_string_fuel : (cells : List Cell) → Fuelled (put_string false cells)
unfolding put_string
put_string_fuel [] = fuel_of (undefined_silent OutsideObject)
put_string_fuel (Unset ∷ cells) = fuel_of (undefined_silent UnsetCell)
put_string_fuel (Holds (Word zero) ∷ cells) = fuel_of (give_silent tt)
put_string_fuel (Holds (Word (suc n)) ∷ cells) = paid_fuel (fuel_then (put_fuel (suc n)) (λ _. put_string_fuel cells))
put_string_fuel (Holds w ∷ cells) = fuel_of (undefined_silent OtherKind)

string_fuel : (p : Value) → Fuelled (put_string_at false p)
unfolding put_string_at
string_fuel p = fuel_then (fuel_of objects_now_silent) (λ os. put_string_fuel (cells_from (cells_at os p) (offset_of p)))

pub built_fuel : (input name : List ℕ) (vs : List Value) → Fuelled (built_in input false name vs)
unfolding built_in
built_fuel input name vs =
    if_fuel (bytes_eq name (codes "getchar")) (fuel_then (next_byte_fuel input) (λ c. fuel_of (give_silent _)))
    (if_fuel (bytes_eq name (codes "__builtin_getc")) (fuel_then (next_byte_fuel input) (λ c. fuel_of (give_silent _)))
    (if_fuel (bytes_eq name (codes "putchar")) (one_fuel vs (λ v. of_word_fuel v (λ c. fuel_then (put_fuel c) (λ _. fuel_of (give_silent v)))))
    (if_fuel (bytes_eq name (codes "puts")) (one_fuel vs (λ v. fuel_then (string_fuel v) (λ _. fuel_then (put_fuel 10) (λ _. fuel_of (give_silent _)))))
    (if_fuel (bytes_eq name (codes "exit")) (one_fuel vs (λ v. of_word_fuel v (λ n. fuel_of exit_silent))) (fuel_of (undefined_silent OtherKind))))))
