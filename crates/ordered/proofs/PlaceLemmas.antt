-- Where a key stands among keys, and where it stands once a new one has come.
use Rattle.std.proofs.Common.{◌≡◌, ℕ, suc, ◌+◌, Bool, true, false, ◌||◌, not, cond, List, [], ◌∷◌, ◌++◌, length, Option, Some, None, is_some, position, slice_get, refl, sym, ap, ◌∙◌, subst, arith, if◌then◌else◌, nat_lt}
use Rattle.std.proofs.lemmas.Bool.{false≢true}
use Rattle.std.proofs.lemmas.Bool.Decides.{nat_tests}
use Rattle.std.specs.List.{list_any, position_or_len, AllByRecursion, IsDistinct}
use Rattle.std.specs.Option.{option_map}
use Rattle.std.specs.Cmp.{IsEquivalence}
use Rattle.std.specs.HashMap.{HashMap, get, Updates}
use Rattle.ordered.specs.Order.{insert_key, AreNumbered}

place_by : (b : Bool) (n m : ℕ) (o : Option ℕ) → cond (nat_lt n m) (Some n) None ≡ o
    → cond (nat_lt (cond (not b) (1 + n) 0) (suc m)) (Some (cond (not b) (1 + n) 0)) None ≡ cond b (Some 0) (option_map (λ k. 1 + k) o)
place_by true n m o h = let t : nat_lt 0 (suc m) ≡ true = grind (arith, nat_tests) in ap (λ b. cond b (Some 0) None) t
place_by false n m o h = step (nat_lt n m) refl where
  step : (t : Bool) → nat_lt n m ≡ t → cond (nat_lt (1 + n) (suc m)) (Some (1 + n)) None ≡ option_map (λ k. 1 + k) o
  step true e =
      let more : nat_lt (1 + n) (suc m) ≡ true = grind (arith, nat_tests) in
      let is : Some n ≡ o = sym (ap (λ b. cond b (Some n) None) e) ∙ h in
      ap (λ b. cond b (Some (1 + n)) None) more ∙ ap (option_map (λ k. 1 + k)) is
  step false e =
      let more : nat_lt (1 + n) (suc m) ≡ false = grind (arith, nat_tests) in
      let is : None ≡ o = sym (ap (λ b. cond b (Some n) None) e) ∙ h in
      ap (λ b. cond b (Some (1 + n)) None) more ∙ ap (option_map (λ k. 1 + k)) is

module _ {K : Type 0} (p : K → Bool) where
  -- the place of the first that passes, by recursion
  abbrev pub first : List K → Option ℕ
  first [] = None
  first (x ∷ xs) = cond (p x) (Some 0) (option_map (λ k. 1 + k) (first xs))

  pub place_is_first : (xs : List K) → position p xs ≡ first xs
  place_is_first [] = refl
  place_is_first (x ∷ xs) = place_by (p x) (position_or_len p xs) (length xs) (first xs) (place_is_first xs)

  first_any : (xs : List K) → is_some (first xs) ≡ list_any p xs
  first_any [] = refl
  first_any (x ∷ xs) = by (p x) (first xs) (first_any xs) where
    by : (b : Bool) (o : Option ℕ) → is_some o ≡ list_any p xs → is_some (cond b (Some 0) (option_map (λ k. 1 + k) o)) ≡ (b || list_any p xs)
    by true o h = refl
    by false (Some n) h = h
    by false None h = h

  -- a key has a place where it is among the keys
  pub place_any : (xs : List K) → is_some (position p xs) ≡ list_any p xs
  place_any xs = ap is_some (place_is_first xs) ∙ first_any xs

  pub some_any : (xs : List K) (n : ℕ) → position p xs ≡ Some n → list_any p xs ≡ true
  some_any xs n h = sym (place_any xs) ∙ ap is_some h

  pub none_any : (xs : List K) → position p xs ≡ None → list_any p xs ≡ false
  none_any xs h = sym (place_any xs) ∙ ap is_some h

  first_or : (xs : List K) (n : ℕ) → first xs ≡ Some n → position_or_len p xs ≡ n
  first_or [] n h = cc
  first_or (x ∷ xs) n h = by (p x) (first xs) (first_or xs) h where
    by : (b : Bool) (o : Option ℕ) → ((k : ℕ) → o ≡ Some k → position_or_len p xs ≡ k) → cond b (Some 0) (option_map (λ k. 1 + k) o) ≡ Some n → cond (not b) (1 + position_or_len p xs) 0 ≡ n
    by true o f e = cc
    by false (Some k) f e = ap (λ j. 1 + j) (f k refl) ∙ cc
    by false None f e = cc

  pub place_or : (xs : List K) (n : ℕ) → position p xs ≡ Some n → n ≡ position_or_len p xs
  place_or xs n h = sym (first_or xs n (sym (place_is_first xs) ∙ h))

  first_none : (xs : List K) → first xs ≡ None → position_or_len p xs ≡ length xs
  first_none [] h = refl
  first_none (x ∷ xs) h = by (p x) (first xs) (first_none xs) h where
    by : (b : Bool) (o : Option ℕ) → (o ≡ None → position_or_len p xs ≡ length xs) → cond b (Some 0) (option_map (λ k. 1 + k) o) ≡ None → cond (not b) (1 + position_or_len p xs) 0 ≡ suc (length xs)
    by true o f e = cc
    by false (Some k) f e = cc
    by false None f e = let is : position_or_len p xs ≡ length xs = f refl in omega arith

  pub no_place : (xs : List K) → position p xs ≡ None → position_or_len p xs ≡ length xs
  no_place xs h = first_none xs (sym (place_is_first xs) ∙ h)

  -- what stands at a place, and passes
  abbrev pub Stored : List K → ℕ → Type 0
  Stored xs n = (k : K) × (slice_get xs n ≡ Some k) × (p k ≡ true)

  first_stored : (xs : List K) (n : ℕ) → first xs ≡ Some n → Stored xs n
  first_stored [] n h = absurd (cc h)
  first_stored (x ∷ xs) n h = by (p x) refl (first xs) (first_stored xs) h where
    by : (b : Bool) → p x ≡ b → (o : Option ℕ) → ((k : ℕ) → o ≡ Some k → Stored xs k) → cond b (Some 0) (option_map (λ k. 1 + k) o) ≡ Some n → Stored (x ∷ xs) n
    by true t o f e = let is : 0 ≡ n = cc in subst (λ m. Stored (x ∷ xs) m) is (x, refl, t)
    by false t (Some k) f e =
        let there = f k refl in
        let is : 1 + k ≡ n = cc in
        let up : suc k ≡ n = omega arith in
        subst (λ m. Stored (x ∷ xs) m) up (there.0, there.1, there.2)
    by false t None f e = absurd (cc e)

  pub place_stored : (xs : List K) (n : ℕ) → position p xs ≡ Some n → Stored xs n
  place_stored xs n h = first_stored xs n (sym (place_is_first xs) ∙ h)

  first_push : (xs : List K) (x : K) → first (xs ++ x ∷ []) ≡ cond (list_any p xs) (first xs) (cond (p x) (Some (length xs)) None)
  first_push [] x = refl
  first_push (y ∷ ys) x = by (p y) (list_any p ys) (p x) (first ys) (first (ys ++ x ∷ [])) (first_push ys x) where
    by : (b t e : Bool) (o new : Option ℕ) → new ≡ cond t o (cond e (Some (length ys)) None)
        → cond b (Some 0) (option_map (λ k. 1 + k) new) ≡ cond (b || t) (cond b (Some 0) (option_map (λ k. 1 + k) o)) (cond e (Some (suc (length ys))) None)
    by true t e o new h = refl
    by false true e o new h = ap (option_map (λ k. 1 + k)) h
    by false false true o new h = ap (option_map (λ k. 1 + k)) h ∙ ap Some (let up : 1 + length ys ≡ suc (length ys) = omega arith in up)
    by false false false o new h = ap (option_map (λ k. 1 + k)) h

  -- where a key stands once another has come last
  pub place_push : (xs : List K) (x : K) → position p (xs ++ x ∷ []) ≡ cond (list_any p xs) (position p xs) (cond (p x) (Some (length xs)) None)
  place_push xs x = place_is_first (xs ++ x ∷ []) ∙ (first_push xs x ∙ ap (λ o. cond (list_any p xs) o (cond (p x) (Some (length xs)) None)) (sym (place_is_first xs)))

  none_by : (o : Option ℕ) → is_some o ≡ false → o ≡ None
  none_by None h = refl
  none_by (Some n) h = absurd (false≢true (sym h))

  pub no_key : (xs : List K) → list_any p xs ≡ false → position p xs ≡ None
  no_key xs h = none_by (position p xs) (place_any xs ∙ h)

both_false : (a b : Bool) → (a || b) ≡ false → (a ≡ false) × (b ≡ false)
both_false false b h = (refl, h)
both_false true b h = absurd (false≢true (sym h))

all_push : {K : Type 0} (P : K → Type 0) (xs : List K) (k : K) → AllByRecursion P xs → P k → AllByRecursion P (xs ++ k ∷ [])
all_push P [] k a h = (h, tt)
all_push P (x ∷ xs) k a h = (a.0, all_push P xs k a.1 h)

module _ {K : Type 0} (eq : K → K → Bool) (o : IsEquivalence eq) where
  -- equal keys are among the same keys
  alike : (k q : K) → eq k q ≡ true → (xs : List K) → list_any (eq q) xs ≡ list_any (eq k) xs
  alike k q e [] = refl
  alike k q e (x ∷ xs) = ap (λ b. b || list_any (eq q) xs) (sym (o.congr k q x e)) ∙ ap (λ b. eq k x || b) (alike k q e xs)

  distinct_push : (xs : List K) (k : K) → IsDistinct eq xs → list_any (eq k) xs ≡ false → IsDistinct eq (xs ++ k ∷ [])
  unfolding IsDistinct
  distinct_push [] k d h = (tt, tt)
  distinct_push (x ∷ xs) k d h =
      let apart = both_false (eq k x) (list_any (eq k) xs) h in
      (all_push (λ y. eq x y ≡ false) xs k d.0 (o.symm x k ∙ apart.0), distinct_push xs k d.1 apart.1)

  -- a new key is numbered last
  pub numbered_push : {S : Type 0} (keys : List K) (k : K) (m n : HashMap K ℕ S) → AreNumbered eq keys m → position (eq k) keys ≡ None → Updates eq m n k (Some (length keys)) → AreNumbered eq (keys ++ k ∷ []) n
  numbered_push keys k m n are new more = record {
    distinct = distinct_push keys k are.distinct fresh;
    finds = λ q. more.0 q ∙ (by q (eq k q) refl (list_any (eq q) keys) refl ∙ sym (place_push (eq q) keys k));
  }
    where
      fresh : list_any (eq k) keys ≡ false
      fresh = none_any (eq k) keys new

      by : (q : K) (b : Bool) → eq k q ≡ b → (t : Bool) → list_any (eq q) keys ≡ t
          → cond b (Some (length keys)) (get eq m q) ≡ cond t (position (eq q) keys) (cond (eq q k) (Some (length keys)) None)
      by q true e true h = absurd (false≢true (sym fresh ∙ (sym (alike k q e keys) ∙ h)))
      by q true e false h = sym (ap (λ b. cond b (Some (length keys)) None) (o.symm q k ∙ e))
      by q false e true h = are.finds q
      by q false e false h = are.finds q ∙ (no_key (eq q) keys h ∙ sym (ap (λ b. cond b (Some (length keys)) None) (o.symm q k ∙ e)))

module _ {K : Type 0} (eq : K → K → Bool) where
  pub key_kept : (keys : List K) (k : K) (n : ℕ) → position (eq k) keys ≡ Some n → keys ≡ insert_key eq keys k
  key_kept keys k n h = sym (ap (λ b. if b then keys else keys ++ k ∷ []) (some_any (eq k) keys n h))

  pub key_last : (keys : List K) (k : K) → position (eq k) keys ≡ None → keys ++ k ∷ [] ≡ insert_key eq keys k
  key_last keys k h = sym (ap (λ b. if b then keys else keys ++ k ∷ []) (none_any (eq k) keys h))

pub get_last : {X : Type 0} (xs : List X) (x : X) → slice_get (xs ++ x ∷ []) (length xs) ≡ Some x
get_last [] x = refl
get_last (y ∷ ys) x = get_last ys x
