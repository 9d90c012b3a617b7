-- A stable sort by a number is the one list that rises and keeps the order among equals.
use Rattle.std.proofs.Common.{◌≡◌, ℕ, suc, ◌<◌, ◌≤◌, Bool, true, false, not, ◌&&◌, ◌==◌, nat_le, cond, if◌then◌else◌, List, [], ◌∷◌, length, get_or, map, filter, refl, sym, ap, ◌∙◌, ◌⊎◌, arith, inl, inr}
use Rattle.std.specs.List.{AllByRecursion}
use Rattle.std.specs.List.Sorted.{IsNonDecreasingBy, ties}
use Rattle.std.specs.Ordering.{is_lt, nat_cmp}
use Rattle.std.proofs.lemmas.Bool.{leb-true, leb-false, eqb-true, eq-eqb, ne_eqb, cases_order}
use Rattle.std.proofs.lemmas.Bool.Decides.{nat_tests}
use denote.Ref.{Bor}
use Rattle.eir_text.specs.declared.lines.PlacedLine.{PlacedLine}
use Rattle.eir_text.specs.Layout.{put_in, by_number}
use Rattle.eir_text.specs.Reading.{piece_of}

tie_eq : (a b : ℕ) → (not (is_lt (nat_cmp a b)) && not (is_lt (nat_cmp b a))) ≡ (a == b)
tie_eq a b = grind (arith, nat_tests)

-- before the first of at least its number
abbrev pub put : {B : Type 0} → List (ℕ × B) → ℕ × B → List (ℕ × B)
put [] x = x ∷ []
put (y ∷ ys) x = if nat_le x.0 y.0 then x ∷ y ∷ ys else y ∷ put ys x

abbrev pub sorted : {B : Type 0} → List (ℕ × B) → List (ℕ × B)
sorted [] = []
sorted (x ∷ xs) = put (sorted xs) x

put_map : (x : ℕ × Bor PlacedLine) (ys : List (ℕ × Bor PlacedLine)) → map piece_of (put ys x) ≡ put_in (piece_of x) (map piece_of ys)
put_map x [] = refl
put_map x (y ∷ ys) = at (put_map x ys) (nat_le x.0 y.0) where
  at : map piece_of (put ys x) ≡ put_in (piece_of x) (map piece_of ys) → (b : Bool)
      → map piece_of (if b then x ∷ y ∷ ys else y ∷ put ys x) ≡ (if b then piece_of x ∷ piece_of y ∷ map piece_of ys else piece_of y ∷ put_in (piece_of x) (map piece_of ys))
  at h true = refl
  at h false = ap (λ zs. piece_of y ∷ zs) h

sorted_map : (xs : List (ℕ × Bor PlacedLine)) → map piece_of (sorted xs) ≡ by_number (map piece_of xs)
sorted_map [] = refl
sorted_map (x ∷ xs) = put_map x (sorted xs) ∙ ap (put_in (piece_of x)) (sorted_map xs)

abbrev pub same : {B : Type 0} → ℕ → ℕ × B → Bool
same k x = k == x.0

abbrev pub Above : {B : Type 0} → ℕ → List (ℕ × B) → Type 0
Above k xs = AllByRecursion (λ x. k ≤ x.0) xs

abbrev pub Rises : {B : Type 0} → List (ℕ × B) → Type 0
Rises [] = Unit {0}
Rises (x ∷ xs) = Above x.0 xs × Rises xs

above_from : {B : Type 0} (k : ℕ) (xs : List (ℕ × B)) → ((i : ℕ) (d : ℕ × B) → i < length xs → k ≤ (get_or xs i d).0) → Above k xs
above_from k [] h = tt
above_from k (x ∷ xs) h = (h 0 x (omega arith), above_from k xs (λ i d l. h (suc i) d (omega arith)))

rises_from : {B : Type 0} (xs : List (ℕ × B)) → IsNonDecreasingBy (λ x. x.0) xs → Rises xs
rises_from [] h = tt
rises_from (x ∷ xs) h =
    (above_from x.0 xs (λ i d l. h 0 (suc i) d (omega arith) (omega arith)), rises_from xs (λ i j d l m. h (suc i) (suc j) d (omega arith) (omega arith)))

above_lower : {B : Type 0} (j k : ℕ) (xs : List (ℕ × B)) → j ≤ k → Above k xs → Above j xs
above_lower j k [] l h = tt
above_lower j k (x ∷ xs) l h = (let a : k ≤ x.0 = h.0 in omega arith, above_lower j k xs l h.1)

above_put : {B : Type 0} (k : ℕ) (x : ℕ × B) (ys : List (ℕ × B)) → k ≤ x.0 → Above k ys → Above k (put ys x)
above_put k x [] l h = (l, tt)
above_put k x (y ∷ ys) l h = at (above_put k x ys l h.1) (nat_le x.0 y.0) where
  at : Above k (put ys x) → (b : Bool) → Above k (if b then x ∷ y ∷ ys else y ∷ put ys x)
  at rest true = (l, h)
  at rest false = (h.0, rest)

rises_put : {B : Type 0} (x : ℕ × B) (ys : List (ℕ × B)) → Rises ys → Rises (put ys x)
rises_put x [] h = (tt, tt)
rises_put x (y ∷ ys) h = at (rises_put x ys h.1) (nat_le x.0 y.0) refl where
  at : Rises (put ys x) → (b : Bool) → nat_le x.0 y.0 ≡ b → Rises (if b then x ∷ y ∷ ys else y ∷ put ys x)
  at rest true e = let l : x.0 ≤ y.0 = leb-true x.0 y.0 e in ((l, above_lower x.0 y.0 ys l h.0), h)
  at rest false e = let l : y.0 < x.0 = leb-false x.0 y.0 e in let m : y.0 ≤ x.0 = omega arith in (above_put y.0 x ys m h.0, rest)

pub rises_sorted : {B : Type 0} (xs : List (ℕ × B)) → Rises (sorted xs)
rises_sorted [] = tt
rises_sorted (x ∷ xs) = rises_put x (sorted xs) (rises_sorted xs)

none_below : {B : Type 0} (k j : ℕ) (xs : List (ℕ × B)) → k < j → Above j xs → filter (same k) xs ≡ []
none_below k j [] l h = refl
none_below k j (x ∷ xs) l h =
    let a : j ≤ x.0 = h.0 in
    let n : (k == x.0) ≡ false = ne_eqb k x.0 (λ e. omega arith) in
    ap (λ b. cond b (x ∷ filter (same k) xs) (filter (same k) xs)) n ∙ none_below k j xs l h.1

filter_put : {B : Type 0} (k : ℕ) (x : ℕ × B) (ys : List (ℕ × B)) → filter (same k) (put ys x) ≡ filter (same k) (x ∷ ys)
filter_put k x [] = refl
filter_put {B = B} k x (y ∷ ys) = at (filter_put k x ys) (nat_le x.0 y.0) refl where
  swap : (p q : Bool) → (p ≡ true → q ≡ true → ⊥) → (zs : List (ℕ × B)) → cond q (y ∷ cond p (x ∷ zs) zs) (cond p (x ∷ zs) zs) ≡ cond p (x ∷ cond q (y ∷ zs) zs) (cond q (y ∷ zs) zs)
  swap true true h zs = absurd (h refl refl)
  swap true false h zs = refl
  swap false q h zs = refl

  at : filter (same k) (put ys x) ≡ filter (same k) (x ∷ ys) → (b : Bool) → nat_le x.0 y.0 ≡ b
      → filter (same k) (if b then x ∷ y ∷ ys else y ∷ put ys x) ≡ filter (same k) (x ∷ y ∷ ys)
  at rest true e = refl
  at rest false e =
      let l : y.0 < x.0 = leb-false x.0 y.0 e in
      ap (λ zs. cond (same k y) (y ∷ zs) zs) rest
      ∙ swap (same k x) (same k y) (λ p q. let a : k ≡ x.0 = eqb-true k x.0 p in let b : k ≡ y.0 = eqb-true k y.0 q in omega arith) (filter (same k) ys)

pub filter_sorted : {B : Type 0} (k : ℕ) (xs : List (ℕ × B)) → filter (same k) (sorted xs) ≡ filter (same k) xs
filter_sorted k [] = refl
filter_sorted k (x ∷ xs) = filter_put k x (sorted xs) ∙ ap (λ zs. cond (same k x) (x ∷ zs) zs) (filter_sorted k xs)

abbrev Agree : {B : Type 0} → List (ℕ × B) → List (ℕ × B) → Type 0
Agree {B} ys zs = (x : ℕ × B) → filter (same x.0) ys ≡ filter (same x.0) zs

first_same : {B : Type 0} (x : ℕ × B) (xs : List (ℕ × B)) → filter (same x.0) (x ∷ xs) ≡ x ∷ filter (same x.0) xs
first_same x xs = ap (λ b. cond b (x ∷ filter (same x.0) xs) (filter (same x.0) xs)) (eq-eqb x.0 x.0 refl)

one_order : {B : Type 0} (ys zs : List (ℕ × B)) → Rises ys → Rises zs → Agree ys zs → ys ≡ zs
one_order [] [] r s h = refl
one_order [] (z ∷ zs) r s h = let e : [] ≡ z ∷ filter (same z.0) zs = h z ∙ first_same z zs in absurd cc
one_order (y ∷ ys) [] r s h = let e : y ∷ filter (same y.0) ys ≡ [] = sym (first_same y ys) ∙ h y in absurd cc
one_order {B = B} (y ∷ ys) (z ∷ zs) r s h = at (one_order ys zs r.1 s.1) (cases_order y.0 z.0) where
  heads : y.0 ≡ z.0 → y ∷ filter (same y.0) ys ≡ z ∷ filter (same y.0) zs
  heads e = sym (first_same y ys) ∙ (h y ∙ ap (λ b. cond b (z ∷ filter (same y.0) zs) (filter (same y.0) zs)) (eq-eqb y.0 z.0 e))

  tail_of : (u v : ℕ × B) (us vs : List (ℕ × B)) → u ∷ us ≡ v ∷ vs → us ≡ vs
  tail_of u v us vs e = cc

  head_of : (u v : ℕ × B) (us vs : List (ℕ × B)) → u ∷ us ≡ v ∷ vs → u ≡ v
  head_of u v us vs e = cc

  both : (p q : Bool) → p ≡ q → (us vs : List (ℕ × B)) → cond p (y ∷ us) us ≡ cond q (z ∷ vs) vs → us ≡ vs
  both true true e us vs g = tail_of y z us vs g
  both true false e us vs g = absurd cc
  both false true e us vs g = absurd cc
  both false false e us vs g = g

  at : (Agree ys zs → ys ≡ zs) → (y.0 ≡ z.0) ⊎ ((y.0 < z.0) ⊎ (z.0 < y.0)) → y ∷ ys ≡ z ∷ zs
  at rest (inl e) =
      let tails : ys ≡ zs = rest (λ x. both (same x.0 y) (same x.0 z) (ap (λ n. x.0 == n) e) (filter (same x.0) ys) (filter (same x.0) zs) (h x)) in
      let head : y ≡ z = head_of y z _ _ (heads e) in cc
  at rest (inr (inl l)) =
      let none : filter (same y.0) (z ∷ zs) ≡ [] = none_below y.0 z.0 (z ∷ zs) l ((let m : z.0 ≤ z.0 = omega arith in m), s.0) in
      let e : y ∷ filter (same y.0) ys ≡ [] = sym (first_same y ys) ∙ (h y ∙ none) in absurd cc
  at rest (inr (inr l)) =
      let none : filter (same z.0) (y ∷ ys) ≡ [] = none_below z.0 y.0 (y ∷ ys) l ((let m : y.0 ≤ y.0 = omega arith in m), r.0) in
      let e : [] ≡ z ∷ filter (same z.0) zs = sym none ∙ (h z ∙ first_same z zs) in absurd cc

filter_like : (p q : ℕ × Bor PlacedLine → Bool) → ((x : ℕ × Bor PlacedLine) → p x ≡ q x) → (xs : List (ℕ × Bor PlacedLine)) → filter p xs ≡ filter q xs
filter_like p q h [] = refl
filter_like p q h (x ∷ xs) = ap (λ b. cond b (x ∷ filter p xs) (filter p xs)) (h x) ∙ ap (λ zs. cond (q x) (x ∷ zs) zs) (filter_like p q h xs)

-- what a stable sort by the number leaves
pub stable_sort : (xs ys : List (ℕ × Bor PlacedLine)) → IsNonDecreasingBy (λ x. x.0) ys
    → ((x : ℕ × Bor PlacedLine) → filter (ties (λ a b. is_lt (nat_cmp a.0 b.0)) x) ys ≡ filter (ties (λ a b. is_lt (nat_cmp a.0 b.0)) x) xs)
    → map piece_of ys ≡ by_number (map piece_of xs)
stable_sort xs ys up stable = ap (map piece_of) (one_order ys (sorted xs) (rises_from ys up) (rises_sorted xs) agree) ∙ sorted_map xs where
  agree : Agree ys (sorted xs)
  agree x =
      sym (filter_like _ (same x.0) (λ y. tie_eq x.0 y.0) ys) ∙ (stable x ∙ (filter_like _ (same x.0) (λ y. tie_eq x.0 y.0) xs ∙ sym (filter_sorted x.0 xs)))
