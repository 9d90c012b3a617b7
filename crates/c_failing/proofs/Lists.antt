-- Elements of lists that grow or change.
use Rattle.std.proofs.Common.{◌≡◌, ℕ, zero, suc, ◌+◌, ◌<◌, List, [], ◌∷◌, ◌++◌, length, drop, Option, Some, None, slice_get, slice_set, refl, ap, ◌∙◌, arith, suc-add}

pub got_before : {A : Type 0} (xs ys : List A) (i : ℕ) (x : A) → slice_get xs i ≡ Some x → slice_get (xs ++ ys) i ≡ Some x
got_before [] ys i x e = absurd (cc e)
got_before (y ∷ xs) ys zero x e = e
got_before (y ∷ xs) ys (suc i) x e = got_before xs ys i x e

pub got_behind : {A : Type 0} (xs ys : List A) (i : ℕ) → slice_get (xs ++ ys) (length xs + i) ≡ slice_get ys i
got_behind [] ys i = ap (slice_get ys) (omega arith)
got_behind (x ∷ xs) ys i = ap (slice_get (x ∷ (xs ++ ys))) (suc-add (length xs) i) ∙ got_behind xs ys i

pub got_last : {A : Type 0} (xs : List A) (x : A) → slice_get (xs ++ x ∷ []) (length xs) ≡ Some x
got_last xs x = ap (slice_get (xs ++ x ∷ [])) (omega arith) ∙ got_behind xs (x ∷ []) 0

-- an element below the length
pub got_some : {A : Type 0} (xs : List A) (i : ℕ) → i < length xs → (x : A) × (slice_get xs i ≡ Some x)
got_some [] i lt = absurd (omega (arith, lt))
got_some (x ∷ xs) zero lt = (x, refl)
got_some (x ∷ xs) (suc i) lt = got_some xs i (omega (arith, lt))

pub set_same : {A : Type 0} (xs : List A) (i : ℕ) (x y : A) → slice_get xs i ≡ Some x → slice_get (slice_set xs i y) i ≡ Some y
set_same [] i x y e = absurd (cc e)
set_same (z ∷ xs) zero x y e = refl
set_same (z ∷ xs) (suc i) x y e = set_same xs i x y e

pub set_other : {A : Type 0} (xs : List A) (i j : ℕ) (y : A) → (j ≡ i → ⊥) → slice_get (slice_set xs i y) j ≡ slice_get xs j
set_other [] i j y other = refl
set_other (z ∷ xs) zero zero y other = absurd (other refl)
set_other (z ∷ xs) zero (suc j) y other = refl
set_other (z ∷ xs) (suc i) zero y other = refl
set_other (z ∷ xs) (suc i) (suc j) y other = set_other xs i j y (λ e. other (ap suc e))

-- where nothing is left from a place on
pub none_from : {A : Type 0} (xs : List A) (k : ℕ) → drop k xs ≡ [] → slice_get xs k ≡ None
none_from [] zero e = refl
none_from [] (suc k) e = refl
none_from (x ∷ xs) zero e = absurd (cc e)
none_from (x ∷ xs) (suc k) e = none_from xs k e
