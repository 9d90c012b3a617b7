-- Elements of lists that are put together.
use Rattle.std.proofs.Common.{◌≡◌, ℕ, zero, suc, ◌+◌, ◌<◌, ◌≤◌, List, [], ◌∷◌, ◌++◌, length, map, Some, refl, ap, ◌∙◌, arith, slice_get}
use Rattle.std.specs.List.{slice_index}

pub get_front : {A : Type 0} (xs ys : List A) (k : ℕ) (x : A) → slice_get xs k ≡ Some x → slice_get (xs ++ ys) k ≡ Some x
get_front [] ys k x e = absurd (cc e)
get_front (z ∷ xs) ys zero x e = e
get_front (z ∷ xs) ys (suc k) x e = get_front xs ys k x e

pub get_behind : {A : Type 0} (xs ys : List A) (k : ℕ) → slice_get (xs ++ ys) (length xs + k) ≡ slice_get ys k
get_behind {A} [] ys k = ap (λ z. slice_get ys z) (omega arith)
get_behind {A} (x ∷ xs) ys k = let e : length (x ∷ xs) + k ≡ suc (length xs + k) = omega arith in ap (λ z. slice_get (x ∷ (xs ++ ys)) z) e ∙ get_behind xs ys k

pub get_inside : {A : Type 0} (xs : List A) (k : ℕ) (x : A) → slice_get xs k ≡ Some x → k < length xs
get_inside [] k x e = absurd (cc e)
get_inside (y ∷ xs) zero x e = omega arith
get_inside (y ∷ xs) (suc k) x e = let h = get_inside xs k x e in omega (arith, h)

pub get_mapped : {A B : Type 0} (f : A → B) (xs : List A) (k : ℕ) (x : A) → slice_get xs k ≡ Some x → slice_get (map f xs) k ≡ Some (f x)
get_mapped f [] k x e = absurd (cc e)
get_mapped f (y ∷ xs) zero x e = let same : y ≡ x = cc e in ap (λ z. Some (f z)) same
get_mapped f (y ∷ xs) (suc k) x e = get_mapped f xs k x e

pub index_of : (xs : List ℕ) (k x : ℕ) → slice_get xs k ≡ Some x → slice_index xs k ≡ x
index_of [] k x e = absurd (cc e)
index_of (y ∷ xs) zero x e = cc e
index_of (y ∷ xs) (suc k) x e = index_of xs k x e

pub index_past : (xs : List ℕ) (k : ℕ) → length xs ≤ k → slice_index xs k ≡ 0
index_past [] k le = refl
index_past (y ∷ xs) zero le = absurd (omega (arith, le))
index_past (y ∷ xs) (suc k) le = index_past xs k (omega (arith, le))
