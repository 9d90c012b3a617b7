-- Rows one after the other.
use Rattle.std.proofs.Common.{◌≡◌, ℕ, zero, suc, ◌+◌, ◌*◌, ◌<◌, ◌≤◌, ◌⊎◌, inl, inr, List, [], ◌∷◌, ◌++◌, length, Option, Some, slice_get, refl, sym, ap, subst, ◌∙◌, arith, append-nil, append_assoc}
use Rattle.std.specs.List.{AllByRecursion}
use Rattle.std.proofs.Math.Nat.{mul-le-mul_right}
use Rattle.std.proofs.lemmas.List.{length_push, length-append}
use Rattle.piet_image.specs.declared.colour.Colour.{Colour}
use Rattle.piet_image.specs.Printed.{flatten, each_of}

pub each_same : {A : Type 0} (f g : ℕ → A) (n : ℕ) → ((x : ℕ) → f x ≡ g x) → each_of f n ≡ each_of g n
each_same f g zero same = refl
each_same {A} f g (suc n) same = ap (λ (xs : List A). xs ++ f n ∷ []) (each_same f g n same) ∙ ap (λ (a : A). each_of g n ++ a ∷ []) (same n)

pub length-each : {A : Type 0} (f : ℕ → A) (n : ℕ) → length (each_of f n) ≡ n
length-each f zero = refl
length-each f (suc n) = let more = length_push (each_of f n) (f n) in let same = length-each f n in omega (arith, more, same)

get_front : {A : Type 0} (xs ys : List A) (k : ℕ) → k < length xs → slice_get (xs ++ ys) k ≡ slice_get xs k
get_front [] ys k h = absurd (omega arith)
get_front (x ∷ xs) ys zero h = refl
get_front (x ∷ xs) ys (suc k) h = get_front xs ys k (omega arith)

get_behind : {A : Type 0} (xs ys : List A) (k n : ℕ) → n ≡ length xs + k → slice_get (xs ++ ys) n ≡ slice_get ys k
get_behind [] ys k n e = ap (slice_get ys) (let z : n ≡ k = omega arith in z)
get_behind (x ∷ xs) ys k zero e = absurd (omega arith)
get_behind (x ∷ xs) ys k (suc n) e = get_behind xs ys k n (omega arith)

lt_of : (k n : ℕ) → k < suc n → (k < n) ⊎ (k ≡ n)
lt_of k n h = grind arith

pub get_each : {A : Type 0} (f : ℕ → A) (n k : ℕ) → k < n → slice_get (each_of f n) k ≡ Some (f k)
get_each f zero k h = absurd (omega arith)
get_each {A} f (suc n) k h = go (λ less. get_each f n k less) (lt_of k n h)
  where
    go : (k < n → slice_get (each_of f n) k ≡ Some (f k)) → (k < n) ⊎ (k ≡ n) → slice_get (each_of f n ++ f n ∷ []) k ≡ Some (f k)
    go before (inl less) =
        let there : k < length (each_of f n) = omega (arith, less, length-each f n) in
        get_front (each_of f n) (f n ∷ []) k there ∙ before less
    go before (inr same) =
        let here : k ≡ length (each_of f n) + 0 = omega (arith, same, length-each f n) in
        get_behind (each_of f n) (f n ∷ []) 0 k here ∙ ap (λ j. Some (f j)) (sym same)

all_more : (P : Colour → Type 0) (xs ys : List Colour) → AllByRecursion P xs → AllByRecursion P ys → AllByRecursion P (xs ++ ys)
all_more P [] ys a b = b
all_more P (x ∷ xs) ys a b = (a.0, all_more P xs ys a.1 b)

pub all_each : (P : Colour → Type 0) (f : ℕ → Colour) (n : ℕ) → ((x : ℕ) → P (f x)) → AllByRecursion P (each_of f n)
all_each P f zero all = tt
all_each P f (suc n) all = all_more P (each_of f n) (f n ∷ []) (all_each P f n all) (all n, tt)

flatten_more : (rows : List (List Colour)) (row : List Colour) → flatten (rows ++ row ∷ []) ≡ flatten rows ++ row
flatten_more [] row = append-nil row
flatten_more (r ∷ rows) row = ap (λ (xs : List Colour). r ++ xs) (flatten_more rows row) ∙ sym (append_assoc r (flatten rows) row)

module _ (f : ℕ → List Colour) (w : ℕ) (wide : (y : ℕ) → length (f y) ≡ w) where
  pub length-rows : (h : ℕ) → length (flatten (each_of f h)) ≡ h * w
  length-rows zero = omega arith
  length-rows (suc h) =
      let more = ap length (flatten_more (each_of f h) (f h)) ∙ length-append (flatten (each_of f h)) (f h) in
      let before = length-rows h in
      let row = wide h in
      omega (arith, more, before, row)

  pub get_row : (h x y : ℕ) → x < w → y < h → slice_get (flatten (each_of f h)) (y * w + x) ≡ slice_get (f y) x
  get_row zero x y a b = absurd (omega arith)
  get_row (suc h) x y a b = ap (λ (xs : List Colour). slice_get xs (y * w + x)) (flatten_more (each_of f h) (f h)) ∙ go (λ less. get_row h x y a less) (lt_of y h b)
    where
      go : (y < h → slice_get (flatten (each_of f h)) (y * w + x) ≡ slice_get (f y) x) → (y < h) ⊎ (y ≡ h) → slice_get (flatten (each_of f h) ++ f h) (y * w + x) ≡ slice_get (f y) x
      go before (inl less) =
          let bound : suc y * w ≤ h * w = mul-le-mul_right w less in
          let there : y * w + x < length (flatten (each_of f h)) = omega (arith, bound, length-rows h) in
          get_front (flatten (each_of f h)) (f h) (y * w + x) there ∙ before less
      go before (inr same) =
          let here : y * w + x ≡ length (flatten (each_of f h)) + x = ap (λ n. n * w + x) same ∙ ap (λ n. n + x) (sym (length-rows h)) in
          get_behind (flatten (each_of f h)) (f h) x (y * w + x) here ∙ ap (λ n. slice_get (f n) x) (sym same)

  pub all_rows : (P : Colour → Type 0) → ((y : ℕ) → AllByRecursion P (f y)) → (h : ℕ) → AllByRecursion P (flatten (each_of f h))
  all_rows P all zero = tt
  all_rows P all (suc h) = subst (AllByRecursion P) (sym (flatten_more (each_of f h) (f h))) (all_more P (flatten (each_of f h)) (f h) (all_rows P all h) (all h))
