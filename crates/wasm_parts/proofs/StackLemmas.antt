-- The values at the top, and those under some.
use Rattle.std.proofs.Common.{zero, suc, ◌≡◌, ⊎_elim, ℕ, ◌+◌, ◌-◌, ◌<◌, ◌≤◌, List, [], ◌∷◌, ◌++◌, Some, None, length, reverse, take, drop, set, get_or, refl, sym, ap, ◌∙◌, arith}
use Rattle.std.specs.Prelude.{slice_get}
use Rattle.std.proofs.lemmas.List.{length-reverse, length-drop, length-take-le, length-append, get_or-drop, get_or-reverse, get_or-take, reverse-reverse, reverse-append, take_all, take-take, take_more_set, drop-drop, drop-take}
use Rattle.std.proofs.lemmas.Option.{slice_get_read, slice_get_past}
use Rattle.mach_core.proofs.Stack.{reverse-take, reverse-set, either}
use Rattle.wasm_rule.specs.Values.{lowest}

-- the values at the top, the lowest of them first
pub arguments_at : {A : Type 0} (xs : List A) (n : ℕ) → drop (length xs - n) xs ≡ reverse (take n (reverse xs))
arguments_at xs n = ⊎_elim (λ le. within le) (λ lt. all_of lt) (either n (length xs))
  where
    size : length (reverse xs) ≡ length xs
    size = length-reverse xs

    flipped : (k : ℕ) → drop k xs ≡ reverse (take (length (reverse xs) - k) (reverse xs))
    flipped k = ap (drop k) (sym (reverse-reverse xs)) ∙ sym (reverse-take (reverse xs) k)

    within : n ≤ length xs → drop (length xs - n) xs ≡ reverse (take n (reverse xs))
    within le = let e : length (reverse xs) - (length xs - n) ≡ n = omega (arith, size) in flipped (length xs - n) ∙ ap (λ k. reverse (take k (reverse xs))) e

    all_of : length xs < n → drop (length xs - n) xs ≡ reverse (take n (reverse xs))
    all_of lt = let e : length xs - n ≡ 0 = omega arith in let f : length (reverse xs) ≤ n = omega (arith, size) in ap (λ k. drop k xs) e ∙ (sym (reverse-reverse xs) ∙ ap reverse (sym (take_all n (reverse xs) f)))

-- the lowest of the values under some
pub lowest_under : (xs : List ℕ) (skip count : ℕ) → drop (skip + (length xs - skip - count)) xs ≡ lowest count (drop skip xs)
lowest_under xs skip count = sym (drop-drop (length (drop skip xs) - count) skip xs ∙ ap (λ n. drop (skip + (n - count)) xs) (length-drop skip xs))

pub first_under : (xs : List ℕ) (skip : ℕ) → get_or xs skip 0 ≡ get_or (drop skip xs) 0 0
first_under xs skip = sym (get_or-drop skip xs 0 0 ∙ ap (λ n. get_or xs n 0) (omega arith))

pub ruleset kept = (lowest_under, first_under)

-- so many items lie on the stack
pub count_of : {A : Type 0} (xs : List A) (n : ℕ) → n ≤ length xs → length (reverse (take n xs)) ≡ n
count_of xs n le = length-reverse (take n xs) ∙ length-take-le n xs le

pub item_of : {A : Type 0} (xs : List A) (n d : ℕ) (x : A) → n ≤ length xs → d < n → x ≡ get_or xs (n - 1 - d) x → slice_get (reverse (take n xs)) d ≡ Some x
item_of xs n d x le lt is =
    let size : length (take n xs) ≡ n = length-take-le n xs le in
    let below : d < length (take n xs) = omega (arith, size) in
    let low : n - 1 - d < n = omega arith in
    let there : get_or (reverse (take n xs)) d x ≡ get_or xs (n - 1 - d) x = get_or-reverse (take n xs) d x below ∙ (ap (λ k. get_or (take n xs) (k - 1 - d) x) size ∙ get_or-take n xs (n - 1 - d) x low) in
    slice_get_read (reverse (take n xs)) n d x (sym (count_of xs n le)) lt (is ∙ sym there)

pub no_item : {A : Type 0} (xs : List A) (n d : ℕ) → n ≤ length xs → n ≤ d → slice_get (reverse (take n xs)) d ≡ None
no_item xs n d le past = let h : length (reverse (take n xs)) ≤ d = omega (arith, count_of xs n le) in slice_get_past (reverse (take n xs)) d h

-- one item more, where there is room, and where there is none
pub pushed : {A : Type 0} (xs : List A) (n : ℕ) (x : A) → n < length xs → reverse (take (n + 1) (set xs n x)) ≡ x ∷ reverse (take n xs)
pushed xs n x lt = ap reverse (take_more_set xs n x lt) ∙ reverse-append (take n xs) (x ∷ [])

take_set : {A : Type 0} (n i : ℕ) (xs : List A) (x : A) → i < n → take n (set xs i x) ≡ set (take n xs) i x
take_set zero i xs x lt = absurd (omega arith)
take_set (suc n) i [] x lt = refl
take_set (suc n) zero (y ∷ xs) x lt = refl
take_set (suc n) (suc i) (y ∷ xs) x lt = let less : i < n = omega arith in ap (λ l. y ∷ l) (take_set n i xs x less)

pub changed_at : {A : Type 0} (xs : List A) (n d : ℕ) (x : A) → n ≤ length xs → d < n → reverse (take n (set xs (n - 1 - d) x)) ≡ set (reverse (take n xs)) d x
changed_at xs n d x le lt =
    let size : length (take n xs) ≡ n = length-take-le n xs le in
    let low : n - 1 - d < n = omega arith in
    let below : d < length (take n xs) = omega (arith, size) in
    ap reverse (take_set n (n - 1 - d) xs x low) ∙ (ap (λ k. reverse (set (take n xs) (k - 1 - d) x)) (sym size) ∙ reverse-set (take n xs) d x below)

pub taken_off : {A : Type 0} (xs : List A) (n c : ℕ) → n ≤ length xs → reverse (take (n - c) xs) ≡ drop c (reverse (take n xs))
taken_off xs n c le =
    let size : length (take n xs) ≡ n = length-take-le n xs le in
    let less : n - c ≤ n = omega arith in
    ap reverse (sym (take-take (n - c) n xs less)) ∙ (ap (λ k. reverse (take (k - c) (take n xs))) (sym size) ∙ reverse-take (take n xs) c)

pub top_of : {A : Type 0} (xs : List A) (n c : ℕ) → n ≤ length xs → take (n - (n - c)) (drop (n - c) xs) ≡ reverse (take c (reverse (take n xs)))
top_of xs n c le =
    let size : length (take n xs) ≡ n = length-take-le n xs le in
    let whole : n - c + (n - (n - c)) ≡ n = omega arith in
    sym (drop-take (n - c) (n - (n - c)) xs) ∙ (ap (λ k. drop (n - c) (take k xs)) whole ∙ (ap (λ k. drop (k - c) (take n xs)) (sym size) ∙ arguments_at (take n xs) c))

-- one item in the place of those at the top
pub put_over : {A : Type 0} (xs : List A) (n c : ℕ) (x : A) → n ≤ length xs → 0 < n → 0 < c → reverse (take (n - c + 1) (set xs (n - c) x)) ≡ x ∷ drop c (reverse (take n xs))
put_over xs n c x le some taken = let lt : n - c < length xs = omega arith in pushed xs (n - c) x lt ∙ ap (λ l. x ∷ l) (taken_off xs n c le)
