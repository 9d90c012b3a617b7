-- Declarations that are counted.
use Rattle.std.proofs.Common.{◌≡◌, ◌+◌, ◌<◌, ◌≤◌, ℕ, Bool, List, [], ◌∷◌, length, drop, get_or, ap, ◌∙◌, arith}
use Rattle.std.proofs.lemmas.List.{drop_all}
use Rattle.c_aside.proofs.AsideLemmas.{drop_at}
use Rattle.c_blocks.specs.Counts.{one_if, count_in}

pub count_begun : {X : Type 0} (p : X → Bool) (xs : List X) → 0 + count_in p (drop 0 xs) ≡ count_in p xs
count_begun p xs = omega arith

pub count_more : {X : Type 0} (p : X → Bool) (xs : List X) (i count next : ℕ) (x : X) → count + count_in p (drop i xs) ≡ count_in p xs → i < length xs → x ≡ get_or xs i x → next ≡ count + one_if (p x) → next + count_in p (drop (i + 1) xs) ≡ count_in p xs
count_more {X} p xs i count next x so_far within is e =
    let cut : count_in p (drop i xs) ≡ one_if (p x) + count_in p (drop (i + 1) xs) = ap (λ (l : List X). count_in p l) (drop_at xs i x within is) in
    omega (arith, cut, so_far, e)

pub count_done : {X : Type 0} (p : X → Bool) (xs : List X) (i count : ℕ) → count + count_in p (drop i xs) ≡ count_in p xs → length xs ≤ i → count ≡ count_in p xs
count_done {X} p xs i count so_far past =
    let none : count_in p (drop i xs) ≡ 0 = ap (λ (l : List X). count_in p l) (drop_all i xs past) in
    omega (arith, none, so_far)
