-- Pieces, one behind the other.
use Rattle.std.proofs.Common.{◌≡◌, ◌∙◌, ◌<◌, ◌+◌, ℕ, zero, suc, List, [], ◌∷◌, ◌++◌, length, map, take, drop, get_or, ap, sym, refl, arith, append_assoc, append-nil, add-one}
use Rattle.std.specs.Borrow.{Bor}
use Rattle.elvm_cli.specs.Line.{joined}

abbrev pub texts : List (Bor (List ℕ)) → List ℕ
texts xs = joined (map (λ s. s.now) xs)

suc_next : (xs : List (Bor (List ℕ))) (i : ℕ) (d : Bor (List ℕ)) → i < length xs → texts (take (suc i) xs) ≡ texts (take i xs) ++ (get_or xs i d).now
suc_next [] i d below = absurd (omega arith)
suc_next (x ∷ xs) zero d below = append-nil x.now
suc_next (x ∷ xs) (suc i) d below = ap (λ (t : List ℕ). x.now ++ t) (suc_next xs i d (omega arith)) ∙ sym (append_assoc x.now (texts (take i xs)) (get_or xs i d).now)

-- one more piece
pub texts-next : (xs : List (Bor (List ℕ))) (i : ℕ) (d : Bor (List ℕ)) (p : List ℕ) → i < length xs → p ≡ (get_or xs i d).now
    → texts (take (i + 1) xs) ≡ texts (take i xs) ++ p
texts-next xs i d p below is = rw (add-one i, is) (suc_next xs i d below)

-- the pieces up to a place, and those from there on
pub texts-split : (xs : List (Bor (List ℕ))) (i : ℕ) → texts (take i xs) ++ texts (drop i xs) ≡ texts xs
texts-split [] zero = refl
texts-split [] (suc i) = refl
texts-split (x ∷ xs) zero = refl
texts-split (x ∷ xs) (suc i) = append_assoc x.now (texts (take i xs)) (texts (drop i xs)) ∙ ap (λ (t : List ℕ). x.now ++ t) (texts-split xs i)
