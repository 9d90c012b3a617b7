-- Objects that come one after the other.
use Rattle.std.proofs.Common.{◌≡◌, ℕ, ◌+◌, ◌<◌, List, [], ◌∷◌, ◌++◌, length, map, take, get_or, refl, sym, ap, ◌∙◌, arith}
use Rattle.std.specs.Prelude.{suc}
use Rattle.std.proofs.lemmas.List.{map-append}
use Rattle.std.proofs.Math.Seq.{take-suc}
use Rattle.c_store.specs.Values.{Cell, Stack}
use Rattle.c_store.specs.Words.{entered}

-- the last one by itself
entered_last : (xs : List (List Cell)) (cells : List Cell) (s : Stack) → entered (xs ++ cells ∷ []) s ≡ entered (cells ∷ []) (entered xs s)
entered_last [] cells s = refl
entered_last (x ∷ xs) cells s = entered_last xs cells (record { next = suc s.next; live = s.live ++ record { number = s.next; cells = x } ∷ [] })

-- one object more
pub one_entered : {A : Type 0} (f : A → List Cell) (xs : List A) (x : A) (i : ℕ) (s t new : Stack) → t ≡ entered (map f (take i xs)) s → i < length xs → x ≡ get_or xs i x → new ≡ entered (f x ∷ []) t → new ≡ entered (map f (take (i + 1) xs)) s
one_entered f xs x i s t new e lt is entry =
    let after : i + 1 ≡ suc i = omega arith in
    let more : take (i + 1) xs ≡ take i xs ++ x ∷ [] = ap (λ (n : ℕ). take n xs) after ∙ (take-suc xs i x lt ∙ ap (λ y. take i xs ++ y ∷ []) (sym is)) in
    let whole : entered (map f (take (i + 1) xs)) s ≡ entered (f x ∷ []) (entered (map f (take i xs)) s) =
    ap (λ ys. entered (map f ys) s) more ∙ (ap (λ ys. entered ys s) (map-append f (take i xs) (x ∷ [])) ∙ entered_last (map f (take i xs)) (f x) s) in
    entry ∙ (ap (entered (f x ∷ [])) e ∙ sym whole)
