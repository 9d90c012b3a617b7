-- Values that are turned in their slots.
use Rattle.std.proofs.Common.{◌≡◌, ℕ, zero, suc, ◌+◌, ◌-◌, ◌≤◌, List, [], ◌∷◌, ◌++◌, length, take, drop, reverse, ℤ, refl, sym, ap, ◌∙◌, arith, append_assoc}
use Rattle.std.proofs.lemmas.List.{take-append-drop, take_at, drop_at, length-take-le, length-drop, length-append, length-reverse, reverse-append}
use Rattle.piet_lang.specs.Stack.{values_of, rolled_by}

-- behind other values, which stay
pub rolled_lists : (A P Q : List ℤ) (n t : ℕ) → length Q ≡ t → length P + length Q ≡ n → reverse (A ++ (Q ++ P)) ≡ rolled_by (reverse (A ++ (P ++ Q))) n t
rolled_lists A P Q n t q all =
    let rA = reverse A in
    let rP = reverse P in
    let rQ = reverse Q in
    let left : reverse (A ++ (Q ++ P)) ≡ (rP ++ rQ) ++ rA = reverse-append A (Q ++ P) ∙ ap (λ (xs : List ℤ). xs ++ rA) (reverse-append Q P) in
    let right : reverse (A ++ (P ++ Q)) ≡ (rQ ++ rP) ++ rA = reverse-append A (P ++ Q) ∙ ap (λ (xs : List ℤ). xs ++ rA) (reverse-append P Q) in
    let lq : length rQ ≡ t = length-reverse Q ∙ q in
    let lp : length rP ≡ length P = length-reverse P in
    let both : length (rQ ++ rP) ≡ n = length-append rQ rP ∙ (let e : length rQ + length rP ≡ n = omega (arith, lq, lp, q, all) in e) in
    let front : take n ((rQ ++ rP) ++ rA) ≡ rQ ++ rP = take_at (rQ ++ rP) rA n both in
    let first : drop t (rQ ++ rP) ≡ rP = drop_at rQ rP t lq in
    let second : take t ((rQ ++ rP) ++ rA) ≡ rQ = ap (take t) (append_assoc rQ rP rA) ∙ take_at rQ (rP ++ rA) t lq in
    let rest : drop n ((rQ ++ rP) ++ rA) ≡ rA = drop_at (rQ ++ rP) rA n both in
    let rolled : rolled_by ((rQ ++ rP) ++ rA) n t ≡ rP ++ (rQ ++ rA) =
    ap (λ (xs : List ℤ). drop t xs ++ (take t ((rQ ++ rP) ++ rA) ++ drop n ((rQ ++ rP) ++ rA))) front
    ∙ (ap (λ (xs : List ℤ). xs ++ (take t ((rQ ++ rP) ++ rA) ++ drop n ((rQ ++ rP) ++ rA))) first
    ∙ (ap (λ (xs : List ℤ). rP ++ (xs ++ drop n ((rQ ++ rP) ++ rA))) second ∙ ap (λ (xs : List ℤ). rP ++ (rQ ++ xs)) rest)) in
    left ∙ (append_assoc rP rQ rA ∙ (sym rolled ∙ ap (λ (xs : List ℤ). rolled_by xs n t) (sym right)))

cut_nothing : (b : ℕ) → take {A = ℤ} b [] ≡ take {A = ℤ} 0 [] ++ take {A = ℤ} b (drop {A = ℤ} 0 [])
cut_nothing zero = refl
cut_nothing (suc b) = refl

cut_first : (xs : List ℤ) (b : ℕ) → take b xs ≡ take 0 xs ++ take b (drop 0 xs)
cut_first [] b = cut_nothing b
cut_first (x ∷ xs) b = refl

cut_none : (a b : ℕ) → take {A = ℤ} (suc a + b) [] ≡ take {A = ℤ} (suc a) [] ++ take {A = ℤ} b (drop {A = ℤ} (suc a) [])
cut_none a b = (let z : suc a + b ≡ suc (a + b) = omega arith in ap (λ n. take {A = ℤ} n []) z) ∙ rest b
  where
    rest : (b : ℕ) → take {A = ℤ} (suc (a + b)) [] ≡ take {A = ℤ} (suc a) [] ++ take {A = ℤ} b (drop {A = ℤ} (suc a) [])
    rest zero = refl
    rest (suc b) = refl

cut : (xs : List ℤ) (a b : ℕ) → take (a + b) xs ≡ take a xs ++ take b (drop a xs)
cut xs zero b = (let z : 0 + b ≡ b = omega arith in ap (λ n. take n xs) z) ∙ cut_first xs b
cut [] (suc a) b = cut_none a b
cut (x ∷ xs) (suc a) b = (let z : suc a + b ≡ suc (a + b) = omega arith in ap (λ n. take n (x ∷ xs)) z) ∙ ap (λ (ys : List ℤ). x ∷ ys) (cut xs a b)

-- the slots from some point up to the length
pub cut_slots : (slots : List ℤ) (len depth : ℕ) → len ≤ length slots → depth ≤ len → take len slots ≡ take (len - depth) slots ++ take depth (drop (len - depth) slots)
cut_slots slots len depth le deep =
    let e : (len - depth) + depth ≡ len = omega arith in
    ap (λ n. take n slots) (sym e) ∙ cut slots (len - depth) depth

-- and written back
pub rolled_slots : (slots mid new : List ℤ) (len depth times : ℕ) → len ≤ length slots → depth ≤ len → times ≤ depth → mid ≡ take depth (drop (len - depth) slots)
    → new ≡ drop (length mid - times) mid ++ take (length mid - times) mid → values_of (take (len - depth) slots ++ (new ++ drop len slots)) len ≡ rolled_by (values_of slots len) depth times
unfolding values_of
rolled_slots slots mid new len depth times le deep few me ne =
    let A = take (len - depth) slots in
    let P = take (length mid - times) mid in
    let Q = drop (length mid - times) mid in
    let size : length mid ≡ depth = ap length me ∙ length-take-le depth (drop (len - depth) slots) (omega (arith, length-drop (len - depth) slots)) in
    let parts : P ++ Q ≡ mid = take-append-drop (length mid - times) mid in
    let q : length Q ≡ times = length-drop (length mid - times) mid ∙ (let e : length mid - (length mid - times) ≡ times = omega (arith, size) in e) in
    let all : length P + length Q ≡ depth = (let e = length-append P Q in let g = ap length parts in omega (arith, e, g, size)) in
    let la : length A ≡ len - depth = length-take-le (len - depth) slots (omega arith) in
    let lq : length (Q ++ P) ≡ depth = length-append Q P ∙ (let e : length Q + length P ≡ depth = omega (arith, all) in e) in
    let whole : length (A ++ (Q ++ P)) ≡ len = length-append A (Q ++ P) ∙ (let e : length A + length (Q ++ P) ≡ len = omega (arith, la, lq, deep) in e) in
    let shape : A ++ (new ++ drop len slots) ≡ (A ++ (Q ++ P)) ++ drop len slots = ap (λ (xs : List ℤ). A ++ (xs ++ drop len slots)) ne ∙ sym (append_assoc A (Q ++ P) (drop len slots)) in
    ap (λ (xs : List ℤ). reverse (take len xs)) shape
    ∙ (ap reverse (take_at (A ++ (Q ++ P)) (drop len slots) len whole)
    ∙ (rolled_lists A P Q depth times q all
    ∙ ap (λ (xs : List ℤ). rolled_by (reverse xs) depth times) (ap (λ (xs : List ℤ). A ++ xs) (parts ∙ me) ∙ sym (cut_slots slots len depth le deep))))
