-- Values and slots of the function that runs, as lists.
use Rattle.std.proofs.Common.{◌≡◌, ℕ, ◌+◌, ◌-◌, ◌<◌, ◌≤◌, List, [], ◌∷◌, ◌++◌, length, map, take, drop, min, refl, sym, ap, ◌∙◌, subst, arith, length-append, append_assoc, get_or}
use Rattle.std.specs.Prelude.{zero, suc, reverse, replicate, slice_set}
use Rattle.std.proofs.lemmas.List.{take-append-drop, reverse-append, length-reverse, length-drop, length-take, length-take-le, drop_min, drop-take, take-append-le, drop-append-le, map-append, take_all, length-map, reverse-reverse, take_rest, take_min, drop-drop, length-replicate}
use Rattle.std.proofs.Math.ListN.{length-set}
use Rattle.std.proofs.Math.Seq.{drop-append_seam, take-append_seam, take-length, drop-length, take-suc, set-append_seam, set-append_left}
use Rattle.std.proofs.lemmas.Slice.{take-put_mid}
use borrow.Rule.Slice.PartMut.{put_mid}
use Rattle.std.specs.List.{take-map, drop-map}
use Rattle.c_store.specs.Values.{Value, Point, Missing}
use Rattle.c_store.specs.declared.value.Value as rust
use Rattle.c_store.specs.Shown.{value_of}
use Rattle.c_plain.specs.Machine.{Piled}
use Rattle.c_plain.specs.Calls.{arguments_onto, arguments, pointers_from, argument_slots, all_converted}
use Rattle.c_plain.specs.Operators.{converted}
use Rattle.c_store.specs.declared.kind.Kind.{Kind}
use Rattle.c_parts.specs.Piles.{values_of, slots_of, with_objects, kind_at}

-- ---- lists

abbrev make : List Value → List Value → Piled
make m b = record { mine = m; below = b }

piled : {m n b c : List Value} → m ≡ n → b ≡ c → make m b ≡ make n c
piled {m = m} {n = n} {b = b} {c = c} e f = ap (λ (x : List Value). make x b) e ∙ ap (λ (y : List Value). make n y) f

reverse_parts : {A : Type 0} (m : ℕ) (ys : List A) → reverse ys ≡ reverse (drop m ys) ++ reverse (take m ys)
reverse_parts m ys = ap reverse (sym (take-append-drop m ys)) ∙ reverse-append (take m ys) (drop m ys)

drop_reversed : {A : Type 0} (k m : ℕ) (ys : List A) → k + m ≡ length ys → drop k (reverse ys) ≡ reverse (take m ys)
drop_reversed k m ys e =
    let f : k ≡ length (reverse (drop m ys)) = omega (arith, length-reverse (drop m ys), length-drop m ys) in
    ap (drop k) (reverse_parts m ys) ∙ (ap (λ (j : ℕ). drop j (reverse (drop m ys) ++ reverse (take m ys))) f ∙ drop-append_seam (reverse (drop m ys)) (reverse (take m ys)))

take_reversed : {A : Type 0} (k m : ℕ) (ys : List A) → k + m ≡ length ys → take k (reverse ys) ≡ reverse (drop m ys)
take_reversed k m ys e =
    let f : k ≡ length (reverse (drop m ys)) = omega (arith, length-reverse (drop m ys), length-drop m ys) in
    ap (take k) (reverse_parts m ys) ∙ (ap (λ (j : ℕ). take j (reverse (drop m ys) ++ reverse (take m ys))) f ∙ take-append_seam (reverse (drop m ys)) (reverse (take m ys)))

drop_few : {A : Type 0} (n k : ℕ) (xs : List A) → k ≡ min n (length xs) → drop n xs ≡ drop k xs
drop_few n k xs e = sym (drop_min n xs) ∙ ap (λ (j : ℕ). drop j xs) (sym e)

take_few : {A : Type 0} (n k : ℕ) (xs : List A) → k ≡ min n (length xs) → take n xs ≡ take k xs
take_few n k xs e = sym (take_min n xs) ∙ ap (λ (j : ℕ). take j xs) (sym e)

take_of_take : {A : Type 0} (b m : ℕ) (xs : List A) → b ≤ m → m ≤ length xs → take b (take m xs) ≡ take b xs
take_of_take b m xs p q =
    let l : b ≤ length (take m xs) = omega (arith, length-take-le m xs q) in
    sym (take-append-le b (take m xs) (drop m xs) l) ∙ ap (take b) (take-append-drop m xs)

drop_of_take : {A : Type 0} (b m k : ℕ) (xs : List A) → b + m ≡ k → drop b (take k xs) ≡ take m (drop b xs)
drop_of_take b m k xs e = ap (λ (j : ℕ). drop b (take j xs)) (sym e) ∙ drop-take b m xs

map_reversed : {A B : Type 0} (f : A → B) (xs : List A) → map f (reverse xs) ≡ reverse (map f xs)
map_reversed f [] = refl
map_reversed f (x ∷ xs) =
    ap (map f) (reverse-append (x ∷ []) xs) ∙ (map-append f (reverse xs) (x ∷ []) ∙ (ap (λ ys. ys ++ f x ∷ []) (map_reversed f xs) ∙ sym (reverse-append (f x ∷ []) (map f xs))))

mapped_replicate : {A B : Type 0} (f : A → B) (n : ℕ) (x : A) → map f (replicate n x) ≡ replicate n (f x)
mapped_replicate f zero x = refl
mapped_replicate f (suc n) x = ap (λ ys. f x ∷ ys) (mapped_replicate f n x)

-- the last of some elements
last_of : {A : Type 0} (xs : List A) (n : ℕ) → length xs ≡ n + 1 → (x : A) × (xs ≡ take n xs ++ x ∷ [])
last_of {A = A} xs n e = one (drop n xs) (omega (arith, length-drop n xs)) (sym (take-append-drop n xs))
  where
    one : (ys : List A) → length ys ≡ 1 → xs ≡ take n xs ++ ys → (x : A) × (xs ≡ take n xs ++ x ∷ [])
    one [] f g = absurd (omega (arith, f))
    one (y ∷ []) f g = (y, g)
    one (y ∷ z ∷ ys) f g = absurd (omega (arith, f))

set_last : {A : Type 0} (xs : List A) (n : ℕ) (v : A) → length xs ≡ n + 1 → slice_set xs n v ≡ take n xs ++ v ∷ []
set_last xs n v e =
    let w = last_of xs n e in
    let l : length (take n xs) ≡ n = length-take-le n xs (omega arith) in
    ap (λ ys. slice_set ys n v) w.1 ∙ (ap (λ (j : ℕ). slice_set (take n xs ++ w.0 ∷ []) j v) (sym l) ∙ set-append_seam (take n xs) w.0 [] v)

arguments_onto_is : (n : ℕ) (stack vs : List Value) → arguments_onto n stack vs ≡ reverse (take n stack) ++ vs
arguments_onto_is zero stack vs = refl
arguments_onto_is (suc n) [] vs = refl
arguments_onto_is (suc n) (v ∷ stack) vs = arguments_onto_is n stack (v ∷ vs) ∙ more (take n stack)
  where
    more : (xs : List Value) → reverse xs ++ v ∷ vs ≡ reverse (v ∷ xs) ++ vs
    more xs = sym (ap (λ ys. ys ++ vs) (reverse-append (v ∷ []) xs) ∙ append_one (reverse xs))
      where
        append_one : (ys : List Value) → (ys ++ v ∷ []) ++ vs ≡ ys ++ v ∷ vs
        append_one [] = refl
        append_one (y ∷ ys) = ap (λ zs. y ∷ zs) (append_one ys)

no_more : (xs : List Value) → xs ++ [] ≡ xs
no_more [] = refl
no_more (x ∷ xs) = ap (λ ys. x ∷ ys) (no_more xs)

pub arguments_is : (n : ℕ) (stack : List Value) → arguments n stack ≡ reverse (take n stack)
arguments_is n stack = arguments_onto_is n stack [] ∙ no_more (reverse (take n stack))

-- ---- values

-- how many the function has
mine_length : (b : ℕ) (xs : List rust.Value) → length (map value_of (drop b xs)) ≡ length xs - b
mine_length b xs = length-map (drop b xs) value_of ∙ length-drop b xs

pub dropped : (b n m : ℕ) (xs ys : List rust.Value) (old : Piled) → values_of b xs ≡ old → b ≤ length xs → m + min n (length xs - b) ≡ length xs → ys ≡ take m xs →
    values_of b ys ≡ record { mine = drop n old.mine; below = old.below }
dropped b n m xs ys old e le f g =
    let k : ℕ = min n (length xs - b) in
    let z : List Value = map value_of (drop b xs) in
    let r : ℕ = m - b in
    let few : k ≡ min n (length (reverse z)) = omega (arith, length-reverse z, mine_length b xs) in
    let sum : k + r ≡ length z = omega (arith, mine_length b xs) in
    let cut : b + r ≡ m = omega arith in
    let mine : reverse (map value_of (drop b (take m xs))) ≡ drop n (reverse z) =
    ap (λ us. reverse (map value_of us)) (drop_of_take b r m xs cut)
    ∙ (ap reverse (sym (take-map value_of r (drop b xs)))
    ∙ (sym (drop_reversed k r z sum) ∙ sym (drop_few n k (reverse z) few))) in
    let below : reverse (map value_of (take b (take m xs))) ≡ reverse (map value_of (take b xs)) =
    ap (λ us. reverse (map value_of us)) (take_of_take b m xs (omega arith) (omega arith)) in
    ap (values_of b) g ∙ (piled mine below ∙ ap (λ (p : Piled). make (drop n p.mine) (p.below)) e)

pub told_arguments : (b n s : ℕ) (xs us : List rust.Value) (old : Piled) → values_of b xs ≡ old → b ≤ length xs → s + min n (length xs - b) ≡ length xs → us ≡ drop s xs →
    map value_of us ≡ arguments n old.mine
told_arguments b n s xs us old e le f g =
    let k : ℕ = min n (length xs - b) in
    let z : List Value = map value_of (drop b xs) in
    let r : ℕ = s - b in
    let few : k ≡ min n (length (reverse z)) = omega (arith, length-reverse z, mine_length b xs) in
    let sum : k + r ≡ length z = omega (arith, mine_length b xs) in
    let all : arguments n (reverse z) ≡ drop r z =
    arguments_is n (reverse z) ∙ (ap reverse (take_few n k (reverse z) few) ∙ (ap reverse (take_reversed k r z sum) ∙ reverse-reverse (drop r z))) in
    let here : drop r z ≡ map value_of (drop s xs) = drop-map value_of r (drop b xs) ∙ ap (map value_of) (both b r xs ∙ ap (λ (j : ℕ). drop j xs) (sum_is r)) in
    ap (map value_of) g ∙ (sym here ∙ (sym all ∙ ap (λ (p : Piled). arguments n p.mine) e))
  where
    both : (i j : ℕ) (ws : List rust.Value) → drop j (drop i ws) ≡ drop (i + j) ws
    both i j ws = drop-drop j i ws

    sum_is : (j : ℕ) → b + (s - b) ≡ s
    sum_is j = omega arith

pub turned : (b n s : ℕ) (xs ys : List rust.Value) (old : Piled) → values_of b xs ≡ old → b ≤ length xs → s + min n (length xs - b) ≡ length xs → ys ≡ take s xs ++ reverse (drop s xs) →
    values_of b ys ≡ record { mine = arguments n old.mine ++ drop n old.mine; below = old.below }
turned b n s xs ys old e le f g =
    let front : length (take s xs) ≡ s = length-take-le s xs (omega arith) in
    let in_front : b ≤ length (take s xs) = omega arith in
    let args = told_arguments b n s xs (drop s xs) (values_of b xs) refl le f refl in
    let rest = ap (λ (p : Piled). p.mine) (dropped b n s xs (take s xs) (values_of b xs) refl le f refl) in
    let mine : reverse (map value_of (drop b (take s xs ++ reverse (drop s xs)))) ≡ arguments n (values_of b xs).mine ++ drop n (values_of b xs).mine =
    ap (λ us. reverse (map value_of us)) (drop-append-le b (take s xs) (reverse (drop s xs)) in_front)
    ∙ (ap reverse (map-append value_of (drop b (take s xs)) (reverse (drop s xs)))
    ∙ (reverse-append (map value_of (drop b (take s xs))) (map value_of (reverse (drop s xs)))
    ∙ (ap (λ us. us ++ reverse (map value_of (drop b (take s xs)))) (ap reverse (map_reversed value_of (drop s xs)) ∙ (reverse-reverse (map value_of (drop s xs)) ∙ args))
    ∙ ap (λ us. arguments n (values_of b xs).mine ++ us) rest))) in
    let below : reverse (map value_of (take b (take s xs ++ reverse (drop s xs)))) ≡ reverse (map value_of (take b xs)) =
    ap (λ us. reverse (map value_of us)) (take-append-le b (take s xs) (reverse (drop s xs)) in_front ∙ take_of_take b s xs (omega arith) (omega arith)) in
    ap (values_of b) g ∙ (piled mine below ∙ ap (λ (p : Piled). make (arguments n p.mine ++ drop n p.mine) (p.below)) e)

pub replaced : (b n : ℕ) (xs ys : List rust.Value) (v : rust.Value) (old : Piled) → values_of b xs ≡ old → b ≤ n → length xs ≡ n + 1 → ys ≡ slice_set xs n v →
    values_of b ys ≡ record { mine = value_of v ∷ drop 1 old.mine; below = old.below }
replaced b n xs ys v old e le f g =
    let front : length (take n xs) ≡ n = length-take-le n xs (omega arith) in
    let in_front : b ≤ length (take n xs) = omega arith in
    let one : n + min 1 (length xs - b) ≡ length xs = omega arith in
    let rest = dropped b 1 n xs (take n xs) (values_of b xs) refl (omega arith) one refl in
    let same : ys ≡ take n xs ++ v ∷ [] = g ∙ set_last xs n v f in
    let mine : reverse (map value_of (drop b (take n xs ++ v ∷ []))) ≡ value_of v ∷ drop 1 (values_of b xs).mine =
    ap (λ us. reverse (map value_of us)) (drop-append-le b (take n xs) (v ∷ []) in_front)
    ∙ (ap reverse (map-append value_of (drop b (take n xs)) (v ∷ []))
    ∙ (reverse-append (map value_of (drop b (take n xs))) (value_of v ∷ [])
    ∙ ap (λ us. value_of v ∷ us) (ap (λ (p : Piled). p.mine) rest))) in
    let below : reverse (map value_of (take b (take n xs ++ v ∷ []))) ≡ (values_of b xs).below =
    ap (λ us. reverse (map value_of us)) (take-append-le b (take n xs) (v ∷ []) in_front) ∙ ap (λ (p : Piled). p.below) rest in
    ap (values_of b) same ∙ (piled mine below ∙ ap (λ (p : Piled). make (value_of v ∷ drop 1 p.mine) (p.below)) e)

pub begun : (b n : ℕ) (xs : List rust.Value) (old : Piled) → values_of b xs ≡ old → n ≡ length xs → values_of n xs ≡ record { mine = []; below = old.mine ++ old.below }
begun b n xs old e f =
    let mine : reverse (map value_of (drop n xs)) ≡ [] = ap (λ (j : ℕ). reverse (map value_of (drop j xs))) f ∙ ap (λ us. reverse (map value_of us)) (drop-length xs) in
    let below : reverse (map value_of (take n xs)) ≡ (values_of b xs).mine ++ (values_of b xs).below =
    ap (λ (j : ℕ). reverse (map value_of (take j xs))) f ∙ (ap (λ us. reverse (map value_of us)) (take-length xs ∙ sym (take-append-drop b xs))
    ∙ (ap reverse (map-append value_of (take b xs) (drop b xs)) ∙ reverse-append (map value_of (take b xs)) (map value_of (drop b xs)))) in
    piled mine below ∙ ap (λ (p : Piled). make ([]) (p.mine ++ p.below)) e

joined : (us : List rust.Value) (u : rust.Value) (ws : List rust.Value) → (us ++ u ∷ []) ++ ws ≡ us ++ u ∷ ws
joined [] u ws = refl
joined (x ∷ us) u ws = ap (λ ts. x ∷ ts) (joined us u ws)

-- an item is set, and those behind it go
cut_set : (b : ℕ) (xs : List rust.Value) (v : rust.Value) → b < length xs → take (b + 1) (slice_set xs b v) ≡ take b xs ++ v ∷ []
cut_set b xs v lt =
    let w = last_of (take (b + 1) xs) b (length-take-le (b + 1) xs (omega arith)) in
    let shorter : take b (take (b + 1) xs) ≡ take b xs = take_of_take b (b + 1) xs (omega arith) (omega arith) in
    let whole : xs ≡ take b xs ++ w.0 ∷ drop (b + 1) xs = sym (take-append-drop (b + 1) xs) ∙ (ap (λ us. us ++ drop (b + 1) xs) (w.1 ∙ ap (λ us. us ++ w.0 ∷ []) shorter) ∙ joined (take b xs) w.0 (drop (b + 1) xs)) in
    let l : length (take b xs) ≡ b = length-take-le b xs (omega arith) in
    let put : slice_set xs b v ≡ take b xs ++ v ∷ drop (b + 1) xs =
    ap (λ us. slice_set us b v) whole ∙ (ap (λ (j : ℕ). slice_set (take b xs ++ w.0 ∷ drop (b + 1) xs) j v) (sym l) ∙ set-append_seam (take b xs) w.0 (drop (b + 1) xs) v) in
    let m : b + 1 ≡ length (take b xs ++ v ∷ []) = omega (arith, length-append (take b xs) (v ∷ [])) in
    ap (take (b + 1)) (put ∙ sym (joined (take b xs) v (drop (b + 1) xs))) ∙ (ap (λ (j : ℕ). take j ((take b xs ++ v ∷ []) ++ drop (b + 1) xs)) m ∙ take-append_seam (take b xs ++ v ∷ []) (drop (b + 1) xs))

pub over : (b c base : ℕ) (xs ys : List rust.Value) (v : rust.Value) (old : Piled) → values_of b xs ≡ old → b < length xs → c ≡ min base b → ys ≡ take (b + 1) (slice_set xs b v) →
    values_of c ys ≡ record { mine = value_of v ∷ take (length old.below - base) old.below; below = drop (length old.below - base) old.below }
over b c base xs ys v old e lt f g =
    let z : List Value = map value_of (take b xs) in
    let z_length : length z ≡ b = length-map (take b xs) value_of ∙ length-take-le b xs (omega arith) in
    let back : length (reverse z) ≡ b = length-reverse z ∙ z_length in
    let k : ℕ = b - base in
    let sum : k + c ≡ length z = omega arith in
    let same : ys ≡ take b xs ++ v ∷ [] = g ∙ cut_set b xs v lt in
    let in_front : c ≤ length (take b xs) = omega (arith, length-take-le b xs (omega arith)) in
    let count : k ≡ length (reverse z) - base = omega arith in
    let mine : reverse (map value_of (drop c (take b xs ++ v ∷ []))) ≡ value_of v ∷ take (length (reverse z) - base) (reverse z) =
    ap (λ us. reverse (map value_of us)) (drop-append-le c (take b xs) (v ∷ []) in_front)
    ∙ (ap reverse (map-append value_of (drop c (take b xs)) (v ∷ []))
    ∙ (reverse-append (map value_of (drop c (take b xs))) (value_of v ∷ [])
    ∙ ap (λ us. value_of v ∷ us) (ap reverse (sym (drop-map value_of c (take b xs))) ∙ (sym (take_reversed k c z sum) ∙ ap (λ (j : ℕ). take j (reverse z)) count)))) in
    let below : reverse (map value_of (take c (take b xs ++ v ∷ []))) ≡ drop (length (reverse z) - base) (reverse z) =
    ap (λ us. reverse (map value_of us)) (take-append-le c (take b xs) (v ∷ []) in_front)
    ∙ (ap reverse (sym (take-map value_of c (take b xs))) ∙ (sym (drop_reversed k c z sum) ∙ ap (λ (j : ℕ). drop j (reverse z)) count)) in
    ap (values_of c) same ∙ (piled mine below ∙ ap (λ (p : Piled). make (value_of v ∷ take (length p.below - base) p.below) (drop (length p.below - base) p.below)) e)

-- ---- slots

pub kept : (b n m : ℕ) (xs ys : List rust.Value) (old : Piled) → slots_of b xs ≡ old → b ≤ length xs → m ≡ b + min n (length xs - b) → ys ≡ take m xs →
    slots_of b ys ≡ record { mine = take n old.mine; below = old.below }
kept b n m xs ys old e le f g =
    let z : List Value = map value_of (drop b xs) in
    let k : ℕ = min n (length xs - b) in
    let few : k ≡ min n (length z) = omega (arith, mine_length b xs) in
    let mine : map value_of (drop b (take m xs)) ≡ take n z =
    ap (map value_of) (drop_of_take b k m xs (sym f)) ∙ (sym (take-map value_of k (drop b xs)) ∙ sym (take_few n k z few)) in
    let below : map value_of (take b (take m xs)) ≡ map value_of (take b xs) = ap (map value_of) (take_of_take b m xs (omega arith) (omega arith)) in
    ap (slots_of b) g ∙ (piled mine below ∙ ap (λ (p : Piled). make (take n p.mine) (p.below)) e)

pub slots_begun : (b n : ℕ) (xs : List rust.Value) (old : Piled) → slots_of b xs ≡ old → n ≡ length xs → slots_of n xs ≡ record { mine = []; below = old.below ++ old.mine }
slots_begun b n xs old e f =
    let mine : map value_of (drop n xs) ≡ [] = ap (λ (j : ℕ). map value_of (drop j xs)) f ∙ ap (map value_of) (drop-length xs) in
    let below : map value_of (take n xs) ≡ (slots_of b xs).below ++ (slots_of b xs).mine =
    ap (λ (j : ℕ). map value_of (take j xs)) f ∙ (ap (map value_of) (take-length xs ∙ sym (take-append-drop b xs)) ∙ map-append value_of (take b xs) (drop b xs)) in
    piled mine below ∙ ap (λ (p : Piled). make ([]) (p.below ++ p.mine)) e

pub slots_over : (b c base : ℕ) (xs ys : List rust.Value) (old : Piled) → slots_of b xs ≡ old → b ≤ length xs → c ≡ min base b → ys ≡ take b xs →
    slots_of c ys ≡ record { mine = drop base old.below; below = take base old.below }
slots_over b c base xs ys old e le f g =
    let z : List Value = map value_of (take b xs) in
    let z_length : length z ≡ b = length-map (take b xs) value_of ∙ length-take-le b xs (omega arith) in
    let few : c ≡ min base (length z) = omega arith in
    let mine : map value_of (drop c (take b xs)) ≡ drop base z = sym (drop-map value_of c (take b xs)) ∙ sym (drop_few base c z few) in
    let below : map value_of (take c (take b xs)) ≡ take base z = sym (take-map value_of c (take b xs)) ∙ sym (take_few base c z few) in
    ap (slots_of c) g ∙ (piled mine below ∙ ap (λ (p : Piled). make (drop base p.below) (take base p.below)) e)

pub emptied : (b n k len : ℕ) (xs ys : List rust.Value) (v : rust.Value) (old : Piled) → slots_of b xs ≡ old → b ≤ length xs → len ≡ length xs → k ≡ len + n → ys ≡ take k xs ++ replicate (k - len) v →
    slots_of b ys ≡ record { mine = old.mine ++ replicate n (value_of v); below = old.below }
emptied b n k len xs ys v old e le same_length f g =
    let left_over : k - len ≡ n = omega arith in
    let same : ys ≡ xs ++ replicate n v =
    g ∙ (ap (λ us. us ++ replicate (k - len) v) (take_all k xs (omega arith)) ∙ ap (λ (j : ℕ). xs ++ replicate j v) left_over) in
    let mine : map value_of (drop b (xs ++ replicate n v)) ≡ map value_of (drop b xs) ++ replicate n (value_of v) =
    ap (map value_of) (drop-append-le b xs (replicate n v) le) ∙ (map-append value_of (drop b xs) (replicate n v) ∙ ap (λ us. map value_of (drop b xs) ++ us) (mapped_replicate value_of n v)) in
    let below : map value_of (take b (xs ++ replicate n v)) ≡ map value_of (take b xs) = ap (map value_of) (take-append-le b xs (replicate n v) le) in
    ap (slots_of b) same ∙ (piled mine below ∙ ap (λ (p : Piled). make (p.mine ++ replicate n (value_of v)) (p.below)) e)

pub some_mine : (b : ℕ) (xs : List rust.Value) (old : Piled) → values_of b xs ≡ old → 0 < length old.mine → b < length xs
some_mine b xs old e some =
    let l : length old.mine ≡ length xs - b = ap (λ (p : Piled). length p.mine) (sym e) ∙ (length-reverse (map value_of (drop b xs)) ∙ mine_length b xs) in
    omega arith

-- a part that was turned and put back
pub put_back : (s n : ℕ) (xs ds rs : List rust.Value) → ds ≡ xs → n ≡ length xs → s ≤ length xs → rs ≡ reverse (take (length ds - s) (drop s ds)) →
    take n (put_mid s (length ds - s) ds rs ++ drop (length (put_mid s (length ds - s) ds rs)) xs) ≡ take s xs ++ reverse (drop s xs)
put_back s n xs ds rs e f le g =
    let k : ℕ = length ds - s in
    let same : length ds ≡ length xs = ap length e in
    let turned_is : rs ≡ reverse (drop s xs) = g ∙ (ap reverse (take_rest ds s) ∙ ap (λ us. reverse (drop s us)) e) in
    let l : length rs ≡ length xs - s = ap length turned_is ∙ (length-reverse (drop s xs) ∙ length-drop s xs) in
    let whole : take n (put_mid s k ds rs) ≡ take s ds ++ rs = take-put_mid s k ds rs n (omega arith) (omega arith) in
    let m : length (take n (put_mid s k ds rs)) ≡ n = ap length whole ∙ (length-append (take s ds) rs ∙ omega (arith, length-take-le s ds (omega arith))) in
    let enough : n ≤ length (put_mid s k ds rs) = omega (arith, length-take n (put_mid s k ds rs)) in
    take-append-le n (put_mid s k ds rs) (drop (length (put_mid s k ds rs)) xs) enough
    ∙ (whole ∙ (ap (λ us. take s us ++ rs) e ∙ ap (λ us. take s xs ++ us) turned_is))

pointers_both : (number : ℕ) (ls ms : List ℕ) → pointers_from number (ls ++ ms) ≡ pointers_from number ls ++ pointers_from (number + length ls) ms
pointers_both number [] ms = ap (λ (n : ℕ). pointers_from n ms) (omega arith)
pointers_both number (l ∷ ls) ms =
    let next : suc number + length ls ≡ number + length (l ∷ ls) = omega arith in
    ap (λ us. Point number l 0 ∷ us) (pointers_both (suc number) ls ms ∙ ap (λ (n : ℕ). pointers_from (suc number) ls ++ pointers_from n ms) next)

-- one object more
pub one_more : (old p q : Piled) (number object i x : ℕ) (lengths : List ℕ) → p ≡ with_objects old number (take i lengths) → object ≡ number + i → i < length lengths → x ≡ get_or lengths i 0 →
    q ≡ make (p.mine ++ Point object x 0 ∷ []) p.below → q ≡ with_objects old number (take (i + 1) lengths)
one_more old p q number object i x lengths e f lt g h =
    let l : length (take i lengths) ≡ i = length-take-le i lengths (omega arith) in
    let after : i + 1 ≡ suc i = omega arith in
    let more : take (i + 1) lengths ≡ take i lengths ++ x ∷ [] = ap (λ (n : ℕ). take n lengths) after ∙ (take-suc lengths i 0 lt ∙ ap (λ (n : ℕ). take i lengths ++ n ∷ []) (sym g)) in
    let at : number + length (take i lengths) ≡ object = omega arith in
    let new : pointers_from number (take (i + 1) lengths) ≡ pointers_from number (take i lengths) ++ Point object x 0 ∷ [] =
    ap (pointers_from number) more ∙ (pointers_both number (take i lengths) (x ∷ []) ∙ ap (λ (n : ℕ). pointers_from number (take i lengths) ++ Point n x 0 ∷ []) at) in
    h ∙ (ap (λ (s : Piled). make (s.mine ++ Point object x 0 ∷ []) s.below) e
    ∙ ap (λ us. make us old.below) (append_assoc old.mine (pointers_from number (take i lengths)) (Point object x 0 ∷ []) ∙ ap (λ us. old.mine ++ us) (sym new)))

-- ---- calls

more_of_one : {A : Type 0} (i : ℕ) (x : A) → replicate (i + 1) x ≡ replicate i x ++ x ∷ []
more_of_one i x = ap (λ (n : ℕ). replicate n x) (one_above i) ∙ grown i
  where
    one_above : (j : ℕ) → j + 1 ≡ suc j
    one_above j = omega arith

    grown : (j : ℕ) → replicate (suc j) x ≡ replicate j x ++ x ∷ []
    grown zero = refl
    grown (suc j) = ap (λ us. x ∷ us) (grown j)

ones_length : (i : ℕ) → length (replicate {A = ℕ} i 1) ≡ i
ones_length zero = refl
ones_length (suc i) = ap suc (ones_length i)

-- one cell more
pub one_cell_more : (old p q : Piled) (number object i : ℕ) → p ≡ with_objects old number (replicate i 1) → object ≡ number + i → q ≡ make (p.mine ++ Point object 1 0 ∷ []) p.below → q ≡ with_objects old number (replicate (i + 1) 1)
one_cell_more old p q number object i e f h =
    let at : number + length (replicate i 1) ≡ object = omega (arith, ones_length i) in
    let new : pointers_from number (replicate (i + 1) 1) ≡ pointers_from number (replicate i 1) ++ Point object 1 0 ∷ [] =
    ap (pointers_from number) (more_of_one i 1) ∙ (pointers_both number (replicate i 1) (1 ∷ []) ∙ ap (λ (n : ℕ). pointers_from number (replicate i 1) ++ Point n 1 0 ∷ []) at) in
    h ∙ (ap (λ (s : Piled). make (s.mine ++ Point object 1 0 ∷ []) s.below) e
    ∙ ap (λ us. make us old.below) (append_assoc old.mine (pointers_from number (replicate i 1)) (Point object 1 0 ∷ []) ∙ ap (λ us. old.mine ++ us) (sym new)))

pub all_ones : (xs : List Value) → map {B = ℕ} (λ x. 1) xs ≡ replicate (length xs) 1
all_ones [] = refl
all_ones (x ∷ xs) = ap (λ (us : List ℕ). 1 ∷ us) (all_ones xs)

-- the slots of a call are those of its first arguments, and then empty ones
pub slots_of_call : (next params used rest : ℕ) (vs : List Value) → used ≡ min params (length vs) → used + rest ≡ params →
    pointers_from next (replicate used 1) ++ replicate rest Missing ≡ argument_slots next params vs
slots_of_call next params used rest vs e f =
    let l : length (take params vs) ≡ used = omega (arith, length-take params vs) in
    let left_over : rest ≡ params - length vs = omega arith in
    ap (λ (n : ℕ). pointers_from next (replicate n 1) ++ replicate rest Missing) (sym l)
    ∙ (ap (λ us. pointers_from next us ++ replicate rest Missing) (sym (all_ones (take params vs))) ∙ ap (λ (n : ℕ). pointers_from next (map (λ v. 1) (take params vs)) ++ replicate n Missing) left_over)

pub converted_none : (kinds : List Kind) → all_converted kinds [] ≡ []
converted_none [] = refl
converted_none (k ∷ ks) = refl

pub converted_more : (kinds : List Kind) (vs : List Value) (v : Value) → all_converted kinds (vs ++ v ∷ []) ≡ all_converted kinds vs ++ converted (kind_at kinds (length vs)) v ∷ []
converted_more [] vs v = refl
converted_more (k ∷ ks) [] v = ap (λ us. converted k v ∷ us) (converted_none ks)
converted_more (k ∷ ks) (w ∷ vs) v = ap (λ us. converted k w ∷ us) (converted_more ks vs v)

-- one argument more
pub gathered : (kinds : List Kind) (xs outs news : List rust.Value) (x w : rust.Value) (i : ℕ) → map value_of outs ≡ all_converted kinds (map value_of (take i xs)) → i < length xs → x ≡ get_or xs i x →
    value_of w ≡ converted (kind_at kinds i) (value_of x) → news ≡ outs ++ w ∷ [] → map value_of news ≡ all_converted kinds (map value_of (take (i + 1) xs))
gathered kinds xs outs news x w i e lt f g h =
    let after : i + 1 ≡ suc i = omega arith in
    let l : length (map value_of (take i xs)) ≡ i = length-map (take i xs) value_of ∙ length-take-le i xs (omega arith) in
    let more : take (i + 1) xs ≡ take i xs ++ x ∷ [] = ap (λ (n : ℕ). take n xs) after ∙ (take-suc xs i x lt ∙ ap (λ y. take i xs ++ y ∷ []) (sym f)) in
    let right : all_converted kinds (map value_of (take (i + 1) xs)) ≡ all_converted kinds (map value_of (take i xs)) ++ converted (kind_at kinds i) (value_of x) ∷ [] =
    ap (λ us. all_converted kinds (map value_of us)) more ∙ (ap (all_converted kinds) (map-append value_of (take i xs) (x ∷ []))
    ∙ (converted_more kinds (map value_of (take i xs)) (value_of x) ∙ ap (λ (n : ℕ). all_converted kinds (map value_of (take i xs)) ++ converted (kind_at kinds n) (value_of x) ∷ []) l)) in
    ap (map value_of) h ∙ (map-append value_of outs (w ∷ []) ∙ (ap (λ us. us ++ value_of w ∷ []) e ∙ (ap (λ y. all_converted kinds (map value_of (take i xs)) ++ y ∷ []) g ∙ sym right)))

-- a value on top of some
on_these : (b : ℕ) (us : List rust.Value) (v : rust.Value) → b ≤ length us → values_of b (us ++ v ∷ []) ≡ make (value_of v ∷ (values_of b us).mine) (values_of b us).below
on_these b us v le =
    piled
    (ap (λ ws. reverse (map value_of ws)) (drop-append-le b us (v ∷ []) le) ∙ (ap reverse (map-append value_of (drop b us) (v ∷ [])) ∙ reverse-append (map value_of (drop b us)) (value_of v ∷ [])))
    (ap (λ ws. reverse (map value_of ws)) (take-append-le b us (v ∷ []) le))

-- the value below so many others
pub read_below : (b n len : ℕ) (xs : List rust.Value) (v : rust.Value) (old : Piled) → values_of b xs ≡ old → n + b < length xs → len ≡ length xs → v ≡ get_or xs (len - 1 - n) v → drop n old.mine ≡ value_of v ∷ drop (n + 1) old.mine
read_below b n len xs v old e lt same_length f =
    let m : ℕ = len - 1 - n in
    let shorter = dropped b (n + 1) m xs (take m xs) (values_of b xs) refl (omega arith) (omega arith) refl in
    let longer = dropped b n (suc m) xs (take (suc m) xs) (values_of b xs) refl (omega arith) (omega arith) refl in
    let last : take (suc m) xs ≡ take m xs ++ v ∷ [] = take-suc xs m v (omega arith) ∙ ap (λ y. take m xs ++ y ∷ []) (sym f) in
    let here : b ≤ length (take m xs) = omega (arith, length-take-le m xs (omega arith)) in
    let both : drop n (values_of b xs).mine ≡ value_of v ∷ drop (n + 1) (values_of b xs).mine =
    sym (ap (λ (p : Piled). p.mine) longer) ∙ (ap (λ us. (values_of b us).mine) last ∙ (ap (λ (p : Piled). p.mine) (on_these b (take m xs) v here) ∙ ap (λ us. value_of v ∷ us) (ap (λ (p : Piled). p.mine) shorter))) in
    subst (λ (p : Piled). drop n p.mine ≡ value_of v ∷ drop (n + 1) p.mine) e both

-- a value in place of so many
pub put_over : (b n m : ℕ) (xs ys : List rust.Value) (v : rust.Value) (old : Piled) → values_of b xs ≡ old → b ≤ length xs → m + min n (length xs - b) ≡ length xs → m < length xs → ys ≡ take (m + 1) (slice_set xs m v) →
    values_of b ys ≡ make (value_of v ∷ drop n old.mine) old.below
put_over b n m xs ys v old e le f lt g =
    let shorter = dropped b n m xs (take m xs) (values_of b xs) refl le f refl in
    let here : b ≤ length (take m xs) = omega (arith, length-take-le m xs (omega arith)) in
    ap (values_of b) (g ∙ cut_set m xs v lt) ∙ (on_these b (take m xs) v here ∙ (ap (λ (p : Piled). make (value_of v ∷ p.mine) p.below) shorter ∙ ap (λ (p : Piled). make (value_of v ∷ drop n p.mine) p.below) e))

-- a value on top, where none goes
pub put_more : (b n : ℕ) (xs ys : List rust.Value) (v : rust.Value) (old : Piled) → values_of b xs ≡ old → b ≤ length xs → min n (length xs - b) ≡ 0 → ys ≡ xs ++ v ∷ [] →
    values_of b ys ≡ make (value_of v ∷ drop n old.mine) old.below
put_more b n xs ys v old e le f g =
    let same = dropped b n (length xs) xs xs (values_of b xs) refl le (omega arith) (sym (take-length xs)) in
    ap (values_of b) g ∙ (on_these b xs v le ∙ (ap (λ (p : Piled). make (value_of v ∷ p.mine) p.below) same ∙ ap (λ (p : Piled). make (value_of v ∷ drop n p.mine) p.below) e))

-- digits above a mark
pub spread : (b n : ℕ) (xs ds ys : List rust.Value) (v : rust.Value) (old : Piled) → values_of b xs ≡ old → b ≤ n → length xs ≡ n + 1 → ys ≡ slice_set (xs ++ ds) n v →
    values_of b ys ≡ make (reverse (map value_of ds) ++ value_of v ∷ drop 1 old.mine) old.below
spread b n xs ds ys v old e le f g =
    let lt : n < length xs = omega arith in
    let us : List rust.Value = slice_set xs n v in
    let l : length us ≡ length xs = length-set xs n v in
    let here : b ≤ length us = omega arith in
    let same : ys ≡ us ++ ds = g ∙ set-append_left xs ds n v lt in
    let first = replaced b n xs us v old e le f refl in
    let mine : reverse (map value_of (drop b (us ++ ds))) ≡ reverse (map value_of ds) ++ value_of v ∷ drop 1 old.mine =
    ap (λ ws. reverse (map value_of ws)) (drop-append-le b us ds here) ∙ (ap reverse (map-append value_of (drop b us) ds)
    ∙ (reverse-append (map value_of (drop b us)) (map value_of ds) ∙ ap (λ ws. reverse (map value_of ds) ++ ws) (ap (λ (p : Piled). p.mine) first))) in
    let below : reverse (map value_of (take b (us ++ ds))) ≡ old.below =
    ap (λ ws. reverse (map value_of ws)) (take-append-le b us ds here) ∙ ap (λ (p : Piled). p.below) first in
    ap (values_of b) same ∙ piled mine below
