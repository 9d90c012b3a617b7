-- Values in slots.
use Rattle.std.proofs.Common.{◌≡◌, ℕ, zero, suc, ◌+◌, ◌-◌, ◌<◌, ◌≤◌, List, [], ◌∷◌, ◌++◌, length, set, get_or, take, drop, reverse, ℤ, Some, None, refl, sym, ap, ◌∙◌, arith}
use Rattle.std.specs.Prelude.{slice_get}
use Rattle.std.proofs.lemmas.List.{take_all, take-append-le, length-append, take-take, take_more, take_more_set, length-take-le, reverse-append, length-reverse, get_or-reverse, get_or-take}
use Rattle.std.proofs.lemmas.Option.{slice_get-get_or}
use Rattle.mach_core.proofs.Stack.{reverse-take}
use Rattle.piet_lang.specs.Stack.{values_of, pair_of}

-- none
pub values_none : (slots : List ℤ) → values_of slots 0 ≡ []
unfolding values_of
values_none [] = refl
values_none (x ∷ slots) = refl

-- one more
pub values_more : (slots : List ℤ) (n : ℕ) (d : ℤ) → n < length slots → values_of slots (n + 1) ≡ get_or slots n d ∷ values_of slots n
unfolding values_of
values_more slots n d h = ap reverse (take_more slots n d h) ∙ reverse-append (take n slots) (get_or slots n d ∷ [])

-- one more, which is put into its slot
pub values_put : (slots : List ℤ) (n : ℕ) (x : ℤ) → n < length slots → values_of (set slots n x) (n + 1) ≡ x ∷ values_of slots n
unfolding values_of
values_put slots n x h = ap reverse (take_more_set slots n x h) ∙ reverse-append (take n slots) (x ∷ [])

-- one more, in a slot of its own
pub values_push : (slots : List ℤ) (n : ℕ) (x : ℤ) → n ≡ length slots → values_of (slots ++ x ∷ []) (n + 1) ≡ x ∷ values_of slots n
unfolding values_of
values_push slots n x e = ap reverse (take_all (n + 1) (slots ++ x ∷ []) (omega (arith, length-append slots (x ∷ []))) ∙ ap (λ s. s ++ x ∷ []) (sym (take_all n slots (omega arith)))) ∙ reverse-append (take n slots) (x ∷ [])

pub length-values : (slots : List ℤ) (len : ℕ) → len ≤ length slots → length (values_of slots len) ≡ len
unfolding values_of
length-values slots len le = length-reverse (take len slots) ∙ length-take-le len slots le

-- some dropped from the top
pub values_drop : (slots : List ℤ) (len n : ℕ) → len ≤ length slots → values_of slots (len - n) ≡ drop n (values_of slots len)
unfolding values_of
values_drop slots len n le =
    ap reverse (sym (take-take (len - n) len slots (omega arith)) ∙ ap (λ k. take (k - n) (take len slots)) (sym (length-take-le len slots le)))
    ∙ reverse-take (take len slots) n

-- the value under so many
pub values_at : (slots : List ℤ) (len depth : ℕ) (d : ℤ) → len ≤ length slots → depth < len → slice_get (values_of slots len) depth ≡ Some (get_or slots (len - 1 - depth) d)
unfolding values_of
values_at slots len depth d le lt =
    let size = length-take-le len slots le in
    let there : depth < length (take len slots) = omega arith in
    let within : depth < length (reverse (take len slots)) = omega (arith, length-reverse (take len slots)) in
    slice_get-get_or (reverse (take len slots)) depth d within
    ∙ ap (λ (x : ℤ). Some x) (get_or-reverse (take len slots) depth d there ∙ (ap (λ n. get_or (take len slots) (n - 1 - depth) d) size ∙ get_or-take len slots (len - 1 - depth) d (omega arith)))

past : (xs : List ℤ) (k : ℕ) → length xs ≤ k → slice_get xs k ≡ None
past [] k h = refl
past (x ∷ xs) zero h = absurd (omega arith)
past (x ∷ xs) (suc k) h = past xs k (omega arith)

pub values_past : (slots : List ℤ) (len depth : ℕ) → len ≤ length slots → len ≤ depth → slice_get (values_of slots len) depth ≡ None
values_past slots len depth le h = past (values_of slots len) depth (omega (arith, length-values slots len le))

-- the two at the top
pub values_two : (slots : List ℤ) (n : ℕ) (d : ℤ) → n + 2 ≤ length slots → values_of slots (n + 2) ≡ get_or slots (n + 1) d ∷ get_or slots n d ∷ values_of slots n
values_two slots n d le =
    let two : n + 2 ≡ n + 1 + 1 = omega arith in
    ap (values_of slots) two ∙ (values_more slots (n + 1) d (omega arith) ∙ ap (λ xs. get_or slots (n + 1) d ∷ xs) (values_more slots n d (omega arith)))

few : (xs : List ℤ) → length xs < 2 → pair_of xs ≡ None
few [] h = refl
few (y ∷ []) h = refl
few (y ∷ x ∷ rest) h = absurd (omega arith)

pub pair_none : (slots : List ℤ) (len : ℕ) → len ≤ length slots → len < 2 → pair_of (values_of slots len) ≡ None
pair_none slots len le lt = few (values_of slots len) (omega (arith, length-values slots len le))

pub pair_some : (slots : List ℤ) (len : ℕ) (d : ℤ) → len ≤ length slots → 2 ≤ len → pair_of (values_of slots len) ≡ Some (get_or slots (len - 2) d, get_or slots (len - 1) d)
pair_some slots len d le lt =
    let there : len - 2 + 2 ≡ len = omega arith in
    let last : len - 2 + 1 ≡ len - 1 = omega arith in
    ap (λ n. pair_of (values_of slots n)) (sym there) ∙ (ap pair_of (values_two slots (len - 2) d (omega arith)) ∙ ap (λ n. Some (get_or slots (len - 2) d, get_or slots n d)) last)

-- the same slots, written back
pub written_back : (slots new : List ℤ) (len : ℕ) → len ≡ length slots → new ≡ slots → take len (new ++ drop (length new) slots) ≡ slots
written_back slots new len e same = ap (λ s. take len (s ++ drop (length s) slots)) same ∙ (take-append-le len slots (drop (length slots) slots) (omega arith) ∙ take_all len slots (omega arith))
