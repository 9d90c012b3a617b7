-- Exports with names that differ.
use Rattle.std.proofs.Common.{◌≡◌, ◌≢◌, ◌⊎◌, ⊎_elim, inl, inr, ℕ, zero, suc, ◌+◌, ◌<◌, ◌≤◌, Bool, true, false, not, ◌||◌, List, [], ◌∷◌, ◌++◌, map, take, length, get_or, refl, sym, ap, subst, ◌∙◌, arith, Bor}
use Rattle.std.specs.Prelude.{nat_eq}
use Rattle.std.specs.Bool.{if◌then◌else◌}
use Rattle.std.specs.List.{list_any}
use Rattle.std.specs.Cmp.Lexicographic.{same_text}
use Rattle.std.proofs.lemmas.List.{get_or-take, length-take-le, length-map, map-append, take_more, get_or_default}
use Rattle.std.proofs.lemmas.List.Kept.{AllPairs-cons}
use Rattle.std.proofs.Math.ListN.{get_or-map}
use Rattle.std.proofs.lemmas.Cmp.{nat_list_eq_equiv}
use lib.Pointwise.{pointwise}
use Rattle.wasm_bin.specs.declared.module.Export.{Export}
use Rattle.wasm_valid.specs.Rules.{HaveDistinctNames}
use Rattle.wasm_valid.proofs.Levels.{by_test}

abbrev name : Export → List ℕ
name e = e.name

abbrev same : List ℕ → List ℕ → Bool
same n y = pointwise nat_eq n y

any_index : (xs : List (List ℕ)) (n : List ℕ) → list_any (same n) xs ≡ true → (i : ℕ) × (i < length xs) × ((d : List ℕ) → get_or xs i d ≡ n)
any_index [] n = λ e. cc
any_index (x ∷ xs) n =
    by_test {P = (same n x || list_any (same n) xs) ≡ true → (i : ℕ) × (i < length (x ∷ xs)) × ((d : List ℕ) → get_or (x ∷ xs) i d ≡ n)} (same n x)
    (λ t e. (0, omega arith, λ d. sym (same_text n x (sym t))))
    (λ t. rw t (λ e. let w = any_index xs n e in (suc w.0, omega (arith, w.1), λ d. w.2 d)))

same_self : (n y : List ℕ) → y ≡ n → same n y ≡ true
same_self n y e = rw e (nat_list_eq_equiv.refl n)

index_any : (xs : List (List ℕ)) (n : List ℕ) (i : ℕ) (d : List ℕ) → i < length xs → get_or xs i d ≡ n → list_any (same n) xs ≡ true
index_any [] n i d lt e = absurd (omega arith)
index_any (x ∷ xs) n zero d lt e = rw (same_self n x e) refl
index_any (x ∷ xs) n (suc i) d lt e =
    let rest : list_any (same n) xs ≡ true = index_any xs n i d (omega arith) e in
    rw rest (by_test {P = (same n x || true) ≡ true} (same n x) (λ t. rw t refl) (λ t. rw t refl))

any_now : (ks : List (Bor (List ℕ))) (n : List ℕ) → list_any (λ y. same n y.now) ks ≡ list_any (same n) (map (λ k. k.now) ks)
any_now [] n = refl
any_now (k ∷ ks) n = ap (λ b. same n k.now || b) (any_now ks n)

-- the names of the first exports
names_at : (exports : List Export) (k i : ℕ) (d : Export) → i < k → get_or (map name (take k exports)) i (name d) ≡ name (get_or exports i d)
names_at exports k i d lt = get_or-map name (take k exports) i d ∙ ap name (get_or-take k exports i d lt)

names_long : (exports : List Export) (k : ℕ) → k ≤ length exports → length (map name (take k exports)) ≡ k
names_long exports k le = length-map (take k exports) name ∙ length-take-le k exports le

abbrev Seen : List (Bor (List ℕ)) → List Export → ℕ → Type 0
Seen ks exports k = map (λ k. k.now) ks ≡ map name (take k exports)

-- a name that was seen comes again
pub twice : (exports : List Export) (k : ℕ) (e : Export) (ks : List (Bor (List ℕ))) (n : List ℕ) → k < length exports → e ≡ get_or exports k e → Seen ks exports k → n ≡ e.name → list_any (λ y. same n y.now) ks ≡ true → HaveDistinctNames exports → ⊥
twice exports k e ks n lt is seen named any distinct =
    let le : k ≤ length exports = omega arith in
    let w = any_index (map name (take k exports)) n (ap (list_any (same n)) (sym seen) ∙ (sym (any_now ks n) ∙ any)) in
    let within : w.0 < length (map name (take k exports)) = w.1 in
    let below : w.0 < k = subst (λ l. w.0 < l) (names_long exports k le) within in
    distinct w.0 k e below lt (sym (names_at exports k w.0 e below) ∙ (w.2 (name e) ∙ (named ∙ ap name is)))

last_or_before : (j k : ℕ) → j < k + 1 → (j < k) ⊎ (j ≡ k)
last_or_before j k lt = grind arith

true_not_false : (b : Bool) → b ≡ true → b ≡ false → ⊥
true_not_false b e f = cc

-- a name that was not seen keeps the names apart
pub once : (exports : List Export) (k : ℕ) (e : Export) (ks : List (Bor (List ℕ))) (n : List ℕ) → k < length exports → e ≡ get_or exports k e → Seen ks exports k → n ≡ e.name → list_any (λ y. same n y.now) ks ≡ false → HaveDistinctNames (take k exports) → HaveDistinctNames (take (k + 1) exports)
once exports k e ks n lt is seen named none distinct = λ i j d below within alike.
    let le : k ≤ length exports = omega arith in
    let more : k + 1 ≤ length exports = omega arith in
    let long : length (take (k + 1) exports) ≡ k + 1 = length-take-le (k + 1) exports more in
    let size : length (take k exports) ≡ k = length-take-le k exports le in
    let j_in : j < k + 1 = subst (λ l. j < l) long within in
    let i_in : i < k + 1 = omega arith in
    let there = sym (ap name (get_or-take (k + 1) exports i d i_in)) ∙ (alike ∙ ap name (get_or-take (k + 1) exports j d j_in)) in
    ⊎_elim
    (λ before.
    let i_before : i < k = omega arith in
    let j_within : j < length (take k exports) = subst (λ l. j < l) (sym size) before in
    distinct i j d below j_within (ap name (get_or-take k exports i d i_before) ∙ (there ∙ sym (ap name (get_or-take k exports j d before)))))
    (λ last.
    let i_before : i < k = omega arith in
    let i_within : i < length (map name (take k exports)) = subst (λ l. i < l) (sym (names_long exports k le)) i_before in
    let named_so = names_at exports k i d i_before ∙ (there ∙ (ap (λ x. name (get_or exports x d)) last ∙ (ap name (get_or_default exports k d e lt ∙ sym is) ∙ sym named))) in
    true_not_false (list_any (λ y. same n y.now) ks) (any_now ks n ∙ (ap (list_any (same n)) seen ∙ index_any (map name (take k exports)) n i (name d) i_within named_so)) none)
    (last_or_before j k j_in)

-- one name more was seen
pub seen_more : (exports : List Export) (k : ℕ) (e : Export) (ks all : List (Bor (List ℕ))) (key : Bor (List ℕ)) → k < length exports → e ≡ get_or exports k e → Seen ks exports k → key.now ≡ e.name → list_any (λ y. same key.now y.now) ks ≡ false → all ≡ (if list_any (λ y. same key.now y.now) ks then ks else ks ++ key ∷ []) → Seen all exports (k + 1)
seen_more exports k e ks all key lt is seen named none keys =
    let pushed : all ≡ ks ++ key ∷ [] = keys ∙ ap (λ b. if b then ks else ks ++ key ∷ []) none in
    ap (map (λ k. k.now)) pushed
    ∙ (map-append (λ k. k.now) ks (key ∷ [])
    ∙ (ap (λ (l : List (List ℕ)). l ++ key.now ∷ []) seen
    ∙ (ap (λ (x : List ℕ). map name (take k exports) ++ x ∷ []) (named ∙ ap name is)
    ∙ (sym (map-append name (take k exports) (get_or exports k e ∷ []))
    ∙ ap (map name) (sym (take_more exports k e lt))))))

pub not_added : (b added : Bool) → added ≡ not b → added ≡ false → b ≡ true
not_added true added e f = refl
not_added false added e f = cc

pub is_added : (b added : Bool) → added ≡ not b → added ≡ true → b ≡ false
is_added true added e f = cc
is_added false added e f = refl

abbrev ApartOrNot : List Export → Type 0
ApartOrNot exports = HaveDistinctNames exports ⊎ (HaveDistinctNames exports → ⊥)

-- whether one export more has a name of its own
with_first : (e : Export) (es : List Export) → HaveDistinctNames es → (b : Bool) → list_any (same (name e)) (map name es) ≡ b → ApartOrNot (e ∷ es)
with_first e es apart true seen =
    let w = any_index (map name es) (name e) seen in
    inr (λ all.
    let at : w.0 < length es = subst (λ n. w.0 < n) (length-map es name) w.1 in
    all 0 (suc w.0) e (omega arith) (omega arith) (sym (w.2 (name e)) ∙ get_or-map name es w.0 e))
with_first e es apart false seen =
    inl (AllPairs-cons (λ (a b : Export). a.name ≢ b.name) e es
    (λ k d within named.
    let at : k < length (map name es) = subst (λ n. k < n) (sym (length-map es name)) within in
    true_not_false (list_any (same (name e)) (map name es)) (index_any (map name es) (name e) k (name d) at (get_or-map name es k d ∙ sym named)) seen)
    apart)

-- the names differ or not
pub apart_or_not : (exports : List Export) → HaveDistinctNames exports ⊎ (HaveDistinctNames exports → ⊥)
apart_or_not [] = inl (λ i j d below within. absurd (omega arith))
apart_or_not (e ∷ es) = ⊎_elim
    (λ apart. with_first e es apart (list_any (same (name e)) (map name es)) refl)
    (λ no. inr (λ all. no (λ i j d below within. all (suc i) (suc j) d (omega arith) (omega arith))))
    (apart_or_not es)
