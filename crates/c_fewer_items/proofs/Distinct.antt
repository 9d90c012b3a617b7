-- The formats of a text, of which each stands once.
use Rattle.std.proofs.Common.{◌≡◌, ℕ, List, [], ◌∷◌, ◌++◌, Bool, true, false, refl, sym, ap, ap₂, ◌∙◌, take, drop, take-append-drop}
use Rattle.std.specs.Prelude.{◌&&◌, ◌||◌, not, map, codes, if◌then◌else◌}
use Rattle.std.specs.List.{filter}
use Rattle.std.specs.Str.{bytes_eq}
use Rattle.std.proofs.lemmas.Bool.{and_parts}
use Rattle.std.proofs.lemmas.Slice.Eq.{bytes_eq-Decides}
use Rattle.c_types.specs.Scope.{contains}
use Rattle.c_helpers.specs.Laws.{are_distinct}
use Rattle.c_helpers.specs.Meanings.{is_format}
use Rattle.c_helpers.specs.Fewer.{distinct, names_in_bodies}
use Rattle.c_fewer_reached.proofs.Reached.{left_found}
use Rattle.c_fewer_items.specs.FewerFrontsLaws.{FormatsAreDistinct}

abbrev Test : Type 0
Test = List ℕ → Bool

-- what isn't there isn't left
not_left : (q : Test) (xs : List (List ℕ)) (x : List ℕ) → (contains xs x ≡ true → q x ≡ true → false ≡ true) → contains (filter q xs) x ≡ false
not_left q xs x h = go (contains (filter q xs) x) refl
  where
    go : (b : Bool) → contains (filter q xs) x ≡ b → b ≡ false
    go true e = let k = left_found q xs x e in absurd (cc (h k.0 k.1))
    go false e = refl

filter_distinct : (q : Test) (xs : List (List ℕ)) → are_distinct xs ≡ true → are_distinct (filter q xs) ≡ true
filter_distinct q [] d = refl
filter_distinct q (x ∷ xs) d = let k = and_parts (not (contains xs x)) (are_distinct xs) d in go (q x) k.0 (filter_distinct q xs k.1)
  where
    go : (b : Bool) → not (contains xs x) ≡ true → are_distinct (filter q xs) ≡ true → are_distinct (if b then x ∷ filter q xs else filter q xs) ≡ true
    go true n e = ap₂ (λ u v. not u && v) (not_left q xs x (λ c k. sym (sym n ∙ ap not c))) e
    go false n e = e

distinct_is : (xs : List (List ℕ)) → are_distinct (distinct xs) ≡ true
distinct_is [] = refl
distinct_is (x ∷ xs) =
    ap₂ (λ u v. not u && v) (not_left (λ y. not (bytes_eq x y)) (distinct xs) x (λ c k. sym (sym k ∙ ap not ((bytes_eq-Decides x x).1 refl)))) (filter_distinct (λ y. not (bytes_eq x y)) (distinct xs) (distinct_is xs))

-- what is in it was there
distinct_found : (xs : List (List ℕ)) (y : List ℕ) → contains (distinct xs) y ≡ true → contains xs y ≡ true
distinct_found [] y e = e
distinct_found (x ∷ xs) y e = go (bytes_eq y x) e (λ k. distinct_found xs y (left_found (λ z. not (bytes_eq x z)) (distinct xs) y k).0)
  where
    go : (b : Bool) → (b || contains (filter (λ z. not (bytes_eq x z)) (distinct xs)) y) ≡ true → (contains (filter (λ z. not (bytes_eq x z)) (distinct xs)) y ≡ true → contains xs y ≡ true) → (b || contains xs y) ≡ true
    go true e more = refl
    go false e more = more e

-- ---- names of formats

same_name : (x y : List ℕ) → is_format x ≡ true → is_format y ≡ true → drop 7 x ≡ drop 7 y → x ≡ y
same_name x y e f d =
    let a : take 7 x ≡ codes "printf " = (bytes_eq-Decides (take 7 x) (codes "printf ")).0 e in
    let b : take 7 y ≡ codes "printf " = (bytes_eq-Decides (take 7 y) (codes "printf ")).0 f in
    sym (take-append-drop 7 x) ∙ (ap₂ (λ u v. u ++ v) (a ∙ sym b) d ∙ take-append-drop 7 y)

abbrev AreFormatNames : List (List ℕ) → Type 0
AreFormatNames xs = (y : List ℕ) → contains xs y ≡ true → is_format y ≡ true

or_right : (a b : Bool) → b ≡ true → (a || b) ≡ true
or_right true b e = refl
or_right false b e = e

-- a format stands where its name does
dropped : (xs : List (List ℕ)) (x : List ℕ) → is_format x ≡ true → AreFormatNames xs → contains (map (drop 7) xs) (drop 7 x) ≡ true → contains xs x ≡ true
dropped [] x f a e = e
dropped (y ∷ ys) x f a e = go (bytes_eq (drop 7 x) (drop 7 y)) refl e (λ k. dropped ys x f (λ z c. a z (or_right (bytes_eq z y) (contains ys z) c)) k)
  where
    go : (b : Bool) → bytes_eq (drop 7 x) (drop 7 y) ≡ b → (b || contains (map (drop 7) ys) (drop 7 x)) ≡ true → (contains (map (drop 7) ys) (drop 7 x) ≡ true → contains ys x ≡ true) → (bytes_eq x y || contains ys x) ≡ true
    go true k e more =
        let same : x ≡ y = same_name x y f (a y (ap (λ b. b || contains ys y) ((bytes_eq-Decides y y).1 refl))) ((bytes_eq-Decides (drop 7 x) (drop 7 y)).0 k) in
        ap (λ b. b || contains ys x) ((bytes_eq-Decides x y).1 same)
    go false k e more = or_right (bytes_eq x y) (contains ys x) (more e)

dropped_distinct : (xs : List (List ℕ)) → AreFormatNames xs → are_distinct xs ≡ true → are_distinct (map (drop 7) xs) ≡ true
dropped_distinct [] a d = refl
dropped_distinct (x ∷ xs) a d =
    let k = and_parts (not (contains xs x)) (are_distinct xs) d in
    let rest : AreFormatNames xs = λ z c. a z (or_right (bytes_eq z x) (contains xs z) c) in
    ap₂ (λ u v. not u && v) (go (contains (map (drop 7) xs) (drop 7 x)) refl k.0 (λ e. dropped xs x (a x (ap (λ b. b || contains xs x) ((bytes_eq-Decides x x).1 refl))) rest e)) (dropped_distinct xs rest k.1)
  where
    go : (b : Bool) → contains (map (drop 7) xs) (drop 7 x) ≡ b → not (contains xs x) ≡ true → (contains (map (drop 7) xs) (drop 7 x) ≡ true → contains xs x ≡ true) → b ≡ false
    go true e n h = absurd (cc (sym n ∙ ap not (h e)))
    go false e n h = refl

pub formats_are_distinct : FormatsAreDistinct
formats_are_distinct items =
    let names : List (List ℕ) = filter is_format (names_in_bodies items) in
    dropped_distinct (distinct names) (λ y c. (left_found is_format (names_in_bodies items) y (distinct_found names y c)).1) (distinct_is names)
