-- Sets of names, as lists.
use Rattle.std.proofs.Common.{◌≡◌, ◌≤◌, ℕ, suc, Bool, true, false, ◌||◌, List, [], ◌∷◌, ◌++◌, length, refl, sym, ap, subst, ◌∙◌, append_assoc, append-nil, arith, if◌then◌else◌, cond}
use Rattle.std.specs.List.{list_any, filter}
use Rattle.std.specs.Str.{bytes_eq}
use Rattle.std.specs.Cmp.Lexicographic.{bytes_decides}
use Rattle.c_types.specs.Scope.{contains}
use Rattle.c_tree_names.specs.Sets.{with_name}
use Rattle.c_tree_names.proofs.SetLemmas.{eq_swap, contains_more}
use Rattle.c_reached.specs.Reaching.{with_tested, with_all, AreOnce}

abbrev IsYes : Bool → Type 0
IsYes true = Unit {0}
IsYes false = ⊥

pub false_true : false ≡ true → ⊥
false_true h = subst IsYes (sym h) tt

pub or_left : (a b : Bool) → a ≡ true → (a || b) ≡ true
or_left a b h = ap (λ (x : Bool). x || b) h

pub or_right : (a b : Bool) → b ≡ true → (a || b) ≡ true
or_right true b h = refl
or_right false b h = h

pub or_either : {C : Type 0} (a b : Bool) → (a || b) ≡ true → (a ≡ true → C) → (b ≡ true → C) → C
or_either true b h f g = f refl
or_either false b h f g = g h

pub or_neither : (a b : Bool) → (a || b) ≡ false → (a ≡ false) × (b ≡ false)
or_neither false b h = (refl, h)
or_neither true b h = absurd (false_true (sym h))

pub not_true : (b : Bool) → (b ≡ true → ⊥) → b ≡ false
not_true true h = absurd (h refl)
not_true false h = refl

pub both_ways : (a b : Bool) → (a ≡ true → b ≡ true) → (b ≡ true → a ≡ true) → a ≡ b
both_ways true b f g = sym (f refl)
both_ways false true f g = g refl
both_ways false false f g = refl

own : (x : List ℕ) → bytes_eq x x ≡ true
own x = (bytes_decides x x).1 refl

pub own_first : (x : List ℕ) (xs : List (List ℕ)) → contains (x ∷ xs) x ≡ true
own_first x xs = or_left (bytes_eq x x) (contains xs x) (own x)

-- ---- filters

kept_here : (is : List ℕ → Bool) (x f : List ℕ) (xs : List (List ℕ)) (b : Bool) → b ≡ true → bytes_eq f x ≡ true → contains (cond b (x ∷ filter is xs) (filter is xs)) f ≡ true
kept_here is x f xs b e s = ap (λ (t : Bool). contains (cond t (x ∷ filter is xs) (filter is xs)) f) e ∙ or_left (bytes_eq f x) (contains (filter is xs) f) s

kept_later : (is : List ℕ → Bool) (x f : List ℕ) (xs : List (List ℕ)) (b : Bool) → contains (filter is xs) f ≡ true → contains (cond b (x ∷ filter is xs) (filter is xs)) f ≡ true
kept_later is x f xs true m = or_right (bytes_eq f x) (contains (filter is xs) f) m
kept_later is x f xs false m = m

pub kept_in : (is : List ℕ → Bool) (xs : List (List ℕ)) (f : List ℕ) → contains xs f ≡ true → is f ≡ true → contains (filter is xs) f ≡ true
kept_in is [] f h p = h
kept_in is (x ∷ xs) f h p =
    or_either (bytes_eq f x) (contains xs f) h
    (λ e. kept_here is x f xs (is x) (ap is (sym ((bytes_decides f x).0 e)) ∙ p) e)
    (λ m. kept_later is x f xs (is x) (kept_in is xs f m p))

filtered : (is : List ℕ → Bool) (x f : List ℕ) (xs : List (List ℕ)) → (contains (filter is xs) f ≡ true → (contains xs f ≡ true) × (is f ≡ true)) → (b : Bool) → is x ≡ b
    → contains (cond b (x ∷ filter is xs) (filter is xs)) f ≡ true → (contains (x ∷ xs) f ≡ true) × (is f ≡ true)
filtered is x f xs more true e m =
    or_either (bytes_eq f x) (contains (filter is xs) f) m
    (λ s. (or_left (bytes_eq f x) (contains xs f) s, ap is ((bytes_decides f x).0 s) ∙ e))
    (λ k. (or_right (bytes_eq f x) (contains xs f) (more k).0, (more k).1))
filtered is x f xs more false e m = (or_right (bytes_eq f x) (contains xs f) (more m).0, (more m).1)

pub in_kept : (is : List ℕ → Bool) (xs : List (List ℕ)) (f : List ℕ) → contains (filter is xs) f ≡ true → (contains xs f ≡ true) × (is f ≡ true)
in_kept is [] f h = absurd (false_true h)
in_kept is (x ∷ xs) f h = filtered is x f xs (in_kept is xs f) (is x) refl h

-- ---- a name in a list of one of some names

pub any_named : (all : List ℕ → List (List ℕ)) (f : List ℕ) (names : List (List ℕ)) → list_any (λ g. contains (all g) f) names ≡ true → (g : List ℕ) × (contains names g ≡ true) × (contains (all g) f ≡ true)
any_named all f [] h = absurd (false_true h)
any_named all f (x ∷ names) h =
    or_either (contains (all x) f) (list_any (λ g. contains (all g) f) names) h
    (λ k. (x, own_first x names, k))
    (λ k. let r = any_named all f names k in (r.0, or_right (bytes_eq r.0 x) (contains names r.0) r.1, r.2))

pub named_any : (all : List ℕ → List (List ℕ)) (f : List ℕ) (names : List (List ℕ)) (g : List ℕ) → contains names g ≡ true → contains (all g) f ≡ true → list_any (λ g. contains (all g) f) names ≡ true
named_any all f [] g h k = absurd (false_true h)
named_any all f (x ∷ names) g h k =
    or_either (bytes_eq g x) (contains names g) h
    (λ s. or_left (contains (all x) f) (list_any (λ g. contains (all g) f) names) (ap (λ (z : List ℕ). contains (all z) f) (sym ((bytes_decides g x).0 s)) ∙ k))
    (λ m. or_right (contains (all x) f) (list_any (λ g. contains (all g) f) names) (named_any all f names g m k))

-- ---- a name once

abbrev without : List ℕ → List (List ℕ) → List (List ℕ)
without k [] = []
without k (x ∷ xs) = if bytes_eq k x then xs else x ∷ without k xs

without_length : (k : List ℕ) (ys : List (List ℕ)) → contains ys k ≡ true → length ys ≡ suc (length (without k ys))
without_length k [] h = absurd (false_true h)
without_length k (x ∷ ys) h = by (bytes_eq k x) h (without_length k ys) where
  by : (b : Bool) → (b || contains ys k) ≡ true → (contains ys k ≡ true → length ys ≡ suc (length (without k ys))) → suc (length ys) ≡ suc (length (if b then ys else x ∷ without k ys))
  by true e more = refl
  by false e more = ap suc (more e)

without_other : (k f : List ℕ) (ys : List (List ℕ)) → contains ys f ≡ true → bytes_eq k f ≡ false → contains (without k ys) f ≡ true
without_other k f [] h n = h
without_other k f (x ∷ ys) h n = by (bytes_eq k x) refl h (λ m. without_other k f ys m n) where
  by : (b : Bool) → bytes_eq k x ≡ b → (bytes_eq f x || contains ys f) ≡ true → (contains ys f ≡ true → contains (without k ys) f ≡ true) → contains (if b then ys else x ∷ without k ys) f ≡ true
  by true e m more = or_either (bytes_eq f x) (contains ys f) m (λ s. absurd (false_true (sym n ∙ (ap (bytes_eq k) ((bytes_decides f x).0 s) ∙ e)))) (λ r. r)
  by false e m more = or_either (bytes_eq f x) (contains ys f) m (λ s. or_left (bytes_eq f x) (contains (without k ys) f) s) (λ r. or_right (bytes_eq f x) (contains (without k ys) f) (more r))

apart : (x f : List ℕ) (xs : List (List ℕ)) → contains xs x ≡ false → contains xs f ≡ true → bytes_eq x f ≡ false
apart x f xs n h = not_true (bytes_eq x f) (λ s. false_true (sym n ∙ (ap (contains xs) ((bytes_decides x f).0 s) ∙ h)))

-- names that stand once, each in another list, are no more than that has
pub few : (xs ys : List (List ℕ)) → AreOnce xs → ((f : List ℕ) → contains xs f ≡ true → contains ys f ≡ true) → length xs ≤ length ys
few [] ys once all = omega arith
few (x ∷ xs) ys once all =
    let there = all x (own_first x xs) in
    let less = few xs (without x ys) once.1 (λ f h. without_other x f ys (all f (or_right (bytes_eq f x) (contains xs f) h)) (apart x f xs once.0 h)) in
    let n = without_length x ys there in
    omega (arith, less, n)

once_put : (ks : List (List ℕ)) (k : List ℕ) → AreOnce ks → contains ks k ≡ false → AreOnce (ks ++ k ∷ [])
once_put [] k once n = (refl, tt)
once_put (x ∷ ks) k once n =
    let no = or_neither (bytes_eq k x) (contains ks k) n in
    (contains_more ks k x ∙ (ap (λ (t : Bool). t || bytes_eq x k) once.0 ∙ (eq_swap x k ∙ no.0)), once_put ks k once.1 no.1)

-- ---- names that are put to a set

name_once : (ks : List (List ℕ)) (k : List ℕ) → AreOnce ks → AreOnce (with_name ks k)
name_once ks k once = by (contains ks k) refl where
  by : (b : Bool) → contains ks k ≡ b → AreOnce (if b then ks else ks ++ k ∷ [])
  by true e = once
  by false e = once_put ks k once e

name_in : (ks : List (List ℕ)) (k f : List ℕ) → contains ks f ≡ true → contains (with_name ks k) f ≡ true
name_in ks k f h = by (contains ks k) where
  by : (b : Bool) → contains (if b then ks else ks ++ k ∷ []) f ≡ true
  by true = h
  by false = contains_more ks k f ∙ or_left (contains ks f) (bytes_eq f k) h

name_new : (ks : List (List ℕ)) (k f : List ℕ) → bytes_eq f k ≡ true → contains (with_name ks k) f ≡ true
name_new ks k f h = by (contains ks k) refl where
  by : (b : Bool) → contains ks k ≡ b → contains (if b then ks else ks ++ k ∷ []) f ≡ true
  by true e = ap (contains ks) ((bytes_decides f k).0 h) ∙ e
  by false e = contains_more ks k f ∙ or_right (contains ks f) (bytes_eq f k) h

name_only : {C : Type 0} (ks : List (List ℕ)) (k f : List ℕ) → contains (with_name ks k) f ≡ true → (contains ks f ≡ true → C) → (bytes_eq f k ≡ true → C) → C
name_only {C} ks k f h old new = by (contains ks k) h where
  by : (b : Bool) → contains (if b then ks else ks ++ k ∷ []) f ≡ true → C
  by true m = old m
  by false m = or_either (contains ks f) (bytes_eq f k) (sym (contains_more ks k f) ∙ m) old new

name_front : (ks : List (List ℕ)) (k : List ℕ) → (more : List (List ℕ)) × (with_name ks k ≡ ks ++ more)
name_front ks k = by (contains ks k) where
  by : (b : Bool) → (more : List (List ℕ)) × ((if b then ks else ks ++ k ∷ []) ≡ ks ++ more)
  by true = ([], sym (append-nil ks))
  by false = (k ∷ [], refl)

pub all_once : (is : List ℕ → Bool) (ks names : List (List ℕ)) → AreOnce ks → AreOnce (with_all is ks names)
all_once is ks [] once = once
all_once is ks (x ∷ names) once = all_once is (with_tested is ks x) names (by (is x)) where
  by : (b : Bool) → AreOnce (if b then with_name ks x else ks)
  by true = name_once ks x once
  by false = once

pub all_in : (is : List ℕ → Bool) (ks names : List (List ℕ)) (f : List ℕ) → contains ks f ≡ true → contains (with_all is ks names) f ≡ true
all_in is ks [] f h = h
all_in is ks (x ∷ names) f h = all_in is (with_tested is ks x) names f (by (is x)) where
  by : (b : Bool) → contains (if b then with_name ks x else ks) f ≡ true
  by true = name_in ks x f h
  by false = h

pub all_new : (is : List ℕ → Bool) (ks names : List (List ℕ)) (f : List ℕ) → contains names f ≡ true → is f ≡ true → contains (with_all is ks names) f ≡ true
all_new is ks [] f h p = absurd (false_true h)
all_new is ks (x ∷ names) f h p =
    or_either (bytes_eq f x) (contains names f) h
    (λ s. all_in is (with_tested is ks x) names f (ap (λ (t : Bool). contains (if t then with_name ks x else ks) f) (ap is (sym ((bytes_decides f x).0 s)) ∙ p) ∙ name_new ks x f s))
    (λ m. all_new is (with_tested is ks x) names f m p)

pub all_only : {C : Type 0} (is : List ℕ → Bool) (ks names : List (List ℕ)) (f : List ℕ) → contains (with_all is ks names) f ≡ true → (contains ks f ≡ true → C) → (contains names f ≡ true → is f ≡ true → C) → C
all_only is ks [] f h old new = old h
all_only {C} is ks (x ∷ names) f h old new =
    all_only is (with_tested is ks x) names f h (λ m. by (is x) refl m) (λ m p. new (or_right (bytes_eq f x) (contains names f) m) p) where
      by : (b : Bool) → is x ≡ b → contains (if b then with_name ks x else ks) f ≡ true → C
      by true e m = name_only ks x f m old (λ s. new (or_left (bytes_eq f x) (contains names f) s) (ap is ((bytes_decides f x).0 s) ∙ e))
      by false e m = old m

abbrev Front : List (List ℕ) → List (List ℕ) → Type 0
Front ks all = (more : List (List ℕ)) × (all ≡ ks ++ more)

then_front : (ks mid all : List (List ℕ)) → Front ks mid → Front mid all → Front ks all
then_front ks mid all a b = (a.0 ++ b.0, b.1 ∙ (ap (λ (l : List (List ℕ)). l ++ b.0) a.1 ∙ append_assoc ks a.0 b.0))

pub all_front : (is : List ℕ → Bool) (ks names : List (List ℕ)) → Front ks (with_all is ks names)
all_front is ks [] = ([], sym (append-nil ks))
all_front is ks (x ∷ names) = then_front ks (with_tested is ks x) (with_all is (with_tested is ks x) names) (by (is x)) (all_front is (with_tested is ks x) names) where
  by : (b : Bool) → Front ks (if b then with_name ks x else ks)
  by true = name_front ks x
  by false = ([], sym (append-nil ks))

pub tested_by : (is : List ℕ → Bool) (known : List (List ℕ)) (name : List ℕ) (b : Bool) → is name ≡ b → (if b then with_name known name else known) ≡ with_tested is known name
tested_by is known name b e = sym (ap (λ (t : Bool). if t then with_name known name else known) e)
