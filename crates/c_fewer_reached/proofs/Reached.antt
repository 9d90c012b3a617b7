-- After as many steps as there are functions no step adds one.
use Rattle.std.proofs.Common.{◌≡◌, ℕ, zero, suc, ◌+◌, ◌≤◌, List, [], ◌∷◌, length, Bool, true, false, nat_le, refl, sym, ap, ◌∙◌, subst, arith}
use Rattle.std.specs.Prelude.{◌||◌, codes, if◌then◌else◌}
use Rattle.std.specs.List.{filter, list_any}
use Rattle.std.specs.Str.{bytes_eq}
use Rattle.std.proofs.lemmas.Slice.Eq.{bytes_eq-Decides}
use Rattle.std.proofs.lemmas.Bool.{leb-true, leb-false}
use Rattle.c_syntax.specs.Plain.{CItem}
use Rattle.c_types.specs.Scope.{contains}
use Rattle.c_types.specs.Units.{defined_in}
use Rattle.c_helpers.specs.Fewer.{body_names, names_at_file_scope}
use Rattle.c_helpers.specs.Simple.{next_reached, reached_in, reached}
use Rattle.c_fewer_reached.specs.Laws.{ReachedIsClosed, ReachedBegins, ReachedAreDefined}

-- ---- lists of names

abbrev Test : Type 0
Test = List ℕ → Bool

-- of each name of a list it holds
abbrev Every : (List ℕ → Type 0) → List (List ℕ) → Type 0
Every P [] = Unit {0}
Every P (x ∷ xs) = P x × Every P xs

every : (P Q : List ℕ → Type 0) → ((x : List ℕ) → P x → Q x) → (xs : List (List ℕ)) → Every P xs → Every Q xs
every P Q f [] h = tt
every P Q f (x ∷ xs) h = (f x h.0, every P Q f xs h.1)

or_right : (a b : Bool) → b ≡ true → (a || b) ≡ true
or_right true b e = refl
or_right false b e = e

or_left : (a b : Bool) → a ≡ true → (a || b) ≡ true
or_left a b e = ap (λ z. z || b) e

same_name : (x : List ℕ) → bytes_eq x x ≡ true
same_name x = (bytes_eq-Decides x x).1 refl

-- a name that is in a list and passes the test is in what is left
pub found_left : (p : Test) (xs : List (List ℕ)) (x : List ℕ) → contains xs x ≡ true → p x ≡ true → contains (filter p xs) x ≡ true
found_left p [] x c e = absurd (cc c)
found_left p (y ∷ ys) x c e = go (bytes_eq x y) refl (p y) refl c (λ k. found_left p ys x k e)
  where
    go : (b : Bool) → bytes_eq x y ≡ b → (d : Bool) → p y ≡ d → (b || contains ys x) ≡ true → (contains ys x ≡ true → contains (filter p ys) x ≡ true) → contains (if d then y ∷ filter p ys else filter p ys) x ≡ true
    go true k true l c more = or_left (bytes_eq x y) (contains (filter p ys) x) k
    go true k false l c more = absurd (cc (sym l ∙ (ap p (sym ((bytes_eq-Decides x y).0 k)) ∙ e)))
    go false k true l c more = or_right (bytes_eq x y) (contains (filter p ys) x) (more c)
    go false k false l c more = more c

-- what is left is in the list, and passes the test
pub left_found : (p : Test) (xs : List (List ℕ)) (x : List ℕ) → contains (filter p xs) x ≡ true → (contains xs x ≡ true) × (p x ≡ true)
left_found p [] x c = absurd (cc c)
left_found p (y ∷ ys) x c = go (p y) refl c (λ k. left_found p ys x k)
  where
    at_head : (b : Bool) → bytes_eq x y ≡ b → p y ≡ true → (b || contains (filter p ys) x) ≡ true → (contains (filter p ys) x ≡ true → (contains ys x ≡ true) × (p x ≡ true)) → (contains (y ∷ ys) x ≡ true) × (p x ≡ true)
    at_head true k l c more = (or_left (bytes_eq x y) (contains ys x) k, ap p ((bytes_eq-Decides x y).0 k) ∙ l)
    at_head false k l c more = let m = more c in (or_right (bytes_eq x y) (contains ys x) m.0, m.1)

    go : (d : Bool) → p y ≡ d → contains (if d then y ∷ filter p ys else filter p ys) x ≡ true → (contains (filter p ys) x ≡ true → (contains ys x ≡ true) × (p x ≡ true)) → (contains (y ∷ ys) x ≡ true) × (p x ≡ true)
    go true l c more = at_head (bytes_eq x y) refl l c more
    go false l c more = let m = more c in (or_right (bytes_eq x y) (contains ys x) m.0, m.1)

-- each name of a list is in it
every_found : (xs : List (List ℕ)) → Every (λ x. contains xs x ≡ true) xs
every_found [] = tt
every_found (x ∷ xs) = (or_left (bytes_eq x x) (contains xs x) (same_name x), every (λ y. contains xs y ≡ true) (λ y. contains (x ∷ xs) y ≡ true) (λ y e. or_right (bytes_eq y x) (contains xs y) e) xs (every_found xs))

-- ---- tests of which one lets more through

abbrev Wider : Test → Test → List (List ℕ) → Type 0
Wider p q xs = Every (λ x. p x ≡ true → q x ≡ true) xs

longer : (p q : Test) (xs : List (List ℕ)) → Wider p q xs → length (filter p xs) ≤ length (filter q xs)
longer p q [] h = omega arith
longer p q (x ∷ xs) h = go (p x) refl (q x) refl (longer p q xs h.1)
  where
    go : (b : Bool) → p x ≡ b → (c : Bool) → q x ≡ c → length (filter p xs) ≤ length (filter q xs) → length (if b then x ∷ filter p xs else filter p xs) ≤ length (if c then x ∷ filter q xs else filter q xs)
    go true k true l e = omega (arith, e)
    go true k false l e = absurd (cc (sym l ∙ h.0 k))
    go false k true l e = omega (arith, e)
    go false k false l e = e

-- where as many are left, the same are
same_left : (p q : Test) (xs : List (List ℕ)) → Wider p q xs → length (filter q xs) ≤ length (filter p xs) → filter q xs ≡ filter p xs
same_left p q [] h e = refl
same_left p q (x ∷ xs) h e = go (p x) refl (q x) refl (longer p q xs h.1) e (λ k. same_left p q xs h.1 k)
  where
    go : (b : Bool) → p x ≡ b → (c : Bool) → q x ≡ c → length (filter p xs) ≤ length (filter q xs) → length (if c then x ∷ filter q xs else filter q xs) ≤ length (if b then x ∷ filter p xs else filter p xs)
        → (length (filter q xs) ≤ length (filter p xs) → filter q xs ≡ filter p xs) → (if c then x ∷ filter q xs else filter q xs) ≡ (if b then x ∷ filter p xs else filter p xs)
    go true k true l f e more = ap (λ ys. x ∷ ys) (more (omega (arith, e)))
    go true k false l f e more = absurd (cc (sym l ∙ h.0 k))
    go false k true l f e more = absurd (omega (arith, f, e))
    go false k false l f e more = more e

all_left : (q : Test) (xs : List (List ℕ)) → length (filter q xs) ≤ length xs
all_left q [] = omega arith
all_left q (x ∷ xs) = go (q x) (all_left q xs)
  where
    go : (c : Bool) → length (filter q xs) ≤ length xs → length (if c then x ∷ filter q xs else filter q xs) ≤ suc (length xs)
    go true e = omega (arith, e)
    go false e = omega (arith, e)

-- ---- steps

module _ (items : List CItem) where
  abbrev xs : List (List ℕ)
  xs = defined_in items

  -- what a step lets through
  abbrev step : List (List ℕ) → Test
  step names f = contains names f || list_any (λ g. contains (body_names items g) f) names

  -- a step lets through what stood before
  step_wider : (p : Test) → Wider p (step (filter p xs)) xs
  step_wider p =
      every (λ x. contains xs x ≡ true) (λ x. p x ≡ true → step (filter p xs) x ≡ true)
      (λ x c e. or_left (contains (filter p xs) x) (list_any (λ g. contains (body_names items g) x) (filter p xs)) (found_left p xs x c e)) xs (every_found xs)

  -- no step adds one
  abbrev Stands : List (List ℕ) → Type 0
  Stands names = next_reached items names ≡ names

  stays : (n : ℕ) (names : List (List ℕ)) → Stands names → reached_in n items names ≡ names
  stays zero names e = refl
  stays (suc n) names e = ap (λ z. reached_in n items z) e ∙ stays n names e

  -- after so many steps
  stands_after : (n : ℕ) (p : Test) → length xs ≤ length (filter p xs) + n → Stands (reached_in n items (filter p xs))
  stands_after zero p e =
      let most = all_left (step (filter p xs)) xs in
      same_left p (step (filter p xs)) xs (step_wider p) (omega (arith, most, e))
  stands_after (suc n) p e = go (nat_le (length (filter (step (filter p xs)) xs)) (length (filter p xs))) refl
      (λ k. stands_after n (step (filter p xs)) k)
    where
      go : (b : Bool) → nat_le (length (filter (step (filter p xs)) xs)) (length (filter p xs)) ≡ b → (length xs ≤ length (filter (step (filter p xs)) xs) + n → Stands (reached_in n items (filter (step (filter p xs)) xs))) → Stands (reached_in n items (filter (step (filter p xs)) xs))
      go true k more =
          let same : filter (step (filter p xs)) xs ≡ filter p xs = same_left p (step (filter p xs)) xs (step_wider p) (leb-true (length (filter (step (filter p xs)) xs)) (length (filter p xs)) k) in
          let there : reached_in n items (filter (step (filter p xs)) xs) ≡ filter p xs = ap (λ z. reached_in n items z) same ∙ stays n (filter p xs) same in
          subst (λ z. Stands z) (sym there) same
      go false k more = let few = leb-false (length (filter (step (filter p xs)) xs)) (length (filter p xs)) k in more (omega (arith, few, e))

  abbrev begin : List (List ℕ)
  begin = codes "main" ∷ names_at_file_scope items

  reached_stands : Stands (reached items)
  reached_stands = let enough : length xs ≤ length (filter (step begin) xs) + length xs = omega arith in stands_after (length xs) (step begin) enough

  -- ---- what follows

  -- a step keeps what is defined, and what it lets through is there
  pub stepped : (names : List (List ℕ)) (f : List ℕ) → contains xs f ≡ true → step names f ≡ true → contains (next_reached items names) f ≡ true
  stepped names f c e = found_left (step names) xs f c e

  closed : (f g : List ℕ) → contains xs f ≡ true → contains (reached items) g ≡ true → contains (body_names items g) f ≡ true → contains (reached items) f ≡ true
  closed f g c r e =
      subst (λ z. contains z f ≡ true) reached_stands
      (stepped (reached items) f c (or_right (contains (reached items) f) (list_any (λ g. contains (body_names items g) f) (reached items)) (any_of (reached items) r)))
    where
      any_of : (names : List (List ℕ)) → contains names g ≡ true → list_any (λ g. contains (body_names items g) f) names ≡ true
      any_of [] k = absurd (cc k)
      any_of (x ∷ names) k = by_name (bytes_eq g x) refl k (λ l. any_of names l)
        where
          by_name : (b : Bool) → bytes_eq g x ≡ b → (b || contains names g) ≡ true → (contains names g ≡ true → list_any (λ g. contains (body_names items g) f) names ≡ true) → (contains (body_names items x) f || list_any (λ g. contains (body_names items g) f) names) ≡ true
          by_name true l k more = or_left (contains (body_names items x) f) (list_any (λ g. contains (body_names items g) f) names) (ap (λ z. contains (body_names items z) f) (sym ((bytes_eq-Decides g x).0 l)) ∙ e)
          by_name false l k more = or_right (contains (body_names items x) f) (list_any (λ g. contains (body_names items g) f) names) (more k)

  kept_on : (n : ℕ) (names : List (List ℕ)) (f : List ℕ) → contains xs f ≡ true → contains names f ≡ true → contains (reached_in n items names) f ≡ true
  kept_on zero names f c e = e
  kept_on (suc n) names f c e = kept_on n (next_reached items names) f c (stepped names f c (or_left (contains names f) (list_any (λ g. contains (body_names items g) f) names) e))

  begins : (f : List ℕ) → contains xs f ≡ true → contains begin f ≡ true → contains (reached items) f ≡ true
  begins f c e = kept_on (length xs) (next_reached items begin) f c (stepped begin f c (or_left (contains begin f) (list_any (λ g. contains (body_names items g) f) begin) e))

  defined : (f : List ℕ) → contains (reached items) f ≡ true → contains xs f ≡ true
  defined f e = (left_found (step (reached items)) xs f (subst (λ z. contains z f ≡ true) (sym reached_stands) e)).0

pub reached_is_closed : ReachedIsClosed
reached_is_closed items f g c r e = closed items f g c r e

pub reached_begins : ReachedBegins
reached_begins items f c e = begins items f c e

pub reached_are_defined : ReachedAreDefined
reached_are_defined items f e = defined items f e
