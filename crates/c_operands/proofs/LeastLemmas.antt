-- The least of several refusals, however they are taken together.
use Rattle.std.proofs.Common.{◌≡◌, ℕ, ◌<◌, ◌≤◌, ◌⊎◌, inl, inr, Bool, true, false, ◌&&◌, ◌||◌, nat_lt, Option, Some, None, [], ◌∷◌, refl, sym, ap, ◌∙◌, arith, if◌then◌else◌}
use lib.Dec.{eqb}
use Rattle.std.proofs.lemmas.Bool.Decides.{nat_tests}
use Rattle.c_types.specs.declared.fault.TypeFault.{TypeFault}
use Rattle.c_types.specs.Refusals.{place_of, number_of, comes_before, least, least_of, Rule, broken}
use Rattle.std.specs.Prelude.{List}
use Rattle.c_operands.specs.Arguments.{merged}

abbrev before : ℕ → ℕ → ℕ → ℕ → Bool
before p m q n = nat_lt p q || (eqb p q && nat_lt m n)

before_first : (p m q n : ℕ) → before p m q n ≡ true → (p < q) ⊎ ((p ≡ q) × (m < n))
before_first p m q n h = elim (nat_lt p q) as (λ t. nat_lt p q ≡ t → (t || (eqb p q && nat_lt m n)) ≡ true → (p < q) ⊎ ((p ≡ q) × (m < n)))
    [ true ↦ λ less _. inl (grind (arith, nat_tests)) | false ↦ λ _ rest. inr (grind (arith, nat_tests), grind (arith, nat_tests)) ] refl h

before_last : (p m q n : ℕ) → before p m q n ≡ false → (q < p) ⊎ ((q ≡ p) × (n ≤ m))
before_last p m q n h = elim (nat_lt q p) as (λ t. nat_lt q p ≡ t → (q < p) ⊎ ((q ≡ p) × (n ≤ m)))
    [ true ↦ λ less. inl (grind (arith, nat_tests)) | false ↦ λ more. inr (grind (arith, nat_tests), grind (arith, nat_tests)) ] refl

no_more : (b : Bool) → (b && false) ≡ false
no_more true = refl
no_more false = refl

is_before : (p m q n : ℕ) → (p < q) ⊎ ((p ≡ q) × (m < n)) → before p m q n ≡ true
is_before p m q n (inl h) = let t : nat_lt p q ≡ true = grind (arith, nat_tests) in ap (λ k. k || (eqb p q && nat_lt m n)) t
is_before p m q n (inr h) =
    let e = h.0 in
    let f = h.1 in
    let t : nat_lt p q ≡ false = grind (arith, nat_tests) in
    let u : eqb p q ≡ true = grind (arith, nat_tests) in
    let v : nat_lt m n ≡ true = grind (arith, nat_tests) in
    ap (λ k. k || (eqb p q && nat_lt m n)) t ∙ (ap (λ k. k && nat_lt m n) u ∙ v)

is_behind : (p m q n : ℕ) → (q < p) ⊎ ((q ≡ p) × (n ≤ m)) → before p m q n ≡ false
is_behind p m q n (inl h) =
    let t : nat_lt p q ≡ false = grind (arith, nat_tests) in
    let u : eqb p q ≡ false = grind (arith, nat_tests) in
    ap (λ k. k || (eqb p q && nat_lt m n)) t ∙ ap (λ k. k && nat_lt m n) u
is_behind p m q n (inr h) =
    let e = h.0 in
    let f = h.1 in
    let t : nat_lt p q ≡ false = grind (arith, nat_tests) in
    let v : nat_lt m n ≡ false = grind (arith, nat_tests) in
    ap (λ k. k || (eqb p q && nat_lt m n)) t ∙ (ap (λ k. eqb p q && k) v ∙ no_more (eqb p q))

first_of_three : (p m q n r k : ℕ) → (r < q) ⊎ ((r ≡ q) × (k < n)) → (q < p) ⊎ ((q ≡ p) × (n < m)) → (r < p) ⊎ ((r ≡ p) × (k < m))
first_of_three p m q n r k (inl g) (inl h) = inl (omega arith)
first_of_three p m q n r k (inl g) (inr h) = inl (omega arith)
first_of_three p m q n r k (inr g) (inl h) = inl (omega arith)
first_of_three p m q n r k (inr g) (inr h) = inr (omega arith, omega arith)

last_of_three : (p m q n r k : ℕ) → (q < r) ⊎ ((q ≡ r) × (n ≤ k)) → (p < q) ⊎ ((p ≡ q) × (m ≤ n)) → (p < r) ⊎ ((p ≡ r) × (m ≤ k))
last_of_three p m q n r k (inl g) (inl h) = inl (omega arith)
last_of_three p m q n r k (inl g) (inr h) = inl (omega arith)
last_of_three p m q n r k (inr g) (inl h) = inl (omega arith)
last_of_three p m q n r k (inr g) (inr h) = inr (omega arith, omega arith)

both_before : (p q r m n k : ℕ) → before r k q n ≡ true → before q n p m ≡ true → before r k p m ≡ true
both_before p q r m n k g h = is_before r k p m (first_of_three p m q n r k (before_first r k q n g) (before_first q n p m h))

none_before : (p q r m n k : ℕ) → before r k q n ≡ false → before q n p m ≡ false → before r k p m ≡ false
none_before p q r m n k g h = is_behind r k p m (last_of_three p m q n r k (before_last r k q n g) (before_last q n p m h))

least_right : (a b c : TypeFault) (t : Bool) → least a (if t then c else b) ≡ (if t then least a c else least a b)
least_right a b c true = refl
least_right a b c false = refl

least_left : (a b c : TypeFault) (t : Bool) → least (if t then b else a) c ≡ (if t then least b c else least a c)
least_left a b c true = refl
least_left a b c false = refl

by_tests : (a b c : TypeFault) (cb ba ca : Bool) → (cb ≡ true → ba ≡ true → ca ≡ true) → (cb ≡ false → ba ≡ false → ca ≡ false)
    → (if cb then (if ca then c else a) else (if ba then b else a)) ≡ (if ba then (if cb then c else b) else (if ca then c else a))
by_tests a b c true true ca g h = ap (λ t. if t then c else a) (g refl refl)
by_tests a b c true false ca g h = refl
by_tests a b c false true ca g h = refl
by_tests a b c false false ca g h = sym (ap (λ t. if t then c else a) (h refl refl))

least_together : (a b c : TypeFault) → least a (least b c) ≡ least (least a b) c
least_together a b c =
    least_right a b c (comes_before c b)
    ∙ (by_tests a b c (comes_before c b) (comes_before b a) (comes_before c a)
    (both_before (place_of a) (place_of b) (place_of c) (number_of a) (number_of b) (number_of c))
    (none_before (place_of a) (place_of b) (place_of c) (number_of a) (number_of b) (number_of c))
    ∙ sym (least_left a b c (comes_before b a)))

pub merged_together : (a b c : Option TypeFault) → merged a (merged b c) ≡ merged (merged a b) c
merged_together None b c = refl
merged_together (Some a) None c = refl
merged_together (Some a) (Some b) None = refl
merged_together (Some a) (Some b) (Some c) = ap (λ e. Some e) (least_together a b c)

pub merged_none : (a : Option TypeFault) → merged a None ≡ a
merged_none None = refl
merged_none (Some a) = refl

by_kept : (kept : Bool) (e : TypeFault) (o : Option TypeFault) → (if kept then o else Some (least_of e o)) ≡ merged (if kept then None else Some e) o
by_kept true e o = refl
by_kept false e o = refl

-- the first rule and the others
pub broken_first : (kept : Bool) (e : TypeFault) (rules : List Rule) → broken ((kept, e) ∷ rules) ≡ merged (broken ((kept, e) ∷ [])) (broken rules)
broken_first kept e rules = by_kept kept e (broken rules)
