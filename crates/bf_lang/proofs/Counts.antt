-- How many brackets stand before a place of a list.
use Rattle.std.proofs.Common.{◌≡◌, ℕ, ◌+◌, ◌-◌, ◌<◌, ◌≤◌, Bool, true, false, cond, List, length, take, drop, get_or, Option, Some, None, slice_get, refl, sym, ap, ◌∙◌, arith}
use Rattle.std.specs.Option.{option_map}
use Rattle.std.specs.List.{count_by}
use Rattle.std.proofs.lemmas.List.{take-take, drop-take}
use Rattle.std.proofs.lemmas.List.Sums.{sum_by-take-drop, count_by_more_yes, count_by_more_no}
use Rattle.std.proofs.lemmas.Option.{slice_get-get_or, slice_get_within}
use Rattle.mach_core.proofs.Lists.{drop_item}
use Rattle.bf_lang.specs.Brackets.{Stands, IsEven}

pub clash : true ≡ false → ⊥
clash e = cc

clash_none : {A : Type 0} (x : A) → None ≡ Some x → ⊥
clash_none x e = cc

-- how many items before a place pass the test
abbrev pub before : {A : Type 0} → (A → Bool) → List A → ℕ → ℕ
before test xs p = count_by test (take p xs)

pub between : {A : Type 0} (test : A → Bool) (xs : List A) (i n : ℕ) → before test xs i + count_by test (take n (drop i xs)) ≡ before test xs (i + n)
between test xs i n =
    let le : i ≤ i + n = omega arith in
    sym (λ k. count_by test (take-take i (i + n) xs le k) + count_by test (drop-take i n xs k)) ∙ sum_by-take-drop (λ x. cond (test x) 1 0) (take (i + n) xs) i

-- there is an item at the place
pub item_of : {A : Type 0} (test : A → Bool) (xs : List A) (k : ℕ) → Stands test xs k → (x : A) × (slice_get xs k ≡ Some x) × (test x ≡ true)
item_of {A} test xs k s = by (slice_get xs k) refl s where
  by : (o : Option A) → slice_get xs k ≡ o → option_map test o ≡ Some true → (x : A) × (slice_get xs k ≡ Some x) × (test x ≡ true)
  by None e s = absurd (clash_none true s)
  by (Some x) e s = (x, e, some_same (test x) true s) where
    some_same : (a b : Bool) → Some a ≡ Some b → a ≡ b
    some_same a b e = cc

pub within : {A : Type 0} (test : A → Bool) (xs : List A) (k : ℕ) → Stands test xs k → k < length xs
within test xs k s = let item = item_of test xs k s in slice_get_within xs k item.0 item.1

same_item : {A : Type 0} (xs : List A) (k : ℕ) (x : A) → slice_get xs k ≡ Some x → get_or xs k x ≡ x
same_item xs k x e = some_is (get_or xs k x) x (sym (slice_get-get_or xs k x (slice_get_within xs k x e)) ∙ e) where
  some_is : {A : Type 0} (a b : A) → Some a ≡ Some b → a ≡ b
  some_is a b e = cc

pub count_yes : {A : Type 0} (test : A → Bool) (xs : List A) (k : ℕ) (x : A) → slice_get xs k ≡ Some x → test x ≡ true → before test xs (k + 1) ≡ before test xs k + 1
count_yes test xs k x e t = count_by_more_yes test xs k x (slice_get_within xs k x e) (ap test (same_item xs k x e) ∙ t)

pub count_no : {A : Type 0} (test : A → Bool) (xs : List A) (k : ℕ) (x : A) → slice_get xs k ≡ Some x → test x ≡ false → before test xs (k + 1) ≡ before test xs k
count_no test xs k x e t = count_by_more_no test xs k x (slice_get_within xs k x e) (ap test (same_item xs k x e) ∙ t)

-- what stands at a place, and the counts behind it
pub data At {A : Type 0} (opens closes : A → Bool) (xs : List A) (k : ℕ) : Type 0 where
  Opens : Stands opens xs k → before opens xs (k + 1) ≡ before opens xs k + 1 → before closes xs (k + 1) ≡ before closes xs k → At opens closes xs k
  Closes : Stands closes xs k → before opens xs (k + 1) ≡ before opens xs k → before closes xs (k + 1) ≡ before closes xs k + 1 → At opens closes xs k
  Plain : ¬ (Stands opens xs k) → ¬ (Stands closes xs k) → before opens xs (k + 1) ≡ before opens xs k → before closes xs (k + 1) ≡ before closes xs k → At opens closes xs k

-- no item both opens and closes
abbrev pub AreApart : {A : Type 0} → (A → Bool) → (A → Bool) → Type 0
AreApart {A} opens closes = (x : A) → opens x ≡ true → closes x ≡ false

stands : {A : Type 0} (test : A → Bool) (xs : List A) (k : ℕ) (x : A) (b : Bool) → slice_get xs k ≡ Some x → test x ≡ b → option_map test (slice_get xs k) ≡ Some b
stands test xs k x b e t = ap (option_map test) e ∙ ap (λ c. Some c) t

stands_not : {A : Type 0} (test : A → Bool) (xs : List A) (k : ℕ) (x : A) → slice_get xs k ≡ Some x → test x ≡ false → ¬ (Stands test xs k)
stands_not test xs k x e t s = differ (sym (stands test xs k x false e t) ∙ s) where
  differ : Some false ≡ Some true → ⊥
  differ e = cc

pub at : {A : Type 0} (opens closes : A → Bool) (xs : List A) → AreApart opens closes → (k : ℕ) → k < length xs → At opens closes xs k
at {A} opens closes xs apart k l = let item = drop_item xs k l in by item.0 item.1 (opens item.0) (closes item.0) refl refl where
  by : (x : A) → slice_get xs k ≡ Some x → (a b : Bool) → opens x ≡ a → closes x ≡ b → At opens closes xs k
  by x e true b o c = let no = apart x o in Opens (stands opens xs k x true e o) (count_yes opens xs k x e o) (count_no closes xs k x e no)
  by x e false true o c = Closes (stands closes xs k x true e c) (count_no opens xs k x e o) (count_yes closes xs k x e c)
  by x e false false o c = Plain (stands_not opens xs k x e o) (stands_not closes xs k x e c) (count_no opens xs k x e o) (count_no closes xs k x e c)

-- the counts behind a bracket
pub at_open : {A : Type 0} (opens closes : A → Bool) (xs : List A) → AreApart opens closes → (k : ℕ) → Stands opens xs k → (before opens xs (k + 1) ≡ before opens xs k + 1) × (before closes xs (k + 1) ≡ before closes xs k)
at_open opens closes xs apart k s = let item = item_of opens xs k s in (count_yes opens xs k item.0 item.1 item.2, count_no closes xs k item.0 item.1 (apart item.0 item.2))

pub at_close : {A : Type 0} (opens closes : A → Bool) (xs : List A) → AreApart opens closes → (k : ℕ) → Stands closes xs k → (before opens xs (k + 1) ≡ before opens xs k) × (before closes xs (k + 1) ≡ before closes xs k + 1)
at_close opens closes xs apart k s =
    let item = item_of closes xs k s in
    (count_no opens xs k item.0 item.1 (no_open (opens item.0) refl), count_yes closes xs k item.0 item.1 item.2)
  where
    no_open : (a : Bool) → opens (item_of closes xs k s).0 ≡ a → opens (item_of closes xs k s).0 ≡ false
    no_open true o = absurd (clash (sym (item_of closes xs k s).2 ∙ apart (item_of closes xs k s).0 o))
    no_open false o = o

-- as many close as open between two places, by the counts before them
pub even_counts : {A : Type 0} (opens closes : A → Bool) (xs : List A) (i j : ℕ) → i ≤ j → IsEven opens closes xs i j → before closes xs (j + 1) + before opens xs i ≡ before opens xs (j + 1) + before closes xs i
even_counts opens closes xs i j le e =
    let n = j + 1 - i in
    let whole : i + n ≡ j + 1 = omega arith in
    let o : before opens xs i + count_by opens (take n (drop i xs)) ≡ before opens xs (j + 1) = between opens xs i n ∙ ap (before opens xs) whole in
    let c : before closes xs i + count_by closes (take n (drop i xs)) ≡ before closes xs (j + 1) = between closes xs i n ∙ ap (before closes xs) whole in
    let same : count_by closes (take n (drop i xs)) ≡ count_by opens (take n (drop i xs)) = e in
    omega arith

pub even_from : {A : Type 0} (opens closes : A → Bool) (xs : List A) (i j : ℕ) → i ≤ j → before closes xs (j + 1) + before opens xs i ≡ before opens xs (j + 1) + before closes xs i → IsEven opens closes xs i j
even_from opens closes xs i j le e =
    let n = j + 1 - i in
    let whole : i + n ≡ j + 1 = omega arith in
    let o : before opens xs i + count_by opens (take n (drop i xs)) ≡ before opens xs (j + 1) = between opens xs i n ∙ ap (before opens xs) whole in
    let c : before closes xs i + count_by closes (take n (drop i xs)) ≡ before closes xs (j + 1) = between closes xs i n ∙ ap (before closes xs) whole in
    let same : count_by closes (take n (drop i xs)) ≡ count_by opens (take n (drop i xs)) = omega arith in
    same
