-- Brackets and their partners, in a list of which some items open and some close.
use Rattle.std.specs.Prelude.{◌≡◌, ℕ, ◌+◌, ◌<◌, Bool, true, List, Some, slice_get, slice_range}
use Rattle.std.specs.Option.{option_map}
use Rattle.std.specs.List.{count_by}

-- there is such an item at the place
abbrev pub Stands : {A : Type 0} → (A → Bool) → List A → ℕ → Type 0
Stands test xs k = option_map test (slice_get xs k) ≡ Some true

-- from one place to another, with both, as many items close as open
abbrev pub IsEven : {A : Type 0} → (A → Bool) → (A → Bool) → List A → ℕ → ℕ → Type 0
IsEven opens closes xs i j = count_by closes (slice_range xs i (j + 1)) ≡ count_by opens (slice_range xs i (j + 1))

-- the bracket at j is the partner of the one that opens at i: the nearest later one that closes and from i up to which as many close as open
pub record IsCloseOf {A : Type 0} (opens closes : A → Bool) (xs : List A) (i j : ℕ) : Type 0 where
  pub opening : Stands opens xs i
  pub closing : Stands closes xs j
  pub later : i < j
  pub even : IsEven opens closes xs i j
  pub nearest : (k : ℕ) → i < k → k < j → Stands closes xs k → ¬ (IsEven opens closes xs i k)

-- the bracket at i is the partner of the one that closes at j: the nearest earlier one that opens and from which up to j as many close as open
pub record IsOpenOf {A : Type 0} (opens closes : A → Bool) (xs : List A) (j i : ℕ) : Type 0 where
  pub opening : Stands opens xs i
  pub closing : Stands closes xs j
  pub earlier : i < j
  pub even : IsEven opens closes xs i j
  pub nearest : (k : ℕ) → i < k → k < j → Stands opens xs k → ¬ (IsEven opens closes xs k j)

-- a bracket closes there, and has no partner
pub record IsUnopened {A : Type 0} (opens closes : A → Bool) (xs : List A) (j : ℕ) : Type 0 where
  pub closing : Stands closes xs j
  pub alone : (i : ℕ) → ¬ (IsOpenOf opens closes xs j i)

-- a bracket opens there, and has no partner
pub record IsUnclosed {A : Type 0} (opens closes : A → Bool) (xs : List A) (i : ℕ) : Type 0 where
  pub opening : Stands opens xs i
  pub alone : (j : ℕ) → ¬ (IsCloseOf opens closes xs i j)

-- each bracket has its partner
pub record IsPaired {A : Type 0} (opens closes : A → Bool) (xs : List A) : Type 0 where
  pub opened : (j : ℕ) → Stands closes xs j → (i : ℕ) × IsOpenOf opens closes xs j i
  pub closed : (i : ℕ) → Stands opens xs i → (j : ℕ) × IsCloseOf opens closes xs i j
