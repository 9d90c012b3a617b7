-- What levels allow.
use Rattle.std.proofs.Common.{◌≡◌, ℕ, ◌+◌, ◌-◌, ◌≤◌, ◌<◌, Bool, true, false, ◌&&◌, Option, Some, None, refl, sym, subst, arith}
use Rattle.std.proofs.lemmas.Bool.Decides.{nat_tests}
use Rattle.std.specs.Prelude.{nat_le, nat_eq}
use Rattle.std.specs.Option.{option_map, option_and_then}
use Rattle.wasm_valid.specs.Effects.{Effect, Turns, Breaks, Applies, MayApply}
use Rattle.wasm_valid.specs.Levels.{Level, at_break, Allows, is_allowed, without, with_more, level_after}

-- so many values are allowed by a level that may be missing
abbrev pub MayAllow : Option Level → ℕ → Type 0
MayAllow None n = ⊥
MayAllow (Some l) n = Allows l n

abbrev pub level : ℕ → Bool → Level
level h r = record { height = h; reached = r }

le_true : (a b : ℕ) → a ≤ b → nat_le a b ≡ true
le_true a b h = grind (arith, nat_tests)

pub true_le : (a b : ℕ) → nat_le a b ≡ true → a ≤ b
true_le a b h = grind (arith, nat_tests)

false_lt : (a b : ℕ) → nat_le a b ≡ false → b < a
false_lt a b h = grind (arith, nat_tests)

eq_true : (a b : ℕ) → a ≡ b → nat_eq a b ≡ true
eq_true a b h = grind (arith, nat_tests)

pub true_eq : (a b : ℕ) → nat_eq a b ≡ true → a ≡ b
true_eq a b h = grind (arith, nat_tests)

-- both tests are true
pub and_both : (a b : Bool) → (a && b) ≡ true → (a ≡ true) × (b ≡ true)
and_both true b e = (refl, e)
and_both false b e = cc

-- a test is true or false
pub by_test : {P : Type 0} (b : Bool) → (b ≡ true → P) → (b ≡ false → P) → P
by_test {P} b at_true at_false = elim b as (λ t. b ≡ t → P) [ true ↦ at_true | false ↦ at_false ] refl

allowed_level : (r : Bool) (h n : ℕ) → Allows (level h r) n → is_allowed (level h r) n ≡ true
allowed_level true h n e = eq_true n h e
allowed_level false h n e = le_true h n e

level_allowed : (r : Bool) (h n : ℕ) → is_allowed (level h r) n ≡ true → Allows (level h r) n
level_allowed true h n e = true_eq n h e
level_allowed false h n e = true_le h n e

pub is_allowed-true : (l : Level) (n : ℕ) → Allows l n → is_allowed l n ≡ true
is_allowed-true l n e = allowed_level l.reached l.height n e

pub Allows-is_allowed : (l : Level) (n : ℕ) → is_allowed l n ≡ true → Allows l n
Allows-is_allowed l n e = level_allowed l.reached l.height n e

taken_level : (r : Bool) (h n k : ℕ) → Allows (level h r) (k + n) → MayAllow (without (level h r) n) k
taken_level true h n k e =
    let le : n ≤ h = omega arith in
    rw (le_true n h le) (omega arith)
taken_level false h n k e =
    by_test (nat_le n h)
    (λ t. rw t (omega arith))
    (λ t. rw t (omega arith))

level_taken : (r : Bool) (h n k : ℕ) → MayAllow (without (level h r) n) k → Allows (level h r) (k + n)
level_taken true h n k =
    by_test {P = MayAllow (without (level h true) n) k → Allows (level h true) (k + n)} (nat_le n h)
    (λ t. let le : n ≤ h = true_le n h t in rw t (λ e. omega arith))
    (λ t. rw t (λ e. absurd e))
level_taken false h n k =
    by_test {P = MayAllow (without (level h false) n) k → Allows (level h false) (k + n)} (nat_le n h)
    (λ t. let le : n ≤ h = true_le n h t in rw t (λ e. omega arith))
    (λ t. let lt : h < n = false_lt n h t in rw t (λ e. omega arith))

-- what is allowed without some values is what is allowed, less them
pub without-allows : (l : Level) (n k : ℕ) → Allows l (k + n) → MayAllow (without l n) k
without-allows l n k e = taken_level l.reached l.height n k e

pub allows-without : (l : Level) (n k : ℕ) → MayAllow (without l n) k → Allows l (k + n)
allows-without l n k e = level_taken l.reached l.height n k e

more_level : (r : Bool) (h n k : ℕ) → Allows (level h r) k → Allows (with_more n (level h r)) (k + n)
more_level true h n k e = omega arith
more_level false h n k e = omega arith

level_more : (r : Bool) (h n b : ℕ) → Allows (with_more n (level h r)) b → (k : ℕ) × Allows (level h r) k × (b ≡ k + n)
level_more true h n b e = (h, refl, e)
level_more false h n b e = (b - n, omega arith, omega arith)

pub more-allows : (l : Level) (n k : ℕ) → Allows l k → Allows (with_more n l) (k + n)
more-allows l n k e = more_level l.reached l.height n k e

pub allows-more : (l : Level) (n b : ℕ) → Allows (with_more n l) b → (k : ℕ) × Allows l k × (b ≡ k + n)
allows-more l n b e = level_more l.reached l.height n b e

map_to : (o : Option Level) (n k : ℕ) → MayAllow o k → MayAllow (option_map (with_more n) o) (k + n)
map_to None n k e = e
map_to (Some l) n k e = more-allows l n k e

map_from : (o : Option Level) (n b : ℕ) → MayAllow (option_map (with_more n) o) b → (k : ℕ) × MayAllow o k × (b ≡ k + n)
map_from None n b e = absurd e
map_from (Some l) n b e = allows-more l n b e

break_to : (o : Option Level) (k b : ℕ) → MayAllow o k → MayAllow (option_map (λ _. at_break) o) b
break_to None k b e = e
break_to (Some l) k b e = omega arith

least : (r : Bool) (h : ℕ) → Allows (level h r) h
least true h = refl
least false h = omega arith

break_from : (o : Option Level) (b : ℕ) → MayAllow (option_map (λ _. at_break) o) b → (k : ℕ) × MayAllow o k
break_from None b e = absurd e
break_from (Some l) b e = (l.height, least l.reached l.height)

-- what an effect leaves
pub effect-allows : (effect : Effect) (l : Level) (a b : ℕ) → Allows l a → Applies effect a b → MayAllow (level_after l effect) b
effect-allows (Turns takes gives) l a b h (k, e, f) =
    subst (λ n. MayAllow (option_map (with_more gives) (without l takes)) n) (sym f)
    (map_to (without l takes) gives k (without-allows l takes k (subst (Allows l) e h)))
effect-allows (Breaks takes) l a b h e =
    let all : a ≡ (a - takes) + takes = omega arith in
    break_to (without l takes) (a - takes) b (without-allows l takes (a - takes) (subst (Allows l) all h))

pub allows-effect : (effect : Effect) (l : Level) (b : ℕ) → MayAllow (level_after l effect) b → (a : ℕ) × Allows l a × Applies effect a b
allows-effect (Turns takes gives) l b h =
    let m = map_from (without l takes) gives b h in
    (m.0 + takes, allows-without l takes m.0 m.1, (m.0, refl, m.2))
allows-effect (Breaks takes) l b h =
    let m = break_from (without l takes) b h in
    (m.0 + takes, allows-without l takes m.0 m.1, omega arith)

pub may_effect-allows : (effect : Option Effect) (l : Level) (a b : ℕ) → Allows l a → MayApply effect a b → MayAllow (option_and_then (level_after l) effect) b
may_effect-allows None l a b h e = e
may_effect-allows (Some effect) l a b h e = effect-allows effect l a b h e

pub allows-may_effect : (effect : Option Effect) (l : Level) (b : ℕ) → MayAllow (option_and_then (level_after l) effect) b → (a : ℕ) × Allows l a × MayApply effect a b
allows-may_effect None l b h = absurd h
allows-may_effect (Some effect) l b h = allows-effect effect l b h
