-- From single steps to runs of every length.
use Rattle.std.proofs.Common.{◌≡◌, ℕ, zero, suc, ◌+◌, ◌*◌, ◌≤◌, Bool, true, false, cond, min, max, List, length, ◌⊎◌, inl, inr, sym, subst, refl, arith, nat_lt}
use Rattle.std.proofs.Math.Nat.{mul-le-mul_left, mul-le-mul_right}
use Rattle.mach_core.specs.declared.machine.Status.TheVariants.{Going, Ended}
use Rattle.mach_core.specs.Rule.{Rule, Moment, IsInput, applied, run_from, run, at_start}
use Rattle.mach_core.proofs.Runs.{applied-still, run_from-add}
use Rattle.eir_core.specs.Eir.{Eir, size_of}
use Rattle.eir_core.specs.Step.{Config, eir_rule, eir_start}
use Rattle.eir_core.specs.Reach.{reach, near_at}
use Rattle.sim_trait.specs.Alike.{Alike, StandsAs}
use Rattle.sim_trait.specs.Digits.{digit_count}
use Rattle.sim_trait.specs.Bound.{Slowdown, Bound, steps_for_one, bound, sharp_steps_for_one, sharp, sharp_bound}
use Rattle.sim_trait.specs.Laws.{Loads, Steps, Stands, Simulates, IsSharp}
use Rattle.sim_trait.specs.Faithful.{Follows}
use Rattle.sim_trait.proofs.Digits.{digit_count-small}

module _ {C D : Type 0} (source : Rule C) (target : Rule D) (R : C → D → Type 0) (most each : ℕ → ℕ) (input : List ℕ) (s : Moment C) (t : Moment D) where
  -- the moment after n steps of the source, and one of the target that is at the same
  abbrev At : ℕ → Type 0
  At n = (m : ℕ) × (n ≤ m) × (m ≤ most n) × Alike R (run_from source input s n) (run_from target input t m)

  module _
      (no_fault : (c : C) → (source.standing c ≡ Going) ⊎ (source.standing c ≡ Ended))
      (first : (k : ℕ) × (k ≤ most 0) × Alike R s (run_from target input t k))
      (steps : (n : ℕ) (m : Moment D) → Alike R (run_from source input s n) m → source.standing (run_from source input s n).config ≡ Going
      → (k : ℕ) × (1 ≤ k) × (k ≤ each n) × Alike R (applied source input (run_from source input s n)) (run_from target input m k))
      (stands : (c : C) (d : D) → R c d → StandsAs source target c d)
      (rises : (n : ℕ) → most n + each n ≤ most (suc n))
      (positive : (n : ℕ) → 1 ≤ each n) where
    -- the source goes on, and so does the target
    goes_on : (n : ℕ) → At n → source.standing (run_from source input s n).config ≡ Going → At (suc n)
    goes_on n (m, le, few, alike) going =
        let (k, some, short, next) = steps n (run_from target input t m) alike going in (
          m + k,
          omega arith,
          omega (arith, rises n),
          subst (λ u. Alike R (applied source input (run_from source input s n)) u) (sym (run_from-add target input t m k)) next,
        )

    -- the source has ended, and so has the target
    stays : (n : ℕ) → At n → source.standing (run_from source input s n).config ≡ Ended → At (suc n)
    stays n (m, le, few, alike) over =
        let here = run_from source input s n in
        let there = run_from target input t m in
        let is : target.standing there.config ≡ Ended = (stands here.config there.config alike.related).ended.1 over in
        let same : applied source input here ≡ here = applied-still source input here (λ e. cc) in
        let same' : applied target input there ≡ there = applied-still target input there (λ e. cc) in (
          suc m,
          omega arith,
          omega (arith, rises n, positive n),
          subst (λ u. Alike R u (applied target input there)) (sym same) (subst (λ u. Alike R here u) (sym same') alike),
        )

    pub followed : (n : ℕ) → At n
    followed zero = (first.0, omega arith, first.1, first.2)
    followed (suc n) = elim (no_fault (run_from source input s n).config) [ inl going ↦ goes_on n (followed n) going | inr over ↦ stays n (followed n) over ]

-- a program never meets a fault
pub eir_stands : (p : Eir) (c : Config) → ((eir_rule p).standing c ≡ Going) ⊎ ((eir_rule p).standing c ≡ Ended)
eir_stands p c =
    elim (nat_lt c.block (length p.blocks)) as (λ b. (cond b Going Ended ≡ Going) ⊎ (cond b Going Ended ≡ Ended)) [ true ↦ inl refl | false ↦ inr refl ]

-- what holds of loading and of single steps gives what holds of runs of every length, within a bound that has room for each step
pub follows_within : {D : Type 0} (target : Rule D) (first : D) (R : Config → D → Type 0) (p : Eir) (most : Bound) (each : List ℕ → ℕ → ℕ) (loading : ℕ) (step : Config → ℕ)
    → Loads target first R loading p → Steps target R step p → Stands target R p
    → ((input : List ℕ) → loading ≤ most p input 0)
    → ((input : List ℕ) (n : ℕ) → step (run (eir_rule p) (eir_start p) input n).config ≤ each input n)
    → ((input : List ℕ) (n : ℕ) → most p input n + each input n ≤ most p input (suc n))
    → ((input : List ℕ) (n : ℕ) → 1 ≤ each input n)
    → Follows target first most p
follows_within target first R p most each loading step loads steps stands room small rises positive input n bytes =
    let l = loads input bytes in
    let begins : l.0 ≤ most p input 0 = omega (arith, l.1, room input) in
    let at = followed (eir_rule p) target R (most p input) (each input) input (at_start (eir_start p)) (at_start first)
    (eir_stands p) (l.0, begins, l.2)
    (λ k m alike going.
    let s = steps input (run (eir_rule p) (eir_start p) input k) m bytes alike going in
    (s.0, s.1, omega (arith, s.2, small input k), s.3))
    stands (rises input) (positive input) n in
    (at.0, at.1, at.2, record { taken = at.3.taken; output = at.3.output; stands = stands _ _ at.3.related })

-- the general bound

steps-rise : (t : Slowdown) (p : Eir) (a b : ℕ) → a ≤ b → steps_for_one t p a ≤ steps_for_one t p b
steps-rise t p a b le =
    elim t.by_reach as (λ y. t.factor * (size_of p + 1) * cond y (a + 1) 1 ≤ t.factor * (size_of p + 1) * cond y (b + 1) 1) [
      | true ↦ mul-le-mul_left (t.factor * (size_of p + 1)) (omega arith)
      | false ↦ mul-le-mul_left (t.factor * (size_of p + 1)) (omega arith)
    ]

one_or_more : (a b : ℕ) → 1 ≤ a → 1 ≤ b → 1 ≤ a * b
one_or_more a b ha hb = omega (arith, mul-le-mul_left a hb)

-- the product with a number that is not 0 is no less
no_less : (a b : ℕ) → 1 ≤ b → a ≤ a * b
no_less a b h = omega (arith, mul-le-mul_left a h)

reach-positive : (t : Slowdown) (far : ℕ) → 1 ≤ cond t.by_reach (far + 1) 1
reach-positive t far = elim t.by_reach as (λ y. 1 ≤ cond y (far + 1) 1) [ true ↦ omega arith | false ↦ omega arith ]

-- the steps for one are no fewer than the factor for each unit of the size
steps-size : (t : Slowdown) (p : Eir) (far : ℕ) → t.factor * (size_of p + 1) ≤ steps_for_one t p far
steps-size t p far = no_less (t.factor * (size_of p + 1)) (cond t.by_reach (far + 1) 1) (reach-positive t far)

steps-positive : (t : Slowdown) (p : Eir) (far : ℕ) → 1 ≤ t.factor → 1 ≤ steps_for_one t p far
steps-positive t p far h = omega (arith, one_or_more t.factor (size_of p + 1) h (omega arith), steps-size t p far)

words-le-reach : (p : Eir) (input : List ℕ) (n : ℕ) → length p.words ≤ reach p input n
words-le-reach p input zero = omega arith
words-le-reach p input (suc n) = omega (arith, words-le-reach p input n)

-- n + 1 steps within one worst case, and one more within a greater one
one_more : (n a b : ℕ) → a ≤ b → a * (n + 1) + b ≤ b * (suc n + 1)
one_more n a b le = omega (arith, mul-le-mul_right (n + 1) le)

bound-rises : (t : Slowdown) (p : Eir) (input : List ℕ) (n : ℕ) → bound t p input n + steps_for_one t p (reach p input (suc n)) ≤ bound t p input (suc n)
bound-rises t p input n = one_more n (steps_for_one t p (reach p input n)) (steps_for_one t p (reach p input (suc n))) (steps-rise t p (reach p input n) (reach p input (suc n)) (omega arith))

-- what is shown of single steps gives what holds of runs of every length
pub follows_from : {D : Type 0} (target : Rule D) (first : D) (R : Config → D → Type 0) (t : Slowdown) (p : Eir) → Simulates target first R t p → Follows target first (bound t) p
follows_from target first R t p h =
    follows_within target first R p (bound t) (λ input n. steps_for_one t p (reach p input (suc n))) (steps_for_one t p (length p.words)) (λ c. steps_for_one t p (max (length p.words) (near_at p c)))
    h.loads h.steps h.stands
    (λ input. omega arith)
    (λ input n.
    let far = max (length p.words) (near_at p (run (eir_rule p) (eir_start p) input n).config) in
    let wide : far ≤ reach p input (suc n) = omega (arith, words-le-reach p input n) in
    steps-rise t p far (reach p input (suc n)) wide)
    (λ input n. bound-rises t p input n)
    (λ input n. steps-positive t p (reach p input (suc n)) h.counts)

-- the sharp bound

-- looking for a block takes no longer than the size
sharp-le-size : (factor : ℕ) (by_digits : Bool) (p : Eir) → sharp_steps_for_one factor by_digits p ≤ factor * (size_of p + 1)
sharp-le-size factor true p = mul-le-mul_left factor (omega (arith, digit_count-small (length p.blocks)))
sharp-le-size factor false p = mul-le-mul_left factor (omega arith)

sharp-positive : (factor : ℕ) (by_digits : Bool) (p : Eir) → 1 ≤ factor → 1 ≤ sharp_steps_for_one factor by_digits p
sharp-positive factor true p h = one_or_more factor (digit_count (length p.blocks) + 1) h (omega arith)
sharp-positive factor false p h = omega arith

sharp-rises : (factor : ℕ) (by_digits : Bool) (p : Eir) (n : ℕ) → sharp factor by_digits p n + sharp_steps_for_one factor by_digits p ≤ sharp factor by_digits p (suc n)
sharp-rises factor by_digits p n = omega (arith, one_more n (sharp_steps_for_one factor by_digits p) (sharp_steps_for_one factor by_digits p) (omega arith))

min_rises : (a b c a' b' : ℕ) → a + c ≤ a' → b + c ≤ b' → min a b + c ≤ min a' b'
min_rises a b c a' b' p q = omega arith

within_both : (k a b : ℕ) → k ≤ a → k ≤ b → k ≤ min a b
within_both k a b p q = omega arith

pub follows_sharply : {D : Type 0} (target : Rule D) (first : D) (R : Config → D → Type 0) (t : Slowdown) (by_digits : Bool) (p : Eir)
    → Simulates target first R t p → IsSharp target first R t.factor by_digits p → Follows target first (sharp_bound t by_digits) p
follows_sharply target first R t by_digits p h sharply =
    let size = t.factor * (size_of p + 1) in
    let each = sharp_steps_for_one t.factor by_digits p in
    follows_within target first R p (sharp_bound t by_digits) (λ input n. each) size (λ c. each)
    sharply.loads sharply.steps h.stands
    (λ input. within_both size (bound t p input 0) (sharp t.factor by_digits p 0) (omega (arith, steps-size t p (reach p input 0))) (omega arith))
    (λ input n. omega arith)
    (λ input n.
    let general : bound t p input n + each ≤ bound t p input (suc n) = omega (arith, bound-rises t p input n, sharp-le-size t.factor by_digits p, steps-size t p (reach p input (suc n))) in
    min_rises (bound t p input n) (sharp t.factor by_digits p n) each (bound t p input (suc n)) (sharp t.factor by_digits p (suc n)) general (sharp-rises t.factor by_digits p n))
    (λ input n. sharp-positive t.factor by_digits p h.counts)
