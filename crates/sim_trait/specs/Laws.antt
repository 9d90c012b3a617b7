-- What a back end shows of one program, one text and the target's program that the text spells.
use Rattle.std.specs.Prelude.{◌≡◌, ℕ, ◌+◌, ◌*◌, ◌≤◌, ◌^◌, Bool, max, length, List}
use Rattle.mach_core.specs.declared.machine.Status.TheVariants.{Going}
use Rattle.mach_core.specs.Rule.{Rule, Moment, IsInput, applied, run, run_from, at_start}
use Rattle.eir_core.specs.Eir.{Eir, size_of}
use Rattle.eir_core.specs.Step.{Config, eir_rule, eir_start}
use Rattle.eir_core.specs.Reach.{near_at}
use Rattle.sim_trait.specs.Alike.{Alike, StandsAs}
use Rattle.sim_trait.specs.Bound.{Slowdown, steps_for_one, sharp_steps_for_one}

-- the target comes, within so many steps, to a configuration that is related to the one where the program starts
abbrev pub Loads : {D : Type 0} → Rule D → D → (Config → D → Type 0) → ℕ → Eir → Type 0
Loads target first R most p =
    (input : List ℕ) → IsInput input → (k : ℕ) × (k ≤ most) × Alike R (at_start (eir_start p)) (run target first input k)

-- each step of the program is followed by one step of the target or more, within a number of steps
abbrev pub Steps : {D : Type 0} → Rule D → (Config → D → Type 0) → (Config → ℕ) → Eir → Type 0
Steps {D} target R most p =
    (input : List ℕ) (s : Moment Config) (m : Moment D) → IsInput input → Alike R s m → (eir_rule p).standing s.config ≡ Going
    → (k : ℕ) × (1 ≤ k) × (k ≤ most s.config) × Alike R (applied (eir_rule p) input s) (run_from target input m k)

-- related configurations stand alike
abbrev pub Stands : {D : Type 0} → Rule D → (Config → D → Type 0) → Eir → Type 0
Stands {D} target R p = (c : Config) (d : D) → R c d → StandsAs (eir_rule p) target c d

-- the target's program does what this one does, step by step
pub record Simulates {D : Type 0} (target : Rule D) (first : D) (R : Config → D → Type 0) (t : Slowdown) (p : Eir) : Type 0 where
  pub counts : 1 ≤ t.factor
  pub loads : Loads target first R (steps_for_one t p (length p.words)) p
  pub steps : Steps target R (λ c. steps_for_one t p (max (length p.words) (near_at p c))) p
  pub stands : Stands target R p

-- besides, loading alone counts the size of the program
pub record IsSharp {D : Type 0} (target : Rule D) (first : D) (R : Config → D → Type 0) (factor : ℕ) (by_digits : Bool) (p : Eir) : Type 0 where
  pub loads : Loads target first R (factor * (size_of p + 1)) p
  pub steps : Steps target R (λ c. sharp_steps_for_one factor by_digits p) p

-- a text that is short and spells a program of the target which does what this one does, step by step
pub record Translates {Q D : Type 0} (spells : List ℕ → Q → Type 0) (rule : Q → Rule D) (start : Q → D) (related : Eir → Q → Config → D → Type 0) (t : Slowdown) (p : Eir) (text : List ℕ) (q : Q) : Type 0 where
  pub short : length text ≤ 2 ^ 29
  pub spelled : spells text q
  pub simulates : Simulates (rule q) (start q) (related p q) t p

-- besides, the target's program is sharp
pub record TranslatesSharply {Q D : Type 0} (spells : List ℕ → Q → Type 0) (rule : Q → Rule D) (start : Q → D) (related : Eir → Q → Config → D → Type 0) (t : Slowdown) (by_digits : Bool) (p : Eir) (text : List ℕ) (q : Q) : Type 0 where
  pub translates : Translates spells rule start related t p text q
  pub sharp : IsSharp (rule q) (start q) (related p q) t.factor by_digits p
