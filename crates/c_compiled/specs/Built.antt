-- What a target's program for a program of C shows.
use Rattle.std.specs.Prelude.{◌≡◌, ◌≢◌, ℕ, ◌≤◌, List}
use Rattle.mach_core.specs.declared.machine.Status.{Status}
use Rattle.mach_core.specs.declared.machine.Status.TheVariants as status
use Rattle.mach_core.specs.Rule.{Rule, IsInput, run}
use Rattle.c_syntax.specs.Plain.{CUnit}
use Rattle.c_eval.specs.Meaning.{End, Ended, Going, Undefined, meaning_of}
use Rattle.c_followed.specs.Faithful.{IsAfter}
use Rattle.c_compiled.specs.Compiled.{compiled, steps_for, IsCompiledOnBytes}
use Rattle.sim_trait.specs.Bound.{Bound}
use Rattle.sim_trait.specs.Faithful.{Faithful}

-- a target's program has ended exactly where the run has; of an undefined act nothing is said
abbrev pub StandsSo : End → Status → Type 0
StandsSo Ended s = s ≡ status.Ended
StandsSo Going s = s ≢ status.Ended
StandsSo (Undefined act) s = Unit {0}

-- of a target's program, on an input and with so much fuel: there is a moment, no earlier than the units of fuel are spent and within the bound, at which it shows what the program of C has taken and written with this fuel, and no fault is met
pub record ShowsMeaning {D : Type 0} (target : Rule D) (first : D) (most : Bound) (u : CUnit) (input : List ℕ) (fuel : ℕ) : Type 0 where
  -- so many steps of the program of EIR, and the moment
  pub steps : ℕ
  pub few : steps ≤ steps_for u fuel
  pub moment : ℕ
  pub within : moment ≤ most (compiled u) input steps
  pub after : IsAfter (meaning_of u input fuel).end fuel moment
  pub output : (run target first input moment).output ≡ (meaning_of u input fuel).output
  pub taken : (run target first input moment).taken ≡ (meaning_of u input fuel).taken
  pub no_fault : (code : ℕ) → target.standing (run target first input moment).config ≢ status.Fault code
  pub stands : StandsSo (meaning_of u input fuel).end (target.standing (run target first input moment).config)

-- so it is on each input, with each amount of fuel
abbrev pub MeansAsItsSource : {D : Type 0} → Rule D → D → Bound → CUnit → Type 0
MeansAsItsSource target first most u = (input : List ℕ) (fuel : ℕ) → IsInput input → ShowsMeaning target first most u input fuel

-- a text spells a program of a target that means what its source does
abbrev pub IsBuilt : {Q D : Type 0} → (List ℕ → Q → Type 0) → (Q → Rule D) → (Q → D) → Bound → CUnit → List ℕ → Type 0
IsBuilt {Q} spells rule start most u text = (q : Q) × spells text q × MeansAsItsSource (rule q) (start q) most u

-- so it is with a text that stands for what is emitted
abbrev pub WhatIsBuilt : {Q D : Type 0} → (List ℕ → Q → Type 0) → (Q → Rule D) → (Q → D) → Bound → CUnit → List ℕ → Type 0
WhatIsBuilt spells rule start most u text = Faithful spells rule start most (compiled u) text → IsCompiledOnBytes u → IsBuilt spells rule start most u text
