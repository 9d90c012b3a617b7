-- What a target's program for a program of C does at each of its moments, and after how many steps it has ended.
use Rattle.std.specs.Prelude.{◌≡◌, ◌≢◌, ℕ, ◌≤◌, ◌++◌, List}
use Rattle.mach_core.specs.declared.machine.Status.TheVariants as status
use Rattle.mach_core.specs.Rule.{Rule, Moment, IsInput, run}
use Rattle.c_syntax.specs.Plain.{CUnit}
use Rattle.c_eval.specs.Meaning.{End, Ended, Going, Undefined, Meaning, meaning_of}
use Rattle.sim_trait.specs.Bound.{Slowdown, Bound}
use Rattle.sim_bounds.specs.Closed.{most_steps}
use Rattle.c_compiled.specs.Compiled.{compiled, steps_for}
use Rattle.c_compiled.specs.Built.{ShowsMeaning}

-- the run came to no undefined act
abbrev pub IsDefined : End → Type 0
IsDefined (Undefined act) = ⊥
IsDefined end = Unit {0}

-- a target's program has ended, and shows what a meaning says
pub record HasEndedWith {D : Type 0} (target : Rule D) (moment : Moment D) (meaning : Meaning) : Type 0 where
  pub ended : target.standing moment.config ≡ status.Ended
  pub output : moment.output ≡ meaning.output
  pub taken : moment.taken ≡ meaning.taken

-- what a target's program has done after k steps on an input, beside what the program of C has done with k units of fuel
pub record RunsAsItsSource {D : Type 0} (target : Rule D) (first : D) (most : Bound) (u : CUnit) (input : List ℕ) : Type 0 where
  -- short of an undefined act it has written no more
  pub prefix : (k : ℕ) → IsDefined (meaning_of u input k).end → (more : List ℕ) × ((run target first input k).output ++ more ≡ (meaning_of u input k).output)
  -- nor taken more
  pub taken : (k : ℕ) → IsDefined (meaning_of u input k).end → (run target first input k).taken ≤ (meaning_of u input k).taken
  -- it goes on where the program of C goes on
  pub goes_on : (k : ℕ) → (meaning_of u input k).end ≡ Going → target.standing (run target first input k).config ≡ status.Going
  -- it never meets a fault, not even behind an undefined act
  pub no_fault : (k code : ℕ) → target.standing (run target first input k).config ≢ status.Fault code
  -- where the program of C ends with so much fuel, it has ended with the same by the bound, and stands so from then on
  pub ends : (fuel : ℕ) → (meaning_of u input fuel).end ≡ Ended
      → (steps : ℕ) × (steps ≤ steps_for u fuel) × ((k : ℕ) → most (compiled u) input steps ≤ k → HasEndedWith target (run target first input k) (meaning_of u input fuel))

-- the bound as a number, by the largest size of a program, the text's weight and the units of fuel: no moment at which a target's program shows a meaning comes later
abbrev pub MomentsAreBounded : {D : Type 0} → Rule D → D → Bound → Slowdown → (size : ℕ) → CUnit → Type 0
MomentsAreBounded target first most t size u =
    (input : List ℕ) (fuel : ℕ) (shown : ShowsMeaning target first most u input fuel) → shown.moment ≤ most_steps t size (steps_for u fuel)

-- where the program of C ends with so much fuel, the target's has ended with the same after so many steps, and stands so from then on
abbrev pub EndsInTime : {D : Type 0} → Rule D → D → Slowdown → (size : ℕ) → CUnit → Type 0
EndsInTime target first t size u =
    (input : List ℕ) (fuel k : ℕ) → IsInput input → (meaning_of u input fuel).end ≡ Ended → most_steps t size (steps_for u fuel) ≤ k
    → HasEndedWith target (run target first input k) (meaning_of u input fuel)
