-- What a faithful text means, said of the target's own run.
use Rattle.std.specs.Prelude.{◌≡◌, ◌≢◌, ℕ, ◌≤◌, ◌++◌, List}
use Rattle.mach_core.specs.declared.machine.Status.TheVariants.{Ended, Fault}
use Rattle.mach_core.specs.Rule.{Rule, run}
use Rattle.eir_core.specs.Eir.{Eir}
use Rattle.eir_core.specs.Step.{eir_rule, eir_start}
use Rattle.sim_trait.specs.Bound.{Bound}

-- for each input, of a target's program and the EIR program that it follows
pub record FollowedRun {D : Type 0} (target : Rule D) (first : D) (most : Bound) (p : Eir) (input : List ℕ) : Type 0 where
  -- after as many steps the target has written no more than the program
  pub prefix : (k : ℕ) → (more : List ℕ) × ((run target first input k).output ++ more ≡ (run (eir_rule p) (eir_start p) input k).output)
  -- nor taken more
  pub taken : (k : ℕ) → (run target first input k).taken ≤ (run (eir_rule p) (eir_start p) input k).taken
  -- it never meets a fault
  pub no_fault : (k code : ℕ) → target.standing (run target first input k).config ≢ Fault code
  -- it has ended only if the program has
  pub ends_only : (k : ℕ) → target.standing (run target first input k).config ≡ Ended → (eir_rule p).standing (run (eir_rule p) (eir_start p) input k).config ≡ Ended
  -- where the program ends, it ends within the bound, with the same output and the same bytes taken
  pub ends : (n : ℕ) → (eir_rule p).standing (run (eir_rule p) (eir_start p) input n).config ≡ Ended
      → (m : ℕ) × (m ≤ most p input n) × (target.standing (run target first input m).config ≡ Ended)
      × ((run target first input m).output ≡ (run (eir_rule p) (eir_start p) input n).output)
      × ((run target first input m).taken ≡ (run (eir_rule p) (eir_start p) input n).taken)
