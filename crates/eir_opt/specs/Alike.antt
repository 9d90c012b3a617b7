-- Two programs of which the second does what the first does, in no more steps.
use Rattle.std.specs.Prelude.{◌≡◌, ℕ, ◌+◌, ◌*◌, ◌≤◌, ◌↔◌, List}
use Rattle.mach_core.specs.declared.machine.Status.TheVariants.{Ended}
use Rattle.mach_core.specs.Rule.{Moment, IsInput, run}
use Rattle.eir_core.specs.Eir.{Eir, size_of}
use Rattle.eir_core.specs.Step.{Config, eir_rule, eir_start}
use Rattle.eir_core.specs.Reach.{reach}

-- where a program is after so many steps on an input
abbrev pub moment : Eir → List ℕ → ℕ → Moment Config
moment p input n = run (eir_rule p) (eir_start p) input n

-- the program has ended after so many steps
abbrev pub HasEnded : Eir → List ℕ → ℕ → Type 0
HasEnded p input n = (eir_rule p).standing (moment p input n).config ≡ Ended

-- what the second program shows after m steps is what the first shows after n, which are no fewer and not many more
pub record AreAlike (p q : Eir) (input : List ℕ) (n m : ℕ) : Type 0 where
  pub fewer : m ≤ n
  pub enough : n ≤ (size_of p + 1) * (m + 1)
  pub output : (moment q input m).output ≡ (moment p input n).output
  pub taken : (moment q input m).taken ≡ (moment p input n).taken
  pub ended : HasEnded q input m ↔ HasEnded p input n
  pub reach : reach q input m ≤ reach p input n

-- for each input each number of steps of the one has one of the other; the second program is no larger
pub record RunsAlike (p q : Eir) : Type 0 where
  pub follows : (input : List ℕ) (n : ℕ) → IsInput input → (m : ℕ) × AreAlike p q input n m
  pub leads : (input : List ℕ) (m : ℕ) → IsInput input → (n : ℕ) × AreAlike p q input n m
  pub size : size_of q ≤ size_of p
