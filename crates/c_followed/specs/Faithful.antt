-- What a program of EIR shows of the meaning of a text.
use Rattle.std.specs.Prelude.{◌≡◌, ℕ, ◌≤◌, List}
use Rattle.mach_core.specs.declared.machine.Status.{Status}
use Rattle.mach_core.specs.declared.machine.Status.TheVariants as status
use Rattle.mach_core.specs.Rule.{run}
use Rattle.eir_core.specs.Eir.{Eir}
use Rattle.eir_core.specs.Step.{eir_rule, eir_start}
use Rattle.c_eval.specs.Meaning.{End, Ended, Going, Undefined, Meaning}

-- after n steps it has the output and the taken bytes of a meaning
pub record ShowsAt (p : Eir) (input : List ℕ) (n : ℕ) (m : Meaning) : Type 0 where
  pub output : (run (eir_rule p) (eir_start p) input n).output ≡ m.output
  pub taken : (run (eir_rule p) (eir_start p) input n).taken ≡ m.taken

-- no step comes before its unit; of an undefined act nothing is said
abbrev pub IsAfter : End → (fuel n : ℕ) → Type 0
IsAfter (Undefined act) fuel n = Unit {0}
IsAfter end fuel n = fuel ≤ n

-- it is ended where the run is, and goes on where the run does
abbrev pub EndsAs : End → Status → Type 0
EndsAs Ended s = s ≡ status.Ended
EndsAs Going s = s ≡ status.Going
EndsAs (Undefined act) s = Unit {0}

-- a program is faithful to a meaning with so much fuel: within so many steps it shows it
abbrev pub IsFaithful : Eir → List ℕ → (fuel most : ℕ) → Meaning → Type 0
IsFaithful p input fuel most m = (n : ℕ) × IsAfter m.end fuel n × (n ≤ most) × ShowsAt p input n m × EndsAs m.end ((eir_rule p).standing (run (eir_rule p) (eir_start p) input n).config)
