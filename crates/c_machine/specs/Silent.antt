-- A step that neither takes nor writes.
use Rattle.std.specs.Prelude.{◌≡◌, ℕ, false, []}
use Rattle.mach_core.specs.declared.machine.Status.{Status}
use Rattle.c_plain.specs.Machine.{Machine, Config, At}
use Rattle.c_plain.specs.Program.{Program}
use Rattle.c_plain.specs.Rule.{next_step, wants_in}
use Rattle.c_machine.specs.declared.silent.Tried.{Tried}
use Rattle.c_machine.specs.declared.silent.Tried.TheVariants.{Made, Stopped, Left}
use Rattle.c_machine.specs.States.{config_at}

-- the next step takes nothing, writes nothing and leads to a configuration
pub record StepsSilentlyTo (p : Program) (old : Machine) (new : Config) : Type 0 where
  pub takes : wants_in p (At old) ≡ false
  pub comes : (byte : ℕ) → next_step p byte old ≡ record { config = new; written = [] }

-- what came of a step
abbrev pub StepsAs : Program → Machine → Machine → Tried → Type 0
StepsAs p old new Made = StepsSilentlyTo p old (At new)
StepsAs p old new (Stopped standing) = StepsSilentlyTo p old (config_at standing new)
StepsAs p old new Left = new ≡ old
