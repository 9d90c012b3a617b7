-- What a machine's state is.
use Rattle.std.specs.Prelude.{◌≡◌, [], Bool, false, Err}
use Rattle.mach_core.specs.declared.machine.Status.{Status}
use Rattle.mach_core.specs.declared.machine.Status.TheVariants.{Going, Ended, Fault}
use Rattle.c_plain.specs.Machine.{Machine, Config, Step, At, AtEnd, AtFault}
use Rattle.c_parts.specs.declared.halt.Halt.{Halt}
use Rattle.c_parts.specs.Parts.{machine_of, Comes}
use Rattle.c_machine.specs.declared.state.CState.TheInside.{Inside}
use Rattle.c_machine.specs.Steps.{TakesAs}

abbrev pub config_at : Status → Machine → Config
config_at Going m = At m
config_at Ended m = AtEnd
config_at (Fault code) m = AtFault code

abbrev pub config_of : Inside → Config
config_of s = config_at s.standing (machine_of s.parts)

-- a step that came to this halt leaves a machine that stands so, and has taken nothing
pub record HaltsAt (halt : Halt) (standing : Status) : Type 0 where
  pub step : (old new m : Machine) (s : Step) → Comes old new (Err halt) s → s ≡ record { config = config_at standing m; written = [] }
  pub takes : (takes : Bool) → TakesAs (Err halt) takes → takes ≡ false
