-- What a step that meets a fault does.
use Rattle.std.specs.Prelude.{◌≡◌, ℕ, ◌<◌, false, List, [], length}
use Rattle.mach_core.specs.declared.machine.Status.TheVariants.{Going}
use Rattle.mach_core.specs.Rule.{IsFault}
use Rattle.ws_lang.specs.Instruction.{Instruction}
use Rattle.ws_lang.specs.Step.{Config, ws_rule}

-- a step from a configuration that is going meets a fault: it leads to a fault at a place within the program
pub record MeetsFault (code : List Instruction) (c : Config) (byte : ℕ) : Type 0 where
  pub going : (ws_rule code).standing c ≡ Going
  pub fault : IsFault ((ws_rule code).standing ((ws_rule code).next c byte))
  pub within : ((ws_rule code).next c byte).place < length code

-- such a step takes nothing, writes nothing and changes nothing but the standing
pub record FaultsAreQuiet (code : List Instruction) : Type 0 where
  pub takes : (c : Config) (byte : ℕ) → MeetsFault code c byte → (ws_rule code).wants c ≡ false
  pub writes : (c : Config) (byte : ℕ) → MeetsFault code c byte → (ws_rule code).written c byte ≡ []
  pub stays : (c : Config) (byte : ℕ) → MeetsFault code c byte → (ws_rule code).next c byte ≡ record c { status = (ws_rule code).standing ((ws_rule code).next c byte) }
