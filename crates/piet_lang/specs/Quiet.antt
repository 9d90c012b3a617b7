-- For proofs only: a step that takes nothing and writes nothing.
use Rattle.std.specs.Prelude.{◌≡◌, false, List, [], ℤ, Some}
use Rattle.mach_core.specs.declared.machine.Status.TheVariants.{Going}
use Rattle.mach_core.specs.Rule.{Rule}
use Rattle.piet_lang.specs.declared.act.Act.{Act}
use Rattle.piet_lang.specs.Step.{Config, takes, bytes_of}

-- the next step from the old configuration takes nothing, writes nothing and leads to the new one
pub record IsQuietStep (rule : Rule Config) (old new : Config) : Type 0 where
  pub going : rule.standing old ≡ Going
  pub takes_none : rule.wants old ≡ false
  pub writes_none : rule.written old 0 ≡ []
  pub leads : rule.next old 0 ≡ new

-- a command neither takes nor writes
pub record IsQuiet (act : Act) : Type 0 where
  pub takes_none : takes (Some act) ≡ false
  pub writes_none : (stack : List ℤ) → bytes_of (Some act) stack ≡ []
