-- For proofs only: a step that takes nothing and writes nothing.
use Rattle.std.specs.Prelude.{◌≡◌, ℤ, false, [], None}
use Rattle.mach_core.specs.declared.machine.Status.TheVariants.{Going}
use Rattle.sq_lang.specs.Step.{CellMap, Config, standing_of, act_at, takes, bytes_of, after}

-- at this address, with these cells and no fault
abbrev pub placed : ℤ → CellMap → Config
placed address cells = record { address = address; cells = cells; fault = None }

-- the next step from the old configuration takes nothing, writes nothing and leads to the new one
pub record IsQuietStep (old new : Config) : Type 0 where
  pub going : standing_of old.fault old.address ≡ Going
  pub takes_none : takes (act_at old) ≡ false
  pub writes_none : bytes_of old.cells (act_at old) ≡ []
  pub leads : after old (act_at old) 0 ≡ new
