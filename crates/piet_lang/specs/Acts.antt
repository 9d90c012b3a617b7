-- For proofs only: what a step of the code did, against the rule of steps.
use Rattle.std.specs.Prelude.{◌≡◌, ℕ, List, [], ℤ, Option, Some, slice_get, if◌then◌else◌}
use Rattle.mach_core.specs.declared.machine.Moved.{Moved}
use Rattle.mach_core.specs.Moved.{bytes_of as moved_bytes, is_took}
use Rattle.piet_image.specs.declared.place.Stand.{Stand}
use Rattle.piet_lang.specs.declared.act.Act.{Act}
use Rattle.piet_lang.specs.declared.number.Seen.{Seen}
use Rattle.piet_lang.specs.Act.{turns_of, toggles_of}
use Rattle.piet_lang.specs.Step.{Config, acted, takes, bytes_of, turned_by, toggled_by, reading_next, reading_takes}

-- where a command leads, with these values
abbrev pub led : Act → Stand → List ℤ → Stand
led act to stack = record { place = to.place; pointer = turned_by (turns_of act stack) to.pointer; chooser = toggled_by (toggles_of act stack) to.chooser }

-- the code did a command, by which the run leaves a block of this size
pub record Acts (size : ℕ) (old : Config) (act : Act) (to : Stand) (fed : ℕ) (new : Config) (moved : Moved) : Type 0 where
  pub config : new ≡ acted size old act to (if takes (Some act) then fed else 0)
  pub bytes : moved_bytes moved ≡ bytes_of (Some act) old.stack
  pub took : is_took moved ≡ takes (Some act)

-- the code read on a number
pub record Reads (old : Config) (seen : Seen) (fed : ℕ) (new : Config) (moved : Moved) : Type 0 where
  pub config : new ≡ reading_next old seen (if reading_takes seen then fed else 0)
  pub bytes : moved_bytes moved ≡ []
  pub took : is_took moved ≡ reading_takes seen

-- what a command moves, by the top value
pub record MovesWith (act : Act) (top : Option ℤ) (moved : Moved) : Type 0 where
  pub bytes : (stack : List ℤ) → top ≡ slice_get stack 0 → moved_bytes moved ≡ bytes_of (Some act) stack
  pub took : is_took moved ≡ takes (Some act)
