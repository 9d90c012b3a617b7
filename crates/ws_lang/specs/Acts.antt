-- For proofs only: what a step of the machine did.
use Rattle.std.specs.Prelude.{◌≡◌, ◌++◌, ℕ, cond}
use Rattle.mach_core.specs.declared.machine.Moved.{Moved}
use Rattle.mach_core.specs.Moved as mach
use Rattle.mach_core.specs.Held.{Buffers, TakesHeld}
use Rattle.ws_lang.specs.Step.{Config, Act, outcome, bytes_of, is_taking}

-- one configuration led to another by an act, given the byte that was fed
pub record Acts (old : Config) (act : Act) (fed : ℕ) (new : Config) (moved : Moved) : Type 0 where
  pub config : new ≡ outcome old act fed
  pub bytes : mach.bytes_of moved ≡ bytes_of act
  pub took : mach.is_took moved ≡ is_taking act

-- one configuration led to another by an act, which took a byte that was held where it takes one, and whose bytes are held behind the rest
pub record ActsHeld (old : Config) (act : Act) (before : Buffers) (new : Config) (after : Buffers) : Type 0 where
  pub byte : ℕ
  pub taken : TakesHeld (is_taking act) before.held after.held byte
  pub config : new ≡ outcome old act (cond (is_taking act) byte 0)
  pub put : after.put ≡ before.put ++ bytes_of act
