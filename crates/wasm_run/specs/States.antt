-- What a state of a machine stands for.
use Rattle.std.specs.Prelude.{◌≡◌, ℕ, List, [], ◌∷◌, map, reverse, Option, None, Some}
use Rattle.mach_core.specs.declared.machine.Moved.{Moved}
use Rattle.mach_core.specs.Moved.{bytes_of, is_took}
use Rattle.wasm_bin.specs.declared.module.Module.{Module}
use Rattle.wasm_rule.specs.declared.act.Act.{Act}
use Rattle.wasm_parts.specs.declared.frame.CallFrame.{CallFrame}
use Rattle.wasm_run.specs.declared.state.State.{State}
use Rattle.wasm_rule.specs.Config.{Call, Config}
use Rattle.wasm_parts.specs.Frames.{call_of}
use Rattle.wasm_rule.specs.Rule.{after, takes_byte, bytes_written}

-- the calls beneath, of which the last is kept at the end
abbrev pub callers_of : Module → List CallFrame → List Call
callers_of m frames = map (call_of m) (reverse frames)

abbrev pub later_of : Module → Option CallFrame → List Call
later_of m None = []
later_of m (Some frame) = call_of m frame ∷ []

-- the configuration that a machine is in
abbrev pub config_of : Module → State → Config
config_of m s = record {
  globals = s.globals.items;
  memory = s.memory;
  calls = call_of m s.frame ∷ callers_of m s.callers.items;
  later = later_of m s.later;
  status = s.status;
}

-- the configuration that an act of the last call leads to
abbrev pub acted : Module → State → Act → ℕ → Config
acted m s act byte = after m (config_of m s) (call_of m s.frame) (callers_of m s.callers.items) act byte

-- the machine did an act
pub record Does (m : Module) (old : State) (act : Act) (fed : ℕ) (new : State) (moved : Moved) : Type 0 where
  pub config : config_of m new ≡ acted m old act fed
  pub bytes : bytes_of moved ≡ bytes_written act
  pub took : is_took moved ≡ takes_byte act

-- the two states stand for one configuration
abbrev pub AreSame : State → State → Type 0
AreSame old new = (m : Module) → config_of m new ≡ config_of m old
