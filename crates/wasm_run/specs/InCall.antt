-- Steps that are made with what is held and stay within the last call.
use Rattle.std.specs.Prelude.{◌≡◌, ℕ, ◌+◌, ◌<◌, Bool, true, false, cond, List, [], ◌++◌, length, Vec}
use Rattle.std.specs.declared.alloc.Global.{Global}
use Rattle.mach_core.specs.declared.machine.Status.TheVariants.{Going}
use Rattle.mach_core.specs.Held.{Buffers, TakesHeld, StepsHeld}
use Rattle.wasm_bin.specs.declared.module.Instr.{Instr}
use Rattle.wasm_bin.specs.declared.module.Module.{Module}
use Rattle.wasm_rule.specs.declared.act.Act.{Act}
use Rattle.wasm_parts.specs.declared.frame.CallFrame.{CallFrame}
use Rattle.wasm_parts.specs.declared.jumps.Jump.{Jump}
use Rattle.wasm_run.specs.declared.state.State.{State}
use Rattle.wasm_rule.specs.Memory.{Memory}
use Rattle.wasm_rule.specs.Code.{own_code}
use Rattle.wasm_parts.specs.Jumps.{IsTable}
use Rattle.wasm_rule.specs.Step.{act_of}
use Rattle.wasm_rule.specs.Rule.{takes_byte, bytes_written, wasm_rule}
use Rattle.wasm_run.specs.States.{config_of, acted}

-- a state with this last call, these globals and this memory
abbrev pub in_call : State → CallFrame → Vec ℕ Global → Memory → State
in_call s frame globals memory = record s { frame = frame; globals = globals; memory = memory }

-- the act takes nothing, writes nothing, and leads to these
pub record IsQuiet (act : Act) (jumps : List Jump) (frame : CallFrame) (globals : Vec ℕ Global) (memory : Memory) (frame' : CallFrame) (globals' : Vec ℕ Global) (memory' : Memory) : Type 0 where
  pub takes_none : takes_byte act ≡ false
  pub writes_none : bytes_written act ≡ []
  pub function_kept : frame'.body ≡ frame.body
  pub leads : (m : Module) (s : State) → IsTable (own_code m frame.body) jumps → frame.place < length (own_code m frame.body)
      → acted m (in_call s frame globals memory) act 0 ≡ config_of m (in_call s frame' globals' memory')

-- nothing changed
pub record IsKept (frame : CallFrame) (globals : Vec ℕ Global) (memory : Memory) (frame' : CallFrame) (globals' : Vec ℕ Global) (memory' : Memory) : Type 0 where
  pub frame_kept : frame' ≡ frame
  pub globals_kept : globals' ≡ globals
  pub memory_kept : memory' ≡ memory

-- the act was done, or nothing was
abbrev pub Acts : Bool → Act → List Jump → CallFrame → Vec ℕ Global → Memory → CallFrame → Vec ℕ Global → Memory → Type 0
Acts true act jumps frame globals memory frame' globals' memory' = IsQuiet act jumps frame globals memory frame' globals' memory'
Acts false act jumps frame globals memory frame' globals' memory' = IsKept frame globals memory frame' globals' memory'

-- the act of a call was done, or nothing was; the globals and the memory stay
abbrev pub ActsInside : Bool → Act → List Jump → CallFrame → CallFrame → Type 0
ActsInside done act jumps frame frame' = (globals : Vec ℕ Global) (memory : Memory) → Acts done act jumps frame globals memory frame' globals memory

-- the act takes the first byte held where it takes one, writes behind those held, and leads to these
pub record IsHeldStep (act : Act) (jumps : List Jump) (frame : CallFrame) (globals : Vec ℕ Global) (memory : Memory) (before : Buffers) (frame' : CallFrame) (globals' : Vec ℕ Global) (memory' : Memory) (after' : Buffers) : Type 0 where
  pub byte : ℕ
  pub taken : TakesHeld (takes_byte act) before.held after'.held byte
  pub put : after'.put ≡ before.put ++ bytes_written act
  pub function_kept : frame'.body ≡ frame.body
  pub leads : (m : Module) (s : State) → IsTable (own_code m frame.body) jumps → frame.place < length (own_code m frame.body)
      → acted m (in_call s frame globals memory) act (cond (takes_byte act) byte 0) ≡ config_of m (in_call s frame' globals' memory')

-- nothing changed, what is held neither
pub record IsUntouched (frame : CallFrame) (globals : Vec ℕ Global) (memory : Memory) (before : Buffers) (frame' : CallFrame) (globals' : Vec ℕ Global) (memory' : Memory) (after' : Buffers) : Type 0 where
  pub kept : IsKept frame globals memory frame' globals' memory'
  pub held_kept : after' ≡ before

-- the act was done with what is held, or nothing was
abbrev pub ActsHeld : Bool → Act → List Jump → CallFrame → Vec ℕ Global → Memory → Buffers → CallFrame → Vec ℕ Global → Memory → Buffers → Type 0
ActsHeld true act jumps frame globals memory before frame' globals' memory' after' = IsHeldStep act jumps frame globals memory before frame' globals' memory' after'
ActsHeld false act jumps frame globals memory before frame' globals' memory' after' = IsUntouched frame globals memory before frame' globals' memory' after'

-- the act of a call of the host was done with what is held, or nothing was; the globals and the memory stay
abbrev pub CallsHost : Bool → Act → CallFrame → Buffers → CallFrame → Buffers → Type 0
CallsHost done act frame before frame' after' = (jumps : List Jump) (globals : Vec ℕ Global) (memory : Memory) → ActsHeld done act jumps frame globals memory before frame' globals memory after'

-- what an instruction does at the top of these, where there are so many calls
abbrev pub act_on : Module → ℕ → CallFrame → Vec ℕ Global → Memory → Instr → Act
act_on m calls frame globals memory instr =
    act_of m (record { calls = calls; locals = frame.locals.items; globals = globals.items; memory = memory; values = frame.values }) instr

-- so many steps lead from these to those with what is held, in each state that is going and has so many calls
abbrev pub RunsHeld : Module → ℕ → CallFrame → Vec ℕ Global → Memory → Buffers → ℕ → CallFrame → Vec ℕ Global → Memory → Buffers → Type 0
RunsHeld m calls frame globals memory before count frame' globals' memory' after' =
    (s : State) → s.status ≡ Going → calls ≡ length s.callers.items + 1
    → StepsHeld (wasm_rule m) (config_of m (in_call s frame globals memory)) before count (config_of m (in_call s frame' globals' memory')) after'
