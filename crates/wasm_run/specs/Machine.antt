-- What a machine executes, and what it is at.
use Rattle.wasm_rule.specs.declared.act.Act.TheVariants as act
use Rattle.wasm_rule.specs.Memory.{ByteMap, WantsPage, bytes_of}
use Rattle.wasm_bin.specs.declared.module.Module.{Module}
use Rattle.wasm_rule.specs.declared.act.Act.{Act}
use Rattle.wasm_run.specs.declared.machine.WasmMachine.{WasmMachine}
use Rattle.wasm_run.specs.declared.state.State.{State}
use Rattle.wasm_rule.specs.Config.{Config}
use Rattle.wasm_rule.specs.Rule.{act_at}
use Rattle.wasm_run.specs.States.{config_of}

-- the module that it executes
abbrev pub module_of : WasmMachine → Module
module_of machine = machine.linked

-- the configuration that it is in
abbrev pub state_of : WasmMachine → Config
state_of machine = config_of machine.linked machine.state

-- what the next step does
abbrev pub next_act_of : Module → State → Act
next_act_of m s = act_at m (config_of m s) (config_of m s).calls

-- memory may be wanted for the act: for a store only where a byte other than 0 goes into a page of zeros
abbrev pub MayWant : ByteMap → Act → Type 0
MayWant bytes (act.Store count address word) = WantsPage bytes address (bytes_of count word)
MayWant bytes (act.Take count) = ⊥
MayWant bytes (act.SetLocal count k value) = ⊥
MayWant bytes (act.SetGlobal k value) = ⊥
MayWant bytes (act.Write byte) = ⊥
MayWant bytes (act.Stop code) = ⊥
MayWant bytes _ = Unit {0}
