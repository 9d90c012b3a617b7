-- How the last call of a run goes on.
use Rattle.std.specs.Prelude.{◌≡◌, ℕ, ◌+◌, Bool, List, [], ◌∷◌, ◌++◌}
use Rattle.mach_core.specs.declared.machine.Status.TheVariants.{Going, Ended}
use Rattle.mach_core.specs.Rule.{applied, input_at}
use Rattle.mach_core.specs.Silent.{StepsSilently}
use Rattle.wasm_bin.specs.declared.module.Instr.{Instr}
use Rattle.wasm_bin.specs.declared.module.Module.{Module}
use Rattle.wasm_rule.specs.Config.{Label, Call, Config}
use Rattle.wasm_rule.specs.Rule.{wasm_rule}
use Rattle.wasm_build.specs.Straight.{Stage}

-- what stays: whether the call gives a value, the calls that it was made in, and those that come later
pub record Around : Type 0 where
  pub gives : Bool
  pub callers : List Call
  pub later : List Call

-- what the call works on, the blocks that are open, the innermost first, and the instructions that come next
pub record Spot : Type 0 where
  pub stage : Stage
  pub labels : List Label
  pub code : List Instr

abbrev pub spot : Stage → List Label → List Instr → Spot
spot stage labels code = record { stage = stage; labels = labels; code = code }

abbrev pub call_at : Around → Spot → Call
call_at around here = record { gives = around.gives; locals = here.stage.locals; values = here.stage.values; labels = here.labels; code = here.code }

-- the configuration where the last call is there
abbrev pub config_at : Around → Spot → Config
config_at around here = record {
  globals = here.stage.globals;
  memory = here.stage.memory;
  calls = call_at around here ∷ around.callers;
  later = around.later;
  status = Going;
}

-- so many steps that neither take nor write a byte lead from here to there
pub record Leads (m : Module) (here : Spot) (count : ℕ) (there : Spot) : Type 0 where
  pub silent : (around : Around) → StepsSilently (wasm_rule m) (config_at around here) count (config_at around there)

-- the run ends with this step, which neither takes nor writes a byte
pub record Ends (m : Module) (here : Spot) : Type 0 where
  pub silent : (gives : Bool) → let around : Around = record { gives = gives; callers = []; later = [] } in
      StepsSilently (wasm_rule m) (config_at around here) 1 (record (config_at around here) { status = Ended })

-- a step that takes a byte leads from here to what the byte makes of it
pub record Takes (m : Module) (here : Spot) (there : ℕ → Spot) : Type 0 where
  pub step : (around : Around) (input : List ℕ) (taken : ℕ) (output : List ℕ) →
      applied (wasm_rule m) input (record { config = config_at around here; taken = taken; output = output })
      ≡ record { config = config_at around (there (input_at input taken)); taken = taken + 1; output = output }

-- a step that writes a byte leads from here to there
pub record Writes (m : Module) (here : Spot) (byte : ℕ) (there : Spot) : Type 0 where
  pub step : (around : Around) (input : List ℕ) (taken : ℕ) (output : List ℕ) →
      applied (wasm_rule m) input (record { config = config_at around here; taken = taken; output = output })
      ≡ record { config = config_at around there; taken = taken; output = output ++ byte ∷ [] }
