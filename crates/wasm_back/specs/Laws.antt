-- Laws of the translation.
use Rattle.std.specs.Prelude.{◌≡◌, ℕ, ◌+◌, ◌≤◌, ◌^◌, length, List, Option, Some}
use Rattle.mach_core.specs.declared.machine.Status.TheVariants.{Going}
use Rattle.mach_core.specs.Rule.{Moment, IsInput, applied, run_from}
use Rattle.eir_core.specs.declared.ops.Op.{Op}
use Rattle.eir_core.specs.declared.ops.Op.TheVariants.{Jump, JumpIf}
use Rattle.eir_core.specs.Eir.{Eir, IsEir, size_of}
use Rattle.eir_core.specs.Step.{Config, op_at, eir_rule}
use Rattle.sim_trait.specs.Alike.{Alike}
use Rattle.sim_trait.specs.Laws.{Loads, Simulates, Translates}
use Rattle.wasm_rule.specs.Config as wasm
use Rattle.wasm_rule.specs.Rule.{wasm_rule}
use Rattle.wasm_rule.specs.Spells.{WasmSpells}
use Rattle.wasm_rule.specs.Start.{wasm_start}
use Rattle.wasm_code.specs.Emitted.{module_for}
use Rattle.wasm_back.specs.Related.{Related}
use Rattle.wasm_back.specs.Slowdown.{wasm_slowdown}

-- the module for each program that is not too large does what the program does
abbrev pub ModuleSimulates : Type 0
ModuleSimulates = (p : Eir) → IsEir p → size_of p ≤ 2 ^ 16 → Simulates (wasm_rule (module_for p)) (wasm_start (module_for p)) (Related p (module_for p)) wasm_slowdown p

-- bytes of the module for a program
abbrev pub StandsFor : Eir → List ℕ → Type 0
StandsFor p bytes = Translates WasmSpells wasm_rule wasm_start Related wasm_slowdown p bytes (module_for p)

-- it comes to the program's start in five steps and one for each block, whatever the data words
abbrev pub FewStepsLoad : Type 0
FewStepsLoad = (p : Eir) → IsEir p → size_of p ≤ 2 ^ 16 → Loads (wasm_rule (module_for p)) (wasm_start (module_for p)) (Related p (module_for p)) (length p.blocks + 5) p

-- the most steps in which an operation goes round the loop to a block, of so many: none, unless it is a jump
abbrev pub going_round : ℕ → Option Op → ℕ
going_round n (Some (Jump target)) = n + 3
going_round n (Some (JumpIf test target r v)) = n + 3
going_round n _ = 0

-- a step of the program is followed by eight steps at most, besides those in which a jump goes round the loop
abbrev pub FewStepsFollow : Type 0
FewStepsFollow =
    (p : Eir) (input : List ℕ) (s : Moment Config) (m : Moment wasm.Config) → IsEir p → size_of p ≤ 2 ^ 16 → IsInput input
    → Alike (Related p (module_for p)) s m → (eir_rule p).standing s.config ≡ Going
    → (k : ℕ) × (1 ≤ k) × (k ≤ 8 + going_round (length p.blocks) (op_at p s.config)) × Alike (Related p (module_for p)) (applied (eir_rule p) input s) (run_from (wasm_rule (module_for p)) input m k)
