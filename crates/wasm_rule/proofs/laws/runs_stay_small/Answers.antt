use Rattle.std.proofs.Common.{◌≤◌, Option, None, Some, arith}
use Rattle.wasm_bin.specs.declared.module.Limits.{Limits}
use Rattle.wasm_bin.specs.Limits.{HasFewPages}
use Rattle.wasm_bin.proofs.Kept.{kept}
use Rattle.wasm_rule.specs.Start.{least_in}
use Rattle.wasm_rule.proofs.Bounds.{stays_small}
use Rattle.wasm_rule.proofs.laws.runs_stay_small.Goals as goal

few_at_start : (memory : Option Limits) → HasFewPages memory → least_in memory ≤ 1024
few_at_start None h = omega arith
few_at_start (Some l) h = h

pub returns : goal.returns
returns c = λ bytes m input spelled n. stays_small m input (few_at_start m.memory (kept bytes m spelled).pages) n
