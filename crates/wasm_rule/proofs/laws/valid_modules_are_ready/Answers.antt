use Rattle.wasm_rule.proofs.FittingRuns.{runs_ready}
use Rattle.wasm_rule.proofs.laws.valid_modules_are_ready.Goals as goal

pub returns : goal.returns
returns c = runs_ready
