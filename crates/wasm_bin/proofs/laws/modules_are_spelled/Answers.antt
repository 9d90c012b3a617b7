use Rattle.wasm_bin.proofs.GrammarModules.{modules_spelled}
use Rattle.wasm_bin.proofs.laws.modules_are_spelled.Goals as goal

pub returns : goal.returns
returns c = modules_spelled
