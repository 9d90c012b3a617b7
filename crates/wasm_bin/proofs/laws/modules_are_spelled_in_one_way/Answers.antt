use Rattle.wasm_bin.proofs.Answer.{one_module}
use Rattle.wasm_bin.proofs.laws.modules_are_spelled_in_one_way.Goals as goal

pub returns : goal.returns
returns c = one_module
