use Rattle.wasm_code.proofs.Typed.{valid}
use Rattle.wasm_code.proofs.laws.modules_are_valid.Goals as goal

pub returns : goal.returns
returns c = valid
