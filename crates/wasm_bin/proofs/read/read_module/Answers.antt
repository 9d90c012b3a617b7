use Rattle.wasm_bin.proofs.Answer.{answered}
use Rattle.wasm_bin.proofs.read.read_module.Goals as goal

pub returns : goal.returns
returns c = answered c.args.bytes.now c.whole.result c.whole.ensures
