use Rattle.wasm_run.proofs.StateLemmas.{block_done}
use Rattle.wasm_run.proofs.state.State.block.Goals as goal

pub returns-clause-ok : goal.returns-clause-ok
returns-clause-ok c = block_done c.enter.result c.args.self.now c.args.count c.args.gives c.args.jump c.enter.new.self c.enter.ensures.ok
