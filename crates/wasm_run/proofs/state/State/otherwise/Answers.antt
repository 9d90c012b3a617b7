use Rattle.wasm_run.proofs.StateLemmas.{otherwise_done}
use Rattle.wasm_run.proofs.state.State.otherwise.Goals as goal

pub returns-clause-ok : goal.returns-clause-ok
returns-clause-ok c = otherwise_done c.enter.result c.args.self.now c.args.gives c.args.jump c.enter.new.self c.enter.ensures.ok
