use Rattle.wasm_valid.specs.Context.{context_of}
use Rattle.wasm_valid.proofs.Low.{effect_few}
use Rattle.wasm_valid.proofs.state.State.step.Goals as goal

pub apply-requires-clause-few : goal.apply-requires-clause-few
apply-requires-clause-few c = effect_few (context_of c.args.m.now c.args.locals c.args.results) c.args.self.now.frames c.args.instruction.now c.effect_at-effect.result c.requires.few c.effect_at-effect.ensures
