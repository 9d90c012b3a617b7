use Rattle.std.proofs.Common.{sym}
use Rattle.ws_lang.proofs.MachineLemmas.{step_found}
use Rattle.ws_lang.proofs.machine.WsMachineMachine.step.Goals as goal

pub returns-in-None-clause-moved : goal.returns-in-None-clause-moved
returns-in-None-clause-moved c =
    let m = c.args.self.now in
    step_found c.perform.result m.program m.state c.perform.new.self c.place.result c.args.fed c.in-Some.step c.effect-effect.result (sym c.in-None.ensures) c.place.ensures c.in-Some.ensures.step c.effect-effect.ensures c.perform.ensures.ok
