use Rattle.std.proofs.Common.{refl}
use Rattle.wasm_rule.specs.declared.act.Act.TheVariants as act
use Rattle.wasm_run.proofs.HeldSteps.{inside, call_is}
use Rattle.wasm_run.proofs.buffered.put.Goals as goal

pub returns-in-Ok : goal.returns-in-Ok
returns-in-Ok c = λ jumps globals memory.
    inside (act.Put c.args.count c.args.value) jumps c.args.frame.now c.put.new.self globals memory refl refl c.put.ensures.body
    (λ m s table within. call_is m s globals memory c.args.frame.now c.put.new.self _ (c.in-Ok.ensures.ok m))
