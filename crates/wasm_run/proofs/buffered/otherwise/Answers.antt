use Rattle.std.proofs.Common.{◌≡◌, Some, refl}
use Rattle.std.specs.Prelude.{slice_get}
use Rattle.wasm_rule.specs.declared.act.Act.TheVariants as act
use Rattle.wasm_run.specs.InCall.{in_call}
use Rattle.wasm_run.proofs.HeldSteps.{inside, leads_there, found}
use Rattle.wasm_run.proofs.StateLemmas.{otherwise_made}
use Rattle.wasm_rule.specs.Code.{own_code}
use Rattle.wasm_run.proofs.buffered.otherwise.Goals as goal

pub returns-in-Ok : goal.returns-in-Ok
returns-in-Ok c = λ globals memory.
    let frame = c.args.frame.now in
    let there : slice_get c.args.jumps.now frame.place ≡ Some c.in-Some.jump.now = found c.args.jumps.now frame.place c.in-Some.jump.now c.in-Some.ensures.lookup.3.0 c.in-Some.ensures.lookup.1 in
    inside (act.Otherwise c.args.gives) c.args.jumps.now frame c.enter.new.self globals memory refl refl c.enter.ensures.body
    (λ m s table within. otherwise_made m (in_call s frame globals memory) c.args.gives c.in-Some.jump.now c.enter.new.self (c.in-Ok.ensures.ok m)
    (leads_there (own_code m frame.body) c.args.jumps.now frame.place c.in-Some.jump.now table within there))
