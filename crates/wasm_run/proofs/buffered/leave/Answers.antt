use Rattle.std.proofs.Common.{◌≡◌, Some, refl, rules}
use Rattle.std.specs.Prelude.{slice_get}
use Rattle.wasm_rule.specs.declared.act.Act.TheVariants as act
use Rattle.wasm_run.specs.InCall.{in_call}
use Rattle.wasm_run.proofs.HeldSteps.{inside}
use Rattle.wasm_run.proofs.StateLemmas.{leave_made}
use Rattle.wasm_run.proofs.buffered.leave.Goals as goal

pub returns-in-Some : goal.returns-in-Some
returns-in-Some c = λ jumps globals memory.
    let frame = c.args.frame.now in
    let there : slice_get frame.marks 0 ≡ Some c.in-Some.mark = search rules in
    inside act.Leave jumps frame c.leave.new.self globals memory refl refl c.leave.ensures.body
    (λ m s table within. leave_made m (in_call s frame globals memory) c.in-Some.mark c.leave.new.self there (c.leave.ensures.call m))
