use Rattle.std.proofs.Common.{refl, rules}
use Rattle.wasm_rule.specs.declared.act.Act.TheVariants as act
use Rattle.wasm_run.specs.InCall.{in_call}
use Rattle.wasm_run.proofs.HeldSteps.{inside}
use Rattle.wasm_run.proofs.StateLemmas.{close_made}
use Rattle.std.proofs.Common.{◌≢◌, length}
use Rattle.wasm_run.proofs.buffered.close.Goals as goal

pub returns : goal.returns
returns c = λ jumps globals memory.
    let frame = c.args.frame.now in
    let some : length frame.marks ≢ 0 = search rules in
    inside act.End jumps frame c.close.new.self globals memory refl refl c.close.ensures.body
    (λ m s table within. close_made m (in_call s frame globals memory) frame.marks c.close.new.self refl some (c.close.ensures.call m))
