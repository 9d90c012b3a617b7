use Rattle.std.proofs.Common.{◌≡◌, Some, refl, rules}
use Rattle.std.specs.Prelude.{slice_get}
use Rattle.wasm_rule.specs.declared.act.Act.TheVariants as act
use Rattle.wasm_run.specs.InCall.{in_call}
use Rattle.wasm_run.proofs.HeldSteps.{inside}
use Rattle.wasm_run.proofs.StateLemmas.{branch_made}
use Rattle.wasm_run.proofs.buffered.branch.Goals as goal

pub returns-in-Ok : goal.returns-in-Ok
returns-in-Ok c = λ jumps globals memory.
    let frame = c.args.frame.now in
    let there : slice_get frame.marks c.args.depth ≡ Some c.in-Some.mark = search rules in
    inside (act.Branch c.args.count c.args.depth) jumps frame c.go_out.new.self globals memory refl refl c.go_out.ensures.body
    (λ m s table within. branch_made m (in_call s frame globals memory) c.args.count c.args.depth c.in-Some.mark c.go_out.new.self there (c.in-Ok.ensures.ok m))
