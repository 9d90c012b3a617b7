use Rattle.std.proofs.Common.{◌≡◌, ◌≢◌, false}
use Rattle.mach_core.specs.declared.machine.Status.TheVariants.{Going}
use Rattle.elvm_sample.proofs.Steps.{ends_here}
use Rattle.elvm_sample.proofs.runs.count_steps.Goals as goal

pub returns-then-not-is_going : goal.returns-then-not-is_going
returns-then-not-is_going g c =
    let rule = g.M.Machine.rule (g.M.Machine.code c.args.m.now) in
    let stopped : c.is_going.result ≡ false = c.if-not-is_going.true in
    let still : rule.standing (g.M.Machine.config c.loop-count.m) ≢ Going = λ going. (let yes = c.is_going.ensures.1 (rw c.loop-count.invariant.code going) in cc) in
    ends_here rule (g.M.Machine.config c.args.m.now) (g.M.Machine.config c.loop-count.m) c.loop-count.count c.args.bound c.loop-count.invariant.here still c.loop-count.invariant.before c.requires
