use Rattle.std.proofs.Common.{subst, arith}
use Rattle.piet_lang.specs.Chart.{IsLast, chooser_at}
use Rattle.piet_lang.proofs.ExitLemmas.{adds_none, adds_more, adds_all}
use Rattle.piet_lang.proofs.exits.add_exits.Goals as goal

pub loop-k-init : goal.loop-k-init
loop-k-init c = adds_none c.args.members.now c.args.exits.now.items

pub loop-k-preserved : goal.loop-k-preserved
loop-k-preserved c =
    let members = c.args.members.now in
    let last = subst (λ d. IsLast members d (chooser_at c.loop-k.k) c.last_of-exit.result) c.pointer_at.ensures (subst (λ h. IsLast members c.pointer_at.result h c.last_of-exit.result) c.chooser_at.ensures c.last_of-exit.ensures) in
    rw c.in_ok-push.ensures.items (adds_more members c.args.exits.now.items c.loop-k.exits.items c.loop-k.k c.last_of-exit.result c.loop-k.invariant last)

pub returns : goal.returns
returns c = adds_all c.args.members.now c.args.exits.now.items c.loop-k.exits.items c.loop-k.k (omega arith) c.loop-k.invariant
