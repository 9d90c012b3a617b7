use Rattle.c_static.proofs.CellLemmas.{none_added, zero_added}
use Rattle.c_static.proofs.zeros.add_zeros.Goals as goal

pub loop-kind-init : goal.loop-kind-init
loop-kind-init c = none_added c.args.cells.now.items

pub loop-kind-preserved : goal.loop-kind-preserved
loop-kind-preserved c =
    zero_added c.args.cells.now.items c.loop-kind.cells.items c.push.new.self.items c.args.kinds.now c.loop-kind.kind-index _ c.zero_of.result c.loop-kind.invariant c.loop-kind-test.true c.in_ok-push.ensures.items c.zero_of.ensures
