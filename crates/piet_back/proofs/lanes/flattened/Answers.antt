use Rattle.piet_back.specs.Lanes.{flat}
use Rattle.piet_back.proofs.Drawing.{flat_more}
use Rattle.piet_back.proofs.lanes.flattened.Goals as goal

pub loop-k-preserved : goal.loop-k-preserved
loop-k-preserved c =
    flat_more c.args.p.now.blocks c.loop-k.k c.in-Some.more.now c.loop-k.ops.items c.extend_from_slice.new.self.items (flat c.args.p.now.blocks) c.in-Some.ensures.ops c.loop-k.invariant c.in_ok-extend_from_slice.ensures.items
