use Rattle.c_reached.proofs.BodyLemmas.{drop_at, none_yet, one_more, all_bodies}
use Rattle.c_reached.proofs.bodies.bodies_of.Goals as goal

pub loop-item-init : goal.loop-item-init
loop-item-init c = none_yet c.new-bodies.result.entries c.args.items.now c.new-bodies.ensures.empty

pub loop-item-preserved : goal.loop-item-preserved
loop-item-preserved c =
    let items = c.args.items.now in
    let i = c.loop-item.item-index in
    one_more c.loop-item.bodies.entries c.put_item.new.bodies.entries items i c.item-item.result c.in_ok-put_item.ensures (drop_at items i c.item-item.result c.loop-item-test.true c.item-item.is) c.loop-item.invariant

pub returns : goal.returns
returns c = all_bodies c.loop-item.bodies.entries c.args.items.now c.loop-item.item-index c.loop-item-test.false c.loop-item.invariant
