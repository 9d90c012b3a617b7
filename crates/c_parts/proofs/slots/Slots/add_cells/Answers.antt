use Rattle.std.proofs.Common.{arith}
use Rattle.c_parts.proofs.Piles.{one_cell_more}
use Rattle.c_parts.proofs.slots.Slots.add_cells.Goals as goal

pub loop-index-preserved : goal.loop-index-preserved
loop-index-preserved c = record {
  slots = one_cell_more c.args.self.now c.loop-index.self c.add.new.self c.args.number c.loop-index.object c.loop-index._index c.loop-index.invariant.slots c.loop-index.invariant.number c.in_ok-add.ensures.ok;
  number = omega (arith, c.in-Some.ensures, c.loop-index.invariant.number);
}
