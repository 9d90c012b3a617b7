use Rattle.std.proofs.Common.{refl, arith}
use Rattle.c_parts.proofs.Piles.{one_more}
use Rattle.c_parts.proofs.slots.Slots.add_each.Goals as goal

pub loop-length-preserved : goal.loop-length-preserved
loop-length-preserved c = record {
  slots = one_more c.args.self.now c.loop-length.self c.add.new.self c.args.number c.loop-length.object c.loop-length.length-index _ c.args.lengths.now c.loop-length.invariant.slots c.loop-length.invariant.number c.loop-length-test.true refl c.in_ok-add.ensures.ok;
  number = omega (arith, c.in-Some.ensures, c.loop-length.invariant.number);
}
