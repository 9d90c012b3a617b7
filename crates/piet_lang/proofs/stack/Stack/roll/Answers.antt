use Rattle.std.proofs.Common.{length, ap, arith}
use Rattle.piet_lang.proofs.StackLemmas.{length-values}
use Rattle.piet_lang.proofs.stack.Stack.roll.Goals as goal

pub roll_slots-requires-clause-deep : goal.roll_slots-requires-clause-deep
roll_slots-requires-clause-deep c = omega (arith, c.requires.deep, ap length c.self.view_is, length-values c.self.inside.slots.items c.self.inside.len c.self.invariant)
