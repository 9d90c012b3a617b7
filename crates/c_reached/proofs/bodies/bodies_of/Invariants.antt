use Rattle.std.proofs.Common.{drop}
use Rattle.c_reached.proofs.BodyLemmas.{SoFar}
use Rattle.c_reached.proofs.bodies.bodies_of.Given as goal

abbrev pub invariant-loop-item : goal.invariant-loop-item
invariant-loop-item l = SoFar l.bodies.entries (drop l.item-index l.items) l.items
