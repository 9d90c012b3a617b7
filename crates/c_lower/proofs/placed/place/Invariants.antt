use Rattle.std.proofs.Common.{drop}
use Rattle.c_lower.proofs.PlacedLemmas.{Placing}
use Rattle.c_lower.proofs.placed.place.Given as goal

abbrev pub invariant-loop-body : goal.invariant-loop-body
invariant-loop-body l = Placing l.addresses l.end l.known.entries l.other l.bodies (drop l.body-index l.bodies)
