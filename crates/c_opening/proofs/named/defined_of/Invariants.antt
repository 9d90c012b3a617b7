use Rattle.std.proofs.Common.{drop}
use Rattle.c_types.specs.Units.{defined_in}
use Rattle.c_opening.proofs.NamedLemmas.{AreSoFar}
use Rattle.c_opening.proofs.named.defined_of.Given as goal

abbrev pub invariant-loop-item : goal.invariant-loop-item
invariant-loop-item l = AreSoFar defined_in l.names.keys (drop l.item-index l.items) l.items
