use Rattle.std.proofs.Common.{drop}
use Rattle.c_opening.specs.Named.{tags_in}
use Rattle.c_opening.proofs.NamedLemmas.{AreSoFar}
use Rattle.c_opening.proofs.named.tags_of.Given as goal

abbrev pub invariant-loop-item : goal.invariant-loop-item
invariant-loop-item l = AreSoFar tags_in l.tags.keys (drop l.item-index l.items) l.items
