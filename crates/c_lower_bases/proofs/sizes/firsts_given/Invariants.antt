use Rattle.std.proofs.Common.{map, drop}
use Rattle.c_syntax.specs.View.{item_of}
use Rattle.c_lower_bases.proofs.ObjectLemmas.{Telling}
use Rattle.c_lower_bases.proofs.sizes.firsts_given.Given as goal

abbrev pub invariant-loop-item : goal.invariant-loop-item
invariant-loop-item l = Telling l.given.items (map item_of (drop l.item-index l.items)) (map item_of l.items)
