use Rattle.std.proofs.Common.{map, drop}
use Rattle.c_syntax.specs.View.{item_of}
use Rattle.c_desugar.proofs.WalkLemmas.{Going}
use Rattle.c_desugar.proofs.items.pass_items.Given as goal

abbrev pub invariant-loop-item : goal.invariant-loop-item
invariant-loop-item l = Going l.fn.types l.types l.fn.here l.here l.trees.items (map item_of (drop l.item-index l.items)) (map item_of l.items)
