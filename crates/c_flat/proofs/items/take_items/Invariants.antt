use Rattle.std.proofs.Common.{map, drop}
use Rattle.c_syntax.specs.View.{item_of}
use Rattle.c_flat.proofs.ItemLemmas.{Going}
use Rattle.c_flat.proofs.items.take_items.Given as goal

abbrev pub invariant-loop-item : goal.invariant-loop-item
invariant-loop-item l = Going l.fn.types l.types l.fn.here l.here l.fn.structs l.structs l.fn.out l.out l.fn.compiled.items l.compiled.items (map item_of (drop l.item-index l.items)) (map item_of l.items)
