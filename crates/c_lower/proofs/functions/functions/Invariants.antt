use Rattle.std.proofs.Common.{map, drop}
use Rattle.c_syntax.specs.View.{item_of}
use Rattle.c_lower.proofs.WalkLemmas.{Going}
use Rattle.c_lower.proofs.functions.functions.Given as goal

abbrev pub invariant-loop-item : goal.invariant-loop-item
invariant-loop-item l = Going l.fn.here l.here l.fn.structs l.structs l.fn.out l.out l.placed l.k l.block (map item_of (drop l.item-index l.items)) (map item_of l.items)
