use Rattle.std.proofs.Common.{map, drop}
use Rattle.c_syntax.specs.View.{item_of}
use Rattle.c_lower.proofs.TextLemmas.{Going}
use Rattle.c_lower.proofs.texts.take_items.Given as goal

abbrev pub invariant-loop-item : goal.invariant-loop-item
invariant-loop-item l = Going l.fn.types l.types l.fn.declared l.declared l.fn.texts.items l.texts.items (map item_of (drop l.item-index l.items)) (map item_of l.items)
