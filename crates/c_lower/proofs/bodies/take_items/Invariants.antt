use Rattle.std.proofs.Common.{map, drop}
use Rattle.c_syntax.specs.View.{item_of}
use Rattle.c_lower.proofs.BodyLemmas.{Gathering}
use Rattle.c_lower.proofs.bodies.take_items.Given as goal

abbrev pub invariant-loop-item : goal.invariant-loop-item
invariant-loop-item l = Gathering l.fn.types l.types l.fn.declared l.declared l.fn.bodies l.bodies (map item_of (drop l.item-index l.items)) (map item_of l.items)
