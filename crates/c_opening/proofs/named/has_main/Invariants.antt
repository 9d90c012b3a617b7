use Rattle.std.proofs.Common.{◌≡◌, map, drop}
use Rattle.std.specs.List.{list_any}
use Rattle.c_syntax.specs.View.{item_of}
use Rattle.c_types.specs.Units.{is_main}
use Rattle.c_opening.proofs.named.has_main.Given as goal

abbrev pub invariant-loop-item : goal.invariant-loop-item
invariant-loop-item l = list_any is_main (map item_of l.items) ≡ list_any is_main (map item_of (drop l.item-index l.items))
