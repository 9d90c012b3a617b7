use Rattle.std.proofs.Common.{map, drop}
use Rattle.c_syntax.specs.View.{item_of}
use Rattle.c_lower_data.proofs.EntryLemmas.{Entering}
use Rattle.c_lower_data.proofs.blocks.entries.Given as goal

abbrev pub invariant-loop-item : goal.invariant-loop-item
invariant-loop-item l = Entering l.entries.entries l.block (map item_of l.items) (map item_of (drop l.item-index l.items))
