use Rattle.std.proofs.Common.{map, drop}
use Rattle.c_syntax.specs.View.{item_of}
use Rattle.c_lower.proofs.WordLemmas.{Going}
use Rattle.c_lower.proofs.words.add_words.Given as goal

abbrev pub invariant-loop-item : goal.invariant-loop-item
invariant-loop-item l = Going l.fn.out l.out l.fn.here l.here l.fn.structs l.structs l.number l.fn.words.items l.words.items (map item_of (drop l.item-index l.items)) (map item_of l.items)
