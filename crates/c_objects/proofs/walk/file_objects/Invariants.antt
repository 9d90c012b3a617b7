use Rattle.std.proofs.Common.{map, drop}
use Rattle.c_syntax.specs.View.{item_of}
use Rattle.c_objects.proofs.WalkLemmas.{Going}
use Rattle.c_objects.proofs.walk.file_objects.Given as goal

abbrev pub invariant-loop-item : goal.invariant-loop-item
invariant-loop-item l = Going l.fn.types l.types l.fn.declared l.declared l.fn.structs l.structs l.fn.out l.out (map item_of (drop l.item-index l.items)) (map item_of l.items)
