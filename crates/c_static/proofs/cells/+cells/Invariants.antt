use Rattle.c_static.proofs.CellLemmas.{Going}
use Rattle.c_static.proofs.cells.+cells.Given as goal

abbrev pub invariant-add_all-loop-k : goal.invariant-add_all-loop-k
invariant-add_all-loop-k l = Going l.fn.types l.types l.declared l.structs l.fn.out l.out l.slots l.k l.values.items.items l.fn.cells.items l.cells.items
