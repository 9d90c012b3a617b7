use Rattle.c_flat.proofs.FirstLemmas.{Going}
use Rattle.c_flat.proofs.values.+fills.Given as goal

abbrev pub invariant-fill_all-loop-k : goal.invariant-fill_all-loop-k
invariant-fill_all-loop-k l = Going l.fn.types l.types l.here l.structs l.fn.out l.out l.slots l.k l.slot l.fn.offset l.place l.values.items.items
