use Rattle.c_lower_values.proofs.FirstLemmas.{Going}
use Rattle.c_lower_values.proofs.values.+fills.Given as goal

abbrev pub invariant-fill_all-loop-i : goal.invariant-fill_all-loop-i
invariant-fill_all-loop-i l = Going l.here l.structs l.fn.out l.out l.slots l.at l.k l.d l.i l.place l.block l.values.items.items
