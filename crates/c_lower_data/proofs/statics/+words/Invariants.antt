use Rattle.c_lower_data.proofs.StaticLemmas.{Going}
use Rattle.c_lower_data.proofs.statics.+words.Given as goal

abbrev pub invariant-add_all-loop-i : goal.invariant-add_all-loop-i
invariant-add_all-loop-i l = Going l.here l.structs l.fn.out l.out l.slots l.i l.values.items.items l.fn.words.items l.words.items
