use Rattle.std.proofs.Common.{map, drop}
use Rattle.c_syntax.specs.Plain.{values}
use Rattle.c_syntax.specs.View.{value_of}
use Rattle.c_lowered.specs.Counts.{firsts_jumps}
use Rattle.c_counted.specs.Rows.{values_of}
use Rattle.c_counted.proofs.GoingLemmas.{Going}
use Rattle.c_counted.proofs.values.+values.Given as goal

abbrev pub invariant-firsts_jumps_of-loop-value : goal.invariant-firsts_jumps_of-loop-value
invariant-firsts_jumps_of-loop-value l = Going l.sum (firsts_jumps (values (map value_of (drop l.value-index l.all.items.items)))) (firsts_jumps (values_of l.all))
