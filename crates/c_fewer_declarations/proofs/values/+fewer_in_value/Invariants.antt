use Rattle.std.proofs.Common.{drop}
use Rattle.c_fewer_declarations.proofs.ValueLemmas.{Making}
use Rattle.c_fewer_declarations.proofs.values.+fewer_in_value.Given as goal

abbrev pub invariant-fewer_in_values-loop-value : goal.invariant-fewer_in_values-loop-value
invariant-fewer_in_values-loop-value l = Making l.fn.types l.types l.here l.trees.items (drop l.value-index l.all.items.items) l.all.items.items
