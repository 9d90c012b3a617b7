use Rattle.std.proofs.Common.{drop}
use Rattle.c_fewer_externals.proofs.StaticLemmas.{Making}
use Rattle.c_fewer_externals.proofs.values.+static_value.Given as goal

abbrev pub invariant-static_values-loop-value : goal.invariant-static_values-loop-value
invariant-static_values-loop-value l = Making l.fn.types l.types l.here l.trees.items (drop l.value-index l.all.items.items) l.all.items.items
