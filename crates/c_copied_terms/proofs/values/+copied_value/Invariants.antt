use Rattle.std.proofs.Common.{◌≡◌, ◌++◌, map, drop}
use Rattle.c_syntax.specs.View.{value_of}
use Rattle.c_copied_terms.proofs.values.+copied_value.Given as goal

abbrev pub invariant-copied_values-loop-value : goal.invariant-copied_values-loop-value
invariant-copied_values-loop-value l = map value_of l.copies.items ++ map value_of (drop l.value-index l.all.items.items) ≡ map value_of l.all.items.items
