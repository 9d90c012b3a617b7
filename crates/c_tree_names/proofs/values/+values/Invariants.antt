use Rattle.std.proofs.Common.{◌≡◌, ◌++◌, map, drop}
use Rattle.c_syntax.specs.Plain.{values}
use Rattle.c_syntax.specs.View.{value_of}
use Rattle.c_helpers.specs.Names.{values_names}
use Rattle.c_tree_names.specs.Added.{texts}
use Rattle.c_tree_names.specs.Rows.{values_of}
use Rattle.c_tree_names.proofs.values.+values.Given as goal

-- the names that are there, and those of the values that are left
abbrev pub invariant-add_values-loop-value : goal.invariant-add_values-loop-value
invariant-add_values-loop-value l = texts l.names.items ++ values_names (values (map value_of (drop l.value-index l.all.items.items))) ≡ texts l.fn.names.items ++ values_names (values_of l.all)
