use Rattle.std.proofs.Common.{◌≡◌, ◌++◌, map, drop}
use Rattle.c_syntax.specs.View.{item_of}
use Rattle.c_helpers.specs.Fewer.{names_at_file_scope}
use Rattle.c_tree_names.specs.Added.{texts}
use Rattle.c_tree_names.proofs.items.add_first_values.Given as goal

-- the names that are there, and those of the externals that are left
abbrev pub invariant-loop-item : goal.invariant-loop-item
invariant-loop-item l = texts l.names.items ++ names_at_file_scope (map item_of (drop l.item-index l.items)) ≡ texts l.fn.names.items ++ names_at_file_scope (map item_of l.items)
