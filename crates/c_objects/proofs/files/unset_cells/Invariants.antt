use Rattle.std.proofs.Common.{◌≡◌, replicate}
use Rattle.c_store.specs.declared.value.Cell.TheVariants.{Unset}
use Rattle.c_objects.proofs.files.unset_cells.Given as goal

abbrev pub invariant-loop-index : goal.invariant-loop-index
invariant-loop-index l = l.cells.items ≡ replicate l._index Unset
