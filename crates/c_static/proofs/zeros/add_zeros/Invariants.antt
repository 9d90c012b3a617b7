use Rattle.std.proofs.Common.{map, take}
use Rattle.c_eval.specs.Text.{zero_cells}
use Rattle.c_resolved.specs.Same.{kind_in}
use Rattle.c_static.specs.Cells.{AddsShown}
use Rattle.c_static.proofs.zeros.add_zeros.Given as goal

abbrev pub invariant-loop-kind : goal.invariant-loop-kind
invariant-loop-kind l = AddsShown l.fn.cells.items l.cells.items (zero_cells (map kind_in (take l.kind-index l.kinds)))
