use Rattle.std.proofs.Common.{◌≡◌, ◌≤◌, ◌+◌, length}
use Rattle.bf_lang.specs.Cells.{cells_from}
use Rattle.bf_lang.proofs.state.grow.Given as goal

abbrev pub invariant-loop-k : goal.invariant-loop-k
invariant-loop-k l = record {
  same : cells_from 0 l.cells.items ≡ cells_from 0 l.fn.cells.items;
  more : length l.fn.cells.items + l._k ≤ length l.cells.items;
}
