use Rattle.std.proofs.Common.{◌≡◌, ◌+◌, ◌*◌, ◌≤◌, drop}
use Rattle.sq_back.specs.Code.{ops_cells}
use Rattle.sq_back.proofs.op.ops_cells.Given as goal

abbrev pub invariant-loop-op : goal.invariant-loop-op
invariant-loop-op l = record {
  whole : l.cells + ops_cells (drop l.op-index l.ops) ≡ ops_cells l.ops;
  few : l.cells ≤ 42 * l.op-index;
}
