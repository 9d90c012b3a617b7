use Rattle.std.proofs.Common.{◌≡◌, ◌+◌, drop}
use Rattle.sq_back.specs.Code.{blocks_cells}
use Rattle.sq_back.proofs.image.blocks_cells.Given as goal

abbrev pub invariant-loop-k : goal.invariant-loop-k
invariant-loop-k l = l.cells + blocks_cells (drop l.k l.p.blocks) ≡ blocks_cells l.p.blocks
