use Rattle.std.proofs.Common.{arith}
use Rattle.sq_back.proofs.Sizes.{memory_start-few, cells_next}
use Rattle.sq_back.proofs.image.blocks_cells.Goals as goal

pub overflow_add-cells : goal.overflow_add-cells
overflow_add-cells c =
    let next = cells_next c.args.p.now.blocks c.loop-k.k c.in-Some.ops.now c.in-Some.ensures.ops in
    omega (arith, next, memory_start-few c.args.p.now c.requires, c.loop-k.invariant, c.ops_cells-cells.ensures)

pub loop-k-preserved : goal.loop-k-preserved
loop-k-preserved c =
    let next = cells_next c.args.p.now.blocks c.loop-k.k c.in-Some.ops.now c.in-Some.ensures.ops in
    omega (arith, next, c.loop-k.invariant, c.ops_cells-cells.ensures)
