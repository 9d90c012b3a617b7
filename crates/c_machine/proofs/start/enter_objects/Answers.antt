use Rattle.std.proofs.Common.{map}
use Rattle.c_store.specs.Shown.{cell_of}
use Rattle.c_machine.proofs.Entering.{one_entered}
use Rattle.c_machine.proofs.start.enter_objects.Goals as goal

pub loop-cells-preserved : goal.loop-cells-preserved
loop-cells-preserved c =
    let items = c.deref-cells-items.ensures.value in
    one_entered (λ cells. map cell_of cells.items) c.args.plain.now.objects.items c.cells-item.result c.loop-cells.cells-index c.args.store.now c.loop-cells.store c.enter_cells.new.self c.loop-cells.invariant
    (rw items at c.loop-cells-test.true) (rw items at c.cells-item.is) (rw c.deref.ensures.value at c.in_ok-enter_cells.ensures.ok)
