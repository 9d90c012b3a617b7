use Rattle.std.proofs.Common.{◌≡◌, map, take}
use Rattle.c_store.specs.Words.{entered}
use Rattle.c_store.specs.Shown.{cell_of}
use Rattle.c_machine.proofs.start.enter_objects.Given as goal

abbrev pub invariant-loop-cells : goal.invariant-loop-cells
invariant-loop-cells l = l.store ≡ entered (map (λ cells. map cell_of cells.items) (take l.cells-index l.plain.objects.items)) l.fn.store
