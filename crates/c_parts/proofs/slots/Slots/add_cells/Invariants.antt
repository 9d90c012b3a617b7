use Rattle.std.proofs.Common.{◌≡◌, ◌+◌}
use Rattle.std.specs.Prelude.{replicate}
use Rattle.c_parts.specs.Piles.{with_objects}
use Rattle.c_parts.proofs.slots.Slots.add_cells.Given as goal

abbrev pub invariant-loop-index : goal.invariant-loop-index
invariant-loop-index l = record { slots : l.self ≡ with_objects l.initial.self l.number (replicate l._index 1); number : l.object ≡ l.number + l._index }
