use Rattle.std.proofs.Common.{◌≡◌, ◌+◌, take}
use Rattle.c_parts.specs.Piles.{with_objects}
use Rattle.c_parts.proofs.slots.Slots.add_each.Given as goal

abbrev pub invariant-loop-length : goal.invariant-loop-length
invariant-loop-length l = record { slots : l.self ≡ with_objects l.initial.self l.number (take l.length-index l.lengths); number : l.object ≡ l.number + l.length-index }
