use Rattle.std.proofs.Common.{map}
use Rattle.c_types.specs.Types.{Tags}
use Rattle.c_types.specs.Declarations as plain
use Rattle.c_resolved.specs.Same.{kind_in}
use Rattle.c_declared.specs.Slots.{AreSlots}
use Rattle.c_cells.specs.Structs.{AreStructKinds}
use Rattle.c_cells.proofs.KindLemmas.{IsGoing}
use Rattle.c_cells.proofs.left.add_left.Given as goal

abbrev pub invariant-loop-k : goal.invariant-loop-k
invariant-loop-k l = (s : plain.Slots) (tags : Tags) → AreSlots l.types l.layouts l.slots s → AreStructKinds l.types l.structs tags
    → IsGoing tags s l.from l.k (map kind_in l.fn.kinds.items) (map kind_in l.kinds.items)
