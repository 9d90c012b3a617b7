use Rattle.std.proofs.Common.{ℕ, List}
use Rattle.c_types.specs.Types.{CType, Tags}
use Rattle.c_types.specs.Table.{known}
use Rattle.c_layouts.specs.Layouts.{AreLayouts}
use Rattle.c_declared.specs.Slots.{AreListed}
use Rattle.c_offsets.proofs.OffsetLemmas.{SoFar}
use Rattle.c_offsets.proofs.offset.words_before.Given as goal

abbrev pub invariant-loop-k : goal.invariant-loop-k
invariant-loop-k l = (all : List (List ℕ × CType)) (tags : Tags) → AreListed (known l.types) l.members.entries all → AreLayouts l.types l.layouts tags → SoFar tags all l.name l.sum l.k
