use Rattle.std.proofs.Common.{◌≡◌, ◌++◌, map, replicate}
use Rattle.std.specs.List.{flat_map}
use Rattle.c_types.specs.Types.{CType, Tags}
use Rattle.c_types.specs.Table.{HasType}
use Rattle.c_resolved.specs.Same.{kind_in}
use Rattle.c_eval.specs.Environment.{cell_kinds}
use Rattle.c_cells.specs.Structs.{AreStructKinds}
use Rattle.c_cells.proofs.kinds.+add_kinds.Given as goal

abbrev pub decreases-add_kinds : goal.decreases-add_kinds
decreases-add_kinds l = l.ty

abbrev pub invariant-loop-index : goal.invariant-loop-index
invariant-loop-index l = (t : CType) (tags : Tags) → HasType l.types l.of t → AreStructKinds l.types l.structs tags
    → map kind_in l.kinds.items ≡ map kind_in l.fn.kinds.items ++ flat_map (λ x. x) (replicate l._index (cell_kinds tags t))
