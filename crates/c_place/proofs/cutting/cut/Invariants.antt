use Rattle.std.proofs.Common.{◌≡◌, ◌++◌, drop, map}
use Rattle.c_place.specs.Code.{cut}
use Rattle.c_place.proofs.Gluing.{glued}
use Rattle.c_place.proofs.cutting.cut.Given as goal

abbrev pub invariant-loop-op : goal.invariant-loop-op
invariant-loop-op l = cut l.ops ≡ map (λ b. b.items) l.blocks.items ++ glued l.block.items (cut (drop l.op-index l.ops))
