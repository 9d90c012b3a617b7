use Rattle.std.proofs.Common.{◌≡◌, ◌++◌, drop}
use Rattle.piet_back.specs.Lanes.{flat}
use Rattle.piet_back.proofs.lanes.flattened.Given as goal

abbrev pub invariant-loop-k : goal.invariant-loop-k
invariant-loop-k l = l.ops.items ++ flat (drop l.k l.p.blocks) ≡ flat l.p.blocks
