use Rattle.std.proofs.Common.{◌≡◌, ◌++◌, drop, map}
use Rattle.piet_back.specs.Lanes.{second_lanes}
use Rattle.piet_back.proofs.lanes.put_second_lanes.Given as goal

abbrev pub invariant-loop-k : goal.invariant-loop-k
invariant-loop-k l = map (λ v. v.items) l.lanes.items ++ second_lanes l.g l.k (drop l.k l.ops) ≡ map (λ v. v.items) l.fn.lanes.items ++ second_lanes l.g 0 l.ops
