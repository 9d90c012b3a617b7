use Rattle.std.proofs.Common.{◌≡◌, ◌++◌, drop, map}
use Rattle.piet_back.specs.Lanes.{op_lanes}
use Rattle.piet_back.proofs.lanes.put_op_lanes.Given as goal

abbrev pub invariant-loop-k : goal.invariant-loop-k
invariant-loop-k l = map (λ v. v.items) l.lanes.items ++ op_lanes l.g l.k (drop l.k l.ops) ≡ map (λ v. v.items) l.fn.lanes.items ++ op_lanes l.g 0 l.ops
