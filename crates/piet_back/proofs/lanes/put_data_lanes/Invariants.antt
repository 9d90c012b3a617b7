use Rattle.std.proofs.Common.{◌≡◌, ◌++◌, drop, map}
use Rattle.piet_back.specs.Lanes.{data_lanes}
use Rattle.piet_back.proofs.lanes.put_data_lanes.Given as goal

abbrev pub invariant-loop-k : goal.invariant-loop-k
invariant-loop-k l = map (λ v. v.items) l.lanes.items ++ data_lanes l.g l.k (drop l.k l.words) ≡ map (λ v. v.items) l.fn.lanes.items ++ data_lanes l.g 0 l.words
