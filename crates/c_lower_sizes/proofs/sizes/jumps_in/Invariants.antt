use Rattle.std.proofs.Common.{◌≡◌, ◌≤◌, ◌+◌, drop}
use Rattle.c_place.specs.Code.{jumps}
use Rattle.c_lower_sizes.proofs.sizes.jumps_in.Given as goal

abbrev pub invariant-loop-op : goal.invariant-loop-op
invariant-loop-op l = (l.count + jumps (drop l.op-index l.ops) ≡ jumps l.ops) × (l.count ≤ l.op-index)
