use Rattle.std.proofs.Common.{◌≡◌, false, take}
use Rattle.bf_turn.specs.Number.{any_branches}
use Rattle.bf_turn.proofs.number.any_branches.Given as goal

abbrev pub invariant-loop-op : goal.invariant-loop-op
invariant-loop-op l = any_branches (take l.op-index l.ops) ≡ false
