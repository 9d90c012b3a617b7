use Rattle.std.proofs.Common.{◌≡◌, false, take}
use Rattle.bf_turn.specs.Number.{any_branches}
use Rattle.bf_turn.proofs.Listed.{all_ops}
use Rattle.bf_turn.proofs.number.branches.Given as goal

abbrev pub invariant-loop-k : goal.invariant-loop-k
invariant-loop-k l = any_branches (all_ops (take l.k l.p.blocks)) ≡ false
