use Rattle.std.proofs.Common.{◌≡◌, false, take}
use Rattle.bf_turn.specs.Number.{any_asks}
use Rattle.bf_turn.proofs.Listed.{all_ops}
use Rattle.bf_turn.proofs.number.accesses.Given as goal

abbrev pub invariant-loop-k : goal.invariant-loop-k
invariant-loop-k l = any_asks (all_ops (take l.k l.p.blocks)) ≡ false
