use Rattle.std.proofs.Common.{◌≡◌, false, take}
use Rattle.bf_turn.specs.Number.{any_asks}
use Rattle.bf_turn.proofs.number.any_asks.Given as goal

abbrev pub invariant-loop-op : goal.invariant-loop-op
invariant-loop-op l = any_asks (take l.op-index l.ops) ≡ false
