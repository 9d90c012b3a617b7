use Rattle.std.proofs.Common.{sym, ◌∙◌}
use Rattle.bf_ops.specs.Perform.{asks}
use Rattle.bf_turn.proofs.Listed.{none_so_far, one_is}
use Rattle.bf_turn.proofs.number.any_asks.Goals as goal

pub returns-then-asks : goal.returns-then-asks
returns-then-asks c = sym (one_is asks c.loop-op.op-index c.args.ops.now c.op-item.result c.loop-op-test.true c.op-item.is (sym c.asks.ensures ∙ c.if-asks.true))

pub loop-op-preserved : goal.loop-op-preserved
loop-op-preserved c = none_so_far asks c.loop-op.op-index c.args.ops.now c.op-item.result c.loop-op-test.true c.op-item.is (sym c.asks.ensures ∙ c.if-asks.false) c.loop-op.invariant
