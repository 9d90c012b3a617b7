use Rattle.std.proofs.Common.{sym, ◌∙◌}
use Rattle.bf_turn.specs.Number.{is_branch}
use Rattle.bf_turn.proofs.Listed.{none_so_far, one_is}
use Rattle.bf_turn.proofs.number.any_branches.Goals as goal

pub returns-then-is_branch : goal.returns-then-is_branch
returns-then-is_branch c = sym (one_is is_branch c.loop-op.op-index c.args.ops.now c.op-item.result c.loop-op-test.true c.op-item.is (sym c.is_branch.ensures ∙ c.if-is_branch.true))

pub loop-op-preserved : goal.loop-op-preserved
loop-op-preserved c = none_so_far is_branch c.loop-op.op-index c.args.ops.now c.op-item.result c.loop-op-test.true c.op-item.is (sym c.is_branch.ensures ∙ c.if-is_branch.false) c.loop-op.invariant
