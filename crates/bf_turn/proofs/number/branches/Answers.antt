use Rattle.std.proofs.Common.{◌≤◌, ◌∙◌, length, sym, ap, arith}
use Rattle.bf_turn.specs.Number.{is_branch, any_branches}
use Rattle.bf_turn.proofs.Listed.{all_ops, none_in_blocks, one_in_block, all_taken}
use Rattle.bf_turn.proofs.number.branches.Goals as goal

pub loop-k-preserved : goal.loop-k-preserved
loop-k-preserved c = none_in_blocks is_branch c.loop-k.k c.args.p.now.blocks c.in-Some.ops.now c.in-Some.ensures.ops (sym c.any_branches.ensures ∙ c.if-any_branches.false) c.loop-k.invariant

pub returns : goal.returns
returns c =
    let all : length c.args.p.now.blocks ≤ c.loop-k.k = omega (arith, c.loop-k-test.false, c.block_count-k-end.ensures.count) in
    sym (ap (λ xs. any_branches (all_ops xs)) (sym (all_taken c.loop-k.k c.args.p.now.blocks all)) ∙ c.loop-k.invariant)

pub returns-then-any_branches : goal.returns-then-any_branches
returns-then-any_branches c = sym (one_in_block is_branch c.loop-k.k c.args.p.now.blocks c.in-Some.ops.now c.in-Some.ensures.ops (sym c.any_branches.ensures ∙ c.if-any_branches.true))
