use Rattle.std.proofs.Common.{◌≤◌, ◌∙◌, length, sym, ap, arith}
use Rattle.bf_ops.specs.Perform.{asks}
use Rattle.bf_turn.specs.Number.{any_asks}
use Rattle.bf_turn.proofs.Listed.{all_ops, none_in_blocks, one_in_block, all_taken}
use Rattle.bf_turn.proofs.number.accesses.Goals as goal

pub loop-k-preserved : goal.loop-k-preserved
loop-k-preserved c = none_in_blocks asks c.loop-k.k c.args.p.now.blocks c.in-Some.ops.now c.in-Some.ensures.ops (sym c.any_asks.ensures ∙ c.if-any_asks.false) c.loop-k.invariant

pub returns : goal.returns
returns c =
    let all : length c.args.p.now.blocks ≤ c.loop-k.k = omega (arith, c.loop-k-test.false, c.block_count-k-end.ensures.count) in
    sym (ap (λ xs. any_asks (all_ops xs)) (sym (all_taken c.loop-k.k c.args.p.now.blocks all)) ∙ c.loop-k.invariant)

pub returns-then-any_asks : goal.returns-then-any_asks
returns-then-any_asks c = sym (one_in_block asks c.loop-k.k c.args.p.now.blocks c.in-Some.ops.now c.in-Some.ensures.ops (sym c.any_asks.ensures ∙ c.if-any_asks.true))
