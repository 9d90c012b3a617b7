use Rattle.std.proofs.Common.{◌+◌, ℕ, ap, ◌∙◌}
use Rattle.c_blocks.specs.Counts.{one_if, is_local_part}
use Rattle.c_blocks.proofs.CountLemmas.{count_begun, count_more, count_done}
use Rattle.c_blocks.proofs.counts.local_part_count.Goals as goal

pub loop-p-init : goal.loop-p-init
loop-p-init c = count_begun is_local_part c.args.all.now

pub loop-p-preserved : goal.loop-p-preserved
loop-p-preserved c =
    let l = c.loop-p in
    count_more is_local_part c.args.all.now l.p-index l.count c.in_ok-next.next c.p-item.result l.invariant c.loop-p-test.true c.p-item.is (c.in_ok-next.ensures ∙ ap (λ (n : ℕ). l.count + n) (c.one_if-more.ensures ∙ ap one_if c.is_local_part.ensures))

pub returns : goal.returns
returns c =
    let l = c.loop-p in
    count_done is_local_part c.args.all.now l.p-index l.count l.invariant c.loop-p-test.false
