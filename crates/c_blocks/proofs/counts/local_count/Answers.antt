use Rattle.std.proofs.Common.{◌+◌, ℕ, ap, ◌∙◌}
use Rattle.c_blocks.specs.Counts.{one_if, is_local}
use Rattle.c_blocks.proofs.CountLemmas.{count_begun, count_more, count_done}
use Rattle.c_blocks.proofs.counts.local_count.Goals as goal

pub loop-t-init : goal.loop-t-init
loop-t-init c = count_begun is_local c.args.all.now

pub loop-t-preserved : goal.loop-t-preserved
loop-t-preserved c =
    let l = c.loop-t in
    count_more is_local c.args.all.now l.t-index l.count c.in_ok-next.next c.t-item.result l.invariant c.loop-t-test.true c.t-item.is (c.in_ok-next.ensures ∙ ap (λ (n : ℕ). l.count + n) (c.one_if-more.ensures ∙ ap one_if c.is_local.ensures))

pub returns : goal.returns
returns c =
    let l = c.loop-t in
    count_done is_local c.args.all.now l.t-index l.count l.invariant c.loop-t-test.false
