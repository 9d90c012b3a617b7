use Rattle.std.proofs.Common.{◌<◌, ◌≤◌, length, arith}
use Rattle.std.specs.Prelude.{min}
use Rattle.c_lower_bases.proofs.BaseLemmas.{none_based, one_based, all_based}
use Rattle.c_lower_bases.proofs.bases.file_bases.Goals as goal

pub loop-index-init : goal.loop-index-init
loop-index-init c = none_based c.new-bases.result.items c.args.from c.args.given.now c.args.sizes.now c.new-bases.ensures.items

pub loop-index-preserved : goal.loop-index-preserved
loop-index-preserved c =
    let gs = c.args.given.now in
    let ns = c.args.sizes.now in
    let i = c.loop-index.index in
    let in_gs : i < length gs = omega (arith, c.loop-index-test.true, c.least-count.ensures) in
    let in_ns : i < length ns = omega (arith, c.loop-index-test.true, c.least-count.ensures) in
    one_based c.loop-index.bases.items c.push.new.self.items c.args.from c.loop-index.ends c.ends_behind-ends.result i gs ns c.given_at-first.result c.size_at-size.result c.base_at-base.result c.loop-index.invariant in_gs in_ns
    c.given_at-first.ensures c.size_at-size.ensures c.in_ok-push.ensures.items (λ a b h. c.base_at-base.ensures a b h) (λ a b h. c.ends_behind-ends.ensures a b h)

pub returns : goal.returns
returns c = λ a b h.
    let gs = c.args.given.now in
    let ns = c.args.sizes.now in
    let i = c.loop-index.index in
    let past : min (length gs) (length ns) ≤ i = omega (arith, c.loop-index-test.false, c.least-count.ensures) in
    all_based c.loop-index.bases.items c.args.from c.loop-index.ends i gs ns c.loop-index.invariant past a b h
