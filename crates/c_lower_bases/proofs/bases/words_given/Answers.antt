use Rattle.std.proofs.Common.{◌<◌, ◌≤◌, length, arith}
use Rattle.std.specs.Prelude.{min}
use Rattle.c_lower_bases.specs.Bases.{words_of_one}
use Rattle.c_lower_bases.proofs.BaseLemmas.{none_summed, one_summed, all_summed}
use Rattle.c_lower_bases.proofs.bases.words_given.Goals as goal

pub loop-index-init : goal.loop-index-init
loop-index-init c = none_summed c.args.wanted c.args.given.now c.args.sizes.now

pub loop-index-preserved : goal.loop-index-preserved
loop-index-preserved c =
    let gs = c.args.given.now in
    let ns = c.args.sizes.now in
    let i = c.loop-index.index in
    let g = c.given_at-first.result in
    let n = c.size_at-size.result in
    let in_gs : i < length gs = omega (arith, c.loop-index-test.true, c.least-count.ensures) in
    let in_ns : i < length ns = omega (arith, c.loop-index-test.true, c.least-count.ensures) in
    one_summed c.loop-index.words c.plus-words.result i c.args.wanted gs ns g n c.loop-index.invariant in_gs in_ns c.given_at-first.ensures c.size_at-size.ensures (λ k h. c.plus-words.ensures k (words_of_one c.args.wanted g n) h c.words_of-own.ensures)

pub returns : goal.returns
returns c =
    let gs = c.args.given.now in
    let ns = c.args.sizes.now in
    let i = c.loop-index.index in
    let past : min (length gs) (length ns) ≤ i = omega (arith, c.loop-index-test.false, c.least-count.ensures) in
    all_summed c.loop-index.words i c.args.wanted gs ns c.loop-index.invariant past
