use Rattle.std.proofs.Common.{◌≡◌, length, Vec, Global, ◌∙◌, arith}
use Rattle.piet_lane.specs.declared.command.Command.{Command}
use Rattle.piet_lane.proofs.Longest.{got, reach_more, below_all}
use Rattle.piet_lane.proofs.board.longest.Goals as goal

pub loop-i-preserved : goal.loop-i-preserved
loop-i-preserved c =
    let lanes = c.args.lanes.now in
    let i = c.loop-i.i in
    let x = c.index-lanes-i.result in
    let size : c.len.result ≡ length x.items = c.len.ensures ∙ x.ok.0 in
    let there = got (λ (v : Vec Command Global). v.items) lanes i x c.loop-i-test.true c.index-lanes-i.is in
    let short = c.requires i x.items there in
    let new = c.larger-reach.result in
    record {
      few = c.larger-reach.ensures.least 512 c.loop-i.invariant.few (omega (arith, size, short));
      reached = reach_more (λ (v : Vec Command Global). v.items) lanes i x c.loop-i.reach new c.loop-i-test.true c.index-lanes-i.is c.loop-i.invariant.reached c.larger-reach.ensures.first (omega (arith, size, c.larger-reach.ensures.second));
      least = λ n r. let long = r i x.items there in c.larger-reach.ensures.least n (c.loop-i.invariant.least n r) (omega (arith, size, long));
    }

pub returns-clause-reached : goal.returns-clause-reached
returns-clause-reached c = λ k lane e.
    let below = below_all (λ (v : Vec Command Global). v.items) c.args.lanes.now k lane e in
    c.loop-i.invariant.reached k lane (omega (arith, below, c.loop-i-test.false)) e
