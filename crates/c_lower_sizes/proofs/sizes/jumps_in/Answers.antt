use Rattle.std.proofs.Common.{◌≤◌, ◌+◌, List, drop, ap, ◌∙◌, arith}
use Rattle.std.proofs.lemmas.List.{drop_all}
use Rattle.eir_core.specs.declared.ops.Op.{Op}
use Rattle.c_place.specs.Code.{jumps}
use Rattle.c_lower_sizes.proofs.SizeLemmas.{jumps_first, one_most, drop_at}
use Rattle.c_lower_sizes.proofs.sizes.jumps_in.Goals as goal

pub loop-op-preserved : goal.loop-op-preserved
loop-op-preserved c =
    let ops = c.args.ops.now in
    let i = c.loop-op.op-index in
    let x = c.op-item.result in
    let rest = drop (i + 1) ops in
    let g = c.loop-op.invariant in
    let next = ap (λ (l : List Op). jumps l) (drop_at ops i x c.loop-op-test.true c.op-item.is) ∙ jumps_first x rest in
    let most : c.jumps_of-count.result ≤ 1 = one_most x c.jumps_of-count.result c.jumps_of-count.ensures in
    (omega (arith, g.0, next, c.jumps_of-count.ensures), omega (arith, g.1, most))

pub returns-clause-jumps : goal.returns-clause-jumps
returns-clause-jumps c =
    let ops = c.args.ops.now in
    let none = ap (λ (l : List Op). jumps l) (drop_all c.loop-op.op-index ops c.loop-op-test.false) in
    let g = c.loop-op.invariant.0 in
    omega (arith, g, none)
