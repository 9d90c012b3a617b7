use Rattle.std.proofs.Common.{◌≡◌, ◌+◌, length, drop, arith}
use Rattle.std.proofs.lemmas.List.{drop_all}
use Rattle.c_expressions.proofs.GoingLemmas.{drop_at}
use Rattle.c_lower_bases.proofs.ObjectLemmas.{none_sized, one_sized, all_sized}
use Rattle.c_lower_bases.proofs.sizes.sizes_of.Goals as goal

pub loop-cells-init : goal.loop-cells-init
loop-cells-init c = none_sized c.new-sizes.result.items c.args.objects.now c.new-sizes.ensures.items

pub loop-cells-preserved : goal.loop-cells-preserved
loop-cells-preserved c =
    let all = c.args.objects.now in
    let i = c.loop-cells.cells-index in
    let x = c.cells-item.result in
    let many : c.len.result ≡ length x.items = omega (arith, c.len.ensures, x.ok.0) in
    one_sized c.loop-cells.sizes.items c.push.new.self.items x c.len.result (drop i all) (drop (i + 1) all) all c.loop-cells.invariant (drop_at all i x c.loop-cells-test.true c.cells-item.is) many c.in_ok-push.ensures.items

pub returns : goal.returns
returns c =
    let all = c.args.objects.now in
    let i = c.loop-cells.cells-index in
    all_sized c.loop-cells.sizes.items (drop i all) all c.loop-cells.invariant (drop_all i all c.loop-cells-test.false)
