use Rattle.std.proofs.Common.{◌≡◌, suc, ◌+◌, ◌-◌, sym, ap, subst, ◌∙◌, arith}
use Rattle.piet_image.specs.declared.place.Stand.{Stand}
use Rattle.piet_image.specs.Picture.{ahead}
use Rattle.piet_image.specs.Raster.{picture_of}
use Rattle.piet_image.proofs.Images.{image_atlas}
use Rattle.piet_lang.specs.Step.{turn}
use Rattle.piet_lang.specs.Depart.{Counts, Failed}
use Rattle.piet_lang.proofs.DepartLemmas.{counts_first, counts_second, failed_more, failed_all}
use Rattle.piet_lang.proofs.chart.Chart.leave.Goals as goal

pub returns-then-not-is_blocked-clause-counts : goal.returns-then-not-is_blocked-clause-counts
returns-then-not-is_blocked-clause-counts c =
    let f = picture_of c.args.self.now in
    let atlas = image_atlas c.args.self.now in
    let left : 4 - c.loop-turns._turns ≡ suc (4 - (c.loop-turns._turns + 1)) = omega (arith, c.loop-turns-test.true) in
    counts_first f atlas c.args.stand c.loop-turns.from (4 - c.loop-turns._turns) (4 - (c.loop-turns._turns + 1)) c.meet-met.result left c.loop-turns.invariant c.meet-met.ensures.met c.if-not-is_blocked.ensures

pub returns-then-not-is_blocked-2-clause-counts : goal.returns-then-not-is_blocked-2-clause-counts
returns-then-not-is_blocked-2-clause-counts c =
    let f = picture_of c.args.self.now in
    let atlas = image_atlas c.args.self.now in
    let from = c.loop-turns.from in
    let left : 4 - c.loop-turns._turns ≡ suc (4 - (c.loop-turns._turns + 1)) = omega (arith, c.loop-turns-test.true) in
    let there = c.meet-other.ensures.met ∙ ap (λ (z : Stand). ahead f z.pointer (atlas.exit z.place z.pointer z.chooser)) c.toggled-from.ensures in
    subst (λ z. Counts f atlas c.args.stand z c.meet-other.result) (sym c.toggled-from.ensures)
    (counts_second f atlas c.args.stand from (4 - c.loop-turns._turns) (4 - (c.loop-turns._turns + 1)) c.meet-met.result c.meet-other.result left c.loop-turns.invariant c.meet-met.ensures.met c.if-not-is_blocked.ensures there c.if-not-is_blocked-2.ensures)

pub loop-turns-preserved : goal.loop-turns-preserved
loop-turns-preserved c =
    let f = picture_of c.args.self.now in
    let atlas = image_atlas c.args.self.now in
    let from = c.loop-turns.from in
    let left : 4 - c.loop-turns._turns ≡ suc (4 - (c.loop-turns._turns + 1)) = omega (arith, c.loop-turns-test.true) in
    let there = c.meet-other.ensures.met ∙ ap (λ (z : Stand). ahead f z.pointer (atlas.exit z.place z.pointer z.chooser)) c.toggled-from.ensures in
    subst (λ z. Failed f atlas c.args.stand z (4 - (c.loop-turns._turns + 1))) (sym (c.turned-from.ensures ∙ ap turn c.toggled-from.ensures))
    (failed_more f atlas c.args.stand from (4 - c.loop-turns._turns) (4 - (c.loop-turns._turns + 1)) c.meet-met.result c.meet-other.result left c.loop-turns.invariant c.meet-met.ensures.met c.if-not-is_blocked.ensures there c.if-not-is_blocked-2.ensures)

pub returns-clause-counts : goal.returns-clause-counts
returns-clause-counts c =
    let none : 4 - c.loop-turns._turns ≡ 0 = omega (arith, c.loop-turns-test.false) in
    failed_all (picture_of c.args.self.now) (image_atlas c.args.self.now) c.args.stand c.loop-turns.from (4 - c.loop-turns._turns) none c.loop-turns.invariant
