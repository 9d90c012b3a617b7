use Rattle.std.proofs.Common.{◌*◌, refl, sym}
use Rattle.piet_lang.proofs.FoundLemmas.{chart_of}
use Rattle.piet_lang.proofs.chart.Chart.of.Goals as goal

pub invariant_of-result : goal.invariant_of-result
invariant_of-result c =
    let im = c.args.image in
    let b = c.in_ok-blocks.blocks in
    chart_of im b.numbers.items b.sizes.items b.exits.items (im.height * im.width) refl (rw (sym c.image.view_is) c.image.invariant.some) (rw (sym c.image.view_is) c.image.invariant.few) c.in_ok-blocks.ensures
