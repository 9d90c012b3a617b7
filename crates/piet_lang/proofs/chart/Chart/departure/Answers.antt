use Rattle.std.proofs.Common.{[], Some, sym, ap, subst, ◌∙◌}
use Rattle.piet_image.specs.declared.colour.Colour.{Colour}
use Rattle.piet_image.specs.Raster.{Raster, picture_of}
use Rattle.piet_image.specs.Slide.{Slides}
use Rattle.piet_image.proofs.Images.{image_atlas}
use Rattle.piet_lang.proofs.DepartLemmas.{met_white, departs_white}
use Rattle.piet_lang.proofs.chart.Chart.departure.Goals as goal

pub enter-requires-clause-white : goal.enter-requires-clause-white
enter-requires-clause-white c = λ q e. met_white (picture_of c.args.self.now) (image_atlas c.args.self.now) c.args.stand c.in-Some.from c.in-Some.met c.in-Some.ensures.counts q e

pub returns-in_ok-end-in-Some-White : goal.returns-in_ok-end-in-Some-White
returns-in_ok-end-in-Some-White c =
    let im = c.args.self.now in
    let end = c.in_ok-end-in-Some-White.end in
    let is = sym (ap (λ (o : Colour). Some o) (sym c.in-Some-White.field-0-is) ∙ (c.in-Some-White.ensures.colour ∙ ap (λ (i : Raster). picture_of i c.args.stand.place) c.self.view_is)) in
    let slides = subst (λ (i : Raster). Slides (picture_of i) [] c.args.stand end) c.self.view_is c.in_ok-end-in-Some-White.ensures in
    c.slid_to.ensures ∙ departs_white (picture_of im) (image_atlas im) c.args.stand end is slides
