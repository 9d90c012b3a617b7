use Rattle.std.proofs.Common.{[], Option, Some, sym, ap, subst, ◌∙◌}
use Rattle.piet_image.specs.Raster.{Raster, picture_of}
use Rattle.piet_image.specs.Slide.{Slides}
use Rattle.piet_image.proofs.Images.{image_atlas}
use Rattle.piet_lang.specs.declared.act.Departure.{Departure}
use Rattle.piet_lang.specs.Step.{attempt_on}
use Rattle.piet_lang.proofs.DepartLemmas.{enters_white}
use Rattle.piet_lang.proofs.chart.Chart.enter.Goals as goal

pub returns-in_ok-end-in-Free : goal.returns-in_ok-end-in-Free
returns-in_ok-end-in-Free c =
    let im = c.args.self.now in
    let q = c.in-Free.place in
    let end = c.in_ok-end-in-Free.end in
    let slides = subst (λ s. Slides (picture_of im) [] s end) c.standing-in-Free.ensures (subst (λ (i : Raster). Slides (picture_of i) [] c.standing-in-Free.result end) c.self.view_is c.in_ok-end-in-Free.ensures) in
    ap (λ m. attempt_on (image_atlas im).slid c.args.hue c.args.light c.args.from m) c.in-Free.is
    ∙ (enters_white (picture_of im) (image_atlas im) c.args.hue c.args.light c.args.from q end (c.requires.white q c.in-Free.is) slides
    ∙ ap (λ (o : Option Departure). Some o) (sym c.slid_to.ensures))
