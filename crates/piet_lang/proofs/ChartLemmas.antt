-- The blocks in the tables of an image.
use Rattle.std.proofs.Common.{◌≡◌, sym, subst}
use Rattle.piet_image.specs.declared.place.Place.{Place}
use Rattle.piet_image.specs.declared.place.Stand.{Stand}
use Rattle.piet_image.specs.Raster.{Raster, picture_of}
use Rattle.piet_image.proofs.Images.{image_atlas}
use Rattle.piet_lang.specs.Chart.{Inside, HasHue}
use Rattle.piet_lang.proofs.FillLemmas.{hue_inside}
use Rattle.piet_lang.proofs.JoinLemmas.{leads_hue}

-- an exit stands within the image
pub exit_inside : (image im : Raster) (s : Stand) (e : Place) → image ≡ im → HasHue (picture_of im) s.place → e ≡ (image_atlas im).exit s.place s.pointer s.chooser → Inside image e
exit_inside image im s e same hue is =
    let exit = (image_atlas im).exits s.place hue.hue hue.light s.pointer s.chooser hue.is in
    let j = exit.joined in
    let there = hue_inside im ((image_atlas im).exit s.place s.pointer s.chooser) j.hue j.light (leads_hue (picture_of im) j.hue j.light s.place j.path ((image_atlas im).exit s.place s.pointer s.chooser) j.is j.leads) in
    subst (λ z. Inside z e) (sym same) (subst (Inside im) (sym is) there)
