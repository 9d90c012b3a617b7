use Rattle.std.proofs.Common.{◌≡◌, [], reverse, Option, Some}
use Rattle.piet_image.specs.declared.colour.Colour.TheVariants.{White}
use Rattle.piet_image.specs.declared.place.Stand.{Stand}
use Rattle.piet_image.specs.Raster.{picture_of}
use Rattle.piet_image.specs.Slide.{Slides}
use Rattle.piet_lang.specs.Slid.{slide_left}
use Rattle.piet_lang.proofs.slide.slide.Given as goal

abbrev pub invariant-slide : goal.invariant-slide
invariant-slide l = record {
  white : picture_of l.image l.at.place ≡ Some White;
  rest : (end : Option Stand) → Slides (picture_of l.image) (reverse l.stops.items) l.at end → Slides (picture_of l.image) [] l.fn.from end;
}

abbrev pub decreases-slide : goal.decreases-slide
decreases-slide l = slide_left l.image l.stops.items l.at
