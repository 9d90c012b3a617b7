-- For proofs only: how a slide goes on.
use Rattle.std.specs.Prelude.{◌≡◌, ℕ, ◌+◌, ◌*◌, ◌<◌, List, reverse, Option, Some}
use Rattle.piet_image.specs.declared.colour.Colour.TheVariants.{White}
use Rattle.piet_image.specs.declared.place.Stand.{Stand}
use Rattle.piet_image.specs.Raster.{Raster, picture_of}
use Rattle.piet_image.specs.Slide.{Slides}
use Rattle.piet_image.proofs.SlideEnds.{left_over, room}
use Rattle.piet_lang.specs.declared.slide.Slid.{Slid}
use Rattle.piet_lang.specs.declared.slide.Slid.TheVariants.{On, Ends}

-- how long a slide can go on at most: by the stops that are left, and then by the way to the edge
unfoldable pub slide_left : Raster → List Stand → Stand → ℕ
slide_left im stops at = left_over im.width im.height (reverse stops) * (im.width + im.height + 1) + room im.width im.height at.pointer at.place.x at.place.y

pub record SlidesOn (im : Raster) (stops : List Stand) (at : Stand) (stops' : List Stand) (next : Stand) : Type 0 where
  pub white : picture_of im next.place ≡ Some White
  pub less : slide_left im stops' next < slide_left im stops at
  pub rest : (end : Option Stand) → Slides (picture_of im) (reverse stops') next end → Slides (picture_of im) (reverse stops) at end

abbrev pub SlidesTo : Raster → List Stand → Stand → List Stand → Slid → Type 0
SlidesTo im stops at stops' (On next) = SlidesOn im stops at stops' next
SlidesTo im stops at stops' (Ends end) = Slides (picture_of im) (reverse stops) at end
