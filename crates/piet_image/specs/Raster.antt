-- An image as a picture.
use Rattle.std.specs.Prelude.{ℕ, ◌+◌, ◌*◌, nat_lt, ◌&&◌, List, None, slice_get, if◌then◌else◌}
use Rattle.piet_image.specs.declared.colour.Colour.{Colour}
use Rattle.piet_image.specs.Picture.{Picture}

-- the colours of the codels, row after row from the top, each row from the left
pub record Raster : Type 0 where
  pub width : ℕ
  pub height : ℕ
  pub codels : List Colour

abbrev pub picture_of : Raster → Picture
picture_of im p = if nat_lt p.x im.width && nat_lt p.y im.height then slice_get im.codels (p.y * im.width + p.x) else None
