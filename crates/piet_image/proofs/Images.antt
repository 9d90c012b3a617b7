-- An image shows nothing outside.
use Rattle.piet_image.specs.declared.place.Place.{Place}
use Rattle.std.proofs.Common.{◌≡◌, ◌+◌, ◌*◌, ◌<◌, Bool, true, false, cond, nat_lt, ◌&&◌, Some, None, slice_get, refl}
use Rattle.std.proofs.lemmas.Bool.{ltb-true}
use Rattle.piet_image.specs.declared.colour.Colour.{Colour}
use Rattle.piet_image.specs.Raster.{Raster, picture_of}
use Rattle.piet_image.specs.Block.{Atlas}
use Rattle.piet_image.specs.Laws.{Within}
use Rattle.piet_image.proofs.AtlasOf.{atlas_of}

inside_x : (im : Raster) (p : Place) (c : Colour) → picture_of im p ≡ Some c → p.x < im.width
inside_x im p c e = go (nat_lt p.x im.width) refl e
  where
    go : (b : Bool) → nat_lt p.x im.width ≡ b → cond (b && nat_lt p.y im.height) (slice_get im.codels (p.y * im.width + p.x)) None ≡ Some c → p.x < im.width
    go true is h = ltb-true p.x im.width is
    go false is h = cc

inside_y : (im : Raster) (p : Place) (c : Colour) → picture_of im p ≡ Some c → p.y < im.height
inside_y im p c e = go (nat_lt p.x im.width) (nat_lt p.y im.height) refl e
  where
    go : (a b : Bool) → nat_lt p.y im.height ≡ b → cond (a && b) (slice_get im.codels (p.y * im.width + p.x)) None ≡ Some c → p.y < im.height
    go true true is h = ltb-true p.y im.height is
    go true false is h = cc
    go false b is h = cc

pub within : (im : Raster) → Within (picture_of im) im.width im.height
within im = record { x = inside_x im; y = inside_y im }

-- what is to be known of an image
pub image_atlas : (im : Raster) → Atlas (picture_of im)
image_atlas im = atlas_of (picture_of im) im.width im.height (within im)
