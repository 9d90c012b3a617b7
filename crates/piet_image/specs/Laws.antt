-- Laws of pictures and of texts.
use Rattle.std.specs.Prelude.{◌≡◌, ◌≢◌, ◌⊎◌, ℕ, ◌*◌, ◌^◌, ◌<◌, ◌≤◌, List, length, Some}
use Rattle.std.specs.List.{AllByRecursion}
use Rattle.piet_image.specs.declared.colour.Colour.{Colour}
use Rattle.piet_image.specs.declared.colour.Colour.TheVariants.{White}
use Rattle.piet_image.specs.declared.place.Place.{Place}
use Rattle.piet_image.specs.declared.place.Stand.{Stand}
use Rattle.piet_image.specs.declared.place.Pointer.{Pointer}
use Rattle.piet_image.specs.declared.place.Chooser.{Chooser}
use Rattle.piet_image.specs.declared.read.PpmFault.{PpmFault}
use Rattle.piet_image.specs.declared.read.PpmFault.TheVariants.{Memory}
use Rattle.piet_image.specs.Colours.{IsColour}
use Rattle.piet_image.specs.Picture.{Picture}
use Rattle.piet_image.specs.Block.{IsHue, Atlas}
use Rattle.piet_image.specs.Printed.{flatten, image_text}
use Rattle.piet_image.specs.Raster.{Raster}
use Rattle.piet_image.specs.Text.{IsExtent, Spells, IsRefused, IsRefusedFor}

-- the picture shows nothing outside so many columns and rows
pub record Within (f : Picture) (w h : ℕ) : Type 0 where
  pub x : (p : Place) (c : Colour) → f p ≡ Some c → p.x < w
  pub y : (p : Place) (c : Colour) → f p ≡ Some c → p.y < h

-- two atlases of a picture tell the same of its blocks and slides
pub record Agree (f : Picture) (a b : Atlas f) : Type 0 where
  pub size : (p : Place) (h l : ℕ) → IsHue f p h l → a.size p ≡ b.size p
  pub exit : (p : Place) (h l : ℕ) (d : Pointer) (c : Chooser) → IsHue f p h l → a.exit p d c ≡ b.exit p d c
  pub slid : (s : Stand) → f s.place ≡ Some White → a.slid s ≡ b.slid s

-- each finite picture has an atlas, and only one
pub record HasOneAtlas (f : Picture) : Type 0 where
  pub atlas : Atlas f
  pub only : (other : Atlas f) → Agree f atlas other

-- the header and then the rows of an image spell it
abbrev pub WrittenIsSpelled : Type 0
WrittenIsSpelled =
    (width : ℕ) (rows : List (List Colour)) → IsExtent width → IsExtent (length rows) → width * length rows ≤ 2 ^ 26 → length (flatten rows) ≡ length rows * width → AllByRecursion IsColour (flatten rows)
    → Spells (image_text width rows) 1 (record { width = width; height = length rows; codels = flatten rows })

-- a text spells an image or is refused, whatever the size of a codel, for one reason; it spells one image at most, and none where it is refused
pub record TextsAreDecided : Type 0 where
  pub some : (text : List ℕ) (codel : ℕ) → ((image : Raster) × Spells text codel image) ⊎ ((fault : PpmFault) × (fault ≢ Memory) × IsRefusedFor text codel fault)
  pub one_reason : (text : List ℕ) (codel : ℕ) (fault other : PpmFault) → fault ≢ Memory → other ≢ Memory → IsRefusedFor text codel fault → IsRefusedFor text codel other → fault ≡ other
  pub never_both : (text : List ℕ) (codel : ℕ) (image : Raster) (fault : PpmFault) → Spells text codel image → IsRefused text codel fault → ⊥
  pub spelled_once : (text : List ℕ) (codel : ℕ) (image other : Raster) → Spells text codel image → Spells text codel other → image ≡ other
