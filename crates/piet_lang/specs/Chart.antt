-- For proofs only: the tables of an image, its blocks by number.
use Rattle.std.specs.Prelude.{◌≡◌, ◌⊎◌, ℕ, ◌+◌, ◌-◌, ◌*◌, ◌^◌, ◌<◌, ◌≤◌, ◌%◌, ◌==◌, nat_lt, List, length, Some, slice_get, slice_index, if◌then◌else◌}
use Rattle.piet_image.specs.declared.place.Place.{Place}
use Rattle.piet_image.specs.declared.place.Pointer.{Pointer}
use Rattle.piet_image.specs.declared.place.Pointer.TheVariants.{Right, Down, Left, Up}
use Rattle.piet_image.specs.declared.place.Chooser.{Chooser}
use Rattle.piet_image.specs.declared.place.Chooser.TheVariants.{ToLeft, ToRight}
use Rattle.piet_image.specs.Picture.{Picture, side}
use Rattle.piet_image.specs.Block.{IsHue, Before, Among, Distinct, Leads}
use Rattle.piet_image.specs.Raster.{Raster, picture_of}
use Rattle.piet_image.proofs.Images.{image_atlas}

abbrev pub Inside : Raster → Place → Type 0
Inside im p = (p.x < im.width) × (p.y < im.height)

-- the index of a codel, column after column
abbrev pub index_of : Raster → Place → ℕ
index_of im p = p.x * im.height + p.y

-- the index of an edge's end: the way of the pointer, and in it that of the chooser
abbrev pub side_index : Pointer → Chooser → ℕ
side_index Right ToLeft = 0
side_index Right ToRight = 1
side_index Down ToLeft = 2
side_index Down ToRight = 3
side_index Left ToLeft = 4
side_index Left ToRight = 5
side_index Up ToLeft = 6
side_index Up ToRight = 7

-- the pointer and the chooser of an index
abbrev pub pointer_at : ℕ → Pointer
pointer_at k = if nat_lt k 2 then Right else (if nat_lt k 4 then Down else (if nat_lt k 6 then Left else Up))

abbrev pub chooser_at : ℕ → Chooser
chooser_at k = if k % 2 == 0 then ToLeft else ToRight

-- a codel of a colour
pub record HasHue (f : Picture) (p : Place) : Type 0 where
  pub hue : ℕ
  pub light : ℕ
  pub is : IsHue f p hue light

-- the last of codels along the pointer and then along the chooser
pub record IsLast (members : List Place) (d : Pointer) (c : Chooser) (e : Place) : Type 0 where
  pub known : Among e members
  pub last : (q : Place) → Among q members → Before d (side d c) q e

-- of two places the one before which the other lies, or as far
pub record IsLater (d e : Pointer) (last place next : Place) : Type 0 where
  pub first : Before d e last next
  pub second : Before d e place next
  pub one : (last ≡ next) ⊎ (place ≡ next)

-- the block of this number is that of the codel
pub record IsBlock (im : Raster) (sizes : List ℕ) (exits : List Place) (p : Place) (number : ℕ) : Type 0 where
  pub some : 0 < number
  pub known : (number - 1) < length sizes
  pub size : slice_get sizes (number - 1) ≡ Some ((image_atlas im).size p)
  pub exit : (d : Pointer) (c : Chooser) → slice_get exits (8 * (number - 1) + side_index d c) ≡ Some ((image_atlas im).exit p d c)

-- each codel of a colour has the number of its block
pub record IsChart (im : Raster) (numbers sizes : List ℕ) (exits : List Place) : Type 0 where
  pub some : 0 < im.width * im.height
  pub few : im.width * im.height ≤ 2 ^ 26
  pub count : length numbers ≡ im.height * im.width
  pub sides : length exits ≡ 8 * length sizes
  pub block : (p : Place) (h l : ℕ) → IsHue (picture_of im) p h l → IsBlock im sizes exits p (slice_index numbers (index_of im p))

-- a block that is being filled: its codels so far have its number, and nothing else has changed
pub record Filling (im : Raster) (h l : ℕ) (start : Place) (number : ℕ) (before now : List ℕ) (members : List Place) : Type 0 where
  pub size : length now ≡ length before
  pub within : (q : Place) → Among q members → Inside im q
  pub hued : (q : Place) → Among q members → IsHue (picture_of im) q h l
  pub distinct : Distinct members
  pub first : Among start members
  pub path : (q : Place) → Among q members → (way : List Place) × Leads (picture_of im) h l start way q
  pub marked : (q : Place) → Among q members → slice_index now (index_of im q) ≡ number
  pub others : (q : Place) → Inside im q → (Among q members → ⊥) → slice_index now (index_of im q) ≡ slice_index before (index_of im q)
  pub fresh : (q : Place) → Among q members → slice_index before (index_of im q) ≡ 0
