-- For proofs only: the blocks that were found so far.
use Rattle.std.specs.Prelude.{◌≡◌, ◌≢◌, ℕ, ◌+◌, ◌*◌, ◌<◌, ◌≤◌, List, length, slice_get, slice_index, Some}
use Rattle.piet_image.specs.declared.place.Place.{Place}
use Rattle.piet_image.specs.declared.place.Pointer.{Pointer}
use Rattle.piet_image.specs.declared.place.Chooser.{Chooser}
use Rattle.piet_image.specs.Picture.{beside}
use Rattle.piet_image.specs.Block.{IsHue, Joined, Among}
use Rattle.piet_image.specs.Raster.{Raster, picture_of}
use Rattle.piet_lang.specs.Chart.{index_of, side_index, IsLast, IsBlock}

-- the codels beside these that have the colour have numbers
abbrev pub Explored : Raster → ℕ → ℕ → List ℕ → List Place → Type 0
Explored im h l numbers members = (r : Place) → Among r members → (d : Pointer) (q : Place) → beside d r ≡ Some q → IsHue (picture_of im) q h l → slice_index numbers (index_of im q) ≢ 0

-- those beside one of them have
abbrev pub ExploredAt : Raster → ℕ → ℕ → List ℕ → Place → Type 0
ExploredAt im h l numbers r = (d : Pointer) (q : Place) → beside d r ≡ Some q → IsHue (picture_of im) q h l → slice_index numbers (index_of im q) ≢ 0

-- the last places of a block, one for each edge and end
pub record AddsExits (members old new : List Place) : Type 0 where
  pub count : length new ≡ length old + 8
  pub kept : (j : ℕ) → j < length old → slice_get new j ≡ slice_get old j
  pub exit : (d : Pointer) (c : Chooser) → (e : Place) × (slice_get new (length old + side_index d c) ≡ Some e) × IsLast members d c e

-- the codels below an index that have a colour have the numbers of their blocks, and whole blocks have
pub record Found (im : Raster) (numbers sizes : List ℕ) (exits : List Place) (done : ℕ) : Type 0 where
  pub count : length numbers ≡ im.height * im.width
  pub sides : length exits ≡ 8 * length sizes
  pub few : length sizes ≤ done
  pub block : (p : Place) (h l : ℕ) → IsHue (picture_of im) p h l → slice_index numbers (index_of im p) ≢ 0 → IsBlock im sizes exits p (slice_index numbers (index_of im p))
  pub closed : (p q : Place) → Joined (picture_of im) p q → slice_index numbers (index_of im p) ≢ 0 → slice_index numbers (index_of im q) ≢ 0
  pub scanned : (p : Place) (h l : ℕ) → IsHue (picture_of im) p h l → index_of im p < done → slice_index numbers (index_of im p) ≢ 0
