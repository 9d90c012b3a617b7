-- For proofs only: the codes of an image.
use Rattle.std.specs.Prelude.{◌≡◌, ℕ, ◌*◌, ◌^◌, ◌<◌, ◌≤◌, List, length, slice_index}

-- one for each codel, of which there are some and not too many
pub record AreCodes (width height : ℕ) (codes : List ℕ) : Type 0 where
  pub some : 0 < width * height
  pub few : width * height ≤ 2 ^ 26
  pub count : length codes ≡ height * width
  pub small : (k : ℕ) → slice_index codes k < 20
