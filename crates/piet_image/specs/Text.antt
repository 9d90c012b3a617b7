-- The text of an image in the plain pixel map format: `P3`, the width and the height in pixels, 255, and for each pixel how much red, green and blue it has.
use Rattle.std.specs.Prelude.{◌≡◌, ℕ, ◌+◌, ◌*◌, ◌/◌, ◌%◌, ◌^◌, ◌<◌, ◌≤◌, List, [], ◌∷◌, length, Option, None, Some, IsSome, slice_get, unwrap_or, ⊤}
use Rattle.piet_image.specs.declared.colour.Colour.{Colour}
use Rattle.piet_image.specs.declared.read.PpmFault.{PpmFault}
use Rattle.piet_image.specs.declared.read.PpmFault.TheVariants.{BadHeader, NotCodel, TooLarge, BadNumber, Short, Extra, Memory}
use Rattle.piet_image.specs.Colours.{colour_of}
use Rattle.piet_image.specs.Raster.{Raster}
use Rattle.piet_image.specs.Pieces.{uncommented, places, piece_at, number_at, sample_at}

abbrev pub IsExtent : ℕ → Type 0
IsExtent n = (1 ≤ n) × (n ≤ 2 ^ 31)

-- the first four pieces are `P3`, right at the front, the width, the height and 255
pub record HasHeader (bytes : List ℕ) (width height : ℕ) : Type 0 where
  pub magic : piece_at bytes 0 ≡ 80 ∷ 51 ∷ []
  pub wide : number_at bytes 1 ≡ Some width
  pub high : number_at bytes 2 ≡ Some height
  pub most : number_at bytes 3 ≡ Some 255
  pub wide_fits : IsExtent width
  pub high_fits : IsExtent height

abbrev pub Divides : ℕ → ℕ → Type 0
Divides codel n = n % codel ≡ 0

-- the header of an image of codels of this size that is not too large
pub record HasCodels (bytes : List ℕ) (codel width height : ℕ) : Type 0 where
  pub header : HasHeader bytes width height
  pub across : Divides codel width
  pub down : Divides codel height
  pub few : (width / codel) * (height / codel) ≤ 2 ^ 26

abbrev pub IsSample : List ℕ → ℕ → Type 0
IsSample bytes k = IsSome (sample_at bytes k)

-- so many pieces from one on are samples
abbrev pub AreSamples : List ℕ → ℕ → ℕ → Type 0
AreSamples bytes k count = (i : ℕ) → i < count → IsSample bytes (k + i)

abbrev pub sample : List ℕ → ℕ → ℕ
sample bytes k = unwrap_or (sample_at bytes k) 0

-- what three samples from one on show
abbrev pub pixel_from : List ℕ → ℕ → Colour
pixel_from bytes k = colour_of (sample bytes k, sample bytes (k + 1), sample bytes (k + 2))

-- the pixel at a place, where each row has this width
abbrev pub pixel_at : List ℕ → ℕ → ℕ → ℕ → Colour
pixel_at bytes width x y = pixel_from bytes (4 + 3 * (y * width + x))

-- each codel shows its top left pixel
pub record Shows (bytes : List ℕ) (codel width height : ℕ) (image : Raster) : Type 0 where
  pub across : image.width ≡ width / codel
  pub down : image.height ≡ height / codel
  pub count : length image.codels ≡ image.height * image.width
  pub shown : (x y : ℕ) → x < image.width → y < image.height → slice_get image.codels (y * image.width + x) ≡ Some (pixel_at bytes width (x * codel) (y * codel))

-- the text spells this image in codels of this size
pub record Spells (text : List ℕ) (codel : ℕ) (image : Raster) : Type 0 where
  pub width : ℕ
  pub height : ℕ
  pub opens : HasCodels (uncommented text) codel width height
  pub samples : AreSamples (uncommented text) 4 (3 * (width * height))
  pub ends : length (places (uncommented text)) ≡ 4 + 3 * (width * height)
  pub shows : Shows (uncommented text) codel width height image

-- the header is right but for the codels: their size, or their number
pub record HasOther (bytes : List ℕ) (Wrong : ℕ → ℕ → Type 0) : Type 0 where
  pub width : ℕ
  pub height : ℕ
  pub header : HasHeader bytes width height
  pub wrong : Wrong width height

abbrev pub IsCut : ℕ → ℕ → ℕ → Type 0
IsCut codel width height = Divides codel width × Divides codel height

-- behind the header of an image come so many samples, and then something else
pub record StopsBehind (bytes : List ℕ) (codel : ℕ) (Stop : ℕ → ℕ → Type 0) : Type 0 where
  pub width : ℕ
  pub height : ℕ
  pub opens : HasCodels bytes codel width height
  pub count : ℕ
  pub samples : AreSamples bytes 4 count
  pub stop : Stop count (3 * (width * height))

-- a text is refused for this
abbrev pub IsRefused : List ℕ → ℕ → PpmFault → Type 0
IsRefused text codel BadHeader = (width height : ℕ) → ¬ (HasHeader (uncommented text) width height)
IsRefused text codel NotCodel = HasOther (uncommented text) (λ width height. ¬ (IsCut codel width height))
IsRefused text codel TooLarge = HasOther (uncommented text) (λ width height. IsCut codel width height × (2 ^ 26 < (width / codel) * (height / codel)))
IsRefused text codel (BadNumber place) = StopsBehind (uncommented text) codel (λ count all. (count < all) × (slice_get (places (uncommented text)) (4 + count) ≡ Some place) × (sample_at (uncommented text) (4 + count) ≡ None))
IsRefused text codel Short = StopsBehind (uncommented text) codel (λ count all. (count < all) × (length (places (uncommented text)) ≡ 4 + count))
IsRefused text codel (Extra place) = StopsBehind (uncommented text) codel (λ count all. (count ≡ all) × (slice_get (places (uncommented text)) (4 + count) ≡ Some place))
IsRefused text codel Memory = ⊥

-- this fault may be answered for the text: want of memory for each one
abbrev pub IsRefusedFor : List ℕ → ℕ → PpmFault → Type 0
IsRefusedFor text codel BadHeader = IsRefused text codel BadHeader
IsRefusedFor text codel NotCodel = IsRefused text codel NotCodel
IsRefusedFor text codel TooLarge = IsRefused text codel TooLarge
IsRefusedFor text codel (BadNumber place) = IsRefused text codel (BadNumber place)
IsRefusedFor text codel Short = IsRefused text codel Short
IsRefusedFor text codel (Extra place) = IsRefused text codel (Extra place)
IsRefusedFor text codel Memory = ⊤
