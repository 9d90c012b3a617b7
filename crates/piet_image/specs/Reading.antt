-- For proofs only: how far a text was read.
use Rattle.std.specs.Prelude.{◌≡◌, ℕ, suc, ◌+◌, ◌-◌, ◌*◌, ◌^◌, min, ◌<◌, ◌≤◌, false, Bool, List, [], ◌∷◌, length, drop, Option, None, Some, slice_get, Vec, slice_index}
use Rattle.piet_image.specs.declared.colour.Colour.{Colour}
use Rattle.piet_image.specs.declared.read.PpmFault.{PpmFault}
use Rattle.piet_image.specs.declared.read.PpmFault.TheVariants.{BadHeader, NotCodel, TooLarge, BadNumber, Short, Extra, Memory}
use Rattle.piet_image.specs.Code.{decoded}
use Rattle.piet_image.specs.Pieces.{is_separator, uncommented, places_from, places, piece_at, number_at, sample_at}
use Rattle.piet_image.specs.Text.{AreSamples, pixel_from, IsExtent, HasHeader}

-- so many pieces were read of the text, and this is left
pub record IsAt (text : List ℕ) (k : ℕ) (left : List ℕ) : Type 0 where
  pub within : length left ≤ length text
  pub whole : drop (length text - length left) (uncommented text) ≡ uncommented left
  pub read : k ≤ length (places (uncommented text))
  pub next : drop k (places (uncommented text)) ≡ places_from (length text - length left) false (uncommented left)

-- no separator and no comment comes first
abbrev pub IsFront : List ℕ → Type 0
IsFront [] = Unit {0}
IsFront (byte ∷ bytes) = (is_separator byte ≡ false) × ((byte ≡ 35) → ⊥)

-- the piece of this index, and what is left behind it
pub record IsRead (text : List ℕ) (k : ℕ) (piece rest : List ℕ) : Type 0 where
  pub short : length rest + length piece ≤ length text
  pub place : slice_get (places (uncommented text)) k ≡ Some (length text - (length rest + length piece))
  pub piece_is : piece_at (uncommented text) (length text - (length rest + length piece)) ≡ piece
  pub behind : IsAt text (suc k) rest

-- there is no such sample
abbrev pub StopsAt : List ℕ → ℕ → PpmFault → Type 0
StopsAt text k (BadNumber place) = (slice_get (places (uncommented text)) k ≡ Some place) × (sample_at (uncommented text) k ≡ None)
StopsAt text k Short = length (places (uncommented text)) ≡ k
StopsAt text k BadHeader = ⊥
StopsAt text k NotCodel = ⊥
StopsAt text k TooLarge = ⊥
StopsAt text k (Extra place) = ⊥
StopsAt text k Memory = Unit {0}

-- fewer samples than so many come, or there is no memory
pub record Breaks (text : List ℕ) (k count : ℕ) (fault : PpmFault) : Type 0 where
  pub some : ℕ
  pub below : some < count
  pub before : AreSamples (uncommented text) k some
  pub stop : StopsAt text (k + some) fault

-- so many samples were read
pub record HasSamples (text : List ℕ) (k count : ℕ) (rest : List ℕ) : Type 0 where
  pub samples : AreSamples (uncommented text) k count
  pub behind : IsAt text (k + count) rest

-- codes were added for the first pixels of so many codels side by side
pub record AddsRow (text : List ℕ) (k codel : ℕ) (old new : List ℕ) (columns : ℕ) : Type 0 where
  pub count : length new ≡ length old + columns
  pub kept : (j : ℕ) → j < length old → slice_index new j ≡ slice_index old j
  pub row : (x : ℕ) → x < columns → decoded (slice_index new (length old + x)) ≡ pixel_from (uncommented text) (k + 3 * (x * codel))

-- the codes of so many rows of codels
pub record HasRows (text : List ℕ) (codel columns : ℕ) (codes : List ℕ) (rows : ℕ) : Type 0 where
  pub count : length codes ≡ rows * columns
  pub shown : (x y : ℕ) → x < columns → y < rows → decoded (slice_index codes (y * columns + x)) ≡ pixel_from (uncommented text) (4 + 3 * ((y * codel) * (columns * codel) + x * codel))

-- the piece of this index writes a number, which counts as 2^64 - 1 where it is above that
pub record IsNumberRead (text : List ℕ) (k size : ℕ) (rest : List ℕ) : Type 0 where
  pub value : ℕ
  pub number : number_at (uncommented text) k ≡ Some value
  pub size_is : size ≡ min value (2 ^ 64 - 1)
  pub behind : IsAt text (suc k) rest

-- a width or a height
pub record IsExtentRead (text : List ℕ) (k extent : ℕ) (rest : List ℕ) : Type 0 where
  pub number : number_at (uncommented text) k ≡ Some extent
  pub fits : IsExtent extent
  pub behind : IsAt text (suc k) rest

pub record IsHeaderRead (text : List ℕ) (width height : ℕ) (rest : List ℕ) : Type 0 where
  pub header : HasHeader (uncommented text) width height
  pub behind : IsAt text 4 rest

pub record IsSampleRead (text : List ℕ) (k value : ℕ) (rest : List ℕ) : Type 0 where
  pub is : sample_at (uncommented text) k ≡ Some value
  pub behind : IsAt text (suc k) rest

pub record IsPixelRead (text : List ℕ) (k code : ℕ) (rest : List ℕ) : Type 0 where
  pub samples : AreSamples (uncommented text) k 3
  pub shows : decoded code ≡ pixel_from (uncommented text) k
  pub behind : IsAt text (k + 3) rest
