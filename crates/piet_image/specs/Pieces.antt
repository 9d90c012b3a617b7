-- The pieces of a text: what stands between blanks, line feeds and comments.
use Rattle.std.specs.Prelude.{ℕ, zero, suc, ◌<◌, nat_lt, Bool, true, false, not, ◌||◌, ◌&&◌, ◌==◌, List, [], ◌∷◌, ◌++◌, length, take, drop, Option, None, Some, slice_get, option_and_then, if◌then◌else◌}
use Rattle.std.specs.Char.{is_ascii_digit}
use Rattle.std.specs.List.{list_all, prefix_len}
use Rattle.std.specs.Str.Parse.{digits_value}

-- a space, a tab, a carriage return or a line feed
abbrev pub is_separator : ℕ → Bool
is_separator byte = byte == 32 || byte == 9 || byte == 13 || byte == 10

abbrev pub is_other : ℕ → Bool
is_other byte = not (is_separator byte)

-- a byte is part of a comment: it is a `#`, or the byte before it is part of one and it is no line feed
abbrev pub is_comment : Bool → ℕ → Bool
is_comment before byte = if before then not (byte == 10) else byte == 35

-- with a space in the place of each byte of a comment, where the byte before is part of one or not
abbrev pub blanked : Bool → List ℕ → List ℕ
blanked before [] = []
blanked before (byte ∷ bytes) = (if is_comment before byte then 32 else byte) ∷ blanked (is_comment before byte) bytes

abbrev pub uncommented : List ℕ → List ℕ
uncommented text = blanked false text

-- a piece begins at a byte that is no separator, and behind a separator or at the front
abbrev pub begun_at : ℕ → Bool → ℕ → List ℕ
begun_at place inside byte = if is_other byte && not inside then place ∷ [] else []

-- where pieces begin, from a place on, where the byte before is inside a piece or not
abbrev pub places_from : ℕ → Bool → List ℕ → List ℕ
places_from place inside [] = []
places_from place inside (byte ∷ bytes) = begun_at place inside byte ++ places_from (suc place) (is_other byte) bytes

abbrev pub places : List ℕ → List ℕ
places bytes = places_from 0 false bytes

-- the bytes before the first separator
abbrev pub first_piece : List ℕ → List ℕ
first_piece bytes = take (prefix_len is_other bytes) bytes

abbrev pub piece_at : List ℕ → ℕ → List ℕ
piece_at bytes place = first_piece (drop place bytes)

-- decimal digits, at least one
abbrev pub is_number : List ℕ → Bool
is_number piece = nat_lt 0 (length piece) && list_all is_ascii_digit piece

abbrev pub number_in : List ℕ → Option ℕ
number_in piece = if is_number piece then Some (digits_value 10 piece) else None

-- the number that the piece of this index writes
abbrev pub number_at : List ℕ → ℕ → Option ℕ
number_at bytes k = option_and_then (λ place. number_in (piece_at bytes place)) (slice_get (places bytes) k)

-- a number of 0 to 255
abbrev pub byte_in : ℕ → Option ℕ
byte_in n = if nat_lt n 256 then Some n else None

abbrev pub sample_at : List ℕ → ℕ → Option ℕ
sample_at bytes k = option_and_then byte_in (number_at bytes k)
