-- The text that is written of an image: the header, and each row on a line.
use Rattle.std.specs.Prelude.{ℕ, zero, suc, List, [], ◌∷◌, ◌++◌, length}
use Rattle.std.specs.List.{flat_map}
use Rattle.std.specs.Fmt.{decimal}
use Rattle.piet_image.specs.declared.colour.Colour.{Colour}
use Rattle.piet_image.specs.Colours.{Rgb, rgb_of}

abbrev pub header_text : ℕ → ℕ → List ℕ
header_text width height = 80 ∷ 51 ∷ 10 ∷ (decimal width ++ 32 ∷ (decimal height ++ 10 ∷ 50 ∷ 53 ∷ 53 ∷ 10 ∷ []))

-- how much red, green and blue, and a byte behind
abbrev pub rgb_text : Rgb → ℕ → List ℕ
rgb_text rgb end = decimal rgb.0 ++ 32 ∷ (decimal rgb.1 ++ 32 ∷ (decimal rgb.2 ++ end ∷ []))

-- a space behind each colour but the last, which has a line feed
abbrev pub row_text : List Colour → List ℕ
row_text [] = []
row_text (colour ∷ []) = rgb_text (rgb_of colour) 10
row_text (colour ∷ next ∷ row) = rgb_text (rgb_of colour) 32 ++ row_text (next ∷ row)

-- rows one after the other
abbrev pub flatten : List (List Colour) → List Colour
flatten [] = []
flatten (row ∷ rows) = row ++ flatten rows

-- a header, and the rows of this width
abbrev pub image_text : ℕ → List (List Colour) → List ℕ
image_text width rows = header_text width (length rows) ++ flat_map row_text rows

-- so many, one by one
abbrev pub each_of : {A : Type 0} → (ℕ → A) → ℕ → List A
each_of f zero = []
each_of f (suc n) = each_of f n ++ f n ∷ []
