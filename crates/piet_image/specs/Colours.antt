-- Colours, by how much red, green and blue they have.
use Rattle.std.specs.Prelude.{ℕ, ◌+◌, ◌*◌, ◌/◌, ◌%◌, ◌<◌, ◌==◌, ◌&&◌, Bool, List, [], ◌∷◌, Option, slice_get, unwrap_or, position, if◌then◌else◌}
use Rattle.std.specs.Option.{option_map}
use Rattle.piet_image.specs.declared.colour.Colour.{Colour}
use Rattle.piet_image.specs.declared.colour.Colour.TheVariants.{White, Black, Hue}

abbrev pub Rgb : Type 0
Rgb = ℕ × ℕ × ℕ

abbrev pub is_same : Rgb → Rgb → Bool
is_same a b = a.0 == b.0 && a.1 == b.1 && a.2 == b.2

-- one of the six hues, and light, normal or dark, where it is neither white nor black
abbrev pub IsColour : Colour → Type 0
IsColour White = Unit {0}
IsColour Black = Unit {0}
IsColour (Hue hue light) = (hue < 6) × (light < 3)

-- hue after hue (red, yellow, green, cyan, blue, magenta), and each one light, normal and dark
unfoldable pub shades : List Rgb
shades =
    (255, 192, 192) ∷ (255, 0, 0) ∷ (192, 0, 0)
    ∷ (255, 255, 192) ∷ (255, 255, 0) ∷ (192, 192, 0)
    ∷ (192, 255, 192) ∷ (0, 255, 0) ∷ (0, 192, 0)
    ∷ (192, 255, 255) ∷ (0, 255, 255) ∷ (0, 192, 192)
    ∷ (192, 192, 255) ∷ (0, 0, 255) ∷ (0, 0, 192)
    ∷ (255, 192, 255) ∷ (255, 0, 255) ∷ (192, 0, 192)
    ∷ []

abbrev pub rgb_of : Colour → Rgb
rgb_of White = (255, 255, 255)
rgb_of Black = (0, 0, 0)
rgb_of (Hue hue light) = unwrap_or (slice_get shades (3 * hue + light)) (255, 255, 255)

-- the place of a shade in their list
abbrev pub shade_place : Rgb → Option ℕ
shade_place rgb = position (λ shade. is_same shade rgb) shades

-- black, the shade that it is, or else white
abbrev pub colour_of : Rgb → Colour
colour_of rgb = if is_same rgb (0, 0, 0) then Black else unwrap_or (option_map (λ place. Hue (place / 3) (place % 3)) (shade_place rgb)) White
