-- How many bytes the text of a board has at most.
use Rattle.std.proofs.Common.{◌≡◌, ℕ, zero, suc, ◌+◌, ◌*◌, ◌^◌, ◌<◌, ◌≤◌, true, false, ◌&&◌, Bool, List, [], ◌∷◌, ◌++◌, length, refl, sym, ap, ◌∙◌, arith}
use Rattle.std.specs.Prelude.{nat_lt, unwrap_or, slice_get, Option, Some, None}
use Rattle.std.specs.Fmt.{decimal}
use Rattle.std.specs.List.{flat_map, list_all, AllByRecursion}
use Rattle.std.proofs.lemmas.Bool.{ltb-true}
use Rattle.std.proofs.lemmas.List.{length-append}
use Rattle.std.proofs.lemmas.Fmt.{length-decimal-le}
use Rattle.std.proofs.Math.Nat.{mul-le-mul_right}
use Rattle.piet_image.specs.declared.colour.Colour.{Colour}
use Rattle.piet_image.specs.declared.colour.Colour.TheVariants.{White, Black, Hue}
use Rattle.piet_image.specs.Colours.{Rgb, shades, rgb_of}
use Rattle.piet_image.specs.Printed.{header_text, rgb_text, row_text, image_text, each_of}

-- how much red, green and blue is below 256
abbrev IsLow : Rgb → Type 0
IsLow rgb = (rgb.0 < 256) × (rgb.1 < 256) × (rgb.2 < 256)

abbrev is_low : Rgb → Bool
is_low rgb = nat_lt rgb.0 256 && (nat_lt rgb.1 256 && nat_lt rgb.2 256)

both : (a b : Bool) → (a && b) ≡ true → (a ≡ true) × (b ≡ true)
both true b e = (refl, e)
both false b e = cc

low : (rgb : Rgb) → is_low rgb ≡ true → IsLow rgb
low rgb e =
    let first = both (nat_lt rgb.0 256) (nat_lt rgb.1 256 && nat_lt rgb.2 256) e in
    let second = both (nat_lt rgb.1 256) (nat_lt rgb.2 256) first.1 in
    (ltb-true rgb.0 256 first.0, ltb-true rgb.1 256 second.0, ltb-true rgb.2 256 second.1)

low_in : (all : List Rgb) (k : ℕ) (other : Rgb) → list_all is_low all ≡ true → IsLow other → IsLow (unwrap_or (slice_get all k) other)
low_in [] k other e h = h
low_in (rgb ∷ all) zero other e h = low rgb (both (is_low rgb) (list_all is_low all) e).0
low_in (rgb ∷ all) (suc k) other e h = low_in all k other (both (is_low rgb) (list_all is_low all) e).1 h

shades_low : list_all is_low shades ≡ true
unfolding shades
shades_low = refl

low_colour : (c : Colour) → IsLow (rgb_of c)
low_colour White = (omega arith, omega arith, omega arith)
low_colour Black = (omega arith, omega arith, omega arith)
low_colour (Hue h l) = low_in shades (3 * h + l) (255, 255, 255) shades_low (omega arith, omega arith, omega arith)

-- at most three digits and a byte behind, three times
three_digits : (n : ℕ) → n < 256 → length (decimal n) ≤ 3
three_digits n h = length-decimal-le 3 n (omega arith) (omega arith) (omega arith)

rgb_bytes : (rgb : Rgb) (end : ℕ) → IsLow rgb → length (rgb_text rgb end) ≤ 12
rgb_bytes rgb end h =
    let a = three_digits rgb.0 h.0 in
    let b = three_digits rgb.1 h.1 in
    let c = three_digits rgb.2 h.2 in
    let inner = length-append (decimal rgb.2) (end ∷ []) in
    let middle = length-append (decimal rgb.1) (32 ∷ (decimal rgb.2 ++ end ∷ [])) in
    let outer = length-append (decimal rgb.0) (32 ∷ (decimal rgb.1 ++ 32 ∷ (decimal rgb.2 ++ end ∷ []))) in
    omega (arith, a, b, c, inner, middle, outer)

pub row_bytes : (row : List Colour) → length (row_text row) ≤ 12 * length row
row_bytes [] = omega arith
row_bytes (c ∷ []) = rgb_bytes (rgb_of c) 10 (low_colour c)
row_bytes (c ∷ next ∷ row) =
    let one = rgb_bytes (rgb_of c) 32 (low_colour c) in
    let more = row_bytes (next ∷ row) in
    let whole = length-append (rgb_text (rgb_of c) 32) (row_text (next ∷ row)) in
    omega (arith, one, more, whole)

pub rows_bytes : (width : ℕ) (rows : List (List Colour)) → AllByRecursion (λ row. length row ≡ width) rows → length (flat_map row_text rows) ≤ length rows * (12 * width)
rows_bytes width [] all = omega arith
rows_bytes width (row ∷ rows) all =
    let one : length (row_text row) ≤ 12 * width = let le = row_bytes row in let same = all.0 in omega (arith, le, same) in
    let more = rows_bytes width rows all.1 in
    let whole = length-append (row_text row) (flat_map row_text rows) in
    omega (arith, one, more, whole)

all_more : (P : List Colour → Type 0) (xs ys : List (List Colour)) → AllByRecursion P xs → AllByRecursion P ys → AllByRecursion P (xs ++ ys)
all_more P [] ys a b = b
all_more P (x ∷ xs) ys a b = (a.0, all_more P xs ys a.1 b)

pub all_wide : (f : ℕ → List Colour) (width : ℕ) → ((y : ℕ) → length (f y) ≡ width) → (n : ℕ) → AllByRecursion (λ row. length row ≡ width) (each_of f n)
all_wide f width wide zero = tt
all_wide f width wide (suc n) = all_more (λ row. length row ≡ width) (each_of f n) (f n ∷ []) (all_wide f width wide n) (wide n, tt)

header_bytes : (width height : ℕ) → width < 10 ^ 5 → height < 10 ^ 5 → length (header_text width height) ≤ 19
header_bytes width height w h =
    let a = length-decimal-le 5 width (omega arith) w (omega arith) in
    let b = length-decimal-le 5 height (omega arith) h (omega arith) in
    let inner = length-append (decimal height) (10 ∷ 50 ∷ 53 ∷ 53 ∷ 10 ∷ []) in
    let outer = length-append (decimal width) (32 ∷ (decimal height ++ 10 ∷ 50 ∷ 53 ∷ 53 ∷ 10 ∷ [])) in
    omega (arith, a, b, inner, outer)

pub image_bytes : (width : ℕ) (rows : List (List Colour)) → AllByRecursion (λ row. length row ≡ width) rows → width ≤ 517 → length rows ≤ 81926 → length (image_text width rows) ≤ 2 ^ 29
image_bytes width rows all w h =
    let head = header_bytes width (length rows) (omega arith) (omega arith) in
    let body = rows_bytes width rows all in
    let wide : length rows * (12 * width) ≤ 81926 * (12 * width) = mul-le-mul_right (12 * width) h in
    let whole = length-append (header_text width (length rows)) (flat_map row_text rows) in
    omega (arith, head, body, wide, whole, w)
