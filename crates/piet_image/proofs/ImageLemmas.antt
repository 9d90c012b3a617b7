-- The colours of an image by its codes.
use Rattle.std.proofs.Common.{◌≡◌, ℕ, ◌+◌, ◌*◌, ◌<◌, Bool, true, cond, nat_lt, ◌&&◌, List, length, get_or, map, Option, None, Some, slice_get, refl, sym, ap, ◌∙◌, arith}
use Rattle.std.specs.Option.{option_map}
use Rattle.std.proofs.lemmas.Bool.Decides.{nat_tests}
use Rattle.std.proofs.lemmas.Nat.{mul-add-lt}
use Rattle.std.proofs.lemmas.Option.{slice_get-map, slice_get-get_or}
use Rattle.std.proofs.lemmas.List.{get_or_read}
use Rattle.piet_image.specs.declared.colour.Colour.{Colour}
use Rattle.piet_image.specs.Code.{decoded}
use Rattle.piet_image.specs.Raster.{Raster, picture_of}

pub within : (width height x y : ℕ) (codes : List ℕ) → x < width → y < height → length codes ≡ height * width → y * width + x < length codes
within width height x y codes a b e = omega (arith, mul-add-lt y width x height b a, e)

pub shown_at : (width height x y code : ℕ) (codes : List ℕ) → x < width → y < height → length codes ≡ height * width → code ≡ get_or codes (y * width + x) code
    → picture_of (record { width = width; height = height; codels = map decoded codes }) (record { x = x; y = y }) ≡ Some (decoded code)
shown_at width height x y code codes a b e is =
    let tx : nat_lt x width ≡ true = grind (arith, nat_tests) in
    let ty : nat_lt y height ≡ true = grind (arith, nat_tests) in
    let there : y * width + x < length codes = within width height x y codes a b e in
    rw (tx, ty) (slice_get-map decoded codes (y * width + x) ∙ ap (option_map decoded) (slice_get-get_or codes (y * width + x) code there ∙ ap (λ n. Some n) (sym is)))

pub small_at : (codes : List ℕ) (i code : ℕ) → i < length codes → code ≡ get_or codes i code → ((k : ℕ) → get_or codes k 0 < 20) → code < 20
small_at codes i code there is small =
    let same : code ≡ get_or codes i 0 = get_or_read codes i code there is 0 in
    omega (arith, same, small i)
