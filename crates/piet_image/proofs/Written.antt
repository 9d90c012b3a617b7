-- What is written of an image reads as the image.
use Rattle.std.proofs.Common.{◌≡◌, ℕ, zero, suc, ◌+◌, ◌-◌, ◌*◌, ◌/◌, ◌%◌, ◌^◌, ◌<◌, ◌≤◌, Bool, true, false, not, cond, ◌&&◌, ◌||◌, ◌==◌, nat_lt, List, [], ◌∷◌, ◌++◌, length, take, drop, map, Option, None, Some, slice_get, unwrap_or, refl, sym, ap, subst, ◌∙◌, arith, append_assoc, append-nil, length-append}
use Rattle.std.specs.Fmt.{decimal}
use Rattle.std.specs.List.{prefix_len, flat_map, AllByRecursion, list_all}
use Rattle.std.specs.Option.{option_and_then, is_some}
use Rattle.std.specs.Char.{is_ascii_digit}
use Rattle.std.specs.Str.Parse.{AllDigits, IsNumeral, digits_value}
use Rattle.std.proofs.lemmas.Bool.{ltb-true, eqb-true}
use Rattle.std.proofs.lemmas.Bool.Decides.{nat_tests}
use Rattle.std.proofs.lemmas.Nat.{mul-add-lt}
use Rattle.std.proofs.lemmas.Fmt.{decimal_is_IsNumeral, decimal_step, decimal_digit}
use Rattle.std.proofs.lemmas.Str.Parse.{digit_from_value}
use Rattle.piet_image.specs.declared.colour.Colour.{Colour}
use Rattle.piet_image.specs.declared.colour.Colour.TheVariants.{White, Black, Hue}
use Rattle.piet_image.specs.Colours.{Rgb, shades, IsColour, rgb_of, colour_of}
use Rattle.piet_image.specs.Pieces.{is_separator, is_other, is_comment, blanked, uncommented, begun_at, places_from, places, first_piece, piece_at, is_number, number_in, number_at, byte_in, sample_at}
use Rattle.piet_image.specs.Printed.{header_text, rgb_text, row_text, image_text, flatten}
use Rattle.piet_image.specs.Raster.{Raster}
use Rattle.piet_image.specs.Text.{IsExtent, HasHeader, HasCodels, IsSample, AreSamples, sample, pixel_from, pixel_at, Shows, Spells}
use Rattle.piet_image.proofs.Digits.{are_digits, number_is}

-- each colour is the one of its amounts
pub colour_back : (c : Colour) → IsColour c → colour_of (rgb_of c) ≡ c
unfolding shades
colour_back White v = refl
colour_back Black v = refl
colour_back (Hue zero zero) v = refl
colour_back (Hue zero (suc zero)) v = refl
colour_back (Hue zero (suc (suc zero))) v = refl
colour_back (Hue (suc zero) zero) v = refl
colour_back (Hue (suc zero) (suc zero)) v = refl
colour_back (Hue (suc zero) (suc (suc zero))) v = refl
colour_back (Hue (suc (suc zero)) zero) v = refl
colour_back (Hue (suc (suc zero)) (suc zero)) v = refl
colour_back (Hue (suc (suc zero)) (suc (suc zero))) v = refl
colour_back (Hue (suc (suc (suc zero))) zero) v = refl
colour_back (Hue (suc (suc (suc zero))) (suc zero)) v = refl
colour_back (Hue (suc (suc (suc zero))) (suc (suc zero))) v = refl
colour_back (Hue (suc (suc (suc (suc zero)))) zero) v = refl
colour_back (Hue (suc (suc (suc (suc zero)))) (suc zero)) v = refl
colour_back (Hue (suc (suc (suc (suc zero)))) (suc (suc zero))) v = refl
colour_back (Hue (suc (suc (suc (suc (suc zero))))) zero) v = refl
colour_back (Hue (suc (suc (suc (suc (suc zero))))) (suc zero)) v = refl
colour_back (Hue (suc (suc (suc (suc (suc zero))))) (suc (suc zero))) v = refl
colour_back (Hue (suc (suc (suc (suc (suc (suc h)))))) l) v = absurd (omega (arith, v.0))
colour_back (Hue zero (suc (suc (suc l)))) v = absurd (omega (arith, v.1))
colour_back (Hue (suc zero) (suc (suc (suc l)))) v = absurd (omega (arith, v.1))
colour_back (Hue (suc (suc zero)) (suc (suc (suc l)))) v = absurd (omega (arith, v.1))
colour_back (Hue (suc (suc (suc zero))) (suc (suc (suc l)))) v = absurd (omega (arith, v.1))
colour_back (Hue (suc (suc (suc (suc zero)))) (suc (suc (suc l)))) v = absurd (omega (arith, v.1))
colour_back (Hue (suc (suc (suc (suc (suc zero))))) (suc (suc (suc l)))) v = absurd (omega (arith, v.1))

-- numbers, each with a byte behind it
abbrev Spaced : Type 0
Spaced = List (ℕ × ℕ)

abbrev spaced : Spaced → List ℕ
spaced [] = []
spaced (p ∷ ps) = decimal p.0 ++ p.1 ∷ spaced ps

abbrev numbers : Spaced → List ℕ
numbers [] = []
numbers (p ∷ ps) = p.0 ∷ numbers ps

record Fits (p : ℕ × ℕ) : Type 0 where
  small : p.0 < 2 ^ 64
  apart : is_separator p.1 ≡ true

abbrev AllFit : Spaced → Type 0
AllFit [] = Unit {0}
AllFit (p ∷ ps) = Fits p × AllFit ps

spaced-append : (a b : Spaced) → spaced (a ++ b) ≡ spaced a ++ spaced b
spaced-append [] b = refl
spaced-append (p ∷ a) b = ap (λ (xs : List ℕ). decimal p.0 ++ p.1 ∷ xs) (spaced-append a b) ∙ sym (append_assoc (decimal p.0) (p.1 ∷ spaced a) (spaced b))

numbers-append : (a b : Spaced) → numbers (a ++ b) ≡ numbers a ++ numbers b
numbers-append [] b = refl
numbers-append (p ∷ a) b = ap (λ (xs : List ℕ). p.0 ∷ xs) (numbers-append a b)

fit-append : (a b : Spaced) → AllFit a → AllFit b → AllFit (a ++ b)
fit-append [] b f g = g
fit-append (p ∷ a) b f g = (f.0, fit-append a b f.1 g)

-- digits are no separators and begin no comment
record IsInner (byte : ℕ) : Type 0 where
  other : is_separator byte ≡ false
  plain : (byte == 35) ≡ false

abbrev AllInner : List ℕ → Type 0
AllInner [] = Unit {0}
AllInner (b ∷ bs) = IsInner b × AllInner bs

inner_digit : (c : ℕ) → 48 ≤ c → IsInner c
inner_digit c low = record { other = grind (arith, nat_tests); plain = grind (arith, nat_tests) }

inner_digits : (ds : List ℕ) → AllDigits 10 ds → AllInner ds
inner_digits [] p = tt
inner_digits (c ∷ ds) p = (inner_digit c (digit_from_value c p.0).0, inner_digits ds p.1)

sep_plain : (c : ℕ) → is_separator c ≡ true → (c == 35) ≡ false
sep_plain c e = go (c == 35) refl
  where
    go : (b : Bool) → (c == 35) ≡ b → (c == 35) ≡ false
    go true is = let h : c ≡ 35 = eqb-true c 35 is in let f : is_separator 35 ≡ true = subst (λ x. is_separator x ≡ true) h e in let z : false ≡ true = f in cc
    go false is = is

plain_inner : (ds rest : List ℕ) → AllInner ds → blanked false (ds ++ rest) ≡ ds ++ blanked false rest
plain_inner [] rest p = refl
plain_inner (c ∷ ds) rest p = rw p.0.plain (ap (λ (xs : List ℕ). c ∷ xs) (plain_inner ds rest p.1))

plain_spaced : (ps : Spaced) → AllFit ps → uncommented (spaced ps) ≡ spaced ps
plain_spaced [] f = refl
plain_spaced (p ∷ ps) f =
    let d = decimal_is_IsNumeral p.0 f.0.small in
    plain_inner (decimal p.0) (p.1 ∷ spaced ps) (inner_digits (decimal p.0) d.0.1)
    ∙ ap (λ (xs : List ℕ). decimal p.0 ++ xs) (rw (sep_plain p.1 f.0.apart) (ap (λ (xs : List ℕ). p.1 ∷ xs) (plain_spaced ps f.1)))

-- places
run_inside : (at : ℕ) (ds rest : List ℕ) → AllInner ds → places_from at true (ds ++ rest) ≡ places_from (at + length ds) true rest
run_inside at [] rest p = let e : at ≡ at + 0 = omega arith in ap (λ n. places_from n true rest) e
run_inside at (c ∷ ds) rest p =
    let e : suc at + length ds ≡ at + suc (length ds) = omega arith in
    rw p.0.other (run_inside (suc at) ds rest p.1 ∙ ap (λ n. places_from n true rest) e)

number_places : (at : ℕ) (ds : List ℕ) (sep : ℕ) (rest : List ℕ) → 0 < length ds → AllInner ds → is_separator sep ≡ true → places_from at false (ds ++ sep ∷ rest) ≡ at ∷ places_from (at + suc (length ds)) false rest
number_places at [] sep rest h p e = absurd (omega arith)
number_places at (c ∷ ds) sep rest h p e =
    let more = run_inside (suc at) ds (sep ∷ rest) p.1 in
    let next : suc (suc at + length ds) ≡ at + suc (suc (length ds)) = omega arith in
    rw p.0.other (ap (λ (xs : List ℕ). at ∷ xs) (more ∙ rw e (ap (λ n. places_from n false rest) next)))

piece_front : (ds : List ℕ) (sep : ℕ) (rest : List ℕ) → AllInner ds → is_separator sep ≡ true → first_piece (ds ++ sep ∷ rest) ≡ ds
piece_front [] sep rest p e = rw e refl
piece_front (c ∷ ds) sep rest p e =
    let more = piece_front ds sep rest p.1 e in
    let one : 1 + prefix_len is_other (ds ++ sep ∷ rest) ≡ suc (prefix_len is_other (ds ++ sep ∷ rest)) = omega arith in
    rw p.0.other (rw one (ap (λ (xs : List ℕ). c ∷ xs) more))

number_of : (n : ℕ) → n < 2 ^ 64 → number_in (decimal n) ≡ Some n
number_of n h =
    let d = decimal_is_IsNumeral n h in
    let some : nat_lt 0 (length (decimal n)) ≡ true = let g = d.0.0 in grind (arith, nat_tests) in
    let all = are_digits (decimal n) d.0.1 in
    number_is (decimal n) (rw (some, all) refl) ∙ ap (λ v. Some v) d.1

-- the numbers of the pieces of bytes that stand behind others
abbrev told : List ℕ → Option ℕ → Option ℕ
told bytes place = option_and_then (λ p. number_in (piece_at bytes p)) place

front_drop : (front : List ℕ) (rest : List ℕ) → drop (length front) (front ++ rest) ≡ rest
front_drop [] rest = refl
front_drop (b ∷ front) rest = front_drop front rest

told_numbers : (front : List ℕ) (ps : Spaced) → AllFit ps → (k : ℕ) → told (front ++ spaced ps) (slice_get (places_from (length front) false (spaced ps)) k) ≡ slice_get (numbers ps) k
told_numbers front [] f k = refl
told_numbers front (p ∷ ps) f zero =
    let d = decimal_is_IsNumeral p.0 f.0.small in
    let inner = inner_digits (decimal p.0) d.0.1 in
    let X = decimal p.0 ++ p.1 ∷ spaced ps in
    ap (λ (xs : List ℕ). told (front ++ X) (slice_get xs 0)) (number_places (length front) (decimal p.0) p.1 (spaced ps) d.0.0 inner f.0.apart)
    ∙ (ap (λ (xs : List ℕ). number_in (first_piece xs)) (front_drop front X) ∙ (ap number_in (piece_front (decimal p.0) p.1 (spaced ps) inner f.0.apart) ∙ number_of p.0 f.0.small))
told_numbers front (p ∷ ps) f (suc k) =
    let d = decimal_is_IsNumeral p.0 f.0.small in
    let inner = inner_digits (decimal p.0) d.0.1 in
    let X = decimal p.0 ++ p.1 ∷ spaced ps in
    let longer = front ++ (decimal p.0 ++ p.1 ∷ []) in
    let one : length (decimal p.0 ++ p.1 ∷ []) ≡ suc (length (decimal p.0)) = length-append (decimal p.0) (p.1 ∷ []) ∙ (let e : length (decimal p.0) + 1 ≡ suc (length (decimal p.0)) = omega arith in e) in
    let size : length longer ≡ length front + suc (length (decimal p.0)) = length-append front (decimal p.0 ++ p.1 ∷ []) ∙ ap (λ n. length front + n) one in
    let same : longer ++ spaced ps ≡ front ++ X = append_assoc front (decimal p.0 ++ p.1 ∷ []) (spaced ps) ∙ ap (λ (xs : List ℕ). front ++ xs) (append_assoc (decimal p.0) (p.1 ∷ []) (spaced ps)) in
    ap (λ (xs : List ℕ). told (front ++ X) (slice_get xs (suc k))) (number_places (length front) (decimal p.0) p.1 (spaced ps) d.0.0 inner f.0.apart)
    ∙ (ap (λ n. told (front ++ X) (slice_get (places_from n false (spaced ps)) k)) (sym size)
    ∙ (ap (λ (xs : List ℕ). told xs (slice_get (places_from (length longer) false (spaced ps)) k)) (sym same) ∙ told_numbers longer ps f.1 k))

count_places : (at : ℕ) (ps : Spaced) → AllFit ps → length (places_from at false (spaced ps)) ≡ length ps
count_places at [] f = refl
count_places at (p ∷ ps) f =
    let d = decimal_is_IsNumeral p.0 f.0.small in
    let inner = inner_digits (decimal p.0) d.0.1 in
    ap length (number_places at (decimal p.0) p.1 (spaced ps) d.0.0 inner f.0.apart) ∙ ap suc (count_places (at + suc (length (decimal p.0))) ps f.1)

-- the numbers of an image
abbrev rgb_numbers : Rgb → ℕ → Spaced
rgb_numbers rgb end = (rgb.0, 32) ∷ (rgb.1, 32) ∷ (rgb.2, end) ∷ []

abbrev row_numbers : List Colour → Spaced
row_numbers [] = []
row_numbers (c ∷ []) = rgb_numbers (rgb_of c) 10
row_numbers (c ∷ d ∷ row) = rgb_numbers (rgb_of c) 32 ++ row_numbers (d ∷ row)

abbrev image_numbers : List (List Colour) → Spaced
image_numbers [] = []
image_numbers (row ∷ rows) = row_numbers row ++ image_numbers rows

row_is : (row : List Colour) → row_text row ≡ spaced (row_numbers row)
row_is [] = refl
row_is (c ∷ []) = refl
row_is (c ∷ d ∷ row) = ap (λ (xs : List ℕ). rgb_text (rgb_of c) 32 ++ xs) (row_is (d ∷ row)) ∙ sym (spaced-append (rgb_numbers (rgb_of c) 32) (row_numbers (d ∷ row)))

rows_are : (rows : List (List Colour)) → flat_map row_text rows ≡ spaced (image_numbers rows)
rows_are [] = refl
rows_are (row ∷ rows) = ap (λ (xs : List ℕ). xs ++ flat_map row_text rows) (row_is row) ∙ (ap (λ (xs : List ℕ). spaced (row_numbers row) ++ xs) (rows_are rows) ∙ sym (spaced-append (row_numbers row) (image_numbers rows)))

-- how much of each colour there is
pub record Byte3 (rgb : Rgb) : Type 0 where
  pub red : rgb.0 < 256
  pub green : rgb.1 < 256
  pub blue : rgb.2 < 256

abbrev small_rgb : Rgb → Bool
small_rgb rgb = nat_lt rgb.0 256 && (nat_lt rgb.1 256 && nat_lt rgb.2 256)

abbrev all_small : List Rgb → Bool
all_small [] = true
all_small (rgb ∷ more) = small_rgb rgb && all_small more

both_left : (a b : Bool) → (a && b) ≡ true → a ≡ true
both_left true b h = refl
both_left false b h = h

both_right : (a b : Bool) → (a && b) ≡ true → b ≡ true
both_right true b h = h
both_right false b h = cc

bytes_from : (rgb : Rgb) → small_rgb rgb ≡ true → Byte3 rgb
bytes_from rgb e =
    let r = both_left (nat_lt rgb.0 256) (nat_lt rgb.1 256 && nat_lt rgb.2 256) e in
    let gb = both_right (nat_lt rgb.0 256) (nat_lt rgb.1 256 && nat_lt rgb.2 256) e in
    let g = both_left (nat_lt rgb.1 256) (nat_lt rgb.2 256) gb in
    let b = both_right (nat_lt rgb.1 256) (nat_lt rgb.2 256) gb in
    record { red = ltb-true rgb.0 256 r; green = ltb-true rgb.1 256 g; blue = ltb-true rgb.2 256 b }

bytes_at : (xs : List Rgb) → all_small xs ≡ true → (n : ℕ) → Byte3 (unwrap_or (slice_get xs n) (255, 255, 255))
bytes_at [] e n = record { red = omega arith; green = omega arith; blue = omega arith }
bytes_at (x ∷ xs) e zero = bytes_from x (both_left (small_rgb x) (all_small xs) e)
bytes_at (x ∷ xs) e (suc n) = bytes_at xs (both_right (small_rgb x) (all_small xs) e) n

shades_small : all_small shades ≡ true
unfolding shades
shades_small = refl

pub bytes_of : (c : Colour) → Byte3 (rgb_of c)
bytes_of White = record { red = omega arith; green = omega arith; blue = omega arith }
bytes_of Black = record { red = omega arith; green = omega arith; blue = omega arith }
bytes_of (Hue h l) = bytes_at shades shades_small (3 * h + l)

fit_rgb : (c : Colour) (end : ℕ) → is_separator end ≡ true → AllFit (rgb_numbers (rgb_of c) end)
fit_rgb c end e =
    let b = bytes_of c in
    let red = b.red in
    let green = b.green in
    let blue = b.blue in
    (record { small = omega arith; apart = refl }, (record { small = omega arith; apart = refl }, (record { small = omega arith; apart = e }, tt)))

fit_row : (row : List Colour) → AllFit (row_numbers row)
fit_row [] = tt
fit_row (c ∷ []) = fit_rgb c 10 refl
fit_row (c ∷ d ∷ row) = fit-append (rgb_numbers (rgb_of c) 32) (row_numbers (d ∷ row)) (fit_rgb c 32 refl) (fit_row (d ∷ row))

fit_rows : (rows : List (List Colour)) → AllFit (image_numbers rows)
fit_rows [] = tt
fit_rows (row ∷ rows) = fit-append (row_numbers row) (image_numbers rows) (fit_row row) (fit_rows rows)

-- three numbers of each colour
abbrev three : List Colour → List ℕ
three [] = []
three (c ∷ cs) = (rgb_of c).0 ∷ (rgb_of c).1 ∷ (rgb_of c).2 ∷ three cs

three-append : (a b : List Colour) → three (a ++ b) ≡ three a ++ three b
three-append [] b = refl
three-append (c ∷ a) b = ap (λ (xs : List ℕ). (rgb_of c).0 ∷ (rgb_of c).1 ∷ (rgb_of c).2 ∷ xs) (three-append a b)

row_three : (row : List Colour) → numbers (row_numbers row) ≡ three row
row_three [] = refl
row_three (c ∷ []) = refl
row_three (c ∷ d ∷ row) = ap (λ (xs : List ℕ). (rgb_of c).0 ∷ (rgb_of c).1 ∷ (rgb_of c).2 ∷ xs) (row_three (d ∷ row))

rows_three : (rows : List (List Colour)) → numbers (image_numbers rows) ≡ three (flatten rows)
rows_three [] = refl
rows_three (row ∷ rows) = numbers-append (row_numbers row) (image_numbers rows) ∙ (ap (λ (xs : List ℕ). xs ++ numbers (image_numbers rows)) (row_three row) ∙ (ap (λ (xs : List ℕ). three row ++ xs) (rows_three rows) ∙ sym (three-append row (flatten rows))))

length-numbers : (ps : Spaced) → length (numbers ps) ≡ length ps
length-numbers [] = refl
length-numbers (p ∷ ps) = ap suc (length-numbers ps)

length-three : (cs : List Colour) → length (three cs) ≡ 3 * length cs
length-three [] = omega arith
length-three (c ∷ cs) = omega (arith, length-three cs)

-- and the samples of the one at an index
pub record Three (cs : List Colour) (j : ℕ) (c : Colour) : Type 0 where
  pub red : slice_get (three cs) (3 * j) ≡ Some (rgb_of c).0
  pub green : slice_get (three cs) (3 * j + 1) ≡ Some (rgb_of c).1
  pub blue : slice_get (three cs) (3 * j + 2) ≡ Some (rgb_of c).2

three_at : (cs : List Colour) (j : ℕ) (c : Colour) → slice_get cs j ≡ Some c → Three cs j c
three_at [] zero c e = cc
three_at [] (suc j) c e = cc
three_at (d ∷ cs) zero c e =
    let same : d ≡ c = cc in
    let a : 3 * 0 ≡ 0 = omega arith in
    subst (λ z. Three (d ∷ cs) 0 z) same (rw a (record { red = refl; green = refl; blue = refl }))
three_at (d ∷ cs) (suc j) c e =
    let more = three_at cs j c e in
    let a : 3 * suc j ≡ suc (suc (suc (3 * j))) = omega arith in
    let b : 3 * suc j + 1 ≡ suc (suc (suc (3 * j + 1))) = omega arith in
    let g : 3 * suc j + 2 ≡ suc (suc (suc (3 * j + 2))) = omega arith in
    record {
      red = ap (slice_get (three (d ∷ cs))) a ∙ more.red;
      green = ap (slice_get (three (d ∷ cs))) b ∙ more.green;
      blue = ap (slice_get (three (d ∷ cs))) g ∙ more.blue;
    }

three_small : (cs : List Colour) (i : ℕ) → i < length (three cs) → (v : ℕ) × (slice_get (three cs) i ≡ Some v) × (v < 256)
three_small [] i h = absurd (omega arith)
three_small (c ∷ cs) zero h = ((rgb_of c).0, refl, (bytes_of c).red)
three_small (c ∷ cs) (suc zero) h = ((rgb_of c).1, refl, (bytes_of c).green)
three_small (c ∷ cs) (suc (suc zero)) h = ((rgb_of c).2, refl, (bytes_of c).blue)
three_small (c ∷ cs) (suc (suc (suc i))) h = three_small cs i (omega arith)

abbrev head_numbers : ℕ → ℕ → Spaced
head_numbers width height = (width, 32) ∷ (height, 10) ∷ (255, 10) ∷ []

most_text : decimal 255 ≡ 50 ∷ 53 ∷ 53 ∷ []
most_text =
    let a : decimal 255 ≡ decimal 25 ++ (53 ∷ []) = decimal_step 255 (omega arith) (omega arith) in
    let b : decimal 25 ≡ decimal 2 ++ (53 ∷ []) = decimal_step 25 (omega arith) (omega arith) in
    let d : decimal 2 ≡ 50 ∷ [] = decimal_digit 2 (omega arith) in
    a ∙ ap (λ (xs : List ℕ). xs ++ (53 ∷ [])) (b ∙ ap (λ (xs : List ℕ). xs ++ (53 ∷ [])) d)

text_is : (width : ℕ) (rows : List (List Colour)) → image_text width rows ≡ 80 ∷ 51 ∷ 10 ∷ spaced (head_numbers width (length rows) ++ image_numbers rows)
text_is width rows =
    let h = length rows in
    let head : header_text width h ≡ 80 ∷ 51 ∷ 10 ∷ spaced (head_numbers width h) = ap (λ (xs : List ℕ). 80 ∷ 51 ∷ 10 ∷ (decimal width ++ 32 ∷ (decimal h ++ 10 ∷ (xs ++ 10 ∷ [])))) (sym most_text) in
    ap (λ (xs : List ℕ). xs ++ flat_map row_text rows) head
    ∙ ap (λ (xs : List ℕ). 80 ∷ 51 ∷ 10 ∷ xs) (ap (λ (xs : List ℕ). spaced (head_numbers width h) ++ xs) (rows_are rows) ∙ sym (spaced-append (head_numbers width h) (image_numbers rows)))

module _ (width : ℕ) (rows : List (List Colour)) (wide : IsExtent width) (high : IsExtent (length rows)) where
  abbrev all : Spaced
  all = head_numbers width (length rows) ++ image_numbers rows

  all_fit : AllFit all
  all_fit =
      let a = wide.1 in
      let b = high.1 in
      (record { small = omega arith; apart = refl }, (record { small = omega arith; apart = refl }, (record { small = omega arith; apart = refl }, fit_rows rows)))

  abbrev bytes : List ℕ
  bytes = 80 ∷ 51 ∷ 10 ∷ spaced all

  bare : uncommented (image_text width rows) ≡ bytes
  bare = ap uncommented (text_is width rows) ∙ ap (λ (xs : List ℕ). 80 ∷ 51 ∷ 10 ∷ xs) (plain_spaced all all_fit)

  number_is_at : (k : ℕ) → number_at bytes (suc k) ≡ slice_get (numbers all) k
  number_is_at k = told_numbers (80 ∷ 51 ∷ 10 ∷ []) all all_fit k

  the_numbers : numbers all ≡ width ∷ length rows ∷ 255 ∷ three (flatten rows)
  the_numbers = ap (λ (xs : List ℕ). width ∷ length rows ∷ 255 ∷ xs) (rows_three rows)

  sample_is_at : (i : ℕ) → sample_at bytes (4 + i) ≡ option_and_then byte_in (slice_get (three (flatten rows)) i)
  sample_is_at i =
      let e : 4 + i ≡ suc (suc (suc (suc i))) = omega arith in
      ap (sample_at bytes) e ∙ ap (option_and_then byte_in) (number_is_at (suc (suc (suc i))) ∙ ap (λ (xs : List ℕ). slice_get xs (suc (suc (suc i)))) the_numbers)

  in_byte : (v : ℕ) → v < 256 → byte_in v ≡ Some v
  in_byte v h = let t : nat_lt v 256 ≡ true = grind (arith, nat_tests) in rw t refl

  header_there : HasHeader bytes width (length rows)
  header_there = record {
    magic = refl;
    wide = number_is_at 0 ∙ ap (λ (xs : List ℕ). slice_get xs 0) the_numbers;
    high = number_is_at 1 ∙ ap (λ (xs : List ℕ). slice_get xs 1) the_numbers;
    most = number_is_at 2 ∙ ap (λ (xs : List ℕ). slice_get xs 2) the_numbers;
    wide_fits = wide;
    high_fits = high;
  }

  samples_there : AreSamples bytes 4 (3 * length (flatten rows))
  samples_there i h =
      let t = three_small (flatten rows) i (let n = length-three (flatten rows) in omega arith) in
      ap is_some (sample_is_at i ∙ (ap (option_and_then byte_in) t.1 ∙ in_byte t.0 t.2))

  ends_there : length (places bytes) ≡ 4 + 3 * length (flatten rows)
  ends_there =
      let c = count_places 3 all all_fit in
      let n = ap length the_numbers in
      let m = length-numbers all in
      let t = length-three (flatten rows) in
      omega (arith, c, n, m, t)

  sample_value : (i v : ℕ) → slice_get (three (flatten rows)) i ≡ Some v → v < 256 → sample bytes (4 + i) ≡ v
  sample_value i v e h = ap (λ o. unwrap_or o 0) (sample_is_at i ∙ (ap (option_and_then byte_in) e ∙ in_byte v h))

  pixel_there : (j : ℕ) (c : Colour) → slice_get (flatten rows) j ≡ Some c → IsColour c → pixel_from bytes (4 + 3 * j) ≡ c
  pixel_there j c e v =
      let t = three_at (flatten rows) j c e in
      let b = bytes_of c in
      let one : 4 + 3 * j + 1 ≡ 4 + (3 * j + 1) = omega arith in
      let two : 4 + 3 * j + 2 ≡ 4 + (3 * j + 2) = omega arith in
      let r = sample_value (3 * j) (rgb_of c).0 t.red b.red in
      let g = ap (sample bytes) one ∙ sample_value (3 * j + 1) (rgb_of c).1 t.green b.green in
      let u = ap (sample bytes) two ∙ sample_value (3 * j + 2) (rgb_of c).2 t.blue b.blue in
      ap (λ n. colour_of (n, sample bytes (4 + 3 * j + 1), sample bytes (4 + 3 * j + 2))) r
      ∙ (ap (λ n. colour_of ((rgb_of c).0, n, sample bytes (4 + 3 * j + 2))) g
      ∙ (ap (λ n. colour_of ((rgb_of c).0, (rgb_of c).1, n)) u ∙ colour_back c v))

colour_at : (cs : List Colour) (j : ℕ) → j < length cs → (c : Colour) × (slice_get cs j ≡ Some c)
colour_at [] j h = absurd (omega arith)
colour_at (c ∷ cs) zero h = (c, refl)
colour_at (d ∷ cs) (suc j) h = colour_at cs j (omega arith)

valid_at : (cs : List Colour) (j : ℕ) (c : Colour) → AllByRecursion IsColour cs → slice_get cs j ≡ Some c → IsColour c
valid_at [] zero c v e = cc
valid_at [] (suc j) c v e = cc
valid_at (d ∷ cs) zero c v e = let same : d ≡ c = cc in subst IsColour same v.0
valid_at (d ∷ cs) (suc j) c v e = valid_at cs j c v.1 e

pub written_spells : (width : ℕ) (rows : List (List Colour)) → IsExtent width → IsExtent (length rows) → width * length rows ≤ 2 ^ 26 → length (flatten rows) ≡ length rows * width → AllByRecursion IsColour (flatten rows)
    → Spells (image_text width rows) 1 (record { width = width; height = length rows; codels = flatten rows })
written_spells width rows wide high few count valid =
    let h = length rows in
    let w1 : width / 1 ≡ width = omega arith in
    let h1 : h / 1 ≡ h = omega arith in
    let w0 : width % 1 ≡ 0 = omega arith in
    let h0 : h % 1 ≡ 0 = omega arith in
    let total : 3 * length (flatten rows) ≡ 3 * (width * h) = ap (λ n. 3 * n) count ∙ (let e : 3 * (h * width) ≡ 3 * (width * h) = omega arith in e) in
    let bs = bytes width rows wide high in
    let back = sym (bare width rows wide high) in
    record {
      width = width;
      height = h;
      opens = subst (λ b. HasCodels b 1 width h) back (record { header = header_there width rows wide high; across = w0; down = h0; few = rw (w1, h1) few });
      samples = subst (λ b. AreSamples b 4 (3 * (width * h))) back (subst (AreSamples bs 4) total (samples_there width rows wide high));
      ends = subst (λ b. length (places b) ≡ 4 + 3 * (width * h)) back (ends_there width rows wide high ∙ ap (λ n. 4 + n) total);
      shows = subst (λ b. Shows b 1 width h (record { width = width; height = h; codels = flatten rows })) back (record {
        across = sym w1;
        down = sym h1;
        count = count;
        shown = λ x y a b.
            let j = y * width + x in
            let there : j < length (flatten rows) = omega (arith, mul-add-lt y width x h b a, count) in
            let c = colour_at (flatten rows) j there in
            let at : 4 + 3 * ((y * 1) * width + x * 1) ≡ 4 + 3 * j = (let ey : y * 1 ≡ y = omega arith in let ex : x * 1 ≡ x = omega arith in ap (λ n. 4 + 3 * (n * width + x * 1)) ey ∙ ap (λ n. 4 + 3 * (y * width + n)) ex) in
            c.1 ∙ ap (λ z. Some z) (sym (ap (pixel_from bs) at ∙ pixel_there width rows wide high j c.0 c.1 (valid_at (flatten rows) j c.0 valid c.1)));
      });
    }
