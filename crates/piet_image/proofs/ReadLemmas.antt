-- Samples that were read, one after the other.
use Rattle.std.proofs.Common.{◌≡◌, ℕ, zero, suc, ◌+◌, ◌-◌, ◌*◌, ◌/◌, ◌%◌, ◌^◌, ◌<◌, ◌≤◌, min, Bool, true, false, nat_lt, ◌⊎◌, inl, inr, List, [], ◌∷◌, ◌++◌, length, get_or, Option, None, Some, unwrap_or, refl, sym, ap, subst, ◌∙◌, arith, add-zero, add_assoc}
use Rattle.std.specs.Option.{IsSome, is_some, option_and_then}
use Rattle.std.proofs.lemmas.Bool.{ltb-true, ltb-false}
use Rattle.std.proofs.lemmas.Bool.Decides.{nat_tests}
use Rattle.std.proofs.lemmas.List.{get_or_append_left, get_or_push, length_push}
use Rattle.std.proofs.Math.Nat.{mul-le-mul_right}
use Rattle.piet_image.specs.declared.read.PpmFault.{PpmFault}
use Rattle.piet_image.specs.declared.read.PpmFault.TheVariants.{BadHeader, NotCodel, TooLarge, BadNumber, Short, Extra, Memory}
use Rattle.piet_image.specs.Colours.{colour_of}
use Rattle.piet_image.specs.Code.{decoded}
use Rattle.piet_image.specs.Pieces.{uncommented, places, piece_at, number_in, byte_in, number_at, sample_at}
use Rattle.piet_image.specs.Text.{AreSamples, IsSample, sample, pixel_from}
use Rattle.piet_image.specs.Reading.{IsAt, IsRead, StopsAt, Breaks, HasSamples, AddsRow, HasRows, IsSampleRead, IsPixelRead}

pub lt_or : (a b : ℕ) → (a < b) ⊎ (b ≤ a)
lt_or a b = elim (nat_lt a b) as (λ t. nat_lt a b ≡ t → (a < b) ⊎ (b ≤ a)) [
  | true ↦ λ is. inl (ltb-true a b is)
  | false ↦ λ is. inr (ltb-false a b is)
] refl

pub samples_none : (bytes : List ℕ) (k : ℕ) → AreSamples bytes k 0
samples_none bytes k i h = absurd (omega arith)

pub samples_join : (bytes : List ℕ) (k a b : ℕ) → AreSamples bytes k a → AreSamples bytes (k + a) b → AreSamples bytes k (a + b)
samples_join bytes k a b first second i h = go (lt_or i a)
  where
    go : (i < a) ⊎ (a ≤ i) → IsSample bytes (k + i)
    go (inl l) = first i l
    go (inr g) =
        let at : (k + a) + (i - a) ≡ k + i = omega arith in
        subst (IsSample bytes) at (second (i - a) (omega arith))

pub one_sample : (bytes : List ℕ) (k value : ℕ) → sample_at bytes k ≡ Some value → AreSamples bytes k 1
one_sample bytes k value e i h =
    let zero_is : k ≡ k + i = omega arith in
    subst (IsSample bytes) zero_is (ap is_some e)

-- no samples yet, and one more
pub has_none : (text : List ℕ) (k : ℕ) (left : List ℕ) → IsAt text k left → HasSamples text k 0 left
has_none text k left at = record { samples = samples_none (uncommented text) k; behind = subst (λ n. IsAt text n left) (sym (add-zero k)) at }

pub has_more : (text : List ℕ) (k n value : ℕ) (rest rest' : List ℕ) → HasSamples text k n rest → IsSampleRead text (k + n) value rest' → HasSamples text k (n + 1) rest'
has_more text k n value rest rest' has r =
    let next : suc (k + n) ≡ k + (n + 1) = omega arith in
    record {
      samples = samples_join (uncommented text) k n 1 has.samples (one_sample (uncommented text) (k + n) value r.is);
      behind = subst (λ m. IsAt text m rest') next r.behind;
    }

pub has_join : (text : List ℕ) (k a b n : ℕ) (rest rest' : List ℕ) → n ≡ a + b → HasSamples text k a rest → HasSamples text (k + a) b rest' → HasSamples text k n rest'
has_join text k a b n rest rest' e first second =
    let at : (k + a) + b ≡ k + (a + b) = omega arith in
    subst (λ m. HasSamples text k m rest') (sym e)
    (record { samples = samples_join (uncommented text) k a b first.samples second.samples; behind = subst (λ m. IsAt text m rest') at second.behind })

pub has_pixel : (text : List ℕ) (k code : ℕ) (rest : List ℕ) → IsPixelRead text k code rest → HasSamples text k 3 rest
has_pixel text k code rest p = record { samples = p.samples; behind = p.behind }

-- the samples stop behind some
pub breaks_at : (text : List ℕ) (k n count : ℕ) (rest : List ℕ) (fault : PpmFault) → HasSamples text k n rest → n < count → StopsAt text (k + n) fault → Breaks text k count fault
breaks_at text k n count rest fault has less stop = record { some = n; below = less; before = has.samples; stop = stop }

pub breaks_join : (text : List ℕ) (k a b count : ℕ) (rest : List ℕ) (fault : PpmFault) → a + b ≤ count → HasSamples text k a rest → Breaks text (k + a) b fault → Breaks text k count fault
breaks_join text k a b count rest fault le has br =
    let at : (k + a) + br.some ≡ k + (a + br.some) = omega arith in
    let less = br.below in
    record {
      some = a + br.some;
      below = omega arith;
      before = samples_join (uncommented text) k a br.some has.samples br.before;
      stop = subst (λ m. StopsAt text m fault) at br.stop;
    }

pub no_memory : (text : List ℕ) (k count : ℕ) → 0 < count → Breaks text k count Memory
no_memory text k count some = record { some = 0; below = some; before = samples_none (uncommented text) k; stop = tt }

sample_is : (bytes : List ℕ) (k value : ℕ) → sample_at bytes k ≡ Some value → sample bytes k ≡ value
sample_is bytes k value e = ap (λ o. unwrap_or o 0) e

pub pixel_read : (text : List ℕ) (k red green blue code : ℕ) (r g b : List ℕ) → IsSampleRead text k red r → IsSampleRead text (suc k) green g → IsSampleRead text (suc (suc k)) blue b
    → decoded code ≡ colour_of (red, green, blue) → IsPixelRead text k code b
pixel_read text k red green blue code r g b x y z e =
    let bytes = uncommented text in
    let one : suc k ≡ k + 1 = omega arith in
    let two : suc (suc k) ≡ k + 2 = omega arith in
    let three : suc (suc (suc k)) ≡ k + 3 = omega arith in
    let green_is : sample_at bytes (k + 1) ≡ Some green = subst (λ m. sample_at bytes m ≡ Some green) one y.is in
    let blue_is : sample_at bytes (k + 2) ≡ Some blue = subst (λ m. sample_at bytes m ≡ Some blue) two z.is in
    record {
      samples = samples_join bytes k 2 1 (samples_join bytes k 1 1 (one_sample bytes k red x.is) (one_sample bytes (k + 1) green green_is)) (one_sample bytes (k + 2) blue blue_is);
      shows = e ∙ sym (ap (λ v. colour_of (v, sample bytes (k + 1), sample bytes (k + 2))) (sample_is bytes k red x.is)
          ∙ (ap (λ v. colour_of (red, v, sample bytes (k + 2))) (sample_is bytes (k + 1) green green_is)
          ∙ ap (λ v. colour_of (red, green, v)) (sample_is bytes (k + 2) blue blue_is)));
      behind = subst (λ m. IsAt text m b) three z.behind;
    }

pub pixel_breaks_second : (text : List ℕ) (k red : ℕ) (r : List ℕ) (fault : PpmFault) → IsSampleRead text k red r → StopsAt text (suc k) fault → Breaks text k 3 fault
pixel_breaks_second text k red r fault x stop =
    let one : suc k ≡ k + 1 = omega arith in
    record { some = 1; below = omega arith; before = one_sample (uncommented text) k red x.is; stop = subst (λ m. StopsAt text m fault) one stop }

pub pixel_breaks_third : (text : List ℕ) (k red green : ℕ) (r g : List ℕ) (fault : PpmFault) → IsSampleRead text k red r → IsSampleRead text (suc k) green g → StopsAt text (suc (suc k)) fault → Breaks text k 3 fault
pixel_breaks_third text k red green r g fault x y stop =
    let bytes = uncommented text in
    let one : suc k ≡ k + 1 = omega arith in
    let two : suc (suc k) ≡ k + 2 = omega arith in
    let green_is : sample_at bytes (k + 1) ≡ Some green = subst (λ m. sample_at bytes m ≡ Some green) one y.is in
    record { some = 2; below = omega arith; before = samples_join bytes k 1 1 (one_sample bytes k red x.is) (one_sample bytes (k + 1) green green_is); stop = subst (λ m. StopsAt text m fault) two stop }

pub pixel_breaks_first : (text : List ℕ) (k : ℕ) (fault : PpmFault) → StopsAt text k fault → Breaks text k 3 fault
pixel_breaks_first text k fault stop = record { some = 0; below = omega arith; before = samples_none (uncommented text) k; stop = subst (λ m. StopsAt text m fault) (sym (add-zero k)) stop }

-- a row of codes
pub row_none : (text : List ℕ) (k codel : ℕ) (old : List ℕ) → AddsRow text k codel old old 0
row_none text k codel old = record { count = sym (add-zero (length old)); kept = λ j h. refl; row = λ x h. absurd (omega arith) }

pub row_more : (text : List ℕ) (k codel : ℕ) (old new : List ℕ) (columns code : ℕ) (rest rest' : List ℕ) → AddsRow text k codel old new columns → IsPixelRead text (k + 3 * (columns * codel)) code rest → AddsRow text k codel old (new ++ code ∷ []) (columns + 1)
row_more text k codel old new columns code rest rest' adds p = record {
  count = omega (arith, length_push new code, adds.count);
  kept = λ j h. get_or_append_left new (code ∷ []) 0 j (omega (arith, adds.count)) ∙ adds.kept j h;
  row = λ x h. go x (lt_or x columns) h;
}
  where
    go : (x : ℕ) → (x < columns) ⊎ (columns ≤ x) → x < columns + 1 → decoded (get_or (new ++ code ∷ []) (length old + x) 0) ≡ pixel_from (uncommented text) (k + 3 * (x * codel))
    go x (inl l) h = ap decoded (get_or_append_left new (code ∷ []) 0 (length old + x) (omega (arith, adds.count))) ∙ adds.row x l
    go x (inr g) h =
        let last : columns ≡ x = omega arith in
        ap decoded (get_or_push new code 0 (length old + x) (omega (arith, adds.count)))
        ∙ (p.shows ∙ ap (λ n. pixel_from (uncommented text) (k + 3 * (n * codel))) last)

pub small_push : (codes : List ℕ) (code : ℕ) → ((j : ℕ) → get_or codes j 0 < 20) → code < 20 → (j : ℕ) → get_or (codes ++ code ∷ []) j 0 < 20
small_push [] code small h zero = h
small_push [] code small h (suc j) = omega arith
small_push (c ∷ codes) code small h zero = small 0
small_push (c ∷ codes) code small h (suc j) = small_push codes code (λ i. small (suc i)) h j

pub rows_more : (text : List ℕ) (codel columns : ℕ) (old new : List ℕ) (rows : ℕ) → HasRows text codel columns old rows → AddsRow text (4 + 3 * ((rows * codel) * (columns * codel))) codel old new columns → HasRows text codel columns new (rows + 1)
rows_more text codel columns old new rows has adds = record {
  count = omega (arith, adds.count, has.count);
  shown = λ x y h g. go x y h (lt_or y rows) g;
}
  where
    go : (x y : ℕ) → x < columns → (y < rows) ⊎ (rows ≤ y) → y < rows + 1 → decoded (get_or new (y * columns + x) 0) ≡ pixel_from (uncommented text) (4 + 3 * ((y * codel) * (columns * codel) + x * codel))
    go x y h (inl l) g =
        let bound : suc y * columns ≤ rows * columns = mul-le-mul_right columns l in
        ap decoded (adds.kept (y * columns + x) (omega (arith, has.count, bound))) ∙ has.shown x y h l
    go x y h (inr l) g =
        let last : rows ≡ y = omega arith in
        let here : length old + x ≡ y * columns + x = ap (λ n. n + x) (has.count ∙ ap (λ n. n * columns) last) in
        let at : (4 + 3 * ((y * codel) * (columns * codel))) + 3 * (x * codel) ≡ 4 + 3 * ((y * codel) * (columns * codel) + x * codel) = omega arith in
        ap (λ n. decoded (get_or new n 0)) (sym here) ∙ (adds.row x h ∙ (ap (λ n. pixel_from (uncommented text) ((4 + 3 * ((n * codel) * (columns * codel))) + 3 * (x * codel))) last ∙ ap (pixel_from (uncommented text)) at))

pub has_all : (text : List ℕ) (k n count : ℕ) (rest : List ℕ) → n ≡ count → HasSamples text k n rest → HasSamples text k count rest
has_all text k n count rest e has = subst (λ m. HasSamples text k m rest) e has

-- how much there is still to come
pub row_room : (x columns codel : ℕ) → x < columns → x * codel + codel ≤ columns * codel
row_room x columns codel l = let bound : suc x * codel ≤ columns * codel = mul-le-mul_right codel l in omega (arith, bound)

pub rows_room : (y rows codel w : ℕ) → y < rows → (y * codel) * w + codel * w ≤ (rows * codel) * w
rows_room y rows codel w l = let bound : (y * codel + codel) * w ≤ (rows * codel) * w = mul-le-mul_right w (row_room y rows codel l) in omega (arith, bound)

pub one_row : (codel w : ℕ) → 0 < codel → w + (codel - 1) * w ≡ codel * w
one_row zero w h = absurd (omega arith)
one_row (suc m) w h = let e : suc m - 1 ≡ m = omega arith in ap (λ n. w + n * w) e ∙ (let g : w + m * w ≡ suc m * w = omega arith in g)

pub not_most : (bytes : List ℕ) (value size : ℕ) → number_at bytes 3 ≡ Some value → size ≡ min value (2 ^ 64 - 1) → number_at bytes 3 ≡ Some 255 → size ≡ 255
not_most bytes value size is e most =
    let same : Some value ≡ Some 255 = sym is ∙ most in
    let v : value ≡ 255 = cc in
    omega (arith, v, e)

pub most_is : (bytes : List ℕ) (value size : ℕ) → number_at bytes 3 ≡ Some value → size ≡ min value (2 ^ 64 - 1) → size ≡ 255 → number_at bytes 3 ≡ Some 255
most_is bytes value size is e size_is = let v : value ≡ 255 = omega (arith, e, size_is) in is ∙ ap (λ n. Some n) v
