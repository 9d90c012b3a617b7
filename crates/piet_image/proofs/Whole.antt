-- A whole text that was read.
use Rattle.std.proofs.Common.{◌≡◌, ℕ, zero, suc, ◌+◌, ◌-◌, ◌*◌, ◌/◌, ◌%◌, ◌^◌, ◌<◌, ◌≤◌, List, [], ◌∷◌, length, get_or, map, Option, None, Some, slice_get, refl, sym, ap, subst, ◌∙◌, arith}
use Rattle.std.specs.Option.{option_map}
use Rattle.std.proofs.Math.Nat.{div-add-mod}
use Rattle.std.proofs.lemmas.Option.{slice_get-map, slice_get-get_or}
use Rattle.std.proofs.lemmas.List.{length-map}
use Rattle.piet_image.specs.declared.read.PpmFault.{PpmFault}
use Rattle.piet_image.specs.declared.read.PpmFault.TheVariants.{BadHeader, NotCodel, TooLarge, BadNumber, Short, Extra, Memory}
use Rattle.piet_image.specs.Code.{decoded}
use Rattle.piet_image.specs.Raster.{Raster}
use Rattle.piet_image.specs.Pieces.{uncommented, places}
use Rattle.piet_image.specs.Text.{HasHeader, HasCodels, AreSamples, pixel_from, pixel_at, Shows, Spells, StopsBehind, IsRefusedFor}
use Rattle.piet_image.specs.Reading.{IsAt, IsRead, StopsAt, Breaks, HasSamples, HasRows}
use Rattle.piet_image.proofs.ImageLemmas.{within}

pub whole_codels : (n codel : ℕ) → n % codel ≡ 0 → (n / codel) * codel ≡ n
whole_codels n codel e = let parts = div-add-mod n codel in omega (arith, parts, e)

pub all_samples : (width height codel : ℕ) → width % codel ≡ 0 → height % codel ≡ 0 → 3 * (((height / codel) * codel) * ((width / codel) * codel)) ≡ 3 * (width * height)
all_samples width height codel a b =
    let w = whole_codels width codel a in
    let h = whole_codels height codel b in
    ap (λ n. 3 * (n * ((width / codel) * codel))) h ∙ (ap (λ n. 3 * (height * n)) w ∙ (let e : 3 * (height * width) ≡ 3 * (width * height) = omega arith in e))

pub refused_codes : (text : List ℕ) (codel width height total : ℕ) (fault : PpmFault) → HasCodels (uncommented text) codel width height → total ≡ 3 * (width * height) → Breaks text 4 total fault → IsRefusedFor text codel fault
refused_codes text codel width height total BadHeader opens e br = absurd br.stop
refused_codes text codel width height total NotCodel opens e br = absurd br.stop
refused_codes text codel width height total TooLarge opens e br = absurd br.stop
refused_codes text codel width height total (BadNumber place) opens e br =
    record { width = width; height = height; opens = opens; count = br.some; samples = br.before; stop = (omega (arith, br.below, e), br.stop.0, br.stop.1) }
refused_codes text codel width height total Short opens e br =
    record { width = width; height = height; opens = opens; count = br.some; samples = br.before; stop = (omega (arith, br.below, e), br.stop) }
refused_codes text codel width height total (Extra place) opens e br = absurd br.stop
refused_codes text codel width height total Memory opens e br = tt

pub extra_behind : (text : List ℕ) (codel width height total place : ℕ) (left piece rest : List ℕ) → HasCodels (uncommented text) codel width height → total ≡ 3 * (width * height) → HasSamples text 4 total left
    → IsRead text (4 + total) piece rest → place ≡ length text - (length rest + length piece) → IsRefusedFor text codel (Extra place)
extra_behind text codel width height total place left piece rest opens e has read p =
    record { width = width; height = height; opens = opens; count = total; samples = has.samples; stop = (e, read.place ∙ ap (λ n. Some n) (sym p)) }

pub spelled : (text : List ℕ) (codel width height total : ℕ) (codes left : List ℕ) → HasCodels (uncommented text) codel width height → total ≡ 3 * (width * height) → HasSamples text 4 total left
    → HasRows text codel (width / codel) codes (height / codel) → length (places (uncommented text)) ≡ 4 + total
    → Spells text codel (record { width = width / codel; height = height / codel; codels = map decoded codes })
spelled text codel width height total codes left opens e has rows ends = record {
  width = width;
  height = height;
  opens = opens;
  samples = subst (AreSamples (uncommented text) 4) e has.samples;
  ends = ends ∙ ap (λ n. 4 + n) e;
  shows = record {
    across = refl;
    down = refl;
    count = length-map codes decoded ∙ rows.count;
    shown = λ x y a b.
        let w = whole_codels width codel opens.across in
        let there = within (width / codel) (height / codel) x y codes a b rows.count in
        let at : 4 + 3 * ((y * codel) * ((width / codel) * codel) + x * codel) ≡ 4 + 3 * ((y * codel) * width + x * codel) = ap (λ n. 4 + 3 * ((y * codel) * n + x * codel)) w in
        slice_get-map decoded codes (y * (width / codel) + x)
        ∙ (ap (option_map decoded) (slice_get-get_or codes (y * (width / codel) + x) 0 there)
        ∙ ap (λ z. Some z) (rows.shown x y a b ∙ ap (pixel_from (uncommented text)) at));
  };
}
