-- A text spells one image at most, and none where it is refused.
use Rattle.std.proofs.Common.{◌≡◌, ℕ, zero, suc, ◌+◌, ◌-◌, ◌*◌, ◌/◌, ◌%◌, ◌^◌, ◌<◌, ◌≤◌, true, false, ◌⊎◌, inl, inr, List, [], ◌∷◌, length, Option, None, Some, slice_get, refl, sym, ap, subst, ◌∙◌, arith}
use Rattle.std.specs.Option.{IsSome}
use Rattle.piet_image.proofs.ReadLemmas.{lt_or}
use Rattle.std.proofs.Math.Nat.{div-add-mod, mod-lt, mul-le-mul_right}
use Rattle.std.proofs.lemmas.Option.{slice_get_within}
use Rattle.piet_image.specs.declared.colour.Colour.{Colour}
use Rattle.piet_image.specs.declared.read.PpmFault.{PpmFault}
use Rattle.piet_image.specs.declared.read.PpmFault.TheVariants.{BadHeader, NotCodel, TooLarge, BadNumber, Short, Extra, Memory}
use Rattle.piet_image.specs.Raster.{Raster}
use Rattle.piet_image.specs.Pieces.{uncommented, places, number_at, sample_at}
use Rattle.piet_image.specs.Text.{HasHeader, IsCut, Divides, pixel_at, Shows, Spells, IsRefused}

pub record Same (w h w' h' : ℕ) : Type 0 where
  pub across : w ≡ w'
  pub down : h ≡ h'

pub same_header : (bytes : List ℕ) (w h w' h' : ℕ) → HasHeader bytes w h → HasHeader bytes w' h' → Same w h w' h'
same_header bytes w h w' h' a b =
    let x : Some w ≡ Some w' = sym a.wide ∙ b.wide in
    let y : Some h ≡ Some h' = sym a.high ∙ b.high in
    record { across = cc; down = cc }

pub some_none : (o : Option ℕ) → IsSome o → o ≡ None → ⊥
some_none None a b = let z : false ≡ true = a in cc
some_none (Some v) a b = cc

below : (y h n x : ℕ) → y * n + x < h * n → (y < h) ⊎ (h ≤ y) → y < h
below y h n x l (inl less) = less
below y h n x l (inr more) = let bound : h * n ≤ y * n = mul-le-mul_right n more in absurd (omega (arith, l, bound))

pub never_both : (text : List ℕ) (codel : ℕ) (image : Raster) (fault : PpmFault) → Spells text codel image → IsRefused text codel fault → ⊥
never_both text codel image BadHeader s r = r s.width s.height s.opens.header
never_both text codel image NotCodel s r =
    let same = same_header (uncommented text) s.width s.height r.width r.height s.opens.header r.header in
    r.wrong (subst (Divides codel) same.across s.opens.across, subst (Divides codel) same.down s.opens.down)
never_both text codel image TooLarge s r =
    let same = same_header (uncommented text) s.width s.height r.width r.height s.opens.header r.header in
    let few = subst (λ h. (r.width / codel) * (h / codel) ≤ 2 ^ 26) same.down (subst (λ w. (w / codel) * (s.height / codel) ≤ 2 ^ 26) same.across s.opens.few) in
    let many = r.wrong.1 in
    omega (arith, few, many)
never_both text codel image (BadNumber place) s r =
    let same = same_header (uncommented text) s.width s.height r.width r.height s.opens.header r.opens.header in
    let total : 3 * (s.width * s.height) ≡ 3 * (r.width * r.height) = ap (λ w. 3 * (w * s.height)) same.across ∙ ap (λ h. 3 * (r.width * h)) same.down in
    let less = r.stop.0 in
    let some = s.samples r.count (omega (arith, total, less)) in
    some_none (sample_at (uncommented text) (4 + r.count)) some r.stop.2
never_both text codel image Short s r =
    let same = same_header (uncommented text) s.width s.height r.width r.height s.opens.header r.opens.header in
    let total : 3 * (s.width * s.height) ≡ 3 * (r.width * r.height) = ap (λ w. 3 * (w * s.height)) same.across ∙ ap (λ h. 3 * (r.width * h)) same.down in
    let less = r.stop.0 in
    let ends = r.stop.1 in
    omega (arith, total, less, ends, s.ends)
never_both text codel image (Extra place) s r =
    let same = same_header (uncommented text) s.width s.height r.width r.height s.opens.header r.opens.header in
    let total : 3 * (s.width * s.height) ≡ 3 * (r.width * r.height) = ap (λ w. 3 * (w * s.height)) same.across ∙ ap (λ h. 3 * (r.width * h)) same.down in
    let all = r.stop.0 in
    let there = slice_get_within (places (uncommented text)) (4 + r.count) place r.stop.1 in
    omega (arith, total, all, there, s.ends)
never_both text codel image Memory s r = r

list_same : (xs ys : List Colour) → length xs ≡ length ys → ((j : ℕ) → j < length xs → slice_get xs j ≡ slice_get ys j) → xs ≡ ys
list_same [] [] e same = refl
list_same [] (y ∷ ys) e same = absurd (omega arith)
list_same (x ∷ xs) [] e same = absurd (omega arith)
list_same (x ∷ xs) (y ∷ ys) e same =
    let first = same 0 (omega arith) in
    let head : x ≡ y = cc in
    let rest = list_same xs ys (omega arith) (λ j h. same (suc j) (omega arith)) in
    ap (λ (z : Colour). z ∷ xs) head ∙ ap (λ (zs : List Colour). y ∷ zs) rest

some_columns : (w h j : ℕ) → j < h * w → 0 < w
some_columns zero h j l = absurd (omega arith)
some_columns (suc w) h j l = omega arith

raster_same : (a b : Raster) → a.width ≡ b.width → a.height ≡ b.height → a.codels ≡ b.codels → a ≡ b
raster_same a b x y z i = record { width = x i; height = y i; codels = z i }

same_codels : (bytes : List ℕ) (codel w h : ℕ) (image other : Raster) → Shows bytes codel w h image → Shows bytes codel w h other → image ≡ other
same_codels bytes codel w h image other a b =
    let across : image.width ≡ other.width = a.across ∙ sym b.across in
    let down : image.height ≡ other.height = a.down ∙ sym b.down in
    let size : length image.codels ≡ length other.codels = a.count ∙ (ap (λ n. n * image.width) down ∙ (ap (λ n. other.height * n) across ∙ sym b.count)) in
    raster_same image other across down (list_same image.codels other.codels size (λ j l. at j l across down))
  where
    at : (j : ℕ) → j < length image.codels → image.width ≡ other.width → image.height ≡ other.height → slice_get image.codels j ≡ slice_get other.codels j
    at j l across down =
        let n = image.width in
        let some = some_columns n image.height j (omega (arith, l, a.count)) in
        let x = j % n in
        let y = j / n in
        let xl : x < n = mod-lt j some in
        let parts = div-add-mod j n in
        let back : y * n + x ≡ j = omega (arith, parts) in
        let yl : y < image.height = below y image.height n x (omega (arith, back, l, a.count)) (lt_or y image.height) in
        let one = a.shown x y xl yl in
        let two = b.shown x y (subst (λ m. x < m) across xl) (subst (λ m. y < m) down yl) in
        ap (slice_get image.codels) (sym back) ∙ (one ∙ (sym two ∙ ap (slice_get other.codels) (ap (λ m. y * m + x) (sym across) ∙ back)))

pub spelled_once : (text : List ℕ) (codel : ℕ) (image other : Raster) → Spells text codel image → Spells text codel other → image ≡ other
spelled_once text codel image other s t =
    let same = same_header (uncommented text) s.width s.height t.width t.height s.opens.header t.opens.header in
    let shows = subst (λ h. Shows (uncommented text) codel t.width h image) same.down (subst (λ w. Shows (uncommented text) codel w s.height image) same.across s.shows) in
    same_codels (uncommented text) codel t.width t.height image other shows t.shows
