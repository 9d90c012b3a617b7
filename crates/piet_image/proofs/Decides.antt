-- Every text spells an image or is refused.
use Rattle.std.proofs.Common.{◌≡◌, ◌≢◌, ℕ, zero, suc, ◌+◌, ◌*◌, ◌/◌, ◌%◌, ◌^◌, ◌<◌, ◌≤◌, ◌==◌, Bool, true, false, ◌⊎◌, inl, inr, List, [], ◌∷◌, length, get_or, Option, None, Some, slice_get, option_and_then, refl, sym, ap, subst, ◌∙◌, arith}
use Rattle.std.specs.Option.{IsSome}
use Rattle.std.proofs.lemmas.Bool.{eqb-true, eqb-false}
use Rattle.std.proofs.lemmas.Option.{slice_get_within, slice_get-get_or}
use Rattle.piet_image.specs.declared.colour.Colour.{Colour}
use Rattle.piet_image.specs.declared.read.PpmFault.{PpmFault}
use Rattle.piet_image.specs.declared.read.PpmFault.TheVariants.{BadHeader, NotCodel, TooLarge, BadNumber, Short, Extra, Memory}
use Rattle.piet_image.specs.Pieces.{uncommented, places, piece_at, number_in, number_at, byte_in, sample_at}
use Rattle.piet_image.specs.Printed.{flatten, each_of}
use Rattle.piet_image.specs.Raster.{Raster}
use Rattle.piet_image.specs.Text.{IsExtent, HasHeader, HasCodels, IsCut, Divides, AreSamples, pixel_at, Shows, Spells, IsRefusedFor}
use Rattle.piet_image.proofs.ReadLemmas.{lt_or}
use Rattle.piet_image.proofs.Rows.{length-each, get_each, length-rows, get_row}

same_or : (a b : ℕ) → (a ≡ b) ⊎ (a ≢ b)
same_or a b = elim (a == b) as (λ t. (a == b) ≡ t → (a ≡ b) ⊎ (a ≢ b)) [
  | true ↦ λ is. inl (eqb-true a b is)
  | false ↦ λ is. inr (eqb-false a b is)
] refl

magic_or : (xs : List ℕ) → (xs ≡ 80 ∷ 51 ∷ []) ⊎ (xs ≡ 80 ∷ 51 ∷ [] → ⊥)
magic_or [] = inr (λ e. let n = ap length e in omega (arith, n))
magic_or (x ∷ []) = inr (λ e. let n = ap length e in omega (arith, n))
magic_or (x ∷ y ∷ z ∷ xs) = inr (λ e. let n = ap length e in omega (arith, n))
magic_or (x ∷ y ∷ []) = go (same_or x 80) (same_or y 51)
  where
    go : (x ≡ 80) ⊎ (x ≢ 80) → (y ≡ 51) ⊎ (y ≢ 51) → (x ∷ y ∷ [] ≡ 80 ∷ 51 ∷ []) ⊎ (x ∷ y ∷ [] ≡ 80 ∷ 51 ∷ [] → ⊥)
    go (inl a) (inl b) = inl (ap (λ (n : ℕ). n ∷ y ∷ []) a ∙ ap (λ (n : ℕ). 80 ∷ n ∷ []) b)
    go (inl a) (inr b) = inr (λ e. b (ap (λ (ns : List ℕ). get_or ns 1 0) e))
    go (inr a) b = inr (λ e. a (ap (λ (ns : List ℕ). get_or ns 0 0) e))

extent_or : (n : ℕ) → IsExtent n ⊎ (IsExtent n → ⊥)
extent_or n = go (lt_or 0 n) (lt_or (2 ^ 31) n)
  where
    go : (0 < n) ⊎ (n ≤ 0) → (2 ^ 31 < n) ⊎ (n ≤ 2 ^ 31) → IsExtent n ⊎ (IsExtent n → ⊥)
    go (inl a) (inl b) = inr (λ e. let most = e.1 in omega (arith, b, most))
    go (inl a) (inr b) = inl (omega (arith, a), b)
    go (inr a) b = inr (λ e. let least = e.0 in omega (arith, a, least))

same_some : (a b : ℕ) → Some a ≡ Some b → a ≡ b
same_some a b e = cc

not_none : (b : ℕ) → None ≡ Some b → ⊥
not_none b e = (let z : None ≡ Some b = e in cc)

some_gone : (o : Option ℕ) → o ≡ None → IsSome o → ⊥
some_gone None e some = (let z : false ≡ true = some in cc)
some_gone (Some v) e some = (let z : Some v ≡ None = e in cc)

record AnyHeader (bytes : List ℕ) : Type 0 where
  width : ℕ
  height : ℕ
  header : HasHeader bytes width height

module _ (bytes : List ℕ) where
  abbrev Header : Type 0
  Header = AnyHeader bytes ⊎ ((w h : ℕ) → HasHeader bytes w h → ⊥)

  header_fits : (w h v : ℕ) → piece_at bytes 0 ≡ 80 ∷ 51 ∷ [] → number_at bytes 1 ≡ Some w → number_at bytes 2 ≡ Some h → number_at bytes 3 ≡ Some v → (v ≡ 255) ⊎ (v ≢ 255) → IsExtent w ⊎ (IsExtent w → ⊥) → IsExtent h ⊎ (IsExtent h → ⊥) → Header
  header_fits w h v m a b c (inr n) x y = inr (λ w' h' d. n (same_some v 255 (sym c ∙ d.most)))
  header_fits w h v m a b c (inl e) (inr n) y = inr (λ w' h' d. n (subst IsExtent (same_some w' w (sym d.wide ∙ a)) d.wide_fits))
  header_fits w h v m a b c (inl e) (inl x) (inr n) = inr (λ w' h' d. n (subst IsExtent (same_some h' h (sym d.high ∙ b)) d.high_fits))
  header_fits w h v m a b c (inl e) (inl x) (inl y) = inl (record { width = w; height = h; header = record { magic = m; wide = a; high = b; most = c ∙ ap (λ n. Some n) e; wide_fits = x; high_fits = y } })

  header_by : (a b c : Option ℕ) → number_at bytes 1 ≡ a → number_at bytes 2 ≡ b → number_at bytes 3 ≡ c → (piece_at bytes 0 ≡ 80 ∷ 51 ∷ []) ⊎ (piece_at bytes 0 ≡ 80 ∷ 51 ∷ [] → ⊥) → Header
  header_by a b c x y z (inr n) = inr (λ w h d. n d.magic)
  header_by None b c x y z (inl m) = inr (λ w h d. not_none w (sym x ∙ d.wide))
  header_by (Some w) None c x y z (inl m) = inr (λ w' h d. not_none h (sym y ∙ d.high))
  header_by (Some w) (Some h) None x y z (inl m) = inr (λ w' h' d. not_none 255 (sym z ∙ d.most))
  header_by (Some w) (Some h) (Some v) x y z (inl m) = header_fits w h v m x y z (same_or v 255) (extent_or w) (extent_or h)

  header_or : Header
  header_or = header_by (number_at bytes 1) (number_at bytes 2) (number_at bytes 3) refl refl refl (magic_or (piece_at bytes 0))

  -- where samples stop
  record Stops (n : ℕ) : Type 0 where
    count : ℕ
    below : count < n
    samples : AreSamples bytes 4 count
    none : sample_at bytes (4 + count) ≡ None

  lt_of : (k n : ℕ) → k < suc n → (k < n) ⊎ (k ≡ n)
  lt_of k n h = grind arith

  is_some : (o : Option ℕ) (v : ℕ) → o ≡ Some v → IsSome o
  is_some o v e = subst IsSome (sym e) refl

  one_sample : (n : ℕ) (o : Option ℕ) → sample_at bytes (4 + n) ≡ o → AreSamples bytes 4 n → AreSamples bytes 4 (suc n) ⊎ Stops (suc n)
  one_sample n None e s = inr (record { count = n; below = omega arith; samples = s; none = e })
  one_sample n (Some v) e s = inl (λ i h. by i (lt_of i n h))
    where
      by : (i : ℕ) → (i < n) ⊎ (i ≡ n) → IsSome (sample_at bytes (4 + i))
      by i (inl l) = s i l
      by i (inr same) = subst (λ k. IsSome (sample_at bytes (4 + k))) (sym same) (is_some (sample_at bytes (4 + n)) v e)

  more_samples : (n : ℕ) → AreSamples bytes 4 n ⊎ Stops n → AreSamples bytes 4 (suc n) ⊎ Stops (suc n)
  more_samples n (inl s) = one_sample n (sample_at bytes (4 + n)) refl s
  more_samples n (inr s) = inr (record { count = s.count; below = omega (arith, s.below); samples = s.samples; none = s.none })

  samples_or : (n : ℕ) → AreSamples bytes 4 n ⊎ Stops n
  samples_or zero = inl (λ i h. absurd (omega arith))
  samples_or (suc n) = more_samples n (samples_or n)

  -- a number has a place
  none_there : (k : ℕ) (o : Option ℕ) → slice_get (places bytes) k ≡ o → IsSome (number_at bytes k) → k < length (places bytes)
  none_there k None e some = absurd (some_gone (number_at bytes k) (ap (option_and_then (λ place. number_in (piece_at bytes place))) e) some)
  none_there k (Some p) e some = slice_get_within (places bytes) k p e

  sample_number : (k : ℕ) (o : Option ℕ) → number_at bytes k ≡ o → IsSome (sample_at bytes k) → IsSome (number_at bytes k)
  sample_number k None e some = absurd (some_gone (sample_at bytes k) (ap (option_and_then byte_in) e) some)
  sample_number k (Some v) e some = is_some (number_at bytes k) v e

  some_places : (count : ℕ) → number_at bytes 3 ≡ Some 255 → AreSamples bytes 4 count → 4 + count ≤ length (places bytes)
  some_places zero most s = let there = none_there 3 (slice_get (places bytes) 3) refl (is_some (number_at bytes 3) 255 most) in omega (arith, there)
  some_places (suc count) most s =
      let last = s count (omega arith) in
      let there = none_there (4 + count) (slice_get (places bytes) (4 + count)) refl (sample_number (4 + count) (number_at bytes (4 + count)) refl last) in
      omega (arith, there)

-- the image that is spelled
module _ (bytes : List ℕ) (codel w h : ℕ) where
  abbrev row : ℕ → List Colour
  row y = each_of (λ x. pixel_at bytes w (x * codel) (y * codel)) (w / codel)

  shown_image : Raster
  shown_image = record { width = w / codel; height = h / codel; codels = flatten (each_of row (h / codel)) }

  row_wide : (y : ℕ) → length (row y) ≡ w / codel
  row_wide y = length-each (λ x. pixel_at bytes w (x * codel) (y * codel)) (w / codel)

  shows_image : Shows bytes codel w h shown_image
  unfolding shown_image
  shows_image = record {
    across = refl;
    down = refl;
    count = length-rows row (w / codel) row_wide (h / codel);
    shown = λ x y a b. get_row row (w / codel) row_wide (h / codel) x y a b ∙ get_each (λ x. pixel_at bytes w (x * codel) (y * codel)) (w / codel) x a;
  }

module _ (text : List ℕ) (codel : ℕ) where
  abbrev Refused : Type 0
  Refused = (fault : PpmFault) × (fault ≢ Memory) × IsRefusedFor text codel fault

  abbrev Decided : Type 0
  Decided = ((image : Raster) × Spells text codel image) ⊎ Refused

  abbrev bytes : List ℕ
  bytes = uncommented text

  stopped : (w h : ℕ) → HasCodels bytes codel w h → (s : Stops bytes (3 * (w * h))) → (4 + s.count < length (places bytes)) ⊎ (length (places bytes) ≤ 4 + s.count) → Decided
  stopped w h opens s (inl less) =
      let there = slice_get-get_or (places bytes) (4 + s.count) 0 less in
      inr (BadNumber (get_or (places bytes) (4 + s.count) 0), (λ e. not_memory_number (get_or (places bytes) (4 + s.count) 0) e), record { width = w; height = h; opens = opens; count = s.count; samples = s.samples; stop = (s.below, there, s.none) })
    where
      not_memory_number : (p : ℕ) → BadNumber p ≡ Memory → ⊥
      not_memory_number p e = (let z : BadNumber p ≡ Memory = e in cc)
  stopped w h opens s (inr more) =
      let least = some_places bytes s.count opens.header.most s.samples in
      let ends : length (places bytes) ≡ 4 + s.count = omega (arith, least, more) in
      inr (Short, (λ e. not_memory_short e), record { width = w; height = h; opens = opens; count = s.count; samples = s.samples; stop = (s.below, ends) })
    where
      not_memory_short : Short ≡ Memory → ⊥
      not_memory_short e = (let z : Short ≡ Memory = e in cc)

  ended : (w h : ℕ) → HasCodels bytes codel w h → AreSamples bytes 4 (3 * (w * h)) → (4 + 3 * (w * h) < length (places bytes)) ⊎ (length (places bytes) ≤ 4 + 3 * (w * h)) → Decided
  ended w h opens s (inl less) =
      let there = slice_get-get_or (places bytes) (4 + 3 * (w * h)) 0 less in
      inr (Extra (get_or (places bytes) (4 + 3 * (w * h)) 0), (λ e. not_memory_extra (get_or (places bytes) (4 + 3 * (w * h)) 0) e), record { width = w; height = h; opens = opens; count = 3 * (w * h); samples = s; stop = (refl, there) })
    where
      not_memory_extra : (p : ℕ) → Extra p ≡ Memory → ⊥
      not_memory_extra p e = (let z : Extra p ≡ Memory = e in cc)
  ended w h opens s (inr more) =
      let least = some_places bytes (3 * (w * h)) opens.header.most s in
      let ends : length (places bytes) ≡ 4 + 3 * (w * h) = omega (arith, least, more) in
      inl (shown_image bytes codel w h, record { width = w; height = h; opens = opens; samples = s; ends = ends; shows = shows_image bytes codel w h })

  sampled : (w h : ℕ) → HasCodels bytes codel w h → AreSamples bytes 4 (3 * (w * h)) ⊎ Stops bytes (3 * (w * h)) → Decided
  sampled w h opens (inl s) = ended w h opens s (lt_or (4 + 3 * (w * h)) (length (places bytes)))
  sampled w h opens (inr s) = stopped w h opens s (lt_or (4 + s.count) (length (places bytes)))

  sized : (w h : ℕ) → HasHeader bytes w h → IsCut codel w h → (2 ^ 26 < (w / codel) * (h / codel)) ⊎ ((w / codel) * (h / codel) ≤ 2 ^ 26) → Decided
  sized w h header cut (inl many) = inr (TooLarge, (λ e. not_memory e), record { width = w; height = h; header = header; wrong = (cut, many) })
    where
      not_memory : TooLarge ≡ Memory → ⊥
      not_memory e = (let z : TooLarge ≡ Memory = e in cc)
  sized w h header cut (inr few) = sampled w h (record { header = header; across = cut.0; down = cut.1; few = few }) (samples_or bytes (3 * (w * h)))

  uncut : (w h : ℕ) → HasHeader bytes w h → ¬ (IsCut codel w h) → Decided
  uncut w h header wrong = inr (NotCodel, (λ e. not_memory e), record { width = w; height = h; header = header; wrong = wrong })
    where
      not_memory : NotCodel ≡ Memory → ⊥
      not_memory e = (let z : NotCodel ≡ Memory = e in cc)

  cut_by : (w h : ℕ) → HasHeader bytes w h → (w % codel ≡ 0) ⊎ (w % codel ≢ 0) → (h % codel ≡ 0) ⊎ (h % codel ≢ 0) → Decided
  cut_by w h header (inl a) (inl b) = sized w h header (a, b) (lt_or (2 ^ 26) ((w / codel) * (h / codel)))
  cut_by w h header (inl a) (inr b) = uncut w h header (λ cut. b cut.1)
  cut_by w h header (inr a) b = uncut w h header (λ cut. a cut.0)

  headed : AnyHeader bytes ⊎ ((w h : ℕ) → HasHeader bytes w h → ⊥) → Decided
  headed (inl a) = cut_by a.width a.height a.header (same_or (a.width % codel) 0) (same_or (a.height % codel) 0)
  headed (inr never) = inr (BadHeader, (λ e. not_memory e), λ w h d. never w h d)
    where
      not_memory : BadHeader ≡ Memory → ⊥
      not_memory e = (let z : BadHeader ≡ Memory = e in cc)

  pub decided : ((image : Raster) × Spells text codel image) ⊎ ((fault : PpmFault) × (fault ≢ Memory) × IsRefusedFor text codel fault)
  decided = headed (header_or bytes)
