-- A text is refused for one reason.
use Rattle.std.proofs.Common.{◌≡◌, ◌≢◌, ℕ, ◌+◌, ◌*◌, ◌/◌, ◌%◌, ◌^◌, ◌<◌, ◌≤◌, ◌⊎◌, inl, inr, List, length, None, Some, slice_get, refl, sym, ap, subst, ◌∙◌, arith}
use Rattle.std.proofs.lemmas.Option.{slice_get_within}
use Rattle.piet_image.specs.declared.read.PpmFault.{PpmFault}
use Rattle.piet_image.specs.declared.read.PpmFault.TheVariants.{BadHeader, NotCodel, TooLarge, BadNumber, Short, Extra, Memory}
use Rattle.piet_image.specs.Pieces.{uncommented, places, sample_at}
use Rattle.piet_image.specs.Text.{HasHeader, HasCodels, HasOther, IsCut, Divides, AreSamples, IsRefused, IsRefusedFor}
use Rattle.piet_image.proofs.Decided.{Same, same_header, some_none}
use Rattle.piet_image.proofs.ReadLemmas.{lt_or}

module _ (bytes : List ℕ) (codel : ℕ) where
  not_cut : HasOther bytes (λ width height. ¬ (IsCut codel width height)) → (w h : ℕ) → HasHeader bytes w h → IsCut codel w h → ⊥
  not_cut r w h header cut =
      let same = same_header bytes r.width r.height w h r.header header in
      r.wrong (subst (Divides codel) (sym same.across) cut.0, subst (Divides codel) (sym same.down) cut.1)

  not_few : HasOther bytes (λ width height. IsCut codel width height × (2 ^ 26 < (width / codel) * (height / codel))) → (w h : ℕ) → HasCodels bytes codel w h → ⊥
  not_few r w h opens =
      let same = same_header bytes r.width r.height w h r.header opens.header in
      let many = r.wrong.1 in
      let few = subst (λ b. (r.width / codel) * (b / codel) ≤ 2 ^ 26) (sym same.down) (subst (λ a. (a / codel) * (h / codel) ≤ 2 ^ 26) (sym same.across) opens.few) in
      omega (arith, few, many)

  same_total : (w h w' h' : ℕ) → HasHeader bytes w h → HasHeader bytes w' h' → 3 * (w * h) ≡ 3 * (w' * h')
  same_total w h w' h' a b =
      let same = same_header bytes w h w' h' a b in
      ap (λ x. 3 * (x * h)) same.across ∙ ap (λ y. 3 * (w' * y)) same.down

  no_sample : (count other : ℕ) → sample_at bytes (4 + count) ≡ None → AreSamples bytes 4 other → count < other → ⊥
  no_sample count other none some less = some_none (sample_at bytes (4 + count)) (some count less) none

  same_place : (i p q : ℕ) → slice_get (places bytes) i ≡ Some p → slice_get (places bytes) i ≡ Some q → p ≡ q
  same_place i p q a b = let z : Some p ≡ Some q = sym a ∙ b in cc

  same_stop : (count other p q : ℕ) → sample_at bytes (4 + count) ≡ None → sample_at bytes (4 + other) ≡ None → AreSamples bytes 4 count → AreSamples bytes 4 other → slice_get (places bytes) (4 + count) ≡ Some p → slice_get (places bytes) (4 + other) ≡ Some q → p ≡ q
  same_stop count other p q a b s t x y = go (lt_or count other) (lt_or other count)
    where
      go : (count < other) ⊎ (other ≤ count) → (other < count) ⊎ (count ≤ other) → p ≡ q
      go (inl less) r = absurd (no_sample count other a t less)
      go (inr le) (inl less) = absurd (no_sample other count b s less)
      go (inr le) (inr ge) =
          let same : count ≡ other = omega arith in
          same_place (4 + count) p q x (ap (λ n. slice_get (places bytes) (4 + n)) same ∙ y)

  -- a number that is none, where the pieces end
  not_short : (count other p : ℕ) → sample_at bytes (4 + count) ≡ None → slice_get (places bytes) (4 + count) ≡ Some p → AreSamples bytes 4 other → length (places bytes) ≡ 4 + other → ⊥
  not_short count other p a x t ends = go (lt_or count other)
    where
      go : (count < other) ⊎ (other ≤ count) → ⊥
      go (inl less) = no_sample count other a t less
      go (inr le) = let there = slice_get_within (places bytes) (4 + count) p x in omega (arith, there, ends, le)

  not_extra : (count all p : ℕ) → length (places bytes) ≡ 4 + count → count < all → slice_get (places bytes) (4 + all) ≡ Some p → ⊥
  not_extra count all p ends less x = let there = slice_get_within (places bytes) (4 + all) p x in omega (arith, there, ends, less)

-- neither is want of memory
reason : (text : List ℕ) (codel : ℕ) (fault other : PpmFault) → IsRefused text codel fault → IsRefused text codel other → fault ≡ other
reason text codel BadHeader BadHeader r s = refl
reason text codel BadHeader NotCodel r s = absurd (r s.width s.height s.header)
reason text codel BadHeader TooLarge r s = absurd (r s.width s.height s.header)
reason text codel BadHeader (BadNumber q) r s = absurd (r s.width s.height s.opens.header)
reason text codel BadHeader Short r s = absurd (r s.width s.height s.opens.header)
reason text codel BadHeader (Extra q) r s = absurd (r s.width s.height s.opens.header)
reason text codel BadHeader Memory r s = absurd s
reason text codel NotCodel BadHeader r s = absurd (s r.width r.height r.header)
reason text codel NotCodel NotCodel r s = refl
reason text codel NotCodel TooLarge r s = absurd (not_cut (uncommented text) codel r s.width s.height s.header s.wrong.0)
reason text codel NotCodel (BadNumber q) r s = absurd (not_cut (uncommented text) codel r s.width s.height s.opens.header (s.opens.across, s.opens.down))
reason text codel NotCodel Short r s = absurd (not_cut (uncommented text) codel r s.width s.height s.opens.header (s.opens.across, s.opens.down))
reason text codel NotCodel (Extra q) r s = absurd (not_cut (uncommented text) codel r s.width s.height s.opens.header (s.opens.across, s.opens.down))
reason text codel NotCodel Memory r s = absurd s
reason text codel TooLarge BadHeader r s = absurd (s r.width r.height r.header)
reason text codel TooLarge NotCodel r s = absurd (not_cut (uncommented text) codel s r.width r.height r.header r.wrong.0)
reason text codel TooLarge TooLarge r s = refl
reason text codel TooLarge (BadNumber q) r s = absurd (not_few (uncommented text) codel r s.width s.height s.opens)
reason text codel TooLarge Short r s = absurd (not_few (uncommented text) codel r s.width s.height s.opens)
reason text codel TooLarge (Extra q) r s = absurd (not_few (uncommented text) codel r s.width s.height s.opens)
reason text codel TooLarge Memory r s = absurd s
reason text codel (BadNumber p) BadHeader r s = absurd (s r.width r.height r.opens.header)
reason text codel (BadNumber p) NotCodel r s = absurd (not_cut (uncommented text) codel s r.width r.height r.opens.header (r.opens.across, r.opens.down))
reason text codel (BadNumber p) TooLarge r s = absurd (not_few (uncommented text) codel s r.width r.height r.opens)
reason text codel (BadNumber p) (BadNumber q) r s = ap (λ n. BadNumber n) (same_stop (uncommented text) codel r.count s.count p q r.stop.2 s.stop.2 r.samples s.samples r.stop.1 s.stop.1)
reason text codel (BadNumber p) Short r s = absurd (not_short (uncommented text) codel r.count s.count p r.stop.2 r.stop.1 s.samples s.stop.1)
reason text codel (BadNumber p) (Extra q) r s =
    let total = same_total (uncommented text) codel r.width r.height s.width s.height r.opens.header s.opens.header in
    let less = r.stop.0 in
    let all = s.stop.0 in
    absurd (no_sample (uncommented text) codel r.count s.count r.stop.2 s.samples (omega (arith, total, less, all)))
reason text codel (BadNumber p) Memory r s = absurd s
reason text codel Short BadHeader r s = absurd (s r.width r.height r.opens.header)
reason text codel Short NotCodel r s = absurd (not_cut (uncommented text) codel s r.width r.height r.opens.header (r.opens.across, r.opens.down))
reason text codel Short TooLarge r s = absurd (not_few (uncommented text) codel s r.width r.height r.opens)
reason text codel Short (BadNumber q) r s = absurd (not_short (uncommented text) codel s.count r.count q s.stop.2 s.stop.1 r.samples r.stop.1)
reason text codel Short Short r s = refl
reason text codel Short (Extra q) r s =
    let total = same_total (uncommented text) codel r.width r.height s.width s.height r.opens.header s.opens.header in
    let less = r.stop.0 in
    let all = s.stop.0 in
    absurd (not_extra (uncommented text) codel r.count s.count q r.stop.1 (omega (arith, total, less, all)) s.stop.1)
reason text codel Short Memory r s = absurd s
reason text codel (Extra p) BadHeader r s = absurd (s r.width r.height r.opens.header)
reason text codel (Extra p) NotCodel r s = absurd (not_cut (uncommented text) codel s r.width r.height r.opens.header (r.opens.across, r.opens.down))
reason text codel (Extra p) TooLarge r s = absurd (not_few (uncommented text) codel s r.width r.height r.opens)
reason text codel (Extra p) (BadNumber q) r s =
    let total = same_total (uncommented text) codel s.width s.height r.width r.height s.opens.header r.opens.header in
    let less = s.stop.0 in
    let all = r.stop.0 in
    absurd (no_sample (uncommented text) codel s.count r.count s.stop.2 r.samples (omega (arith, total, less, all)))
reason text codel (Extra p) Short r s =
    let total = same_total (uncommented text) codel s.width s.height r.width r.height s.opens.header r.opens.header in
    let less = s.stop.0 in
    let all = r.stop.0 in
    absurd (not_extra (uncommented text) codel s.count r.count p s.stop.1 (omega (arith, total, less, all)) r.stop.1)
reason text codel (Extra p) (Extra q) r s =
    let total = same_total (uncommented text) codel r.width r.height s.width s.height r.opens.header s.opens.header in
    let all = r.stop.0 in
    let whole = s.stop.0 in
    let same : r.count ≡ s.count = omega (arith, total, all, whole) in
    ap (λ n. Extra n) (same_place (uncommented text) codel (4 + r.count) p q r.stop.1 (ap (λ n. slice_get (places (uncommented text)) (4 + n)) same ∙ s.stop.1))
reason text codel (Extra p) Memory r s = absurd s
reason text codel Memory other r s = absurd r

refused_of : (text : List ℕ) (codel : ℕ) (fault : PpmFault) → fault ≢ Memory → IsRefusedFor text codel fault → IsRefused text codel fault
refused_of text codel BadHeader some r = r
refused_of text codel NotCodel some r = r
refused_of text codel TooLarge some r = r
refused_of text codel (BadNumber p) some r = r
refused_of text codel Short some r = r
refused_of text codel (Extra p) some r = r
refused_of text codel Memory some r = absurd (some refl)

pub one_reason : (text : List ℕ) (codel : ℕ) (fault other : PpmFault) → fault ≢ Memory → other ≢ Memory → IsRefusedFor text codel fault → IsRefusedFor text codel other → fault ≡ other
one_reason text codel fault other a b r s = reason text codel fault other (refused_of text codel fault a r) (refused_of text codel other b s)
