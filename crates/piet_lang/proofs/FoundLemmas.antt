-- Block after block is found.
use Rattle.std.proofs.Common.{◌≡◌, ◌≢◌, ℕ, zero, suc, ◌+◌, ◌-◌, ◌*◌, ◌^◌, ◌<◌, ◌≤◌, ◌⊎◌, inl, inr, List, [], ◌∷◌, ◌++◌, length, get_or, Option, Some, slice_get, refl, sym, ap, subst, ◌∙◌, arith}
use Rattle.std.proofs.lemmas.List.{length_push}
use Rattle.piet_image.specs.declared.colour.Colour.{Colour}
use Rattle.piet_image.specs.declared.colour.Colour.TheVariants.{White, Black, Hue}
use Rattle.piet_image.specs.declared.place.Place.{Place}
use Rattle.piet_image.specs.declared.place.Pointer.{Pointer}
use Rattle.piet_image.specs.declared.place.Chooser.{Chooser}
use Rattle.piet_image.specs.declared.place.Pointer.TheVariants.{Right, Down, Left, Up}
use Rattle.piet_image.specs.declared.place.Chooser.TheVariants.{ToLeft, ToRight}
use Rattle.piet_image.specs.Picture.{Picture, beside}
use Rattle.piet_image.specs.Block.{IsHue, Leads, Joined, IsExit, Among, HasSize}
use Rattle.piet_image.specs.Raster.{Raster, picture_of}
use Rattle.piet_image.proofs.Images.{image_atlas}
use Rattle.piet_image.proofs.Sizes.{size_same}
use Rattle.piet_image.proofs.AtlasOf.{exit_same}
use Rattle.piet_image.proofs.Fill.{leads_on}
use Rattle.piet_lang.specs.Chart.{Inside, index_of, side_index, Filling, IsLast, IsBlock, IsChart}
use Rattle.piet_lang.specs.Blocks.{Explored, AddsExits, Found}
use Rattle.piet_lang.proofs.FillLemmas.{hue_inside, one_index, among_or, index_within}
use Rattle.piet_lang.proofs.JoinLemmas.{by_first, joined_back, same_hue, leads_hue}

-- by codels of the colour nothing leads out of members that are all explored
stays : (f : Picture) (h l : ℕ) (members : List Place) → ((r : Place) → Among r members → (d : Pointer) (q : Place) → beside d r ≡ Some q → IsHue f q h l → Among q members)
    → (r : Place) → Among r members → (way : List Place) (q : Place) → Leads f h l r way q → Among q members
stays f h l members closed r m [] q leads = subst (λ z. Among z members) leads m
stays f h l members closed r m (z ∷ way) q leads = stays f h l members closed z (closed r m leads.0 z leads.1 leads.2) way q leads.3

get_last : (xs : List ℕ) (x : ℕ) (n : ℕ) → n ≡ length xs → slice_get (xs ++ x ∷ []) n ≡ Some x
get_last [] x zero e = refl
get_last [] x (suc n) e = absurd (omega arith)
get_last (y ∷ xs) x zero e = absurd (omega arith)
get_last (y ∷ xs) x (suc n) e = get_last xs x n (omega arith)

get_kept : (xs : List ℕ) (x : ℕ) (n : ℕ) → n < length xs → slice_get (xs ++ x ∷ []) n ≡ slice_get xs n
get_kept [] x n h = absurd (omega arith)
get_kept (y ∷ xs) x zero h = refl
get_kept (y ∷ xs) x (suc n) h = get_kept xs x n (omega arith)

below_eight : (d : Pointer) (c : Chooser) → side_index d c < 8
below_eight Right ToLeft = omega arith
below_eight Right ToRight = omega arith
below_eight Down ToLeft = omega arith
below_eight Down ToRight = omega arith
below_eight Left ToLeft = omega arith
below_eight Left ToRight = omega arith
below_eight Up ToLeft = omega arith
below_eight Up ToRight = omega arith

module _ (im : Raster) (h l : ℕ) (start : Place) (number : ℕ) (before now : List ℕ) (members : List Place) (sizes : List ℕ) (exits exits' : List Place) (done : ℕ)
    (found : Found im before sizes exits done) (state : Filling im h l start number before now members) (explored : Explored im h l now members) (adds : AddsExits members exits exits') (given : number ≡ length sizes + 1) where
  start_hue : IsHue (picture_of im) start h l
  start_hue = state.hued start state.first

  closed : (r : Place) → Among r members → (d : Pointer) (q : Place) → beside d r ≡ Some q → IsHue (picture_of im) q h l → Among q members
  closed r m d q next is = go (among_or members q)
    where
      go : Among q members ⊎ (Among q members → ⊥) → Among q members
      go (inl k) = k
      go (inr out) =
          let inside = hue_inside im q h l is in
          let some : get_or before (index_of im q) 0 ≢ 0 = λ e. explored r m d q next is (state.others q inside out ∙ e) in
          let way = state.path r m in
          let on = leads_on (picture_of im) h l start way.0 r d q way.1 next is in
          let back = joined_back (picture_of im) h l start q start_hue is (way.0 ++ q ∷ []) on in
          absurd (found.closed q start back some (state.fresh start state.first))

  -- the members are the whole block of each of them
  whole : (p q : Place) → Among p members → Joined (picture_of im) p q → Among q members
  whole p q m j = stays (picture_of im) h l members closed p m j.path q (same_hue (picture_of im) p q h l (state.hued p m) j)

  part : (p q : Place) → Among p members → Among q members → Joined (picture_of im) p q
  part p q m k =
      let a = state.path p m in
      let b = state.path q k in
      by_first (picture_of im) h l start p q start_hue (state.hued p m) a.0 a.1 b.0 b.1

  has_size : (p : Place) → Among p members → HasSize (picture_of im) p (length members)
  has_size p m = record { members = members; distinct = state.distinct; all = λ q. ((λ k. part p q m k), (λ j. whole p q m j)); count = refl }

  is_exit : (p : Place) (d : Pointer) (c : Chooser) (e : Place) → Among p members → IsLast members d c e → IsExit (picture_of im) p d c e
  is_exit p d c e m last = record { joined = part p e m last.known; last = λ q j. last.last q (whole p q m j) }

  new_block : (p : Place) → Among p members → IsBlock im (sizes ++ length members ∷ []) exits' p number
  new_block p m = record {
    some = omega (arith, given);
    known = omega (arith, given, length_push sizes (length members));
    size =
        let at : number - 1 ≡ length sizes = omega (arith, given) in
        get_last sizes (length members) (number - 1) at ∙ ap (λ n. Some n) (size_same (picture_of im) p (length members) ((image_atlas im).size p) (has_size p m) ((image_atlas im).sized p h l (state.hued p m)));
    exit = λ d c.
        let e = adds.exit d c in
        let at : 8 * (number - 1) + side_index d c ≡ length exits + side_index d c = omega (arith, given, found.sides) in
        ap (slice_get exits') at ∙ (e.1 ∙ ap (λ z. Some z) (exit_same (picture_of im) p d c e.0 ((image_atlas im).exit p d c) (is_exit p d c e.0 m e.2) ((image_atlas im).exits p h l d c (state.hued p m))));
  }

  old_block : (p : Place) (n : ℕ) → IsBlock im sizes exits p n → IsBlock im (sizes ++ length members ∷ []) exits' p n
  old_block p n b =
      let known = b.known in
      record {
        some = b.some;
        known = omega (arith, known, length_push sizes (length members));
        size = get_kept sizes (length members) (n - 1) known ∙ b.size;
        exit = λ d c. adds.kept (8 * (n - 1) + side_index d c) (omega (arith, known, found.sides, below_eight d c)) ∙ b.exit d c;
      }

  pub found_block : number ≢ 0 → index_of im start ≡ done → Found im now (sizes ++ length members ∷ []) exits' (done + 1)
  found_block some at = record {
    count = state.size ∙ found.count;
    sides = omega (arith, adds.count, found.sides, length_push sizes (length members));
    few = omega (arith, found.few, length_push sizes (length members));
    block = λ p a b is other. block_of p a b is other (among_or members p);
    closed = λ p q j other. closed_of p q j other (among_or members p);
    scanned = λ p a b is less. scanned_of p a b is (lt_of (index_of im p) done less);
  }
    where
      lt_of : (a b : ℕ) → a < b + 1 → (a < b) ⊎ (a ≡ b)
      lt_of a b h = grind arith

      stays_numbered : (p : Place) → Inside im p → get_or before (index_of im p) 0 ≢ 0 → get_or now (index_of im p) 0 ≢ 0
      stays_numbered p inside other = go (among_or members p)
        where
          go : Among p members ⊎ (Among p members → ⊥) → get_or now (index_of im p) 0 ≢ 0
          go (inl m) = λ e. some (sym (state.marked p m) ∙ e)
          go (inr out) = λ e. other (sym (state.others p inside out) ∙ e)

      block_of : (p : Place) (a b : ℕ) → IsHue (picture_of im) p a b → get_or now (index_of im p) 0 ≢ 0 → Among p members ⊎ (Among p members → ⊥) → IsBlock im (sizes ++ length members ∷ []) exits' p (get_or now (index_of im p) 0)
      block_of p a b is other (inl m) = subst (IsBlock im (sizes ++ length members ∷ []) exits' p) (sym (state.marked p m)) (new_block p m)
      block_of p a b is other (inr out) =
          let same = state.others p (hue_inside im p a b is) out in
          let old : get_or before (index_of im p) 0 ≢ 0 = λ e. other (same ∙ e) in
          subst (IsBlock im (sizes ++ length members ∷ []) exits' p) (sym same) (old_block p (get_or before (index_of im p) 0) (found.block p a b is old))

      closed_of : (p q : Place) → Joined (picture_of im) p q → get_or now (index_of im p) 0 ≢ 0 → Among p members ⊎ (Among p members → ⊥) → get_or now (index_of im q) 0 ≢ 0
      closed_of p q j other (inl m) = λ e. some (sym (state.marked q (whole p q m j)) ∙ e)
      closed_of p q j other (inr out) =
          let inside = hue_inside im p j.hue j.light j.is in
          let there = hue_inside im q j.hue j.light (leads_hue (picture_of im) j.hue j.light p j.path q j.is j.leads) in
          let old : get_or before (index_of im p) 0 ≢ 0 = λ e. other (state.others p inside out ∙ e) in
          stays_numbered q there (found.closed p q j old)

      scanned_of : (p : Place) (a b : ℕ) → IsHue (picture_of im) p a b → (index_of im p < done) ⊎ (index_of im p ≡ done) → get_or now (index_of im p) 0 ≢ 0
      scanned_of p a b is (inl less) = stays_numbered p (hue_inside im p a b is) (found.scanned p a b is less)
      scanned_of p a b is (inr e) =
          let same : start ≡ p = one_index im start p (state.within start state.first) (hue_inside im p a b is) (at ∙ sym e) in
          λ z. some (sym (state.marked p (subst (λ x. Among x members) same state.first)) ∙ z)

-- a codel that needs no number
pub found_skip : (im : Raster) (numbers sizes : List ℕ) (exits : List Place) (done : ℕ) → Found im numbers sizes exits done
    → ((p : Place) (h l : ℕ) → IsHue (picture_of im) p h l → index_of im p ≡ done → get_or numbers (index_of im p) 0 ≢ 0) → Found im numbers sizes exits (done + 1)
found_skip im numbers sizes exits done found here = record {
  count = found.count;
  sides = found.sides;
  few = omega (arith, found.few);
  block = found.block;
  closed = found.closed;
  scanned = λ p a b is less. go p a b is (lt_of (index_of im p) done less);
}
  where
    lt_of : (a b : ℕ) → a < b + 1 → (a < b) ⊎ (a ≡ b)
    lt_of a b h = grind arith

    go : (p : Place) (a b : ℕ) → IsHue (picture_of im) p a b → (index_of im p < done) ⊎ (index_of im p ≡ done) → get_or numbers (index_of im p) 0 ≢ 0
    go p a b is (inl less) = found.scanned p a b is less
    go p a b is (inr e) = here p a b is e

-- a codel that has no colour
pub found_plain : (im : Raster) (numbers sizes : List ℕ) (exits : List Place) (done : ℕ) (place : Place) (colour : Option Colour) → Found im numbers sizes exits done → Inside im place → index_of im place ≡ done → colour ≡ picture_of im place
    → ((h l : ℕ) → colour ≡ Some (Hue h l) → ⊥) → Found im numbers sizes exits (done + 1)
found_plain im numbers sizes exits done place colour found inside at is none =
    found_skip im numbers sizes exits done found (λ p h l hue here.
    let same : place ≡ p = one_index im place p inside (hue_inside im p h l hue) (at ∙ sym here) in
    absurd (none h l (is ∙ (ap (λ q. picture_of im q) same ∙ hue))))

pub white_no_hue : (o : Option Colour) (c : Colour) (h l : ℕ) → o ≡ Some c → c ≡ White → o ≡ Some (Hue h l) → ⊥
white_no_hue o c h l is white e = let f : Some White ≡ Some (Hue h l) = ap (λ x. Some x) (sym white) ∙ (sym is ∙ e) in absurd cc

pub black_no_hue : (o : Option Colour) (c : Colour) (h l : ℕ) → o ≡ Some c → c ≡ Black → o ≡ Some (Hue h l) → ⊥
black_no_hue o c h l is black e = let f : Some Black ≡ Some (Hue h l) = ap (λ x. Some x) (sym black) ∙ (sym is ∙ e) in absurd cc

-- none so far
pub found_none : (im : Raster) (numbers sizes : List ℕ) (exits : List Place) → length numbers ≡ im.height * im.width → ((j : ℕ) → get_or numbers j 0 ≡ 0) → sizes ≡ [] → exits ≡ [] → Found im numbers sizes exits 0
found_none im numbers sizes exits count zeros none_sizes none_exits = record {
  count = count;
  sides = ap length none_exits ∙ ap (λ (xs : List ℕ). 8 * length xs) (sym none_sizes);
  few = omega (arith, ap length none_sizes);
  block = λ p h l is some. absurd (some (zeros (index_of im p)));
  closed = λ p q j some. absurd (some (zeros (index_of im p)));
  scanned = λ p h l is less. absurd (omega arith);
}

-- all
pub chart_of : (im : Raster) (numbers sizes : List ℕ) (exits : List Place) (done : ℕ) → done ≡ im.height * im.width → 0 < im.width * im.height → im.width * im.height ≤ 2 ^ 26 → Found im numbers sizes exits done → IsChart im numbers sizes exits
chart_of im numbers sizes exits done all some few found = record {
  some = some;
  few = few;
  count = found.count;
  sides = found.sides;
  block = λ p h l is. found.block p h l is (found.scanned p h l is (omega (arith, index_within im p (hue_inside im p h l is), all)));
}
