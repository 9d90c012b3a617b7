-- No two codels of a board that share a side have one colour.
use Rattle.piet_image.specs.declared.place.Place.{Place}
use Rattle.std.proofs.Common.{◌≡◌, ℕ, zero, suc, ◌+◌, ◌*◌, ◌<◌, ◌≤◌, Bool, true, false, cond, nat_le, List, [], ◌∷◌, length, Some, slice_get, refl, sym, ap, subst, ◌∙◌, arith}
use Rattle.std.proofs.lemmas.Bool.{leb-true}
use Rattle.piet_image.specs.declared.colour.Colour.TheVariants.{White, Hue}
use Rattle.piet_image.specs.declared.place.Pointer.{Pointer}
use Rattle.piet_image.specs.declared.place.Pointer.TheVariants.{Right, Down, Left, Up}
use Rattle.piet_lang.specs.declared.act.Act.{Act}
use Rattle.piet_lang.specs.declared.act.Act.TheVariants.{Pop}
use Rattle.piet_image.specs.Picture.{Picture, beside}
use Rattle.piet_image.specs.Block.{IsHue}
use Rattle.piet_image.proofs.Blocks.{Alone}
use Rattle.piet_lane.specs.Board.{Shade, shifted, along, period, head_shade, column_shade, Cell, Outside, Dark, Light, Column, Lane, cell, in_shade, lane_at, lane_shown, shown, board}
use Rattle.piet_lane.proofs.Shades.{IsShade, shade_along, shade_column, differs, along-suc, head_next}
use Rattle.piet_lane.proofs.Cells.{IsColumn, IsLane, column_where, lane_where}

-- one shade is no shift of the other
clash : (c : Shade) (a : Act) (d : Shade) (h l : ℕ) → IsShade c → d ≡ shifted c a → in_shade c ≡ Some (Hue h l) → in_shade d ≡ Some (Hue h l) → ⊥
clash c a d h l s e p q =
    let f : in_shade (shifted c a) ≡ Some (Hue h l) = ap in_shade (sym e) ∙ q in
    let x : (shifted c a).hue ≡ c.hue = cc in
    let y : (shifted c a).light ≡ c.light = cc in
    differs c a s x y

-- a codel of a lane that is no more white
pub record LaneHue (acts : List Act) (i k h l : ℕ) : Type 0 where
  pub near : k ≤ suc (length acts)
  pub shade : in_shade (along (column_shade i 3) (Pop ∷ acts) k) ≡ Some (Hue h l)

lane_hue : (acts : List Act) (i k h l : ℕ) → lane_shown acts i k ≡ Some (Hue h l) → LaneHue acts i k h l
lane_hue acts i k h l e = go (nat_le k (suc (length acts))) refl e
  where
    go : (b : Bool) → nat_le k (suc (length acts)) ≡ b → cond b (in_shade (along (column_shade i 3) (Pop ∷ acts) k)) (Some White) ≡ Some (Hue h l) → LaneHue acts i k h l
    go true is e = record { near = leb-true _ _ is; shade = e }
    go false is e = cc

some_at : {A : Type 0} (xs : List A) (k : ℕ) → k < length xs → (x : A) × (slice_get xs k ≡ Some x)
some_at [] k h = absurd (omega arith)
some_at (x ∷ xs) zero h = (x, refl)
some_at (x ∷ xs) (suc k) h = some_at xs k (omega arith)

-- one codel of the column below another
column_steps : (i r i' r' : ℕ) → r < 5 → r' < 5 → suc (3 + (5 * i + r)) ≡ 3 + (5 * i' + r') → column_shade i' r' ≡ column_shade i (suc r)
column_steps i r i' zero h h' e =
    let a : 4 ≡ r = omega arith in
    let b : i' ≡ suc i = omega arith in
    ap head_shade b ∙ (sym (head_next i) ∙ ap (λ q. column_shade i (suc q)) a)
column_steps i r i' (suc q) h h' e =
    let a : q ≡ r = omega arith in
    let b : i' ≡ i = omega arith in
    ap (λ j. column_shade j (suc q)) b ∙ ap (λ j. column_shade i (suc j)) a

module _ (lanes : List (List Act)) (reach start : ℕ) (fits : start < length lanes) where
  abbrev at : ℕ → ℕ → Cell
  at x y = cell (length lanes) reach start x y

  is_column : (x y i r : ℕ) → at x y ≡ Column i r → IsColumn (length lanes) reach x y i r
  is_column x y i r e = column_where (length lanes) reach start fits x y i r e

  is_lane : (x y i k : ℕ) → at x y ≡ Lane i k → IsLane (length lanes) reach x y i k
  is_lane x y i k e = lane_where (length lanes) reach start fits x y i k e

  right_apart : (x y h l : ℕ) (c c' : Cell) → at x y ≡ c → at (suc x) y ≡ c' → shown lanes c ≡ Some (Hue h l) → shown lanes c' ≡ Some (Hue h l) → ⊥
  right_apart x y h l Outside c' e e' p q = cc
  right_apart x y h l Dark c' e e' p q = cc
  right_apart x y h l Light c' e e' p q = cc
  right_apart x y h l (Column i r) Outside e e' p q = cc
  right_apart x y h l (Column i r) Dark e e' p q = cc
  right_apart x y h l (Column i r) Light e e' p q = cc
  right_apart x y h l (Lane i k) Outside e e' p q = cc
  right_apart x y h l (Lane i k) Dark e e' p q = cc
  right_apart x y h l (Lane i k) Light e e' p q = cc
  right_apart x y h l (Column i r) (Column i' r') e e' p q =
      let a = is_column x y i r e in
      let b = is_column (suc x) y i' r' e' in
      omega (arith, a.across, b.across)
  right_apart x y h l (Column i r) (Lane i' k') e e' p q =
      let a = is_column x y i r e in
      let b = is_lane (suc x) y i' k' e' in
      omega (arith, a.across, b.across)
  right_apart x y h l (Lane i k) (Column i' r') e e' p q =
      let a = is_lane x y i k e in
      let b = is_column (suc x) y i' r' e' in
      let one : k ≡ 1 = omega (arith, a.across, b.across) in
      let same : i' ≡ i = omega (arith, a.down, b.down, b.below) in
      let three : r' ≡ 3 = omega (arith, a.down, b.down, b.below) in
      let seen = lane_hue (lane_at lanes i) i k h l p in
      let c = column_shade i 3 in
      let next : along c (Pop ∷ lane_at lanes i) k ≡ shifted c Pop = ap (along c (Pop ∷ lane_at lanes i)) one ∙ along-suc c (Pop ∷ lane_at lanes i) 0 Pop refl in
      let here : in_shade c ≡ Some (Hue h l) = ap in_shade (sym (ap (λ j. column_shade j r') same ∙ ap (column_shade i) three)) ∙ q in
      clash c Pop (along c (Pop ∷ lane_at lanes i) k) h l (shade_column i 3) next here seen.shade
  right_apart x y h l (Lane i k) (Lane i' k') e e' p q =
      let a = is_lane x y i k e in
      let b = is_lane (suc x) y i' k' e' in
      let more : k ≡ suc k' = omega (arith, a.across, b.across) in
      let same : i' ≡ i = omega (arith, a.down, b.down) in
      let seen = lane_hue (lane_at lanes i) i k h l p in
      let other = lane_hue (lane_at lanes i) i k' h l (ap (λ j. lane_shown (lane_at lanes j) j k') (sym same) ∙ q) in
      let c = column_shade i 3 in
      let chain : List Act = Pop ∷ lane_at lanes i in
      let act = some_at chain k' (omega (arith, seen.near, more)) in
      let next : along c chain k ≡ shifted (along c chain k') act.0 = ap (along c chain) more ∙ along-suc c chain k' act.0 act.1 in
      clash (along c chain k') act.0 (along c chain k) h l (shade_along c chain k' (shade_column i 3)) next other.shade seen.shade

  down_apart : (x y h l : ℕ) (c c' : Cell) → at x y ≡ c → at x (suc y) ≡ c' → shown lanes c ≡ Some (Hue h l) → shown lanes c' ≡ Some (Hue h l) → ⊥
  down_apart x y h l Outside c' e e' p q = cc
  down_apart x y h l Dark c' e e' p q = cc
  down_apart x y h l Light c' e e' p q = cc
  down_apart x y h l (Column i r) Outside e e' p q = cc
  down_apart x y h l (Column i r) Dark e e' p q = cc
  down_apart x y h l (Column i r) Light e e' p q = cc
  down_apart x y h l (Lane i k) Outside e e' p q = cc
  down_apart x y h l (Lane i k) Dark e e' p q = cc
  down_apart x y h l (Lane i k) Light e e' p q = cc
  down_apart x y h l (Column i r) (Column i' r') e e' p q =
      let a = is_column x y i r e in
      let b = is_column x (suc y) i' r' e' in
      let act = some_at period r (omega (arith, a.below)) in
      let next : column_shade i' r' ≡ shifted (column_shade i r) act.0 = column_steps i r i' r' a.below b.below (omega (arith, a.down, b.down)) ∙ along-suc (head_shade i) period r act.0 act.1 in
      clash (column_shade i r) act.0 (column_shade i' r') h l (shade_column i r) next p q
  down_apart x y h l (Column i r) (Lane i' k') e e' p q =
      let a = is_column x y i r e in
      let b = is_lane x (suc y) i' k' e' in
      omega (arith, a.across, b.across, b.right)
  down_apart x y h l (Lane i k) (Column i' r') e e' p q =
      let a = is_lane x y i k e in
      let b = is_column x (suc y) i' r' e' in
      omega (arith, a.across, b.across, a.right)
  down_apart x y h l (Lane i k) (Lane i' k') e e' p q =
      let a = is_lane x y i k e in
      let b = is_lane x (suc y) i' k' e' in
      omega (arith, a.down, b.down)

  abbrev picture : Picture
  picture = board lanes reach start

  same_place : (h l : ℕ) (p q : Place) → Some p ≡ Some q → IsHue picture p h l → IsHue picture q h l
  same_place h l p q e k = let s : p ≡ q = cc in subst (λ z. IsHue picture z h l) s k

  next_to : (x y h l : ℕ) → IsHue picture (record { x = x; y = y }) h l → (d : Pointer) (q : Place) → beside d (record { x = x; y = y }) ≡ Some q → IsHue picture q h l → ⊥
  next_to x y h l is Right q e h' =
      let there : Some q ≡ Some (record { x = suc x; y = y }) = sym e in
      right_apart x y h l (at x y) (at (suc x) y) refl refl is (same_place h l q (record { x = suc x; y = y }) there h')
  next_to x y h l is Down q e h' =
      let there : Some q ≡ Some (record { x = x; y = suc y }) = sym e in
      down_apart x y h l (at x y) (at x (suc y)) refl refl is (same_place h l q (record { x = x; y = suc y }) there h')
  next_to zero y h l is Left q e h' = cc
  next_to (suc x) y h l is Left q e h' =
      let there : Some q ≡ Some (record { x = x; y = y }) = sym e in
      right_apart x y h l (at x y) (at (suc x) y) refl refl (same_place h l q (record { x = x; y = y }) there h') is
  next_to x zero h l is Up q e h' = cc
  next_to x (suc y) h l is Up q e h' =
      let there : Some q ≡ Some (record { x = x; y = y }) = sym e in
      down_apart x y h l (at x y) (at x (suc y)) refl refl (same_place h l q (record { x = x; y = y }) there h') is

  -- each codel of a colour is a block of its own
  pub all_alone : (p : Place) (h l : ℕ) → IsHue picture p h l → Alone picture p h l
  all_alone p h l is = record { is = is; apart = next_to p.x p.y h l is }
