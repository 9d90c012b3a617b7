-- A board is drawn as it is defined.
use Rattle.std.proofs.Common.{◌≡◌, ℕ, zero, suc, ◌+◌, ◌-◌, ◌*◌, ◌/◌, ◌%◌, ◌^◌, ◌<◌, ◌≤◌, ◌⊎◌, inl, inr, Bool, true, false, cond, nat_lt, nat_le, nat_eq, ◌&&◌, List, [], ◌∷◌, ◌++◌, length, Option, None, Some, slice_get, unwrap_or, get_or, drop, refl, sym, ap, subst, ◌∙◌, arith, append_assoc}
use Rattle.std.proofs.lemmas.List.{drop_more}
use Rattle.std.specs.List.{AllByRecursion}
use Rattle.std.proofs.Math.Nat.{mul-le-mul_right, mod-lt}
use Rattle.std.proofs.lemmas.Bool.{ltb-true, ltb-false}
use Rattle.std.proofs.lemmas.Bool.Decides.{nat_tests}
use Rattle.piet_image.specs.declared.colour.Colour.{Colour}
use Rattle.piet_image.specs.declared.colour.Colour.TheVariants.{White, Black, Hue}
use Rattle.piet_image.specs.declared.place.Place.{Place}
use Rattle.piet_image.specs.Colours.{IsColour}
use Rattle.piet_image.specs.Picture.{Picture}
use Rattle.piet_image.specs.Printed.{flatten, image_text, each_of}
use Rattle.piet_image.specs.Raster.{Raster, picture_of}
use Rattle.piet_image.specs.Text.{Spells}
use Rattle.piet_image.specs.Block.{Atlas}
use Rattle.piet_image.proofs.Images.{image_atlas}
use Rattle.piet_image.proofs.Written.{written_spells}
use Rattle.piet_lang.specs.declared.act.Act.{Act}
use Rattle.piet_lang.specs.declared.act.Act.TheVariants.{Pop as act_Pop}
use Rattle.piet_lane.specs.declared.command.Command.{Command}
use Rattle.piet_lane.specs.Board.{Shade, shifted, along, period, head_shade, column_shade, Cell, Outside, Dark, Light, Column, Lane, cell, in_shade, lane_at, lane_shown, shown, board}
use Rattle.piet_lane.specs.Lanes.{act_of_command, acts_of, lanes_of}
use Rattle.piet_lane.specs.Runs.{RunsLanes, AtEnd}
use Rattle.piet_lane.specs.Drawn.{Drawn, IsDrawn, Reached, lane_in, chain_behind, chain, lane_colours, seen_in, row_at, rows_of, board_text, IsBoardText}
use Rattle.piet_image.proofs.Rows.{each_same, length-each, get_each, all_each, length-rows, get_row, all_rows}
use Rattle.piet_lane.proofs.Lanes.{runs_lanes}
use Rattle.piet_lane.proofs.Plains.{plain_lanes}
use Rattle.piet_lane.proofs.Bytes.{all_wide, image_bytes}

-- one way or the other
cond_case : {A : Type 0} (b : Bool) (u v z : A) (P : Type 0) → cond b u v ≡ z → (u ≡ z → P) → (v ≡ z → P) → P
cond_case true u v z P e f g = f e
cond_case false u v z P e f g = g e

light_dark : (b : Bool) (z : Cell) (P : Type 0) → cond b Light Dark ≡ z → (Light ≡ z → P) → (Dark ≡ z → P) → P
light_dark true z P e f g = f e
light_dark false z P e f g = g e

module _ (i k : ℕ) where
  not_light : (P : Type 0) → Light ≡ Lane i k → P
  not_light P e = absurd (let z : Light ≡ Lane i k = e in cc)

  not_dark : (P : Type 0) → Dark ≡ Lane i k → P
  not_dark P e = absurd (let z : Dark ≡ Lane i k = e in cc)

  not_outside : (P : Type 0) → Outside ≡ Lane i k → P
  not_outside P e = absurd (let z : Outside ≡ Lane i k = e in cc)

  not_column : (P : Type 0) (a b : ℕ) → Column a b ≡ Lane i k → P
  not_column P a b e = absurd (let z : Column a b ≡ Lane i k = e in cc)

  same_lane : (a b : ℕ) → Lane a b ≡ Lane i k → i ≡ a
  same_lane a b e = let z : Lane a b ≡ Lane i k = e in cc

-- a lane's codel is in its row
lane_is : (count reach start x y i k : ℕ) → cell count reach start x y ≡ Lane i k → i ≡ (y - 3) / 5
unfolding cell
lane_is count reach start x y i k e =
    cond_case (nat_lt x (reach + 5) && nat_lt y (5 * count + 6)) _ Outside (Lane i k) (i ≡ (y - 3) / 5) e
    (λ e. cond_case (nat_eq y 0) Light _ (Lane i k) (i ≡ (y - 3) / 5) e (not_light i k _)
    (λ e. cond_case (nat_eq x (reach + 4)) (cond (nat_le y (6 + 5 * start)) Light Dark) _ (Lane i k) (i ≡ (y - 3) / 5) e (λ e. light_dark _ (Lane i k) _ e (not_light i k _) (not_dark i k _))
    (λ e. cond_case (nat_eq x (reach + 3)) (cond (nat_eq y (6 + 5 * start)) Light Dark) _ (Lane i k) (i ≡ (y - 3) / 5) e (λ e. light_dark _ (Lane i k) _ e (not_light i k _) (not_dark i k _))
    (λ e. cond_case (nat_eq y 1) Dark _ (Lane i k) (i ≡ (y - 3) / 5) e (not_dark i k _)
    (λ e. cond_case (nat_eq y 2) Light _ (Lane i k) (i ≡ (y - 3) / 5) e (not_light i k _)
    (λ e. cond_case (nat_le (5 * count + 4) y) (cond (nat_le (reach + 1) x) Light Dark) _ (Lane i k) (i ≡ (y - 3) / 5) e (λ e. light_dark _ (Lane i k) _ e (not_light i k _) (not_dark i k _))
    (λ e. cond_case (nat_eq x (reach + 2)) (Column ((y - 3) / 5) ((y - 3) % 5)) _ (Lane i k) (i ≡ (y - 3) / 5) e (not_column i k _ _ _)
    (λ e. cond_case (nat_eq y (5 * count + 3)) Dark _ (Lane i k) (i ≡ (y - 3) / 5) e (not_dark i k _)
    (λ e. cond_case (nat_eq x 0) Light _ (Lane i k) (i ≡ (y - 3) / 5) e (not_light i k _)
    (λ e. cond_case (nat_eq ((y - 3) % 5) 3) (Lane ((y - 3) / 5) (reach + 2 - x)) Dark (Lane i k) (i ≡ (y - 3) / 5) e (same_lane i k _ _) (not_dark i k _)))))))))))
    (not_outside i k _)

module _ (i r : ℕ) where
  no_light : (P : Type 0) → Light ≡ Column i r → P
  no_light P e = absurd (let z : Light ≡ Column i r = e in cc)

  no_dark : (P : Type 0) → Dark ≡ Column i r → P
  no_dark P e = absurd (let z : Dark ≡ Column i r = e in cc)

  no_outside : (P : Type 0) → Outside ≡ Column i r → P
  no_outside P e = absurd (let z : Outside ≡ Column i r = e in cc)

  no_lane : (P : Type 0) (a b : ℕ) → Lane a b ≡ Column i r → P
  no_lane P a b e = absurd (let z : Lane a b ≡ Column i r = e in cc)

  same_column : (a b : ℕ) → Column a b ≡ Column i r → (i ≡ a) × (r ≡ b)
  same_column a b e = let z : Column a b ≡ Column i r = e in (cc, cc)

-- and one of the column
pub column_is : (count reach start x y i r : ℕ) → cell count reach start x y ≡ Column i r → (i ≡ (y - 3) / 5) × (r ≡ (y - 3) % 5)
unfolding cell
column_is count reach start x y i r e =
    cond_case (nat_lt x (reach + 5) && nat_lt y (5 * count + 6)) _ Outside (Column i r) ((i ≡ (y - 3) / 5) × (r ≡ (y - 3) % 5)) e
    (λ e. cond_case (nat_eq y 0) Light _ (Column i r) ((i ≡ (y - 3) / 5) × (r ≡ (y - 3) % 5)) e (no_light i r _)
    (λ e. cond_case (nat_eq x (reach + 4)) (cond (nat_le y (6 + 5 * start)) Light Dark) _ (Column i r) ((i ≡ (y - 3) / 5) × (r ≡ (y - 3) % 5)) e (λ e. light_dark _ (Column i r) _ e (no_light i r _) (no_dark i r _))
    (λ e. cond_case (nat_eq x (reach + 3)) (cond (nat_eq y (6 + 5 * start)) Light Dark) _ (Column i r) ((i ≡ (y - 3) / 5) × (r ≡ (y - 3) % 5)) e (λ e. light_dark _ (Column i r) _ e (no_light i r _) (no_dark i r _))
    (λ e. cond_case (nat_eq y 1) Dark _ (Column i r) ((i ≡ (y - 3) / 5) × (r ≡ (y - 3) % 5)) e (no_dark i r _)
    (λ e. cond_case (nat_eq y 2) Light _ (Column i r) ((i ≡ (y - 3) / 5) × (r ≡ (y - 3) % 5)) e (no_light i r _)
    (λ e. cond_case (nat_le (5 * count + 4) y) (cond (nat_le (reach + 1) x) Light Dark) _ (Column i r) ((i ≡ (y - 3) / 5) × (r ≡ (y - 3) % 5)) e (λ e. light_dark _ (Column i r) _ e (no_light i r _) (no_dark i r _))
    (λ e. cond_case (nat_eq x (reach + 2)) (Column ((y - 3) / 5) ((y - 3) % 5)) _ (Column i r) ((i ≡ (y - 3) / 5) × (r ≡ (y - 3) % 5)) e (same_column i r _ _)
    (λ e. cond_case (nat_eq y (5 * count + 3)) Dark _ (Column i r) ((i ≡ (y - 3) / 5) × (r ≡ (y - 3) % 5)) e (no_dark i r _)
    (λ e. cond_case (nat_eq x 0) Light _ (Column i r) ((i ≡ (y - 3) / 5) × (r ≡ (y - 3) % 5)) e (no_light i r _)
    (λ e. cond_case (nat_eq ((y - 3) % 5) 3) (Lane ((y - 3) / 5) (reach + 2 - x)) Dark (Column i r) ((i ≡ (y - 3) / 5) × (r ≡ (y - 3) % 5)) e (no_lane i r _ _ _) (no_dark i r _)))))))))))
    (no_outside i r _)

-- the colours of a chain
length-chain : (c : Shade) (acts : List Act) → length (chain_behind c acts) ≡ length acts
length-chain c [] = refl
length-chain c (a ∷ acts) = ap suc (length-chain (shifted c a) acts)

get_chain : (c : Shade) (acts : List Act) (k : ℕ) → k ≤ length acts → slice_get (chain c acts) k ≡ in_shade (along c acts k)
get_chain c [] zero h = refl
get_chain c [] (suc k) h = absurd (omega arith)
get_chain c (a ∷ acts) zero h = refl
get_chain c (a ∷ acts) (suc k) h = get_chain (shifted c a) acts k (omega arith)

le_or : (k n : ℕ) → (k ≤ n) ⊎ (n < k)
le_or k n = elim (nat_lt n k) as (λ t. nat_lt n k ≡ t → (k ≤ n) ⊎ (n < k)) [
  | true ↦ λ is. inr (ltb-true n k is)
  | false ↦ λ is. inl (ltb-false n k is)
] refl

chain_seen : (c : Shade) (acts : List Act) (k : ℕ) → cond (nat_lt k (length (chain c acts))) (slice_get (chain c acts) k) (Some White) ≡ cond (nat_le k (length acts)) (in_shade (along c acts k)) (Some White)
chain_seen c acts k = ap (λ n. cond (nat_lt k (suc n)) (slice_get (chain c acts) k) (Some White)) (length-chain c acts) ∙ go (le_or k (length acts))
  where
    go : (k ≤ length acts) ⊎ (length acts < k) → cond (nat_lt k (suc (length acts))) (slice_get (chain c acts) k) (Some White) ≡ cond (nat_le k (length acts)) (in_shade (along c acts k)) (Some White)
    go (inl le) =
        let a : nat_lt k (suc (length acts)) ≡ true = grind (arith, nat_tests) in
        let b : nat_le k (length acts) ≡ true = grind (arith, nat_tests) in
        rw (a, b) (get_chain c acts k le)
    go (inr lt) =
        let a : nat_lt k (suc (length acts)) ≡ false = grind (arith, nat_tests) in
        let b : nat_le k (length acts) ≡ false = grind (arith, nat_tests) in
        rw (a, b) refl

-- what is drawn in a row, by the colours of its lane
seen_same : (lanes : List (List Act)) (i : ℕ) (c : Cell) → ((j k : ℕ) → c ≡ Lane j k → j ≡ i) → seen_in (lane_colours i (lane_at lanes i)) c ≡ shown lanes c
seen_same lanes i Outside one = refl
seen_same lanes i Dark one = refl
seen_same lanes i Light one = refl
seen_same lanes i (Column j r) one = refl
seen_same lanes i (Lane j k) one = chain_seen (column_shade i 3) (act_Pop ∷ lane_at lanes i) k ∙ ap (λ n. lane_shown (lane_at lanes n) n k) (sym (one j k refl))

pub drawn_row : (lanes : List (List Act)) (reach start y : ℕ) → each_of (λ x. unwrap_or (seen_in (lane_colours ((y - 3) / 5) (lane_at lanes ((y - 3) / 5))) (cell (length lanes) reach start x y)) Black) (reach + 5) ≡ row_at lanes reach start y
drawn_row lanes reach start y = each_same _ _ (reach + 5) (λ x. ap (λ o. unwrap_or o Black) (seen_same lanes ((y - 3) / 5) (cell (length lanes) reach start x y) (λ j k e. lane_is (length lanes) reach start x y j k e)))

pub drawn_by : (lanes : List (List Act)) (y : ℕ) (colours : List Colour) (n reach start reach' start' : ℕ) → colours ≡ lane_colours ((y - 3) / 5) (lane_at lanes ((y - 3) / 5)) → n ≡ length lanes → reach ≡ reach' → start ≡ start'
    → each_of (λ x. unwrap_or (seen_in colours (cell n reach start x y)) Black) (reach + 5) ≡ row_at lanes reach' start' y
drawn_by lanes y colours n reach start reach' start' a b c d =
    ap (λ (xs : List Colour). each_of (λ x. unwrap_or (seen_in xs (cell n reach start x y)) Black) (reach + 5)) a
    ∙ (ap (λ m. each_of (λ x. unwrap_or (seen_in (lane_colours ((y - 3) / 5) (lane_at lanes ((y - 3) / 5))) (cell m reach start x y)) Black) (reach + 5)) b
    ∙ (drawn_row lanes reach start y ∙ (ap (λ r. row_at lanes r start y) c ∙ ap (λ s. row_at lanes reach' s y) d)))

-- all colours are colours
shade_along : (c : Shade) (acts : List Act) (k : ℕ) → (c.hue < 6) × (c.light < 3) → ((along c acts k).hue < 6) × ((along c acts k).light < 3)
shade_along c [] k is = is
shade_along c (a ∷ acts) zero is = is
shade_along c (a ∷ acts) (suc k) is = shade_along (shifted c a) acts k (omega arith, omega arith)

shade_column : (i r : ℕ) → ((column_shade i r).hue < 6) × ((column_shade i r).light < 3)
shade_column i r = shade_along (head_shade i) period r (omega arith, omega arith)

cond_colour : (b : Bool) (u v : Option Colour) → IsColour (unwrap_or u Black) → IsColour (unwrap_or v Black) → IsColour (unwrap_or (cond b u v) Black)
cond_colour true u v a b = a
cond_colour false u v a b = b

shown_colour : (lanes : List (List Act)) (c : Cell) → IsColour (unwrap_or (shown lanes c) Black)
shown_colour lanes Outside = tt
shown_colour lanes Dark = tt
shown_colour lanes Light = tt
shown_colour lanes (Column i r) = shade_column i r
shown_colour lanes (Lane i k) = cond_colour (nat_le k (suc (length (lane_at lanes i)))) (in_shade (along (column_shade i 3) (act_Pop ∷ lane_at lanes i) k)) (Some White) (shade_along (column_shade i 3) (act_Pop ∷ lane_at lanes i) k (shade_column i 3)) tt

pub row_colours : (lanes : List (List Act)) (reach start y : ℕ) → AllByRecursion IsColour (row_at lanes reach start y)
row_colours lanes reach start y = all_each IsColour (λ x. unwrap_or (board lanes reach start (record { x = x; y = y })) Black) (reach + 5) (λ x. shown_colour lanes (cell (length lanes) reach start x y))

-- inside a board something stands everywhere
some_if : (b : Bool) (u v : Option Colour) → Some (unwrap_or u Black) ≡ u → Some (unwrap_or v Black) ≡ v → Some (unwrap_or (cond b u v) Black) ≡ cond b u v
some_if true u v a b = a
some_if false u v a b = b

shown_some : (lanes : List (List Act)) (c : Cell) → (c ≡ Outside → ⊥) → Some (unwrap_or (shown lanes c) Black) ≡ shown lanes c
shown_some lanes Outside inside = absurd (inside refl)
shown_some lanes Dark inside = refl
shown_some lanes Light inside = refl
shown_some lanes (Column i r) inside = refl
shown_some lanes (Lane i k) inside = some_if (nat_le k (suc (length (lane_at lanes i)))) (in_shade (along (column_shade i 3) (act_Pop ∷ lane_at lanes i) k)) (Some White) refl refl

light_in : Light ≡ Outside → ⊥
light_in e = (let z : Light ≡ Outside = e in cc)

dark_in : Dark ≡ Outside → ⊥
dark_in e = (let z : Dark ≡ Outside = e in cc)

column_in : (a b : ℕ) → Column a b ≡ Outside → ⊥
column_in a b e = (let z : Column a b ≡ Outside = e in cc)

lane_in_it : (a b : ℕ) → Lane a b ≡ Outside → ⊥
lane_in_it a b e = (let z : Lane a b ≡ Outside = e in cc)

inside_cell : (count reach start x y : ℕ) → (nat_lt x (reach + 5) && nat_lt y (5 * count + 6)) ≡ true → cell count reach start x y ≡ Outside → ⊥
unfolding cell
inside_cell count reach start x y t e = cond_case (nat_eq y 0) Light _ Outside ⊥ (rw t at e) light_in
    (λ e. cond_case (nat_eq x (reach + 4)) (cond (nat_le y (6 + 5 * start)) Light Dark) _ Outside ⊥ e (λ e. light_dark _ Outside _ e light_in dark_in)
    (λ e. cond_case (nat_eq x (reach + 3)) (cond (nat_eq y (6 + 5 * start)) Light Dark) _ Outside ⊥ e (λ e. light_dark _ Outside _ e light_in dark_in)
    (λ e. cond_case (nat_eq y 1) Dark _ Outside ⊥ e dark_in
    (λ e. cond_case (nat_eq y 2) Light _ Outside ⊥ e light_in
    (λ e. cond_case (nat_le (5 * count + 4) y) (cond (nat_le (reach + 1) x) Light Dark) _ Outside ⊥ e (λ e. light_dark _ Outside _ e light_in dark_in)
    (λ e. cond_case (nat_eq x (reach + 2)) (Column ((y - 3) / 5) ((y - 3) % 5)) _ Outside ⊥ e (column_in _ _)
    (λ e. cond_case (nat_eq y (5 * count + 3)) Dark _ Outside ⊥ e dark_in
    (λ e. cond_case (nat_eq x 0) Light _ Outside ⊥ e light_in
    (λ e. cond_case (nat_eq ((y - 3) % 5) 3) (Lane ((y - 3) / 5) (reach + 2 - x)) Dark Outside ⊥ e (lane_in_it _ _) dark_in)))))))))

outside_cell : (count reach start x y : ℕ) → (nat_lt x (reach + 5) && nat_lt y (5 * count + 6)) ≡ false → cell count reach start x y ≡ Outside
unfolding cell
outside_cell count reach start x y t = rw t refl

module _ (lanes : List (List Act)) (reach start : ℕ) where
  abbrev height : ℕ
  height = 5 * length lanes + 6

  abbrev pub drawn_image : Raster
  drawn_image = record { width = reach + 5; height = length (rows_of lanes reach start); codels = flatten (rows_of lanes reach start) }

  pub rows_high : length (rows_of lanes reach start) ≡ height
  rows_high = length-each (λ y. row_at lanes reach start y) height

  row_wide : (y : ℕ) → length (row_at lanes reach start y) ≡ reach + 5
  row_wide y = length-each (λ x. unwrap_or (board lanes reach start (record { x = x; y = y })) Black) (reach + 5)

  pictured : (p : Place) → picture_of drawn_image p ≡ board lanes reach start p
  pictured p = ap (λ n. cond (nat_lt p.x (reach + 5) && nat_lt p.y n) (slice_get (flatten (rows_of lanes reach start)) (p.y * (reach + 5) + p.x)) None) rows_high ∙ go (nat_lt p.x (reach + 5)) (nat_lt p.y height) refl refl
    where
      go : (a b : Bool) → nat_lt p.x (reach + 5) ≡ a → nat_lt p.y height ≡ b → cond (nat_lt p.x (reach + 5) && nat_lt p.y height) (slice_get (flatten (rows_of lanes reach start)) (p.y * (reach + 5) + p.x)) None ≡ board lanes reach start p
      go true true a b =
          let test : (nat_lt p.x (reach + 5) && nat_lt p.y height) ≡ true = rw (a, b) refl in
          let across = ltb-true p.x (reach + 5) a in
          let down = ltb-true p.y height b in
          rw test (get_row (λ y. row_at lanes reach start y) (reach + 5) row_wide height p.x p.y across down
          ∙ (get_each (λ x. unwrap_or (board lanes reach start (record { x = x; y = p.y })) Black) (reach + 5) p.x across
          ∙ shown_some lanes (cell (length lanes) reach start p.x p.y) (inside_cell (length lanes) reach start p.x p.y test)))
      go true false a b =
          let test : (nat_lt p.x (reach + 5) && nat_lt p.y height) ≡ false = rw (a, b) refl in
          rw test (sym (ap (shown lanes) (outside_cell (length lanes) reach start p.x p.y test)))
      go false b a e =
          let test : (nat_lt p.x (reach + 5) && nat_lt p.y height) ≡ false = rw a refl in
          rw test (sym (ap (shown lanes) (outside_cell (length lanes) reach start p.x p.y test)))

  the_picture : board lanes reach start ≡ picture_of drawn_image
  the_picture = λ i p. sym (pictured p) i

  spelled : length lanes ≤ 16384 → reach ≤ 512 → Spells (image_text (reach + 5) (rows_of lanes reach start)) 1 drawn_image
  spelled few short =
      let high = rows_high in
      let bound : (reach + 5) * height ≤ 517 * height = mul-le-mul_right height (let le : reach + 5 ≤ 517 = omega arith in le) in
      let area : (reach + 5) * length (rows_of lanes reach start) ≡ (reach + 5) * height = ap (λ n. (reach + 5) * n) high in
      written_spells (reach + 5) (rows_of lanes reach start) (omega arith, omega arith) (omega (arith, high), omega (arith, high)) (omega (arith, bound, area))
      (length-rows (λ y. row_at lanes reach start y) (reach + 5) row_wide height ∙ ap (λ n. n * (reach + 5)) (sym high))
      (all_rows (λ y. row_at lanes reach start y) (reach + 5) row_wide IsColour (λ y. row_colours lanes reach start y) height)

  short_text : length lanes ≤ 16384 → reach ≤ 512 → length (image_text (reach + 5) (rows_of lanes reach start)) ≤ 2 ^ 29
  short_text few short =
      let high = rows_high in
      image_bytes (reach + 5) (rows_of lanes reach start) (all_wide (λ y. row_at lanes reach start y) (reach + 5) row_wide height) (omega arith) (omega (arith, high))

-- lanes of commands
short_acts : (commands : List Command) → length (acts_of commands) ≡ length commands
short_acts [] = refl
short_acts (c ∷ commands) = ap suc (short_acts commands)

pub count_lanes : (lanes : List (List Command)) → length (lanes_of lanes) ≡ length lanes
count_lanes [] = refl
count_lanes (l ∷ lanes) = ap suc (count_lanes lanes)

short_lane : (lanes : List (List Command)) (reach : ℕ) → Reached lanes reach → (i : ℕ) → length (lane_at (lanes_of lanes) i) ≤ reach
short_lane [] reach r zero = omega arith
short_lane [] reach r (suc i) = omega arith
short_lane (l ∷ lanes) reach r zero = let le = r 0 l refl in let same = short_acts l in omega (arith, le, same)
short_lane (l ∷ lanes) reach r (suc i) = short_lane lanes reach (λ k. r (suc k)) i

pub lane_acts : (lanes : List (List Command)) (i : ℕ) → acts_of (lane_in lanes i) ≡ lane_at (lanes_of lanes) i
lane_acts [] zero = refl
lane_acts [] (suc i) = refl
lane_acts (l ∷ lanes) zero = refl
lane_acts (l ∷ lanes) (suc i) = lane_acts lanes i

-- the text of a board
pub text_is : (d : Drawn) → IsDrawn d → IsBoardText d (board_text d)
text_is d is =
    let lanes = lanes_of d.lanes in
    let count = count_lanes d.lanes in
    record {
      few = short_text lanes d.reach d.start (omega (arith, count, is.few)) is.short;
      image = drawn_image lanes d.reach d.start;
      spells = spelled lanes d.reach d.start (omega (arith, count, is.few)) is.short;
      runs = subst (λ (f : Picture). (atlas : Atlas f) → RunsLanes f atlas lanes d.start (AtEnd lanes d.reach)) (the_picture lanes d.reach d.start)
          (λ atlas. runs_lanes lanes d.reach d.start (omega (arith, count, is.known)) (short_lane d.lanes d.reach is.reached) (plain_lanes d.lanes) atlas)
          (image_atlas (drawn_image lanes d.reach d.start));
    }
