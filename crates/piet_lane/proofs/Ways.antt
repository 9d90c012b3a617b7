-- The white ways of a board.
use Rattle.piet_image.specs.declared.place.Stand.{Stand}
use Rattle.std.proofs.Common.{◌≡◌, ℕ, zero, suc, ◌+◌, ◌-◌, ◌*◌, ◌<◌, ◌≤◌, true, false, cond, nat_le, List, [], ◌∷◌, length, Option, Some, None, refl, sym, ap, subst, ◌∙◌, arith, zero-add, eq-eqb}
use Rattle.std.proofs.lemmas.Bool.Decides.{nat_tests}
use Rattle.piet_image.specs.declared.colour.Colour.TheVariants.{White}
use Rattle.piet_image.specs.declared.place.Pointer.TheVariants.{Right, Down, Left, Up}
use Rattle.piet_image.specs.declared.place.Chooser.{Chooser}
use Rattle.piet_lang.specs.declared.act.Act.{Act}
use Rattle.piet_lang.specs.declared.act.Act.TheVariants.{Pop}
use Rattle.piet_image.specs.declared.met.Met.TheVariants.{Blocked, Free, Onto}
use Rattle.piet_image.specs.Picture.{Picture, met_by, ahead, toggled}
use Rattle.piet_image.specs.Slide.{has_stopped, Slides}
use Rattle.piet_image.proofs.Slides.{slides_on, slides_corner, slides_onto, slides_never}
use Rattle.piet_image.proofs.Corridors.{stand, spot, corridor_left, corridor_up, corridor_right, corridor_down}
use Rattle.piet_lane.specs.Board.{along, column_shade, Cell, Outside, Dark, Light, Column, cell, in_shade, lane_at, shown, board}
use Rattle.piet_lane.proofs.Cells as cells

module _ (lanes : List (List Act)) (reach start : ℕ) (fits : start < length lanes) where
  abbrev picture : Picture
  picture = board lanes reach start

  abbrev at : ℕ → ℕ → Cell
  at x y = cell (length lanes) reach start x y

  -- what lies ahead is what is shown there
  pub meets : (x y : ℕ) (c : Cell) → at x y ≡ c → met_by (spot x y) (picture (spot x y)) ≡ met_by (spot x y) (shown lanes c)
  meets x y c e = ap (λ k. met_by (spot x y) (shown lanes k)) e

  pub white_at : (x y : ℕ) → at x y ≡ Light → picture (spot x y) ≡ Some White
  white_at x y e = ap (shown lanes) e

  abbrev pub thrice : Chooser → Chooser
  thrice c = toggled (toggled (toggled c))

  -- from the top of the left column to the head of the counting column
  along_top : (stops : List Stand) (c : Chooser) → has_stopped stops (stand (reach + 2) 2 Right c) ≡ false → Slides picture stops (stand 0 2 Right c) (Some (stand (reach + 2) 3 Down (toggled c)))
  along_top stops c new =
      let n = reach + 2 in
      let z : 0 + n ≡ n = zero-add n in
      let end : Option Stand = Some (stand n 3 Down (toggled c)) in
      let edge : suc n ≡ reach + 3 = omega arith in
      let wall : ahead picture Right (spot n 2) ≡ Blocked = ap (λ k. met_by (spot (suc n) 2) (shown lanes (at k 2))) edge ∙ ap (λ k. met_by (spot (suc n) 2) (shown lanes k)) (cells.head_stop (length lanes) reach start fits) in
      let top : 3 + (5 * 0 + 0) ≡ 3 = refl in
      let head : ahead picture Down (spot n 2) ≡ Onto (spot n 3) (column_shade 0 0).hue (column_shade 0 0).light = meets n 3 (Column 0 0) (cells.column_cell (length lanes) reach start fits 0 0 (omega arith) (omega arith)) in
      let last = slides_onto picture (stand n 2 Right c ∷ stops) (stand n 2 Down (toggled c)) (spot n 3) (column_shade 0 0).hue (column_shade 0 0).light head in
      let turn = slides_corner picture stops (stand n 2 Right c) end wall new last in
      corridor_right picture stops c end 0 n 2
      (λ k h. white_at (0 + suc k) 2 (cells.head_row (length lanes) reach start fits (0 + suc k) (omega arith)))
      (subst (λ k. Slides picture stops (stand k 2 Right c) end) (sym z) turn)

  -- up the left column
  up_left : (stops : List Stand) (c : Chooser) (i : ℕ) → i < length lanes → has_stopped stops (stand 0 2 Up c) ≡ false → has_stopped (stand 0 2 Up c ∷ stops) (stand (reach + 2) 2 Right (toggled c)) ≡ false
      → Slides picture stops (stand 0 (6 + 5 * i) Up c) (Some (stand (reach + 2) 3 Down (toggled (toggled c))))
  up_left stops c i l new new' =
      let end : Option Stand = Some (stand (reach + 2) 3 Down (toggled (toggled c))) in
      let wall : ahead picture Up (spot 0 2) ≡ Blocked = meets 0 1 Dark (cells.return_stop (length lanes) reach start fits) in
      let turn = slides_corner picture stops (stand 0 2 Up c) end wall new (along_top (stand 0 2 Up c ∷ stops) (toggled c) new') in
      let sum : 2 + (4 + 5 * i) ≡ 6 + 5 * i = omega arith in
      subst (λ k. Slides picture stops (stand 0 k Up c) end) sum (corridor_up picture stops c end 0 2 (4 + 5 * i)
      (λ k h. white_at 0 (2 + k) (cells.return_column (length lanes) reach start fits (2 + k) (omega arith) (omega arith))) turn)

  -- the tail of a lane
  pub tail_white : (i x k : ℕ) → i < length lanes → x + k ≡ reach + 2 → 0 < k → suc (length (lane_at lanes i)) < k → picture (spot x (6 + 5 * i)) ≡ Some White
  tail_white i zero k l e p h = white_at 0 (6 + 5 * i) (cells.return_column (length lanes) reach start fits (6 + 5 * i) (omega arith) (omega arith))
  tail_white i (suc x) k l e p h =
      let past : nat_le k (suc (length (lane_at lanes i))) ≡ false = grind (arith, nat_tests) in
      ap (shown lanes) (cells.lane_cell (length lanes) reach start fits i k (suc x) l e (omega arith) p) ∙ ap (λ b. cond b (in_shade (along (column_shade i 3) (Pop ∷ lane_at lanes i) k)) (Some White)) past

  -- from behind a lane back to the head of the counting column
  pub way_back : (c : Chooser) (i x k : ℕ) → i < length lanes → x + k ≡ reach + 2 → suc (length (lane_at lanes i)) < k → Slides picture [] (stand x (6 + 5 * i) Left c) (Some (stand (reach + 2) 3 Down (thrice c)))
  way_back c i x k l e h =
      let y = 6 + 5 * i in
      let end : Option Stand = Some (stand (reach + 2) 3 Down (thrice c)) in
      let stops : List Stand = stand 0 y Left c ∷ [] in
      let turn = slides_corner picture [] (stand 0 y Left c) end refl refl (up_left stops (toggled c) i l refl refl) in
      let z : 0 + x ≡ x = zero-add x in
      subst (λ j. Slides picture [] (stand j y Left c) end) z (corridor_left picture [] c end 0 x y
      (λ j g. tail_white i (0 + j) (reach + 2 - j) l (omega arith) (omega arith) (omega arith)) turn)

  -- through the gate onto the column, at the lane at which the run starts
  through_gate : (stops : List Stand) (c : Chooser) → Slides picture stops (stand (reach + 4) (6 + 5 * start) Left c) (Some (stand (reach + 2) (6 + 5 * start) Left c))
  through_gate stops c =
      let s = 6 + 5 * start in
      let end : Option Stand = Some (stand (reach + 2) s Left c) in
      let down : 3 + (5 * start + 3) ≡ s = omega arith in
      let there : at (reach + 2) s ≡ Column start 3 = ap (at (reach + 2)) (sym down) ∙ cells.column_cell (length lanes) reach start fits start 3 (omega arith) fits in
      let onto : ahead picture Left (spot (suc (reach + 2)) s) ≡ Onto (spot (reach + 2) s) (column_shade start 3).hue (column_shade start 3).light = meets (reach + 2) s (Column start 3) there in
      let last = slides_onto picture stops (stand (suc (reach + 2)) s Left c) (spot (reach + 2) s) (column_shade start 3).hue (column_shade start 3).light onto in
      let three : suc (reach + 2) ≡ reach + 3 = omega arith in
      let four : suc (reach + 3) ≡ reach + 4 = omega arith in
      let open_gate : ahead picture Left (spot (suc (reach + 3)) s) ≡ Free (spot (reach + 3) s) = meets (reach + 3) s Light (cells.entry_gate (length lanes) reach start fits) in
      subst (λ x. Slides picture stops (stand x s Left c) end) four
      (slides_on picture stops (stand (suc (reach + 3)) s Left c) end (spot (reach + 3) s) open_gate
      (subst (λ x. Slides picture stops (stand x s Left c) end) three last))

  -- from the corner to the lane at which the run starts
  pub way_in : (c : Chooser) → Slides picture [] (stand 0 0 Right c) (Some (stand (reach + 2) (6 + 5 * start) Left (toggled (toggled c))))
  way_in c =
      let s = 6 + 5 * start in
      let n = reach + 4 in
      let end : Option Stand = Some (stand (reach + 2) s Left (toggled (toggled c))) in
      let edge : suc n ≡ reach + 5 = omega arith in
      let foot : suc s ≡ 7 + 5 * start = omega arith in
      let wall : ahead picture Right (spot n 0) ≡ Blocked = ap (λ k. met_by (spot (suc n) 0) (shown lanes (at k 0))) edge ∙ ap (λ k. met_by (spot (suc n) 0) (shown lanes k)) (cells.right_edge (length lanes) reach start fits 0) in
      let floor : ahead picture Down (spot n s) ≡ Blocked = meets n (suc s) Dark (ap (at n) foot ∙ cells.entry_stop (length lanes) reach start fits) in
      let one : List Stand = stand n 0 Right c ∷ [] in
      let two : List Stand = stand n s Down (toggled c) ∷ one in
      let lower = slides_corner picture one (stand n s Down (toggled c)) end floor refl (through_gate two (toggled (toggled c))) in
      let z : 0 + n ≡ n = zero-add n in
      let zs : 0 + s ≡ s = zero-add s in
      let down = corridor_down picture one (toggled c) end n 0 s
      (λ k h. white_at n (0 + suc k) (cells.entry_column (length lanes) reach start fits (0 + suc k) (omega arith)))
      (subst (λ k. Slides picture one (stand n k Down (toggled c)) end) (sym zs) lower) in
      let upper = slides_corner picture [] (stand n 0 Right c) end wall refl down in
      corridor_right picture [] c end 0 n 0
      (λ k h. white_at (0 + suc k) 0 (cells.entry_row (length lanes) reach start fits (0 + suc k) (omega arith)))
      (subst (λ k. Slides picture [] (stand k 0 Right c) end) (sym z) upper)

  -- the trap below the column
  pub trap : (c : Chooser) → Slides picture [] (stand (reach + 2) (suc (3 + 5 * length lanes)) Down c) None
  trap c =
      let n = length lanes in
      let x = suc reach in
      let k = suc x in
      let z = 3 + 5 * n in
      let a = suc z in
      let b = suc a in
      let light : (x y : ℕ) → reach + 1 ≤ x → x ≤ reach + 2 → 5 * n + 4 ≤ y → y ≤ 5 * n + 5 → at x y ≡ Light = cells.trap_light n reach start fits in
      let below : suc b ≡ 5 * n + 6 = omega arith in
      let left : b ≡ 5 * n + 5 = omega arith in
      let above : z ≡ 5 * n + 3 = omega arith in
      let beyond : suc k ≡ reach + 3 = omega arith in
      let row : a ≡ 5 * n + 4 = omega arith in
      let side : x ≡ reach + 1 = omega arith in
      let floor : (p : ℕ) → ahead picture Down (spot p b) ≡ Blocked = λ p. meets p (suc b) Outside (ap (at p) below ∙ cells.trap_below n reach start fits p) in
      let wall_left : ahead picture Left (spot x b) ≡ Blocked = meets reach b Dark (ap (at reach) left ∙ cells.trap_left n reach start fits) in
      let roof : ahead picture Up (spot x a) ≡ Blocked = meets x z Dark (ap (λ j. at j z) side ∙ (ap (at (reach + 1)) above ∙ cells.trap_above n reach start fits)) in
      let wall_right : ahead picture Right (spot k a) ≡ Blocked = meets (suc k) a Dark (ap (λ j. at j a) beyond ∙ (ap (at (reach + 3)) row ∙ cells.trap_right n reach start fits)) in
      let c1 = toggled c in
      let c2 = toggled c1 in
      let c3 = toggled c2 in
      let c4 = toggled c3 in
      let s1 : List Stand = stand k b Down c ∷ [] in
      let s3 : List Stand = stand x b Left c1 ∷ s1 in
      let s5 : List Stand = stand x a Up c2 ∷ s3 in
      let s7 : List Stand = stand k a Right c3 ∷ s5 in
      let again : has_stopped s7 (stand k b Down c4) ≡ true = rw (eq-eqb k k refl) (rw (eq-eqb b b refl) refl) in
      let h9 = slides_never picture s7 (stand k b Down c4) (floor k) again in
      let h8 = slides_on picture s7 (stand k a Down c4) None (spot k b) (meets k b Light (light k b (omega arith) (omega arith) (omega arith) (omega arith))) h9 in
      let h7 = slides_corner picture s5 (stand k a Right c3) None wall_right refl h8 in
      let h6 = slides_on picture s5 (stand x a Right c3) None (spot k a) (meets k a Light (light k a (omega arith) (omega arith) (omega arith) (omega arith))) h7 in
      let h5 = slides_corner picture s3 (stand x a Up c2) None roof refl h6 in
      let h4 = slides_on picture s3 (stand x b Up c2) None (spot x a) (meets x a Light (light x a (omega arith) (omega arith) (omega arith) (omega arith))) h5 in
      let h3 = slides_corner picture s1 (stand x b Left c1) None wall_left refl h4 in
      let h2 = slides_on picture s1 (stand k b Left c1) None (spot x b) (meets x b Light (light x b (omega arith) (omega arith) (omega arith) (omega arith))) h3 in
      let h1 = slides_corner picture [] (stand k b Down c) None (floor k) refl h2 in
      let h0 = slides_on picture [] (stand k a Down c) None (spot k b) (meets k b Light (light k b (omega arith) (omega arith) (omega arith) (omega arith))) h1 in
      let wide : k ≡ reach + 2 = omega arith in
      subst (λ j. Slides picture [] (stand j a Down c) None) wide h0
