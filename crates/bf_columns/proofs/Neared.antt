-- The record of an address, and which half of it.
use Rattle.std.proofs.Common.{◌≡◌, ◌≢◌, ℕ, zero, suc, ◌+◌, ◌-◌, ◌*◌, ◌^◌, ◌<◌, ◌≤◌, Bool, true, false, nat_lt, nat_eq, cond, List, [], ◌∷◌, refl, sym, ap, subst, ◌∙◌, arith, ne_eqb}
use Rattle.std.proofs.Math.Nat.{pow-suc}
use Rattle.std.proofs.lemmas.Bool.{eqb-true, eqb-false}
use Rattle.std.proofs.lemmas.Bool.Decides.{nat_tests}
use Rattle.bf_lang.specs.declared.command.Command.TheVariants.{Minus}
use Rattle.bf_lang.specs.Balance.{IsBalanced}
use Rattle.bf_lang.specs.Cells.{raised, lowered}
use Rattle.bf_lang.proofs.Partners.{balanced_append}
use Rattle.bf_tape.specs.Tape.{Tape, get, put, set_cell}
use Rattle.bf_tape.specs.Slots.{AreApart, nth}
use Rattle.bf_tape.specs.Does.{Does, loop}
use Rattle.bf_tape.proofs.Moves.{does_plus, does_minus, does_within}
use Rattle.bf_tape.proofs.Pieces.{does_goto}
use Rattle.bf_columns.specs.Lanes.{lane_cell, number}
use Rattle.bf_columns.specs.Columns.{guide}
use Rattle.bf_columns.specs.Text.{spelled, comes, each_below}
use Rattle.bf_columns.specs.Bodies.{lows, highs}
use Rattle.bf_columns.specs.Sheet.{Sheet, sheet, with_lane, IsRegister}
use Rattle.bf_columns.specs.Worked.{cells_of, body_of}
use Rattle.bf_columns.specs.Board.{digit, board}
use Rattle.bf_columns.specs.Told.{homewards_by}
use Rattle.bf_columns.specs.Near.{near, side, top_cells, top_text, flip_text, flip_code, near_code, NearIsFound}
use Rattle.bf_columns.proofs.Tapes.{next, between, comes_to, goes_from, put_is}
use Rattle.bf_columns.proofs.Lanes.{set_at, set_other}
use Rattle.bf_columns.proofs.Moved.{once, skipped}
use Rattle.bf_columns.proofs.Reckoned.{below_each, spelled_balanced}
use Rattle.bf_columns.proofs.Rows.{on_sheet, put_past}
use Rattle.bf_columns.proofs.Sheets.{get_sheet, get_past, sheet_ext, at_column}
use Rattle.bf_columns.proofs.Boards.{put_sheet, goes_home, board_digit, board_guide, board_z, board_ext, same_choice}
use Rattle.bf_columns.proofs.Back.{columns_back, goes_away, left_same, left_of, left_done}
use Rattle.bf_columns.proofs.Digits.{digit_small, number_below, number_digits, digits_unique}

top_reckoned : each_below 4 (λ x. comes top_cells top_cells top_text 3 (x ∷ 0 ∷ 0 ∷ 1 ∷ []) (x ∷ 0 ∷ cond (nat_lt x 2) 0 1 ∷ 1 ∷ []) 150) ≡ true
top_reckoned = refl

flip_reckoned : each_below 4 (λ a. each_below 4 (λ b. each_below 4 (λ x. each_below 4 (λ y. comes lows highs flip_text 6 (a ∷ b ∷ x ∷ y ∷ 0 ∷ 0 ∷ 1 ∷ []) (a ∷ b ∷ (3 - x) ∷ y ∷ 0 ∷ 0 ∷ 1 ∷ []) 80)))) ≡ true
flip_reckoned = refl

flipped : (a b x y : ℕ) → a < 4 → b < 4 → x < 4 → y < 4 → comes lows highs flip_text 6 (a ∷ b ∷ x ∷ y ∷ 0 ∷ 0 ∷ 1 ∷ []) (a ∷ b ∷ (3 - x) ∷ y ∷ 0 ∷ 0 ∷ 1 ∷ []) 80 ≡ true
flipped a b x y la lb lx ly =
    below_each 4 y (λ y. comes lows highs flip_text 6 (a ∷ b ∷ x ∷ y ∷ 0 ∷ 0 ∷ 1 ∷ []) (a ∷ b ∷ (3 - x) ∷ y ∷ 0 ∷ 0 ∷ 1 ∷ []) 80)
    (below_each 4 x (λ x. each_below 4 (λ y. comes lows highs flip_text 6 (a ∷ b ∷ x ∷ y ∷ 0 ∷ 0 ∷ 1 ∷ []) (a ∷ b ∷ (3 - x) ∷ y ∷ 0 ∷ 0 ∷ 1 ∷ []) 80))
    (below_each 4 b (λ b. each_below 4 (λ x. each_below 4 (λ y. comes lows highs flip_text 6 (a ∷ b ∷ x ∷ y ∷ 0 ∷ 0 ∷ 1 ∷ []) (a ∷ b ∷ (3 - x) ∷ y ∷ 0 ∷ 0 ∷ 1 ∷ []) 80)))
    (below_each 4 a (λ a. each_below 4 (λ b. each_below 4 (λ x. each_below 4 (λ y. comes lows highs flip_text 6 (a ∷ b ∷ x ∷ y ∷ 0 ∷ 0 ∷ 1 ∷ []) (a ∷ b ∷ (3 - x) ∷ y ∷ 0 ∷ 0 ∷ 1 ∷ []) 80)))) flip_reckoned la) lb) lx) ly

-- the number of flipped digits
flip_number : (x : ℕ → ℕ) (m : ℕ) → ((j : ℕ) → j < m → x j < 4) → number (λ j. 3 - x j) m + number x m + 1 ≡ 4 ^ m
flip_number x zero small = refl
flip_number x (suc m) small =
    let p : ℕ = 4 ^ m in
    let e : (3 - x m + x m) * p ≡ 3 * p = (let s = small m (omega arith) in let f : 3 - x m + x m ≡ 3 = omega arith in ap (λ k. k * p) f) in
    omega (arith, flip_number x m (λ j lt. small j (omega arith)), e, pow-suc 4 m)

pub flip_digits : (a j : ℕ) → a < 2 ^ 24 → j < 12 → 3 - digit a j ≡ digit (2 ^ 24 - 1 - a) j
flip_digits a j la lt =
    let n : ℕ = number (λ j. 3 - digit a j) 12 in
    let is : n ≡ 2 ^ 24 - 1 - a = last n (number (digit a) 12) (number_digits 12 a la) (flip_number (digit a) 12 (λ j lt. digit_small a j)) in
    sym (digits_unique 12 (λ j. 3 - digit a j) j (λ k l. omega arith) lt) ∙ ap (λ w. digit w j) is
  where
    last : (n na : ℕ) → na ≡ a → n + na + 1 ≡ 4 ^ 12 → n ≡ 2 ^ 24 - 1 - a
    last n na e f = omega arith

-- the highest digit tells the half
pub top_tells : (a : ℕ) → a < 2 ^ 24 → (digit a 11 < 2 → a < 2 ^ 23) × (2 ≤ digit a 11 → 2 ^ 23 ≤ a)
top_tells a la = last (number (digit a) 11) (digit a 11) (number_below (digit a) 11 (λ j lt. digit_small a j)) (number_digits 12 a la)
  where
    last : (n x : ℕ) → n < 4 ^ 11 → n + x * 4 ^ 11 ≡ a → (x < 2 → a < 2 ^ 23) × (2 ≤ x → 2 ^ 23 ≤ a)
    last n x ln e = ((λ f. omega arith), (λ f. omega arith))

module _ (input : List ℕ) (t : Tape) (home : get t 135 ≡ 0) (w : ℕ → ℕ) (words : (l : ℕ) → w l < 2 ^ 24) where
  abbrev a : ℕ
  a = w 3

  -- so many columns flipped from the left
  abbrev flips : ℕ → Sheet
  flips k = with_lane (board w) 3 (λ i. cond (nat_lt i (12 - k)) (board w i 3) (cond (nat_lt i 12) (3 - digit a i) 0))

  zero_register : IsRegister 0
  zero_register = record { below = omega arith; no_x = λ e. absurd (omega arith); no_guide = λ e. absurd (omega arith); no_y = λ e. absurd (omega arith) }

  one_register : IsRegister 1
  one_register = record { below = omega arith; no_x = λ e. absurd (omega arith); no_guide = λ e. absurd (omega arith); no_y = λ e. absurd (omega arith) }

  apart_registers : ◌≢◌ {A = ℕ} 0 1
  apart_registers e = absurd (omega arith)

  digit_at : (l j : ℕ) → j < 12 → l ≢ 5 → l ≢ 9 → board w j l ≡ digit (w l) j
  digit_at l j lt n5 n9 = board_digit w j l lt n5 n9

  flip_step : (k : ℕ) → k < 12 → Does input (body_of 0 1 flip_text) (guide 5 12 (11 - k)) (sheet t (flips k)) (guide 5 12 (11 - k)) (sheet t (flips (suc k))) 80
  flip_step k lt =
      let j : ℕ = 11 - k in
      let lj : j < 12 = omega arith in
      let e0 : board w j 0 ≡ digit (w 0) j = digit_at 0 j lj (λ f. absurd (omega arith)) (λ f. absurd (omega arith)) in
      let e1 : board w j 1 ≡ digit (w 1) j = digit_at 1 j lj (λ f. absurd (omega arith)) (λ f. absurd (omega arith)) in
      let e3 : board w j 3 ≡ digit a j = digit_at 3 j lj (λ f. absurd (omega arith)) (λ f. absurd (omega arith)) in
      let e6 : board w j 6 ≡ digit (w 6) j = digit_at 6 j lj (λ f. absurd (omega arith)) (λ f. absurd (omega arith)) in
      let z0 = board_z w j in let z1 = board_z w (suc j) in let g = board_guide w j lj in
      let x0 : cond (nat_lt j (12 - k)) (board w j 3) (cond (nat_lt j 12) (3 - digit a j) 0) ≡ digit a j = ap (λ b. cond b (board w j 3) (cond (nat_lt j 12) (3 - digit a j) 0)) (left_of k lt) ∙ e3 in
      let twelve : nat_lt j 12 ≡ true = before_end k lt in
      let x1 : cond (nat_lt j (12 - suc k)) (board w j 3) (cond (nat_lt j 12) (3 - digit a j) 0) ≡ 3 - digit a j = ap (λ b. cond b (board w j 3) (cond (nat_lt j 12) (3 - digit a j) 0)) (left_done k lt) ∙ ap (λ b. cond b (3 - digit a j) 0) twelve in
      let w0 : (flips k j 0 ∷ flips k j 1 ∷ flips k j 3 ∷ flips k j 6 ∷ flips k j 9 ∷ flips k (suc j) 9 ∷ flips k j 5 ∷ []) ≡ (digit (w 0) j ∷ digit (w 1) j ∷ digit a j ∷ digit (w 6) j ∷ 0 ∷ 0 ∷ 1 ∷ []) =
      (λ q. e0 q ∷ e1 q ∷ x0 q ∷ e6 q ∷ z0 q ∷ z1 q ∷ g q ∷ []) in
      let w1 : (flips (suc k) j 0 ∷ flips (suc k) j 1 ∷ flips (suc k) j 3 ∷ flips (suc k) j 6 ∷ flips (suc k) j 9 ∷ flips (suc k) (suc j) 9 ∷ flips (suc k) j 5 ∷ []) ≡ (digit (w 0) j ∷ digit (w 1) j ∷ (3 - digit a j) ∷ digit (w 6) j ∷ 0 ∷ 0 ∷ 1 ∷ []) =
      (λ q. e0 q ∷ e1 q ∷ x1 q ∷ e6 q ∷ z0 q ∷ z1 q ∷ g q ∷ []) in
      at_column 0 1 zero_register one_register apart_registers input t (flips k) (flips (suc k)) j lj (λ i l ll hd hx hy hz hc. agrees k lt i l hx) flip_text 80
      (subst (λ us. comes lows highs flip_text 6 us (flips (suc k) j 0 ∷ flips (suc k) j 1 ∷ flips (suc k) j 3 ∷ flips (suc k) j 6 ∷ flips (suc k) j 9 ∷ flips (suc k) (suc j) 9 ∷ flips (suc k) j 5 ∷ []) 80 ≡ true) (sym w0)
      (subst (λ us. comes lows highs flip_text 6 (digit (w 0) j ∷ digit (w 1) j ∷ digit a j ∷ digit (w 6) j ∷ 0 ∷ 0 ∷ 1 ∷ []) us 80 ≡ true) (sym w1)
      (flipped (digit (w 0) j) (digit (w 1) j) (digit a j) (digit (w 6) j) (digit_small (w 0) j) (digit_small (w 1) j) (digit_small a j) (digit_small (w 6) j))))
    where
      before_end : (k : ℕ) → k < 12 → nat_lt (11 - k) 12 ≡ true
      before_end k lt = grind (arith, nat_tests)

      agrees : (k : ℕ) → k < 12 → (i l : ℕ) → (i ≡ 11 - k → l ≢ 3) → flips k i l ≡ flips (suc k) i l
      agrees k lt i l hx = by (nat_eq l 3) refl
        where
          by : (x : Bool) → nat_eq l 3 ≡ x → cond x (cond (nat_lt i (12 - k)) (board w i 3) (cond (nat_lt i 12) (3 - digit a i) 0)) (board w i l) ≡ cond x (cond (nat_lt i (12 - suc k)) (board w i 3) (cond (nat_lt i 12) (3 - digit a i) 0)) (board w i l)
          by true f = ap (λ b. cond b (board w i 3) (cond (nat_lt i 12) (3 - digit a i) 0)) (left_same i k lt (λ g. hx g (eqb-true l 3 f)))
          by false f = refl

  flips_begun : sheet t (board w) ≡ sheet t (flips 0)
  flips_begun = sheet_ext t (board w) (flips 0) (λ j l lj ll. each j l)
    where
      each : (j l : ℕ) → board w j l ≡ flips 0 j l
      each j l = by (nat_eq l 3) refl
        where
          lane : (x : Bool) → nat_lt j 12 ≡ x → board w j 3 ≡ cond x (board w j 3) (cond x (3 - digit a j) 0)
          lane true e = refl
          lane false e = ap (λ b. cond b (digit a j) 0) e

          by : (x : Bool) → nat_eq l 3 ≡ x → board w j l ≡ cond x (cond (nat_lt j (12 - 0)) (board w j 3) (cond (nat_lt j 12) (3 - digit a j) 0)) (board w j l)
          by true e = ap (board w j) (eqb-true l 3 e) ∙ lane (nat_lt j 12) refl
          by false e = refl

  abbrev w' : ℕ → ℕ
  w' = set_cell w 3 (2 ^ 24 - 1 - a)

  flips_ended : sheet t (flips 12) ≡ sheet t (board w')
  flips_ended = sheet_ext t (flips 12) (board w') (λ j l lj ll. each j l)
    where
      each : (j l : ℕ) → flips 12 j l ≡ board w' j l
      each j l = by (nat_eq l 3) refl
        where
          lane : (x : Bool) → nat_lt j 12 ≡ x → cond x (3 - digit a j) 0 ≡ cond x (digit (w' 3) j) 0
          lane true e = let lt : j < 12 = grind (arith, nat_tests) in flip_digits a j (words 3) lt ∙ ap (λ n. digit n j) (sym (set_at w 3 (2 ^ 24 - 1 - a)))
          lane false e = refl

          kept : (x y : Bool) → l ≢ 3 → nat_eq l 5 ≡ x → nat_eq l 9 ≡ y → cond (nat_lt j 12) (cond x 1 (cond y 0 (digit (w l) j))) 0 ≡ cond (nat_lt j 12) (cond x 1 (cond y 0 (digit (w' l) j))) 0
          kept x y ne ex ey = ap (λ n. cond (nat_lt j 12) (cond x 1 (cond y 0 (digit n j))) 0) (sym (set_other w 3 (2 ^ 24 - 1 - a) l ne))

          by : (x : Bool) → nat_eq l 3 ≡ x → cond x (cond (nat_lt j (12 - 12)) (board w j 3) (cond (nat_lt j 12) (3 - digit a j) 0)) (board w j l) ≡ board w' j l
          by true e =
              let e0 : nat_lt j (12 - 12) ≡ false = grind (arith, nat_tests) in
              ap (λ b. cond b (board w j 3) (cond (nat_lt j 12) (3 - digit a j) 0)) e0 ∙ (lane (nat_lt j 12) refl ∙ ap (board w' j) (sym (eqb-true l 3 e)))
          by false e = let ne : l ≢ 3 = eqb-false l 3 e in kept (nat_eq l 5) (nat_eq l 9) ne refl refl

  all_flipped : Does input (homewards_by (body_of 0 1 flip_text)) 5 (sheet t (board w)) 135 (sheet t (board w')) 1103
  all_flipped =
      comes_to (sheet t (board w'))
      (goes_from (sheet t (board w))
      (columns_back input (body_of 0 1 flip_text) 5 12 80 (λ k. sheet t (flips k))
      (record {
        balanced = spelled_balanced (cells_of 0 1) 6 flip_text;
        on = λ k lt x. let g : 5 + 10 * (k + 1) ≡ lane_cell 5 (11 - k) = omega arith in absurd (omega (arith, get_sheet t (flips k) 5 (11 - k) (omega arith) (omega arith), board_guide w (11 - k) (omega arith), ap (get (sheet t (flips k))) g, x));
        home = get_past t (flips 12) 135 (omega arith) ∙ home;
        does = λ k lt. let g : guide 5 12 (11 - k) ≡ 5 + 10 * (k + 1) = omega arith in between (5 + 10 * (k + 1)) (5 + 10 * (k + 1)) (flip_step k lt) g g;
      })) (sym flips_begun)) flips_ended

  -- z left of column 11
  abbrev zed : ℕ → Sheet
  zed n = with_lane (board w) 9 (λ i. cond (nat_eq i 12) n 0)

  zed_none : sheet t (zed 0) ≡ sheet t (board w)
  zed_none = sheet_ext t (zed 0) (board w) (λ j l lj ll. by j l (nat_eq l 9) refl)
    where
      by : (j l : ℕ) (x : Bool) → nat_eq l 9 ≡ x → cond x (cond (nat_eq j 12) 0 0) (board w j l) ≡ board w j l
      by j l true e = same_choice (nat_eq j 12) 0 ∙ sym (ap (board w j) (eqb-true l 9 e) ∙ board_z w j)
      by j l false e = refl

  top_done : (n : ℕ) → n ≡ cond (nat_lt (digit a 11) 2) 0 1 → Does input (spelled top_cells 3 top_text) 15 (sheet t (board w)) 15 (sheet t (zed n)) 150
  top_done n is =
      on_sheet input t (board w) (zed n) top_cells top_cells top_cells apart (record { lows = refl; within = λ i lt. (omega arith, omega arith) }) top_text 3
      (digit a 11 ∷ 0 ∷ 0 ∷ 1 ∷ []) (digit a 11 ∷ 0 ∷ n ∷ 1 ∷ []) 150 (omega arith) refl refl reads writes agree
      (subst (λ m. comes top_cells top_cells top_text 3 (digit a 11 ∷ 0 ∷ 0 ∷ 1 ∷ []) (digit a 11 ∷ 0 ∷ m ∷ 1 ∷ []) 150 ≡ true) (sym is)
      (below_each 4 (digit a 11) (λ x. comes top_cells top_cells top_text 3 (x ∷ 0 ∷ 0 ∷ 1 ∷ []) (x ∷ 0 ∷ cond (nat_lt x 2) 0 1 ∷ 1 ∷ []) 150) top_reckoned (digit_small a 11)))
    where
      apart : AreApart top_cells
      apart = ((omega arith, (omega arith, (omega arith, tt))), ((omega arith, (omega arith, tt)), ((omega arith, tt), (tt, tt))))

      reads : (i : ℕ) → i < 4 → get (sheet t (board w)) (nth top_cells i) ≡ nth (digit a 11 ∷ 0 ∷ 0 ∷ 1 ∷ []) i
      reads zero lt = get_sheet t (board w) 3 11 (omega arith) (omega arith)
      reads (suc zero) lt = get_sheet t (board w) 9 11 (omega arith) (omega arith)
      reads (suc (suc zero)) lt = get_sheet t (board w) 9 12 (omega arith) (omega arith)
      reads (suc (suc (suc zero))) lt = get_sheet t (board w) 5 11 (omega arith) (omega arith)
      reads (suc (suc (suc (suc i)))) lt = absurd (omega arith)

      writes : (i : ℕ) → i < 4 → get (sheet t (zed n)) (nth top_cells i) ≡ nth (digit a 11 ∷ 0 ∷ n ∷ 1 ∷ []) i
      writes zero lt = get_sheet t (zed n) 3 11 (omega arith) (omega arith)
      writes (suc zero) lt = get_sheet t (zed n) 9 11 (omega arith) (omega arith)
      writes (suc (suc zero)) lt = get_sheet t (zed n) 9 12 (omega arith) (omega arith)
      writes (suc (suc (suc zero))) lt = get_sheet t (zed n) 5 11 (omega arith) (omega arith)
      writes (suc (suc (suc (suc i)))) lt = absurd (omega arith)

      agree : (k l : ℕ) → k ≤ 12 → l < 10 → ((i : ℕ) → i < 4 → lane_cell l k ≢ nth top_cells i) → board w k l ≡ zed n k l
      agree k l lk ll off = by (nat_eq l 9) refl
        where
          by : (x : Bool) → nat_eq l 9 ≡ x → board w k l ≡ cond x (cond (nat_eq k 12) n 0) (board w k l)
          by true e =
              let is9 : l ≡ 9 = eqb-true l 9 e in
              let n2 : lane_cell l k ≢ 9 = off 2 (omega arith) in
              let ne : k ≢ 12 = (λ g. n2 (λ i. lane_cell (is9 i) (g i))) in
              ap (board w k) is9 ∙ (board_z w k ∙ sym (ap (λ x. cond x n 0) (ne_eqb k 12 ne)))
          by false e = refl

  -- the digits flipped, with the head at that z
  flip_done : get t 168 ≡ 0 → Does input flip_code 9 (sheet t (board w)) 9 (sheet (put t 168 1) (board w')) 1400
  flip_done none =
      let t' : Tape = put t 168 1 in
      let v : Sheet = board w' in
      let one : put (sheet t v) 168 (raised (get (sheet t v) 168)) ≡ sheet t' v = ap (λ n. put (sheet t v) 168 (raised n)) (get_past t v 168 (omega arith) ∙ none) ∙ put_past t v 168 1 (omega arith) in
      does_within 1400
      (next (next (next (next (next (next (does_goto input 9 5 (sheet t (board w)) 4 (omega arith)) all_flipped) (does_goto input 135 168 (sheet t v) 33 (omega arith)))
      (comes_to (sheet t' v) (does_plus input 168 (sheet t v)) one)) (does_goto input 168 135 (sheet t' v) 33 (omega arith)))
      (goes_away input t' v (λ j lt. board_guide w' j lt) refl)) (does_goto input 5 9 (sheet t' v) 4 (omega arith))) (omega arith)

  near_done : get t 168 ≡ 0 → Does input near_code 135 (sheet t (board w)) 135 (sheet (put t 168 (side a)) (board (set_cell w 3 (near a)))) (2 ^ 11)
  near_done none = by (nat_lt (digit a 11) 2) refl
    where
      balanced_flip : IsBalanced (Minus ∷ flip_code)
      balanced_flip = balanced_append (Minus ∷ []) flip_code refl (flip_done none).balanced

      by : (x : Bool) → nat_lt (digit a 11) 2 ≡ x → Does input near_code 135 (sheet t (board w)) 135 (sheet (put t 168 (side a)) (board (set_cell w 3 (near a)))) (2 ^ 11)
      by true e =
          let low : digit a 11 < 2 = grind (arith, nat_tests) in
          let less : a < 2 ^ 23 = (top_tells a (words 3)).0 low in
          let test : nat_lt a (2 ^ 23) ≡ true = grind (arith, nat_tests) in
          let z_is : cond (nat_lt (digit a 11) 2) 0 1 ≡ 0 = ap (λ x. cond x 0 1) e in
          let top : Does input (spelled top_cells 3 top_text) 15 (sheet t (board w)) 15 (sheet t (board w)) 150 = comes_to (sheet t (board w)) (top_done 0 (sym z_is)) zed_none in
          let stays : put t 168 0 ≡ t = put_is t 168 0 none in
          let same : sheet t (board w) ≡ sheet (put t 168 (side a)) (board (set_cell w 3 (near a))) =
          (λ i. sheet (sym stays i) (board w)) ∙ ((λ i. sheet (put t 168 (cond (sym test i) 0 1)) (board w)) ∙ sheet_ext (put t 168 (side a)) (board w) (board (set_cell w 3 (near a))) (λ j l lj ll. board_ext w (set_cell w 3 (near a)) (λ l ll n5. kept test l) j l ll)) in
          comes_to (sheet (put t 168 (side a)) (board (set_cell w 3 (near a))))
          (does_within (2 ^ 11)
          (next (next (next (next (next (does_goto input 135 15 (sheet t (board w)) 120 (omega arith)) top) (does_goto input 15 9 (sheet t (board w)) 6 (omega arith)))
          (skipped (Minus ∷ flip_code) balanced_flip (get_sheet t (board w) 9 12 (omega arith) (omega arith)))) (does_goto input 9 5 (sheet t (board w)) 4 (omega arith)))
          (goes_home input t (board w) (λ j lt. board_guide w j lt) home)) (omega arith)) same
        where
          kept : nat_lt a (2 ^ 23) ≡ true → (l : ℕ) → w l ≡ set_cell w 3 (near a) l
          kept test l = lane (nat_eq l 3) refl
            where
              lane : (x : Bool) → nat_eq l 3 ≡ x → w l ≡ cond x (near a) (w l)
              lane true f = ap w (eqb-true l 3 f) ∙ sym (ap (λ b. cond b a (2 ^ 24 - 1 - a)) test)
              lane false f = refl
      by false e =
          let high : 2 ≤ digit a 11 = grind (arith, nat_tests) in
          let ge : 2 ^ 23 ≤ a = (top_tells a (words 3)).1 high in
          let test : nat_lt a (2 ^ 23) ≡ false = grind (arith, nat_tests) in
          let z_is : cond (nat_lt (digit a 11) 2) 0 1 ≡ 1 = ap (λ x. cond x 0 1) e in
          let t' : Tape = put t 168 1 in
          let u : Tape = sheet t (zed 1) in
          let u' : Tape = sheet t' (board w') in
          let z_at : get u 9 ≡ 1 = get_sheet t (zed 1) 9 12 (omega arith) (omega arith) in
          let down : put u 9 (lowered (get u 9)) ≡ sheet t (board w) = ap (λ n. put u 9 (lowered n)) z_at ∙ (put_sheet t (zed 1) (zed 0) 9 12 0 (omega arith) (omega arith) refl (λ k i lk li off. beside k i off) ∙ zed_none) in
          let turn : Does input (Minus ∷ flip_code) 9 u 9 u' (1 + 1400) = next (comes_to (sheet t (board w)) (does_minus input 9 u) down) (flip_done none) in
          let loop_done : Does input (loop (Minus ∷ flip_code)) 9 u 9 u' 1403 = once (λ z. absurd (omega (arith, z_at, z))) turn (get_sheet t' (board w') 9 12 (omega arith) (omega arith)) in
          let home' : t'.cells (t'.base + 135) ≡ 0 = ap (λ x. cond x 1 (get t 135)) (ne_eqb (t.base + 135) (t.base + 168) (λ f. absurd (omega arith))) ∙ home in
          let same : u' ≡ sheet (put t 168 (side a)) (board (set_cell w 3 (near a))) = (λ i. sheet (put t 168 (cond (sym test i) 0 1)) (board (set_cell w 3 (cond (sym test i) a (2 ^ 24 - 1 - a))))) in
          comes_to (sheet (put t 168 (side a)) (board (set_cell w 3 (near a))))
          (does_within (2 ^ 11)
          (next (next (next (next (next (does_goto input 135 15 (sheet t (board w)) 120 (omega arith)) (top_done 1 (sym z_is))) (does_goto input 15 9 u 6 (omega arith)))
          loop_done) (does_goto input 9 5 u' 4 (omega arith)))
          (goes_home input t' (board w') (λ j lt. board_guide w' j lt) home')) (omega arith)) same
        where
          beside : (k i : ℕ) → (k ≡ 12 → i ≢ 9) → zed 1 k i ≡ zed 0 k i
          beside k i off = lane (nat_eq i 9) refl
            where
              lane : (x : Bool) → nat_eq i 9 ≡ x → cond x (cond (nat_eq k 12) 1 0) (board w k i) ≡ cond x (cond (nat_eq k 12) 0 0) (board w k i)
              lane true f = let ne : k ≢ 12 = (λ g. off g (eqb-true i 9 f)) in ap (λ x. cond x 1 0) (ne_eqb k 12 ne) ∙ sym (same_choice (nat_eq k 12) 0)
              lane false f = refl

pub near_found : NearIsFound
near_found input t w home none words = near_done input t home w words none
