-- Words in lanes, swept.
use Rattle.std.proofs.Common.{◌≡◌, ◌≢◌, ℕ, suc, ◌+◌, ◌-◌, ◌*◌, ◌/◌, ◌%◌, ◌<◌, ◌≤◌, Bool, true, false, nat_lt, nat_le, nat_eq, cond, List, [], ◌++◌, refl, sym, ap, subst, ◌∙◌, arith, ne_eqb}
use Rattle.std.proofs.lemmas.Bool.{eqb-true, eqb-false}
use Rattle.std.proofs.lemmas.Bool.Decides.{nat_tests}
use Rattle.bf_tape.specs.Tape.{Tape, get, put, set_cell}
use Rattle.bf_tape.specs.Does.{Does}
use Rattle.bf_tape.proofs.Slotted.{same_tape}
use Rattle.bf_tape.proofs.Moves.{does_within}
use Rattle.bf_tape.proofs.Pieces.{does_goto, does_lefts}
use Rattle.bf_columns.specs.Lanes.{lane_cell}
use Rattle.bf_columns.specs.Columns.{left10, Guides, homewards_code}
use Rattle.bf_columns.specs.Text.{Text}
use Rattle.bf_columns.specs.Bodies.{Rule, follows}
use Rattle.bf_columns.specs.Sheet.{Sheet, sheet, IsRegister}
use Rattle.bf_columns.specs.Worked.{body_of, onwards_code, carried, made, since, worked, HasDigits, Carries}
use Rattle.bf_columns.specs.Board.{digit, board, IsBoard, Acts, sweep_code}
use Rattle.bf_columns.proofs.Tapes.{next, comes_to}
use Rattle.bf_columns.proofs.Visited.{guides_home}
use Rattle.bf_columns.proofs.Moved.{clear_small}
use Rattle.bf_columns.proofs.Sheets.{get_sheet, get_past, sheet_ext}
use Rattle.bf_columns.proofs.Worked.{columns_worked, small}
use Rattle.bf_columns.proofs.Digits.{digit_small, digit_zero}

-- a choice of one thing
pub same_choice : (b : Bool) (x : ℕ) → cond b x x ≡ x
same_choice true x = refl
same_choice false x = refl

-- one cell of a sheet written
pub put_sheet : (t : Tape) (v v' : Sheet) (l j n : ℕ) → l < 10 → j ≤ 12 → v' j l ≡ n → ((k i : ℕ) → k ≤ 12 → i < 10 → (k ≡ j → i ≢ l) → v k i ≡ v' k i) → put (sheet t v) (lane_cell l j) n ≡ sheet t v'
put_sheet t v v' l j n ll lj is same = same_tape t (set_cell (sheet t v).cells (t.base + lane_cell l j) n) (sheet t v').cells at
  where
    by : (q : ℕ) → q ≢ t.base + lane_cell l j → (x y : Bool) → nat_le t.base q ≡ x → nat_lt q (t.base + 130) ≡ y → cond (cond x y false) (v (12 - (q - t.base) / 10) ((q - t.base) % 10)) (t.cells q) ≡ cond (cond x y false) (v' (12 - (q - t.base) / 10) ((q - t.base) % 10)) (t.cells q)
    by q ne true true ex ey =
        let le : t.base ≤ q = grind (arith, nat_tests) in
        let less : q < t.base + 130 = grind (arith, nat_tests) in
        same (12 - (q - t.base) / 10) ((q - t.base) % 10) (omega arith) (omega arith) (λ e f. ne (omega arith))
    by q ne true false ex ey = refl
    by q ne false y ex ey = refl

    at : (q : ℕ) → set_cell (sheet t v).cells (t.base + lane_cell l j) n q ≡ (sheet t v').cells q
    at q = elim (nat_eq q (t.base + lane_cell l j)) as (λ b. nat_eq q (t.base + lane_cell l j) ≡ b → cond b n ((sheet t v).cells q) ≡ (sheet t v').cells q) [
      | true ↦ λ e. sym is ∙ (sym (get_sheet t v' l j ll lj) ∙ ap (sheet t v').cells (sym (eqb-true q (t.base + lane_cell l j) e)))
      | false ↦ λ e. by q (eqb-false q (t.base + lane_cell l j) e) (nat_le t.base q) (nat_lt q (t.base + 130)) refl refl
    ] refl

-- home, from left of all columns
pub goes_home : (input : List ℕ) (t : Tape) (v : Sheet) → ((j : ℕ) → j < 12 → v j 5 ≡ 1) → t.cells (t.base + 135) ≡ 0 → Does input homewards_code 5 (sheet t v) 135 (sheet t v) 143
goes_home input t v guides home =
    let g : Guides (sheet t v) 5 12 = record {
      on = λ k lt z.
          let e : 5 + 10 * (k + 1) ≡ lane_cell 5 (11 - k) = omega arith in
          absurd (omega (arith, get_sheet t v 5 (11 - k) (omega arith) (omega arith), guides (11 - k) (omega arith), ap (get (sheet t v)) e, z));
      home = get_past t v 135 (omega arith) ∙ home;
    } in
    guides_home input (sheet t v) 5 12 g

-- the digit of a board
pub board_digit : (w : ℕ → ℕ) (j l : ℕ) → j < 12 → l ≢ 5 → l ≢ 9 → board w j l ≡ digit (w l) j
board_digit w j l lt n5 n9 =
    let e : nat_lt j 12 ≡ true = grind (arith, nat_tests) in
    (λ i. cond (e i) (cond (ne_eqb l 5 n5 i) 1 (cond (ne_eqb l 9 n9 i) 0 (digit (w l) j))) 0)

pub board_guide : (w : ℕ → ℕ) (j : ℕ) → j < 12 → board w j 5 ≡ 1
board_guide w j lt = let e : nat_lt j 12 ≡ true = grind (arith, nat_tests) in ap (λ b. cond b 1 0) e

pub board_z : (w : ℕ → ℕ) (j : ℕ) → board w j 9 ≡ 0
board_z w j = same_choice (nat_lt j 12) 0

pub board_left : (w : ℕ → ℕ) (l : ℕ) → board w 12 l ≡ 0
board_left w l = refl

-- boards of the same words
pub board_ext : (w w' : ℕ → ℕ) → ((l : ℕ) → l < 9 → l ≢ 5 → w l ≡ w' l) → (j l : ℕ) → l < 10 → board w j l ≡ board w' j l
board_ext w w' same j l ll = by (nat_eq l 5) (nat_eq l 9) refl refl
  where
    by : (x y : Bool) → nat_eq l 5 ≡ x → nat_eq l 9 ≡ y → cond (nat_lt j 12) (cond x 1 (cond y 0 (digit (w l) j))) 0 ≡ cond (nat_lt j 12) (cond x 1 (cond y 0 (digit (w' l) j))) 0
    by true y ex ey = refl
    by false true ex ey = refl
    by false false ex ey = let n9 : l ≢ 9 = eqb-false l 9 ey in ap (λ n. cond (nat_lt j 12) (digit n j) 0) (same l (omega arith) (eqb-false l 5 ex))

-- the lanes of words with another one in a lane
module _ (w : ℕ → ℕ) (d s ny nz : ℕ) (r : Rule) (rd : IsRegister d) (rs : IsRegister s) (differ : d ≢ s) (b : IsBoard w) (small_y : (j : ℕ) → j < 12 → digit (w 6) j < ny) (lz : 0 < nz) (carries : Carries r ny nz) where
  abbrev c : ℕ → ℕ
  c i = carried r (board w) d s 0 0 i

  d_digit : (j : ℕ) → j < 12 → board w j d ≡ digit (w d) j
  d_digit j lt = board_digit w j d lt rd.no_guide (let l = rd.below in omega arith)

  s_digit : (j : ℕ) → j < 12 → board w j s ≡ digit (w s) j
  s_digit j lt = board_digit w j s lt rs.no_guide (let l = rs.below in omega arith)

  y_digit : (j : ℕ) → j < 12 → board w j 6 ≡ digit (w 6) j
  y_digit j lt = board_digit w j 6 lt (λ e. absurd (omega arith)) (λ e. absurd (omega arith))

  digits : HasDigits (board w) d s ny
  digits = record {
    own = λ j lt. let a = digit_small (w d) j in omega (arith, d_digit j lt, a);
    other = λ j lt. let a = digit_small (w s) j in omega (arith, s_digit j lt, a);
    lane = λ j lt. let a = small_y j lt in omega (arith, y_digit j lt, a);
  }

  pub carry_small : (i : ℕ) → i ≤ 12 → c i < nz
  carry_small i le = small [] (sheet_zero) (board w) d s 0 0 ny nz r rd rs differ lz digits (λ j lt. board_guide w j lt) carries i (omega arith)
    where
      sheet_zero : Tape
      sheet_zero = record { base = 0; cells = λ q. 0; taken = 0; output = [] }

  -- a column, by the words' digits
  pub made_is : (part : ℕ → ℕ → ℕ → ℕ → ℕ) (j : ℕ) → j < 12 → made part r (board w) d s 0 0 j ≡ part (digit (w d) j) (digit (w s) j) (digit (w 6) j) (c j)
  made_is part j lt = let e : j - 0 ≡ j = omega arith in (λ i. part (d_digit j lt i) (s_digit j lt i) (y_digit j lt i) (c (e i)))

  pub carry_next : (j : ℕ) → j < 12 → c (suc j) ≡ r.carry (digit (w d) j) (digit (w s) j) (digit (w 6) j) (c j)
  carry_next j lt = let e : 0 + j ≡ j = omega arith in (λ i. r.carry ((ap (λ k. board w k d) e ∙ d_digit j lt) i) ((ap (λ k. board w k s) e ∙ s_digit j lt) i) ((ap (λ k. board w k 6) e ∙ y_digit j lt) i) (c j))

  -- nothing done yet
  begun : (t : Tape) → sheet t (board w) ≡ sheet t (worked r (board w) d s 0 0 0)
  begun t = sheet_ext t (board w) (worked r (board w) d s 0 0 0) (λ j l lj ll. sym (at j l lj ll))
    where
      none : (f g : ℕ → ℕ) (k : ℕ) → since 0 0 f g k ≡ g k
      none f g k = both (nat_lt k 0) (nat_lt k (0 + 0)) refl refl
        where
          both : (x y : Bool) → nat_lt k 0 ≡ x → nat_lt k (0 + 0) ≡ y → cond x (g k) (cond y (f k) (g k)) ≡ g k
          both true y ex ey = refl
          both false true ex ey = absurd (grind (arith, nat_tests))
          both false false ex ey = refl

      zero_z : (k : ℕ) → cond (nat_eq k (0 + 0)) (carried r (board w) d s 0 0 0) 0 ≡ 0
      zero_z k = same_choice (nat_eq k (0 + 0)) 0

      x_none : (j : ℕ) → j ≤ 12 → board w j 3 ≡ 0
      x_none j lj = elim (nat_lt j 12) as (λ x. nat_lt j 12 ≡ x → cond x (digit (w 3) j) 0 ≡ 0) [
        | true ↦ λ e. ap (λ n. digit n j) b.spare ∙ digit_zero j
        | false ↦ λ e. refl
      ] refl

      at : (j l : ℕ) → j ≤ 12 → l < 10 → worked r (board w) d s 0 0 0 j l ≡ board w j l
      at j l lj ll = at_nine (nat_eq l 9) refl
        where
          own0 : ℕ → ℕ
          own0 = since 0 0 (made r.own r (board w) d s 0 0) (λ k. board w k d)

          at_own : (x : Bool) → nat_eq l d ≡ x → cond x (since 0 0 (made r.own r (board w) d s 0 0) (λ k. board w k d) j) (board w j l) ≡ board w j l
          at_own true e = none (made r.own r (board w) d s 0 0) (λ k. board w k d) j ∙ ap (board w j) (sym (eqb-true l d e))
          at_own false e = refl

          at_three : (x : Bool) → nat_eq l 3 ≡ x → cond x (since 0 0 (made r.spare r (board w) d s 0 0) (λ k. 0) j) (cond (nat_eq l d) (since 0 0 (made r.own r (board w) d s 0 0) (λ k. board w k d) j) (board w j l)) ≡ board w j l
          at_three true e = none (made r.spare r (board w) d s 0 0) (λ k. 0) j ∙ (sym (x_none j lj) ∙ ap (board w j) (sym (eqb-true l 3 e)))
          at_three false e = at_own (nat_eq l d) refl

          at_six : (x : Bool) → nat_eq l 6 ≡ x → cond x (since 0 0 (made r.lane r (board w) d s 0 0) (λ k. board w k 6) j) (cond (nat_eq l 3) (since 0 0 (made r.spare r (board w) d s 0 0) (λ k. 0) j) (cond (nat_eq l d) (since 0 0 (made r.own r (board w) d s 0 0) (λ k. board w k d) j) (board w j l))) ≡ board w j l
          at_six true e = none (made r.lane r (board w) d s 0 0) (λ k. board w k 6) j ∙ ap (board w j) (sym (eqb-true l 6 e))
          at_six false e = at_three (nat_eq l 3) refl

          at_nine : (x : Bool) → nat_eq l 9 ≡ x → cond x (cond (nat_eq j (0 + 0)) (carried r (board w) d s 0 0 0) 0) (cond (nat_eq l 6) (since 0 0 (made r.lane r (board w) d s 0 0) (λ k. board w k 6) j) (cond (nat_eq l 3) (since 0 0 (made r.spare r (board w) d s 0 0) (λ k. 0) j) (cond (nat_eq l d) (since 0 0 (made r.own r (board w) d s 0 0) (λ k. board w k d) j) (board w j l)))) ≡ board w j l
          at_nine true e = zero_z j ∙ (sym (board_z w j) ∙ ap (board w j) (sym (eqb-true l 9 e)))
          at_nine false e = at_six (nat_eq l 6) refl

  module _ (w' : ℕ → ℕ) (own_is : (j : ℕ) → j < 12 → r.own (digit (w d) j) (digit (w s) j) (digit (w 6) j) (c j) ≡ digit (w' d) j) (spare_is : (j : ℕ) → j < 12 → r.spare (digit (w d) j) (digit (w s) j) (digit (w 6) j) (c j) ≡ digit (w' 3) j) (lane_is : (j : ℕ) → j < 12 → r.lane (digit (w d) j) (digit (w s) j) (digit (w 6) j) (c j) ≡ digit (w' 6) j) (other_is : (l : ℕ) → l < 9 → l ≢ d → l ≢ 3 → l ≢ 6 → l ≢ 5 → w l ≡ w' l) where
    -- what a sweep leaves, but for the last carry
    pub ended : (j l : ℕ) → j ≤ 12 → l < 10 → (j ≡ 12 → l ≢ 9) → worked r (board w) d s 0 0 12 j l ≡ board w' j l
    ended j l lj ll not_z = at_nine (nat_eq l 9) refl
      where
        -- a lane that was written
        written : (part : ℕ → ℕ → ℕ → ℕ → ℕ) (g : ℕ → ℕ) (i : ℕ) → ((j : ℕ) → j < 12 → part (digit (w d) j) (digit (w s) j) (digit (w 6) j) (c j) ≡ digit (w' i) j) → i ≢ 5 → i ≢ 9 → g 12 ≡ 0 → since 0 12 (made part r (board w) d s 0 0) g j ≡ board w' j i
        written part g i is n5 n9 g0 = elim (nat_eq j 12) as (λ x. nat_eq j 12 ≡ x → since 0 12 (made part r (board w) d s 0 0) g j ≡ board w' j i) [
          | true ↦ λ e. let at : j ≡ 12 = eqb-true j 12 e in subst (λ k. since 0 12 (made part r (board w) d s 0 0) g k ≡ board w' k i) (sym at) g0
          | false ↦ λ e.
              let ne : j ≢ 12 = eqb-false j 12 e in
              let lt : j < 12 = omega arith in
              let e1 : nat_lt j 0 ≡ false = grind (arith, nat_tests) in
              let e2 : nat_lt j (0 + 12) ≡ true = grind (arith, nat_tests) in
              (λ q. cond (e1 q) (g j) (cond (e2 q) (made part r (board w) d s 0 0 j) (g j))) ∙ (made_is part j lt ∙ (is j lt ∙ sym (board_digit w' j i lt n5 n9)))
        ] refl

        at_own : (x : Bool) → nat_eq l d ≡ x → l ≢ 9 → l ≢ 6 → l ≢ 3 → cond x (since 0 12 (made r.own r (board w) d s 0 0) (λ k. board w k d) j) (board w j l) ≡ board w' j l
        at_own true e n9 n6 n3 = written r.own (λ k. board w k d) d own_is rd.no_guide (let a = rd.below in omega arith) refl ∙ ap (board w' j) (sym (eqb-true l d e))
        at_own false e n9 n6 n3 = kept (nat_eq l 5) refl
          where
            kept : (x : Bool) → nat_eq l 5 ≡ x → cond (nat_lt j 12) (cond x 1 (cond (nat_eq l 9) 0 (digit (w l) j))) 0 ≡ cond (nat_lt j 12) (cond x 1 (cond (nat_eq l 9) 0 (digit (w' l) j))) 0
            kept true f = refl
            kept false f = ap (λ n. cond (nat_lt j 12) (cond (nat_eq l 9) 0 (digit n j)) 0) (other_is l (omega arith) (eqb-false l d e) n3 n6 (eqb-false l 5 f))

        at_three : (x : Bool) → nat_eq l 3 ≡ x → l ≢ 9 → l ≢ 6 → cond x (since 0 12 (made r.spare r (board w) d s 0 0) (λ k. 0) j) (cond (nat_eq l d) (since 0 12 (made r.own r (board w) d s 0 0) (λ k. board w k d) j) (board w j l)) ≡ board w' j l
        at_three true e n9 n6 = written r.spare (λ k. 0) 3 spare_is (λ f. absurd (omega arith)) (λ f. absurd (omega arith)) refl ∙ ap (board w' j) (sym (eqb-true l 3 e))
        at_three false e n9 n6 = at_own (nat_eq l d) refl n9 n6 (eqb-false l 3 e)

        at_six : (x : Bool) → nat_eq l 6 ≡ x → l ≢ 9 → cond x (since 0 12 (made r.lane r (board w) d s 0 0) (λ k. board w k 6) j) (cond (nat_eq l 3) (since 0 12 (made r.spare r (board w) d s 0 0) (λ k. 0) j) (cond (nat_eq l d) (since 0 12 (made r.own r (board w) d s 0 0) (λ k. board w k d) j) (board w j l))) ≡ board w' j l
        at_six true e n9 = written r.lane (λ k. board w k 6) 6 lane_is (λ f. absurd (omega arith)) (λ f. absurd (omega arith)) refl ∙ ap (board w' j) (sym (eqb-true l 6 e))
        at_six false e n9 = at_three (nat_eq l 3) refl n9 (eqb-false l 6 e)

        at_nine : (x : Bool) → nat_eq l 9 ≡ x → cond x (cond (nat_eq j (0 + 12)) (carried r (board w) d s 0 0 12) 0) (cond (nat_eq l 6) (since 0 12 (made r.lane r (board w) d s 0 0) (λ k. board w k 6) j) (cond (nat_eq l 3) (since 0 12 (made r.spare r (board w) d s 0 0) (λ k. 0) j) (cond (nat_eq l d) (since 0 12 (made r.own r (board w) d s 0 0) (λ k. board w k d) j) (board w j l)))) ≡ board w' j l
        at_nine true e =
            let ne : j ≢ 0 + 12 = (λ f. not_z (f ∙ refl) (eqb-true l 9 e)) in
            ap (λ x. cond x (carried r (board w) d s 0 0 12) 0) (ne_eqb j (0 + 12) ne) ∙ (sym (board_z w' j) ∙ ap (board w' j) (sym (eqb-true l 9 e)))
        at_nine false e = at_six (nat_eq l 6) refl (eqb-false l 9 e)

    -- out to the left: the last carry stands in lane z
    pub swept_out : (input : List ℕ) (t : Tape) (text : Text) (most : ℕ) → follows text r ny nz most ≡ true → Does input (left10 ++ onwards_code (body_of d s text)) 135 (sheet t (board w)) 5 (sheet t (worked r (board w) d s 0 0 12)) (12 * (most + 11) + 11)
    swept_out input t text most e =
        let first : Does input left10 135 (sheet t (board w)) 125 (sheet t (worked r (board w) d s 0 0 0)) 10 = comes_to (sheet t (worked r (board w) d s 0 0 0)) (does_lefts input 10 125 (sheet t (board w))) (begun t) in
        does_within (12 * (most + 11) + 11)
        (next first (columns_worked input t (board w) d s 0 0 ny nz r rd rs differ lz digits (λ j lt. board_guide w j lt) carries text most (omega arith) refl e)) (omega arith)

    -- the last carry given up, and home
    pub swept : (text : Text) (most top : ℕ) → nz ≤ 2 → 12 * (most + 11) + 297 ≤ top → follows text r ny nz most ≡ true → Acts (sweep_code (body_of d s text)) w w' top
    swept text most top few le e = record { does = done }
      where
        done : (input : List ℕ) (t : Tape) → t.cells (t.base + 135) ≡ 0 → Does input (sweep_code (body_of d s text)) 135 (sheet t (board w)) 135 (sheet t (board w')) top
        done input t home =
            let u : Tape = sheet t (worked r (board w) d s 0 0 12) in
            let z_is : get u 9 ≡ c 12 = get_sheet t (worked r (board w) d s 0 0 12) 9 12 (omega arith) (omega arith) in
            let given : put u 9 0 ≡ sheet t (board w') = put_sheet t (worked r (board w) d s 0 0 12) (board w') 9 12 0 (omega arith) (omega arith) refl (λ k i lk li off. ended k i lk li off) in
            does_within top
            (next (next (next (next (swept_out input t text most e) (does_goto input 5 9 u 4 (omega arith)))
            (comes_to (sheet t (board w')) (clear_small input 9 (c 12) u z_is (let k = carry_small 12 (omega arith) in omega arith)) given)) (does_goto input 9 5 (sheet t (board w')) 4 (omega arith)))
            (goes_home input t (board w') (λ j lt. board_guide w' j lt) home)) (omega arith)
