-- A byte written from a register.
use Rattle.std.proofs.Common.{◌≡◌, ◌≢◌, ℕ, zero, suc, ◌+◌, ◌-◌, ◌*◌, ◌%◌, ◌^◌, ◌<◌, ◌≤◌, Bool, true, false, nat_lt, nat_eq, cond, List, [], ◌∷◌, refl, sym, ap, subst, ◌∙◌, arith, eq-eqb, ne_eqb}
use Rattle.std.proofs.lemmas.Bool.{eqb-true}
use Rattle.bf_lang.specs.declared.command.Command.TheVariants.{Minus, Write}
use Rattle.bf_tape.specs.Tape.{Tape, get, put}
use Rattle.bf_tape.specs.Slots.{AreApart, holding, nth}
use Rattle.bf_tape.specs.Does.{Does, loop}
use Rattle.bf_tape.proofs.Slotted.{get_held, held}
use Rattle.bf_tape.proofs.Moves.{does_write, does_loop, does_within}
use Rattle.bf_tape.proofs.Pieces.{does_goto, does_rights, counted, minus_at}
use Rattle.bf_columns.specs.Lanes.{lane_cell}
use Rattle.bf_columns.specs.Columns.{right10}
use Rattle.bf_columns.specs.Text.{AreWithin, spelled, comes, each_below}
use Rattle.bf_columns.specs.Sheet.{Sheet, sheet, with_lane, IsRegister}
use Rattle.bf_columns.specs.Board.{digit, board, IsBoard}
use Rattle.bf_columns.specs.Bytes.{right_cells, low_text, high_text, high_code, putc_code, written, BytesAreWritten}
use Rattle.bf_columns.proofs.Tapes.{next, comes_to, goes_from}
use Rattle.bf_columns.proofs.Reckoned.{below_each}
use Rattle.bf_columns.proofs.Rows.{on_sheet}
use Rattle.bf_columns.proofs.Sheets.{get_sheet, sheet_ext}
use Rattle.bf_columns.proofs.Boards.{put_sheet, board_digit, same_choice}
use Rattle.bf_columns.proofs.Digits.{digit_small}
use Rattle.bf_columns.proofs.Swept.{none_in}

-- where the cells stand
abbrev pub right_lows : ℕ → List ℕ
right_lows j = lane_cell 0 j ∷ lane_cell 3 j ∷ lane_cell 6 j ∷ lane_cell 3 (j - 1) ∷ []

abbrev pub right_highs : ℕ → List ℕ
right_highs j = lane_cell 8 j ∷ lane_cell 3 j ∷ lane_cell 6 j ∷ lane_cell 3 (j - 1) ∷ []

-- the cases: the digit, and x before
abbrev pub lifts : ℕ → ℕ → ℕ → Bool
lifts j top most = each_below 4 (λ a. each_below top (λ v. comes (right_lows j) (right_highs j) high_text 1 (a ∷ v ∷ 0 ∷ 0 ∷ []) (a ∷ 0 ∷ 0 ∷ 4 * (v + a) ∷ []) most))

lifts_third : lifts 3 1 200 ≡ true
lifts_third = refl

lifts_second : lifts 2 13 520 ≡ true
lifts_second = refl

lifts_first : lifts 1 61 1800 ≡ true
lifts_first = refl

abbrev pub low_lows : List ℕ
low_lows = 120 ∷ 123 ∷ 126 ∷ []

abbrev pub low_highs : List ℕ
low_highs = 128 ∷ 123 ∷ 126 ∷ []

adds_low : each_below 4 (λ a. each_below 64 (λ u. comes low_lows low_highs low_text 1 (a ∷ 4 * u ∷ 0 ∷ []) (a ∷ (4 * u + a) ∷ 0 ∷ []) 120)) ≡ true
adds_low = refl

-- a byte becomes 0
clear_byte : (input : List ℕ) (c n : ℕ) (s : Tape) → get s c ≡ n → Does input (loop (Minus ∷ [])) c s c (put s c 0) (n * 2 + 1)
clear_byte input c n s is =
    let at : ℕ → Tape = λ k. holding s (c ∷ []) (k ∷ []) in
    let start : at n ≡ s = (λ i. holding s (c ∷ []) (sym is i ∷ [])) ∙ held s (c ∷ []) in
    goes_from s (does_loop refl (counted input (Minus ∷ []) c 1 n at (λ k. get_held s (c ∷ []) (k ∷ []) 0 (tt, tt) (omega arith) refl) (λ k lt. minus_at input s (c ∷ []) (tt, tt) (suc k ∷ []) 0 (omega arith) refl) n (omega arith))) start

module _ (input : List ℕ) (t : Tape) (w : ℕ → ℕ) (d : ℕ) (rd : IsRegister d) (b : IsBoard w) (none : w 6 ≡ 0) where
  -- x has a number in one column
  abbrev x_at : ℕ → ℕ → Sheet
  x_at j v = with_lane (board w) 3 (λ i. cond (nat_eq i j) v 0)

  own_digit : (j v i : ℕ) → i < 12 → x_at j v i d ≡ digit (w d) i
  own_digit j v i lt = ap (λ x. cond x (cond (nat_eq i j) v 0) (board w i d)) (ne_eqb d 3 rd.no_x) ∙ board_digit w i d lt rd.no_guide (let l = rd.below in omega arith)

  y_none : (j v i : ℕ) → i < 12 → x_at j v i 6 ≡ 0
  y_none j v i lt = board_digit w i 6 lt (λ e. absurd (omega arith)) (λ e. absurd (omega arith)) ∙ none_in w 6 none i

  x_here : (j v : ℕ) → x_at j v j 3 ≡ v
  x_here j v = ap (λ x. cond x v 0) (eq-eqb j j refl)

  x_off : (j v i : ℕ) → i ≢ j → x_at j v i 3 ≡ 0
  x_off j v i ne = ap (λ x. cond x v 0) (ne_eqb i j ne)

  cells_apart : (j : ℕ) → 1 ≤ j → j ≤ 3 → AreApart (right_cells d j)
  cells_apart j ge le =
      let a = rd.below in let f = rd.no_x in let g = rd.no_y in
      ((omega arith, (omega arith, (omega arith, tt))), ((omega arith, (omega arith, tt)), ((omega arith, tt), (tt, tt))))

  cells_around : (j : ℕ) → j ≤ 3 → AreWithin (right_cells d j) (right_lows j) (right_highs j)
  cells_around j le = record { lows = refl; within = within }
    where
      within : (i : ℕ) → i < 4 → (nth (right_lows j) i ≤ nth (right_cells d j) i) × (nth (right_cells d j) i ≤ nth (right_highs j) i)
      within zero lt = (omega arith, let a = rd.below in omega arith)
      within (suc zero) lt = (omega arith, omega arith)
      within (suc (suc zero)) lt = (omega arith, omega arith)
      within (suc (suc (suc zero))) lt = (omega arith, omega arith)
      within (suc (suc (suc (suc i)))) lt = absurd (omega arith)

  -- one column, and to x of the next
  lifted : (j v most : ℕ) → 1 ≤ j → j ≤ 3 → comes (right_lows j) (right_highs j) high_text 1 (digit (w d) j ∷ v ∷ 0 ∷ 0 ∷ []) (digit (w d) j ∷ 0 ∷ 0 ∷ 4 * (v + digit (w d) j) ∷ []) most ≡ true
      → Does input (high_code d j) (lane_cell 3 j) (sheet t (x_at j v)) (lane_cell 3 (j - 1)) (sheet t (x_at (j - 1) (4 * (v + digit (w d) j)))) (most + 10)
  lifted j v most ge le e = next run (moved (sheet t (x_at (j - 1) n)))
    where
      n : ℕ
      n = 4 * (v + digit (w d) j)

      moved : (s : Tape) → Does input right10 (lane_cell 3 j) s (lane_cell 3 (j - 1)) s 10
      moved s = let f : lane_cell 3 j + 10 ≡ lane_cell 3 (j - 1) = omega arith in subst (λ c. Does input right10 (lane_cell 3 j) s c s 10) f (does_rights input 10 (lane_cell 3 j) s)

      reads : (i : ℕ) → i < 4 → get (sheet t (x_at j v)) (nth (right_cells d j) i) ≡ nth (digit (w d) j ∷ v ∷ 0 ∷ 0 ∷ []) i
      reads zero lt = get_sheet t (x_at j v) d j (let a = rd.below in omega arith) (omega arith) ∙ own_digit j v j (omega arith)
      reads (suc zero) lt = get_sheet t (x_at j v) 3 j (omega arith) (omega arith) ∙ x_here j v
      reads (suc (suc zero)) lt = get_sheet t (x_at j v) 6 j (omega arith) (omega arith) ∙ y_none j v j (omega arith)
      reads (suc (suc (suc zero))) lt = get_sheet t (x_at j v) 3 (j - 1) (omega arith) (omega arith) ∙ x_off j v (j - 1) (λ f. absurd (omega arith))
      reads (suc (suc (suc (suc i)))) lt = absurd (omega arith)

      writes : (i : ℕ) → i < 4 → get (sheet t (x_at (j - 1) (4 * (v + digit (w d) j)))) (nth (right_cells d j) i) ≡ nth (digit (w d) j ∷ 0 ∷ 0 ∷ 4 * (v + digit (w d) j) ∷ []) i
      writes zero lt = get_sheet t (x_at (j - 1) (4 * (v + digit (w d) j))) d j (let a = rd.below in omega arith) (omega arith) ∙ own_digit (j - 1) (4 * (v + digit (w d) j)) j (omega arith)
      writes (suc zero) lt = get_sheet t (x_at (j - 1) (4 * (v + digit (w d) j))) 3 j (omega arith) (omega arith) ∙ x_off (j - 1) (4 * (v + digit (w d) j)) j (λ f. absurd (omega arith))
      writes (suc (suc zero)) lt = get_sheet t (x_at (j - 1) (4 * (v + digit (w d) j))) 6 j (omega arith) (omega arith) ∙ y_none (j - 1) (4 * (v + digit (w d) j)) j (omega arith)
      writes (suc (suc (suc zero))) lt = get_sheet t (x_at (j - 1) (4 * (v + digit (w d) j))) 3 (j - 1) (omega arith) (omega arith) ∙ x_here (j - 1) (4 * (v + digit (w d) j))
      writes (suc (suc (suc (suc i)))) lt = absurd (omega arith)

      agree : (k l : ℕ) → k ≤ 12 → l < 10 → ((i : ℕ) → i < 4 → lane_cell l k ≢ nth (right_cells d j) i) → x_at j v k l ≡ x_at (j - 1) (4 * (v + digit (w d) j)) k l
      agree k l lk ll off = by (nat_eq l 3) refl
        where
          by : (x : Bool) → nat_eq l 3 ≡ x → cond x (cond (nat_eq k j) v 0) (board w k l) ≡ cond x (cond (nat_eq k (j - 1)) (4 * (v + digit (w d) j)) 0) (board w k l)
          by true f =
              let is : l ≡ 3 = eqb-true l 3 f in
              let n0 : lane_cell l k ≢ lane_cell 3 j = off 1 (omega arith) in
              let n1 : lane_cell l k ≢ lane_cell 3 (j - 1) = off 3 (omega arith) in
              ap (λ x. cond x v 0) (ne_eqb k j (λ g. n0 (λ i. lane_cell (is i) (g i)))) ∙ sym (ap (λ x. cond x (4 * (v + digit (w d) j)) 0) (ne_eqb k (j - 1) (λ g. n1 (λ i. lane_cell (is i) (g i)))))
          by false f = refl

      run : Does input (spelled (right_cells d j) 1 high_text) (lane_cell 3 j) (sheet t (x_at j v)) (lane_cell 3 j) (sheet t (x_at (j - 1) (4 * (v + digit (w d) j)))) most
      run = on_sheet input t (x_at j v) (x_at (j - 1) (4 * (v + digit (w d) j))) (right_cells d j) (right_lows j) (right_highs j) (cells_apart j ge le) (cells_around j le) high_text 1 (digit (w d) j ∷ v ∷ 0 ∷ 0 ∷ []) (digit (w d) j ∷ 0 ∷ 0 ∷ 4 * (v + digit (w d) j) ∷ []) most (omega arith) refl refl reads writes agree e

  -- the lowest column
  low_row : (v u : ℕ) → v ≡ 4 * u → u < 64 → Does input (spelled (lane_cell d 0 ∷ 123 ∷ 126 ∷ []) 1 low_text) 123 (sheet t (x_at 0 v)) 123 (sheet t (x_at 0 (v + digit (w d) 0))) 120
  low_row v u is lu = on_sheet input t (x_at 0 v) (x_at 0 (v + digit (w d) 0)) (lane_cell d 0 ∷ 123 ∷ 126 ∷ []) low_lows low_highs apart around low_text 1 (digit (w d) 0 ∷ v ∷ 0 ∷ []) (digit (w d) 0 ∷ (v + digit (w d) 0) ∷ 0 ∷ []) 120 (omega arith) refl refl reads writes agree test
    where
      apart : AreApart (lane_cell d 0 ∷ 123 ∷ 126 ∷ [])
      apart = let f = rd.no_x in let g = rd.no_y in ((omega arith, (omega arith, tt)), ((omega arith, tt), (tt, tt)))

      around : AreWithin (lane_cell d 0 ∷ 123 ∷ 126 ∷ []) low_lows low_highs
      around = record { lows = refl; within = within }
        where
          within : (i : ℕ) → i < 3 → (nth low_lows i ≤ nth (lane_cell d 0 ∷ 123 ∷ 126 ∷ []) i) × (nth (lane_cell d 0 ∷ 123 ∷ 126 ∷ []) i ≤ nth low_highs i)
          within zero lt = (omega arith, let a = rd.below in omega arith)
          within (suc zero) lt = (omega arith, omega arith)
          within (suc (suc zero)) lt = (omega arith, omega arith)
          within (suc (suc (suc i))) lt = absurd (omega arith)

      reads : (i : ℕ) → i < 3 → get (sheet t (x_at 0 v)) (nth (lane_cell d 0 ∷ 123 ∷ 126 ∷ []) i) ≡ nth (digit (w d) 0 ∷ v ∷ 0 ∷ []) i
      reads zero lt = get_sheet t (x_at 0 v) d 0 (let a = rd.below in omega arith) (omega arith) ∙ own_digit 0 v 0 (omega arith)
      reads (suc zero) lt = get_sheet t (x_at 0 v) 3 0 (omega arith) (omega arith) ∙ x_here 0 v
      reads (suc (suc zero)) lt = get_sheet t (x_at 0 v) 6 0 (omega arith) (omega arith) ∙ y_none 0 v 0 (omega arith)
      reads (suc (suc (suc i))) lt = absurd (omega arith)

      writes : (i : ℕ) → i < 3 → get (sheet t (x_at 0 (v + digit (w d) 0))) (nth (lane_cell d 0 ∷ 123 ∷ 126 ∷ []) i) ≡ nth (digit (w d) 0 ∷ (v + digit (w d) 0) ∷ 0 ∷ []) i
      writes zero lt = get_sheet t (x_at 0 (v + digit (w d) 0)) d 0 (let a = rd.below in omega arith) (omega arith) ∙ own_digit 0 (v + digit (w d) 0) 0 (omega arith)
      writes (suc zero) lt = get_sheet t (x_at 0 (v + digit (w d) 0)) 3 0 (omega arith) (omega arith) ∙ x_here 0 (v + digit (w d) 0)
      writes (suc (suc zero)) lt = get_sheet t (x_at 0 (v + digit (w d) 0)) 6 0 (omega arith) (omega arith) ∙ y_none 0 (v + digit (w d) 0) 0 (omega arith)
      writes (suc (suc (suc i))) lt = absurd (omega arith)

      agree : (k l : ℕ) → k ≤ 12 → l < 10 → ((i : ℕ) → i < 3 → lane_cell l k ≢ nth (lane_cell d 0 ∷ 123 ∷ 126 ∷ []) i) → x_at 0 v k l ≡ x_at 0 (v + digit (w d) 0) k l
      agree k l lk ll off = by (nat_eq l 3) refl
        where
          by : (x : Bool) → nat_eq l 3 ≡ x → cond x (cond (nat_eq k 0) v 0) (board w k l) ≡ cond x (cond (nat_eq k 0) (v + digit (w d) 0) 0) (board w k l)
          by true f =
              let is : l ≡ 3 = eqb-true l 3 f in
              let n0 : lane_cell l k ≢ 123 = off 1 (omega arith) in
              let ne : k ≢ 0 = (λ g. n0 (λ i. lane_cell (is i) (g i))) in
              ap (λ x. cond x v 0) (ne_eqb k 0 ne) ∙ sym (ap (λ x. cond x (v + digit (w d) 0) 0) (ne_eqb k 0 ne))
          by false f = refl

      test : comes low_lows low_highs low_text 1 (digit (w d) 0 ∷ v ∷ 0 ∷ []) (digit (w d) 0 ∷ (v + digit (w d) 0) ∷ 0 ∷ []) 120 ≡ true
      test =
          subst (λ v. comes low_lows low_highs low_text 1 (digit (w d) 0 ∷ v ∷ 0 ∷ []) (digit (w d) 0 ∷ (v + digit (w d) 0) ∷ 0 ∷ []) 120 ≡ true) (sym is)
          (below_each 64 u (λ u. comes low_lows low_highs low_text 1 (digit (w d) 0 ∷ 4 * u ∷ 0 ∷ []) (digit (w d) 0 ∷ (4 * u + digit (w d) 0) ∷ 0 ∷ []) 120)
          (below_each 4 (digit (w d) 0) (λ a. each_below 64 (λ u. comes low_lows low_highs low_text 1 (a ∷ 4 * u ∷ 0 ∷ []) (a ∷ (4 * u + a) ∷ 0 ∷ []) 120)) adds_low (digit_small (w d) 0)) lu)

  -- all four columns
  pub byte_written : Does input (putc_code d) 135 (sheet t (board w)) 135 (sheet (written t (w d % 2 ^ 8)) (board w)) (2 ^ 13)
  byte_written =
      let a3 : ℕ = digit (w d) 3 in let a2 : ℕ = digit (w d) 2 in let a1 : ℕ = digit (w d) 1 in let a0 : ℕ = digit (w d) 0 in
      let l3 = digit_small (w d) 3 in let l2 = digit_small (w d) 2 in let l1 = digit_small (w d) 1 in let l0 = digit_small (w d) 0 in
      let v2 : ℕ = 4 * (0 + a3) in let v1 : ℕ = 4 * (v2 + a2) in let v0 : ℕ = 4 * (v1 + a1) in
      let n : ℕ = v0 + a0 in
      let n_is : n ≡ w d % 2 ^ 8 = value (w d) in
      let lift : (j top most v : ℕ) → lifts j top most ≡ true → v < top → comes (right_lows j) (right_highs j) high_text 1 (digit (w d) j ∷ v ∷ 0 ∷ 0 ∷ []) (digit (w d) j ∷ 0 ∷ 0 ∷ 4 * (v + digit (w d) j) ∷ []) most ≡ true = λ j top most v e lt.
      below_each top v (λ v. comes (right_lows j) (right_highs j) high_text 1 (digit (w d) j ∷ v ∷ 0 ∷ 0 ∷ []) (digit (w d) j ∷ 0 ∷ 0 ∷ 4 * (v + digit (w d) j) ∷ []) most)
      (below_each 4 (digit (w d) j) (λ a. each_below top (λ v. comes (right_lows j) (right_highs j) high_text 1 (a ∷ v ∷ 0 ∷ 0 ∷ []) (a ∷ 0 ∷ 0 ∷ 4 * (v + a) ∷ []) most)) e (digit_small (w d) j)) lt in
      let start : sheet t (board w) ≡ sheet t (x_at 3 0) = sheet_ext t (board w) (x_at 3 0) (λ j l lj ll. sym (empty 3 j l lj)) in
      let s3 : Does input (high_code d 3) 93 (sheet t (x_at 3 0)) 103 (sheet t (x_at 2 v2)) 210 = lifted 3 0 200 (omega arith) (omega arith) (lift 3 1 200 0 lifts_third (omega arith)) in
      let s2 : Does input (high_code d 2) 103 (sheet t (x_at 2 v2)) 113 (sheet t (x_at 1 v1)) 530 = lifted 2 v2 520 (omega arith) (omega arith) (lift 2 13 520 v2 lifts_second (omega arith)) in
      let s1 : Does input (high_code d 1) 113 (sheet t (x_at 1 v1)) 123 (sheet t (x_at 0 v0)) 1810 = lifted 1 v1 1800 (omega arith) (omega arith) (lift 1 61 1800 v1 lifts_first (omega arith)) in
      let s0 = low_row v0 (v1 + a1) refl (omega arith) in
      let u : Tape = sheet t (x_at 0 n) in
      let u_is : get u 123 ≡ n = get_sheet t (x_at 0 n) 3 0 (omega arith) (omega arith) ∙ x_here 0 n in
      let out : Does input (Write ∷ []) 123 u 123 (sheet (written t n) (x_at 0 n)) 1 = comes_to (sheet (written t n) (x_at 0 n)) (does_write input 123 u) (ap (λ k. sheet (written t k) (x_at 0 n)) u_is) in
      let u' : Tape = sheet (written t n) (x_at 0 n) in
      let u'_is : get u' 123 ≡ n = get_sheet (written t n) (x_at 0 n) 3 0 (omega arith) (omega arith) ∙ x_here 0 n in
      let gone : put u' 123 0 ≡ sheet (written t n) (board w) = put_sheet (written t n) (x_at 0 n) (board w) 3 0 0 (omega arith) (omega arith) (board_digit w 0 3 (omega arith) (λ e. absurd (omega arith)) (λ e. absurd (omega arith)) ∙ none_in w 3 b.spare 0) (beside_x n) in
      let clear : Does input (loop (Minus ∷ [])) 123 u' 123 (sheet (written t n) (board w)) (n * 2 + 1) = comes_to (sheet (written t n) (board w)) (clear_byte input 123 n u' u'_is) gone in
      comes_to (sheet (written t (w d % 2 ^ 8)) (board w))
      (does_within (2 ^ 13)
      (next (next (next (next (next (next (next (comes_to (sheet t (x_at 3 0)) (does_goto input 135 93 (sheet t (board w)) 42 (omega arith)) start) s3) s2) s1) s0) out) clear)
      (does_goto input 123 135 (sheet (written t n) (board w)) 12 (omega arith))) (omega arith))
      (ap (λ k. sheet (written t k) (board w)) n_is)
    where
      value : (v : ℕ) → 4 * (4 * (4 * (0 + digit v 3) + digit v 2) + digit v 1) + digit v 0 ≡ v % 2 ^ 8
      value v = omega arith

      x_zero : (j : ℕ) → j ≤ 12 → board w j 3 ≡ 0
      x_zero j lj = by (nat_lt j 12) refl
        where
          by : (x : Bool) → nat_lt j 12 ≡ x → cond x (digit (w 3) j) 0 ≡ 0
          by true e = none_in w 3 b.spare j
          by false e = refl

      empty : (k j l : ℕ) → j ≤ 12 → x_at k 0 j l ≡ board w j l
      empty k j l lj = by (nat_eq l 3) refl
        where
          by : (x : Bool) → nat_eq l 3 ≡ x → cond x (cond (nat_eq j k) 0 0) (board w j l) ≡ board w j l
          by true e = same_choice (nat_eq j k) 0 ∙ sym (ap (board w j) (eqb-true l 3 e) ∙ x_zero j lj)
          by false e = refl

      beside_x : (n k i : ℕ) → k ≤ 12 → i < 10 → (k ≡ 0 → i ≢ 3) → x_at 0 n k i ≡ board w k i
      beside_x n k i lk li off = by (nat_eq i 3) refl
        where
          by : (x : Bool) → nat_eq i 3 ≡ x → cond x (cond (nat_eq k 0) n 0) (board w k i) ≡ board w k i
          by true e =
              let is : i ≡ 3 = eqb-true i 3 e in
              ap (λ x. cond x n 0) (ne_eqb k 0 (λ f. off f is)) ∙ sym (ap (board w k) is ∙ x_zero k lk)
          by false e = refl

pub bytes_written : BytesAreWritten
bytes_written input t w d rd b none = byte_written input t w d rd b none
