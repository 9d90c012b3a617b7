-- Columns done from the left, and the answers of comparisons.
use Rattle.std.proofs.Common.{◌≡◌, ◌≢◌, ℕ, zero, suc, ◌+◌, ◌-◌, ◌*◌, ◌/◌, ◌%◌, ◌<◌, ◌≤◌, Bool, true, false, nat_lt, nat_le, nat_eq, cond, List, [], ◌∷◌, ◌++◌, refl, sym, ap, subst, ◌∙◌, arith, eq-eqb, ne_eqb}
use Rattle.std.proofs.Math.Nat.{suc-mul}
use Rattle.std.proofs.lemmas.Bool.{eqb-true, eqb-false}
use Rattle.std.proofs.lemmas.Bool.Decides.{nat_tests}
use Rattle.bf_lang.specs.declared.command.Command.{Command}
use Rattle.bf_lang.proofs.Partners.{balanced_append}
use Rattle.bf_tape.specs.Tape.{Tape, get, put}
use Rattle.bf_tape.specs.Slots.{AreApart, nth}
use Rattle.bf_tape.specs.Does.{Does, Strides}
use Rattle.bf_tape.specs.Does.Strides.{Stand, Stride}
use Rattle.bf_tape.proofs.Moves.{does_strides, does_within}
use Rattle.bf_tape.proofs.Pieces.{does_rights, does_lefts}
use Rattle.bf_tape.proofs.Turning.{get_put}
use Rattle.bf_columns.specs.Lanes.{lane_cell}
use Rattle.bf_columns.specs.Columns.{left10, right10, guide}
use Rattle.bf_columns.specs.Text.{AreWithin, Text, spelled, comes, each_below}
use Rattle.bf_columns.specs.Bodies.{lows, highs}
use Rattle.bf_columns.specs.Sheet.{Sheet, sheet, with_lane, IsRegister}
use Rattle.bf_columns.specs.Worked.{cells_of, body_of}
use Rattle.bf_columns.specs.Board.{digit, board, IsBoard}
use Rattle.bf_columns.specs.Told.{homewards_by, away_code, ColumnsBack, ColumnsAreDoneBack, Teller, answers, answer_cells}
use Rattle.bf_columns.proofs.Tapes.{next, between}
use Rattle.bf_columns.proofs.Reckoned.{below_each, spelled_balanced}
use Rattle.bf_columns.proofs.Sheets.{get_sheet, get_past, at_column}
use Rattle.bf_columns.proofs.Rows.{at_row}
use Rattle.bf_columns.proofs.Boards.{board_digit, board_guide, board_z}
use Rattle.bf_columns.proofs.Digits.{digit_small, digit_zero}
use Rattle.bf_columns.proofs.Swept.{none_in}

module _ (input : List ℕ) (body : List Command) (stop n most : ℕ) (at : ℕ → Tape) (columns : ColumnsBack input body stop n most at) where
  strides_back : (m k : ℕ) → k + m ≡ n → Strides input (body ++ right10) (stop + 10 * (k + 1)) (at k) (stop + 10 * (n + 1)) (at n) (m * (most + 11))
  strides_back zero k e =
      let f : k ≡ n = omega arith in
      let h : 0 ≡ 0 * (most + 11) = omega arith in
      subst (λ x. Strides input (body ++ right10) (stop + 10 * (k + 1)) (at k) (stop + 10 * (n + 1)) (at n) x) h
      (subst (λ i. Strides input (body ++ right10) (stop + 10 * (i + 1)) (at i) (stop + 10 * (n + 1)) (at n) 0) (sym f) (Stand (stop + 10 * (n + 1)) (at n) columns.home))
  strides_back (suc m) k e =
      let g : stop + 10 * (k + 1) + 10 ≡ stop + 10 * (suc k + 1) = omega arith in
      let h : most + 10 + 1 + m * (most + 11) ≡ suc m * (most + 11) = omega (arith, suc-mul m (most + 11)) in
      let turn : Does input (body ++ right10) (stop + 10 * (k + 1)) (at k) (stop + 10 * (suc k + 1)) (at (suc k)) (most + 10) =
      next (columns.does k (omega arith)) (between (stop + 10 * (k + 1)) (stop + 10 * (suc k + 1)) (does_rights input 10 (stop + 10 * (k + 1)) (at (suc k))) refl g) in
      subst (λ x. Strides input (body ++ right10) (stop + 10 * (k + 1)) (at k) (stop + 10 * (n + 1)) (at n) x) h
      (Stride (stop + 10 * (k + 1)) (stop + 10 * (suc k + 1)) (stop + 10 * (n + 1)) (at k) (at (suc k)) (at n) (most + 10) (m * (most + 11)) (columns.on k (omega arith)) turn (strides_back m (suc k) (omega arith)))

pub columns_back : ColumnsAreDoneBack
columns_back input body stop n most at columns =
    let e : stop + 10 ≡ stop + 10 * (0 + 1) = omega arith in
    does_within (n * (most + 11) + 11)
    (next (between stop (stop + 10 * (0 + 1)) (does_rights input 10 stop (at 0)) refl e)
    (does_strides (balanced_append body right10 columns.balanced refl) (strides_back input body stop n most at columns n 0 (omega arith)))) (omega arith)

-- to the place left of all columns
strides_away : (input : List ℕ) (s : Tape) (n p : ℕ) → ((k : ℕ) → k < n → get s (p + 10 * (k + 1)) ≢ 0) → get s p ≡ 0 → Strides input left10 (p + 10 * n) s p s (11 * n)
strides_away input s zero p on off =
    let e : p ≡ p + 10 * 0 = omega arith in
    subst (λ c. Strides input left10 c s p s (11 * 0)) e (Stand p s off)
strides_away input s (suc n) p on off =
    let e : p + 10 * n + 10 ≡ p + 10 * suc n = omega arith in
    let g : p + 10 * (n + 1) ≡ p + 10 * suc n = omega arith in
    let f : 10 + 1 + 11 * n ≡ 11 * suc n = omega arith in
    subst (λ m. Strides input left10 (p + 10 * suc n) s p s m) f
    (Stride (p + 10 * suc n) (p + 10 * n) p s s s 10 (11 * n) (λ z. on n (omega arith) (ap (get s) g ∙ z)) (between (p + 10 * suc n) (p + 10 * n) (does_lefts input 10 (p + 10 * n) s) e refl)
    (strides_away input s n p (λ k lt. on k (omega arith)) off))

pub goes_away : (input : List ℕ) (t : Tape) (v : Sheet) → ((j : ℕ) → j < 12 → v j 5 ≡ 1) → v 12 5 ≡ 0 → Does input away_code 135 (sheet t v) 5 (sheet t v) 143
goes_away input t v guides stop =
    next (does_lefts input 10 125 (sheet t v))
    (does_strides refl (strides_away input (sheet t v) 12 5 (λ k lt z.
    let e : 5 + 10 * (k + 1) ≡ lane_cell 5 (11 - k) = omega arith in
    absurd (omega (arith, get_sheet t v 5 (11 - k) (omega arith) (omega arith), guides (11 - k) (omega arith), ap (get (sheet t v)) e, z))) (get_sheet t v 5 12 (omega arith) (omega arith) ∙ stop)))

-- what is told to each column from the left
abbrev pub told : Teller → (ℕ → ℕ) → ℕ → ℕ → ℕ → ℕ → ℕ
told r w d s z zero = z
told r w d s z (suc k) = r (digit (w d) (11 - k)) (digit (w s) (11 - k)) (digit (w 6) (11 - k)) (told r w d s z k)

answered : (text : Text) (r : Teller) (ny nz most : ℕ) → answers text r ny nz most ≡ true → (a b y c : ℕ) → a < 4 → b < 4 → y < ny → c < nz → comes lows highs text 6 (a ∷ b ∷ 0 ∷ y ∷ 0 ∷ c ∷ 1 ∷ []) (a ∷ b ∷ 0 ∷ 0 ∷ r a b y c ∷ 0 ∷ 1 ∷ []) most ≡ true
answered text r ny nz most e a b y c la lb ly lc =
    below_each nz c (λ c. comes lows highs text 6 (a ∷ b ∷ 0 ∷ y ∷ 0 ∷ c ∷ 1 ∷ []) (a ∷ b ∷ 0 ∷ 0 ∷ r a b y c ∷ 0 ∷ 1 ∷ []) most)
    (below_each ny y (λ y. each_below nz (λ c. comes lows highs text 6 (a ∷ b ∷ 0 ∷ y ∷ 0 ∷ c ∷ 1 ∷ []) (a ∷ b ∷ 0 ∷ 0 ∷ r a b y c ∷ 0 ∷ 1 ∷ []) most))
    (below_each 4 b (λ b. each_below ny (λ y. each_below nz (λ c. comes lows highs text 6 (a ∷ b ∷ 0 ∷ y ∷ 0 ∷ c ∷ 1 ∷ []) (a ∷ b ∷ 0 ∷ 0 ∷ r a b y c ∷ 0 ∷ 1 ∷ []) most)))
    (below_each 4 a (λ a. each_below 4 (λ b. each_below ny (λ y. each_below nz (λ c. comes lows highs text 6 (a ∷ b ∷ 0 ∷ y ∷ 0 ∷ c ∷ 1 ∷ []) (a ∷ b ∷ 0 ∷ 0 ∷ r a b y c ∷ 0 ∷ 1 ∷ []) most)))) e la) lb) ly) lc

-- the column that is next
pub left_same : (i k : ℕ) → k < 12 → i ≢ 11 - k → nat_lt i (12 - k) ≡ nat_lt i (12 - suc k)
left_same i k lt ne = grind (arith, nat_tests)

pub left_of : (k : ℕ) → k < 12 → nat_lt (11 - k) (12 - k) ≡ true
left_of k lt = grind (arith, nat_tests)

pub left_done : (k : ℕ) → k < 12 → nat_lt (11 - k) (12 - suc k) ≡ false
left_done k lt = grind (arith, nat_tests)

-- the board where so many columns are done from the left
abbrev pub backed : (ℕ → ℕ) → ℕ → (ℕ → ℕ) → Sheet
backed w k c = with_lane (with_lane (board w) 6 (λ i. cond (nat_lt i (12 - k)) (board w i 6) 0)) 9 (λ i. cond (nat_eq i (12 - k)) (c k) 0)

module _ (input : List ℕ) (t : Tape) (home : get t 135 ≡ 0) (w : ℕ → ℕ) (d s ny nz z most : ℕ) (rd : IsRegister d) (rs : IsRegister s) (differ : d ≢ s) (b : IsBoard w) (small_y : (j : ℕ) → j < 12 → digit (w 6) j < ny) (text : Text) (r : Teller) (e : answers text r ny nz most ≡ true) (small : (k : ℕ) → k < 12 → told r w d s z k < nz) where
  abbrev at : ℕ → Sheet
  at k = backed w k (told r w d s z)

  lane_kept : (k j l : ℕ) → l ≢ 9 → l ≢ 6 → at k j l ≡ board w j l
  lane_kept k j l n9 n6 = (λ i. cond (ne_eqb l 9 n9 i) (cond (nat_eq j (12 - k)) (told r w d s z k) 0) (cond (ne_eqb l 6 n6 i) (cond (nat_lt j (12 - k)) (board w j 6) 0) (board w j l)))

  own_at : (k j : ℕ) → j < 12 → at k j d ≡ digit (w d) j
  own_at k j lt = let n9 : d ≢ 9 = (let l = rd.below in omega arith) in lane_kept k j d n9 rd.no_y ∙ board_digit w j d lt rd.no_guide n9

  other_at : (k j : ℕ) → j < 12 → at k j s ≡ digit (w s) j
  other_at k j lt = let n9 : s ≢ 9 = (let l = rs.below in omega arith) in lane_kept k j s n9 rs.no_y ∙ board_digit w j s lt rs.no_guide n9

  x_at : (k j : ℕ) → j < 12 → at k j 3 ≡ 0
  x_at k j lt = lane_kept k j 3 (λ f. absurd (omega arith)) (λ f. absurd (omega arith)) ∙ (board_digit w j 3 lt (λ f. absurd (omega arith)) (λ f. absurd (omega arith)) ∙ none_in w 3 b.spare j)

  guide_at : (k j : ℕ) → at k j 5 ≡ board w j 5
  guide_at k j = lane_kept k j 5 (λ f. absurd (omega arith)) (λ f. absurd (omega arith))

  step : (k : ℕ) → k < 12 → Does input (body_of d s text) (guide 5 12 (11 - k)) (sheet t (at k)) (guide 5 12 (11 - k)) (sheet t (at (suc k))) most
  step k lt =
      let j : ℕ = 11 - k in
      let lj : j < 12 = omega arith in
      let c : ℕ = told r w d s z k in
      let w0 : (at k j d ∷ at k j s ∷ at k j 3 ∷ at k j 6 ∷ at k j 9 ∷ at k (suc j) 9 ∷ at k j 5 ∷ []) ≡ (digit (w d) j ∷ digit (w s) j ∷ 0 ∷ digit (w 6) j ∷ 0 ∷ c ∷ 1 ∷ []) =
      (let e0 = own_at k j lj in let e1 = other_at k j lj in let e2 = x_at k j lj in
      let t3 : nat_lt j (12 - k) ≡ true = left_of k lt in
      let e3 : at k j 6 ≡ digit (w 6) j = ap (λ x. cond x (board w j 6) 0) t3 ∙ board_digit w j 6 lj (λ f. absurd (omega arith)) (λ f. absurd (omega arith)) in
      let e4 : at k j 9 ≡ 0 = ap (λ x. cond x c 0) (ne_eqb j (12 - k) (λ f. absurd (omega arith))) in
      let e5 : at k (suc j) 9 ≡ c = ap (λ x. cond x c 0) (eq-eqb (suc j) (12 - k) (omega arith)) in
      let e6 = guide_at k j ∙ board_guide w j lj in
      λ q. e0 q ∷ e1 q ∷ e2 q ∷ e3 q ∷ e4 q ∷ e5 q ∷ e6 q ∷ []) in
      let w1 : (at (suc k) j d ∷ at (suc k) j s ∷ at (suc k) j 3 ∷ at (suc k) j 6 ∷ at (suc k) j 9 ∷ at (suc k) (suc j) 9 ∷ at (suc k) j 5 ∷ []) ≡ (digit (w d) j ∷ digit (w s) j ∷ 0 ∷ 0 ∷ r (digit (w d) j) (digit (w s) j) (digit (w 6) j) c ∷ 0 ∷ 1 ∷ []) =
      (let e0 = own_at (suc k) j lj in let e1 = other_at (suc k) j lj in let e2 = x_at (suc k) j lj in
      let t3 : nat_lt j (12 - suc k) ≡ false = left_done k lt in
      let e3 : at (suc k) j 6 ≡ 0 = ap (λ x. cond x (board w j 6) 0) t3 in
      let e4 : at (suc k) j 9 ≡ told r w d s z (suc k) = ap (λ x. cond x (told r w d s z (suc k)) 0) (eq-eqb j (12 - suc k) (omega arith)) in
      let e5 : at (suc k) (suc j) 9 ≡ 0 = ap (λ x. cond x (told r w d s z (suc k)) 0) (ne_eqb (suc j) (12 - suc k) (λ f. absurd (omega arith))) in
      let e6 = guide_at (suc k) j ∙ board_guide w j lj in
      λ q. e0 q ∷ e1 q ∷ e2 q ∷ e3 q ∷ e4 q ∷ e5 q ∷ e6 q ∷ []) in
      let agree : (i l : ℕ) → l < 10 → (i ≡ j → l ≢ d) → (i ≡ j → l ≢ 3) → (i ≡ j → l ≢ 6) → (i ≡ j → l ≢ 9) → (i ≡ suc j → l ≢ 9) → at k i l ≡ at (suc k) i l = λ i l ll hd hx hy hz hc. agrees k lt i l hy hz hc in
      let it = answered text r ny nz most e (digit (w d) j) (digit (w s) j) (digit (w 6) j) c (digit_small (w d) j) (digit_small (w s) j) (small_y j lj) (small k lt) in
      at_column d s rd rs differ input t (at k) (at (suc k)) j lj agree text most
      (subst (λ us. comes lows highs text 6 us (at (suc k) j d ∷ at (suc k) j s ∷ at (suc k) j 3 ∷ at (suc k) j 6 ∷ at (suc k) j 9 ∷ at (suc k) (suc j) 9 ∷ at (suc k) j 5 ∷ []) most ≡ true) (sym w0)
      (subst (λ us. comes lows highs text 6 (digit (w d) j ∷ digit (w s) j ∷ 0 ∷ digit (w 6) j ∷ 0 ∷ c ∷ 1 ∷ []) us most ≡ true) (sym w1) it))
    where
      agrees : (k : ℕ) → k < 12 → (i l : ℕ) → (i ≡ 11 - k → l ≢ 6) → (i ≡ 11 - k → l ≢ 9) → (i ≡ suc (11 - k) → l ≢ 9) → at k i l ≡ at (suc k) i l
      agrees k lt i l hy hz hc = at_nine (nat_eq l 9) refl
        where
          at_six : (x : Bool) → nat_eq l 6 ≡ x → cond x (cond (nat_lt i (12 - k)) (board w i 6) 0) (board w i l) ≡ cond x (cond (nat_lt i (12 - suc k)) (board w i 6) 0) (board w i l)
          at_six true f =
              let ne : i ≢ 11 - k = (λ g. hy g (eqb-true l 6 f)) in
              let same : nat_lt i (12 - k) ≡ nat_lt i (12 - suc k) = left_same i k lt ne in
              ap (λ x. cond x (board w i 6) 0) same
          at_six false f = refl

          at_nine : (x : Bool) → nat_eq l 9 ≡ x → cond x (cond (nat_eq i (12 - k)) (told r w d s z k) 0) (cond (nat_eq l 6) (cond (nat_lt i (12 - k)) (board w i 6) 0) (board w i l)) ≡ cond x (cond (nat_eq i (12 - suc k)) (told r w d s z (suc k)) 0) (cond (nat_eq l 6) (cond (nat_lt i (12 - suc k)) (board w i 6) 0) (board w i l))
          at_nine true f =
              let n0 : i ≢ 11 - k = (λ g. hz g (eqb-true l 9 f)) in
              let n1 : i ≢ suc (11 - k) = (λ g. hc g (eqb-true l 9 f)) in
              ap (λ x. cond x (told r w d s z k) 0) (ne_eqb i (12 - k) (omega arith)) ∙ sym (ap (λ x. cond x (told r w d s z (suc k)) 0) (ne_eqb i (12 - suc k) (omega arith)))
          at_nine false f = at_six (nat_eq l 6) refl

  pub back_done : Does input (homewards_by (body_of d s text)) 5 (sheet t (at 0)) 135 (sheet t (at 12)) (12 * (most + 11) + 11)
  back_done =
      columns_back input (body_of d s text) 5 12 most (λ k. sheet t (at k))
      (record {
        balanced = spelled_balanced (cells_of d s) 6 text;
        on = λ k lt x. let g : 5 + 10 * (k + 1) ≡ lane_cell 5 (11 - k) = omega arith in absurd (omega (arith, get_sheet t (at k) 5 (11 - k) (omega arith) (omega arith), guide_at k (11 - k), board_guide w (11 - k) (omega arith), ap (get (sheet t (at k))) g, x));
        home = get_past t (at 12) 135 (omega arith) ∙ home;
        does = λ k lt. let g : guide 5 12 (11 - k) ≡ 5 + 10 * (k + 1) = omega arith in between (5 + 10 * (k + 1)) (5 + 10 * (k + 1)) (step k lt) g g;
      })

-- z of column 0 goes to the flag
module _ (input : List ℕ) (t : Tape) (home : get t 135 ≡ 0) (flag : get t 136 ≡ 0) (w w' : ℕ → ℕ) (n f : ℕ) (c : ℕ → ℕ) (c_is : c 12 ≡ n) (same : (l : ℕ) → l < 9 → l ≢ 5 → l ≢ 6 → w l ≡ w' l) (none : w' 6 ≡ 0) (text : Text) (tells : comes answer_cells answer_cells text 2 (n ∷ 0 ∷ 0 ∷ []) (0 ∷ f ∷ 0 ∷ []) 100 ≡ true) where
  pub answer_given : Does input (spelled answer_cells 2 text) 135 (sheet t (backed w 12 c)) 135 (sheet (put t 136 f) (board w')) 100
  answer_given = at_row input s s' answer_cells answer_cells answer_cells apart around refl refl refl text 2 (n ∷ 0 ∷ 0 ∷ []) (0 ∷ f ∷ 0 ∷ []) 100 (omega arith) refl refl reads writes agree tells
    where
      s : Tape
      s = sheet t (backed w 12 c)

      s' : Tape
      s' = sheet (put t 136 f) (board w')

      apart : AreApart answer_cells
      apart = ((omega arith, (omega arith, tt)), ((omega arith, tt), (tt, tt)))

      around : AreWithin answer_cells answer_cells answer_cells
      around = record { lows = refl; within = λ i lt. (omega arith, omega arith) }

      reads : (i : ℕ) → i < 3 → get (sheet t (backed w 12 c)) (nth answer_cells i) ≡ nth (n ∷ 0 ∷ 0 ∷ []) i
      reads zero lt = get_sheet t (backed w 12 c) 9 0 (omega arith) (omega arith) ∙ c_is
      reads (suc zero) lt = get_past t (backed w 12 c) 136 (omega arith) ∙ flag
      reads (suc (suc zero)) lt = get_past t (backed w 12 c) 135 (omega arith) ∙ home
      reads (suc (suc (suc i))) lt = absurd (omega arith)

      writes : (i : ℕ) → i < 3 → get (sheet (put t 136 f) (board w')) (nth answer_cells i) ≡ nth (0 ∷ f ∷ 0 ∷ []) i
      writes zero lt = get_sheet (put t 136 f) (board w') 9 0 (omega arith) (omega arith)
      writes (suc zero) lt = get_past (put t 136 f) (board w') 136 (omega arith) ∙ get_put t 136 f
      writes (suc (suc zero)) lt = get_past (put t 136 f) (board w') 135 (omega arith) ∙ (ap (λ x. cond x f (get t 135)) (ne_eqb (t.base + 135) (t.base + 136) (λ e. absurd (omega arith))) ∙ home)
      writes (suc (suc (suc i))) lt = absurd (omega arith)

      lanes : (j l : ℕ) → j ≤ 12 → l < 10 → (j ≡ 0 → l ≢ 9) → backed w 12 c j l ≡ board w' j l
      lanes j l lj ll off = at_nine (nat_eq l 9) refl
        where
          y_none : (x : Bool) → nat_lt j 12 ≡ x → 0 ≡ cond x (digit (w' 6) j) 0
          y_none true f = sym (ap (λ k. digit k j) none ∙ digit_zero j)
          y_none false f = refl

          at_five : (x : Bool) → nat_eq l 5 ≡ x → l ≢ 9 → l ≢ 6 → cond (nat_lt j 12) (cond x 1 (cond (nat_eq l 9) 0 (digit (w l) j))) 0 ≡ cond (nat_lt j 12) (cond x 1 (cond (nat_eq l 9) 0 (digit (w' l) j))) 0
          at_five true e n9 n6 = refl
          at_five false e n9 n6 = ap (λ k. cond (nat_lt j 12) (cond (nat_eq l 9) 0 (digit k j)) 0) (same l (omega arith) (eqb-false l 5 e) n6)

          at_six : (x : Bool) → nat_eq l 6 ≡ x → l ≢ 9 → cond x (cond (nat_lt j (12 - 12)) (board w j 6) 0) (board w j l) ≡ board w' j l
          at_six true e n9 =
              let e0 : nat_lt j (12 - 12) ≡ false = grind (arith, nat_tests) in
              ap (λ x. cond x (board w j 6) 0) e0 ∙ (y_none (nat_lt j 12) refl ∙ ap (board w' j) (sym (eqb-true l 6 e)))
          at_six false e n9 = at_five (nat_eq l 5) refl n9 (eqb-false l 6 e)

          at_nine : (x : Bool) → nat_eq l 9 ≡ x → cond x (cond (nat_eq j (12 - 12)) (c 12) 0) (cond (nat_eq l 6) (cond (nat_lt j (12 - 12)) (board w j 6) 0) (board w j l)) ≡ board w' j l
          at_nine true e =
              let ne : j ≢ 0 = (λ g. off g (eqb-true l 9 e)) in
              ap (λ x. cond x (c 12) 0) (ne_eqb j 0 ne) ∙ (sym (board_z w' j) ∙ ap (board w' j) (sym (eqb-true l 9 e)))
          at_nine false e = at_six (nat_eq l 6) refl (eqb-false l 9 e)

      by : (q : ℕ) → ((i : ℕ) → i < 3 → q ≢ t.base + nth answer_cells i) → (x y : Bool) → nat_le t.base q ≡ x → nat_lt q (t.base + 130) ≡ y
          → cond (cond x y false) (backed w 12 c (12 - (q - t.base) / 10) ((q - t.base) % 10)) (t.cells q) ≡ cond (cond x y false) (board w' (12 - (q - t.base) / 10) ((q - t.base) % 10)) (cond (nat_eq q (t.base + 136)) f (t.cells q))
      by q off true true ex ey =
          let le : t.base ≤ q = grind (arith, nat_tests) in
          let less : q < t.base + 130 = grind (arith, nat_tests) in
          lanes (12 - (q - t.base) / 10) ((q - t.base) % 10) (omega arith) (omega arith) (λ e g. let n0 : q ≢ t.base + 129 = off 0 (omega arith) in n0 (omega arith))
      by q off true false ex ey = sym (ap (λ x. cond x f (t.cells q)) (ne_eqb q (t.base + 136) (off 1 (omega arith))))
      by q off false y ex ey = sym (ap (λ x. cond x f (t.cells q)) (ne_eqb q (t.base + 136) (off 1 (omega arith))))

      agree : (q : ℕ) → ((i : ℕ) → i < 3 → q ≢ t.base + nth answer_cells i) → (sheet t (backed w 12 c)).cells q ≡ (sheet (put t 136 f) (board w')).cells q
      agree q off = by q off (nat_le t.base q) (nat_lt q (t.base + 130)) refl refl
