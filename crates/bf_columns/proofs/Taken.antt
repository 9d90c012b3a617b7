-- A byte read into a register.
use Rattle.std.proofs.Common.{◌≡◌, ◌≢◌, ℕ, zero, suc, ◌+◌, ◌*◌, ◌/◌, ◌%◌, ◌^◌, ◌<◌, ◌≤◌, Bool, true, false, nat_lt, nat_eq, cond, List, [], ◌∷◌, ◌++◌, refl, sym, ap, subst, ◌∙◌, arith, eq-eqb, ne_eqb}
use Rattle.std.proofs.lemmas.Bool.{eqb-true, eqb-false}
use Rattle.std.proofs.lemmas.Bool.Decides.{nat_tests}
use Rattle.mach_core.specs.Rule.{IsInput, input_at}
use Rattle.mach_core.proofs.Inputs.{input_at_byte}
use Rattle.bf_lang.specs.declared.command.Command.TheVariants.{Plus, Minus, Read}
use Rattle.bf_lang.specs.Balance.{IsBalanced}
use Rattle.bf_lang.specs.Cells.{raised}
use Rattle.bf_lang.proofs.Partners.{balanced_append}
use Rattle.bf_tape.specs.Tape.{Tape, get, put, set_cell}
use Rattle.bf_tape.specs.Does.{Does, loop}
use Rattle.bf_tape.specs.Code.{goto_code}
use Rattle.bf_tape.proofs.Moves.{does_plus, does_read, does_within}
use Rattle.bf_tape.proofs.Pieces.{does_goto, balanced_goto}
use Rattle.bf_columns.specs.Lanes.{lane_cell}
use Rattle.bf_columns.specs.Deal.{Units, row_of, dealt, units_code}
use Rattle.bf_columns.specs.Sheet.{Sheet, sheet, with_lane, IsRegister}
use Rattle.bf_columns.specs.Board.{digit, board, IsBoard}
use Rattle.bf_columns.specs.Bytes.{unit_start, getc_unit, getc_code, read_on, IsClear, BytesAreRead}
use Rattle.bf_columns.proofs.Tapes.{next, comes_to, goes_from, put_is}
use Rattle.bf_columns.proofs.Lanes.{set_at, set_other, set_again}
use Rattle.bf_columns.proofs.Dealt.{bytes_dealt}
use Rattle.bf_columns.proofs.UnitsGiven.{units_give}
use Rattle.bf_columns.proofs.Sheets.{get_sheet, get_past, sheet_ext}
use Rattle.bf_columns.proofs.Rows.{put_past}
use Rattle.bf_columns.proofs.Boards.{put_sheet, board_digit}
use Rattle.bf_columns.proofs.Numbered.{digit_past}
use Rattle.bf_columns.proofs.Swept.{clears_done, none_in}

module _ (input : List ℕ) (t : Tape) (w : ℕ → ℕ) (d : ℕ) (rd : IsRegister d) (none : w d ≡ 0) (clear : IsClear t) where
  -- four digits of a register
  abbrev low : (ℕ → ℕ) → Sheet
  low u = with_lane (board w) d (λ j. cond (nat_lt j 4) (u j) (board w j d))

  abbrev at : (ℕ → ℕ) → Tape
  at u = sheet t (low u)

  abbrev aside : ℕ → ℕ → ℕ → Tape
  aside n r q = put (put (put t 139 q) 137 r) 136 n

  own_is : (u : ℕ → ℕ) (j : ℕ) → low u j d ≡ cond (nat_lt j 4) (u j) (board w j d)
  own_is u j = ap (λ x. cond x (cond (nat_lt j 4) (u j) (board w j d)) (board w j d)) (eq-eqb d d refl)

  other_is : (u : ℕ → ℕ) (j l : ℕ) → l ≢ d → low u j l ≡ board w j l
  other_is u j l ne = ap (λ x. cond x (cond (nat_lt j 4) (u j) (board w j d)) (board w j l)) (ne_eqb l d ne)

  rows : (u : ℕ → ℕ) (n r q : ℕ) → row_of (at u) 135 1 n r q ≡ sheet (aside n r q) (low u)
  rows u n r q =
      ap (λ s. put (put s 137 r) 136 n) (put_past t (low u) 139 q (omega arith))
      ∙ (ap (λ s. put s 136 n) (put_past (put t 139 q) (low u) 137 r (omega arith)) ∙ put_past (put (put t 139 q) 137 r) (low u) 136 n (omega arith))

  raised_at : (s : Tape) (u : ℕ → ℕ) (j : ℕ) → j < 4 → u j < 4 → Does input (Plus ∷ []) (lane_cell d j) (sheet s (low u)) (lane_cell d j) (sheet s (low (set_cell u j (u j + 1)))) 1
  raised_at s u j lt less =
      let c : ℕ = lane_cell d j in
      let four : nat_lt j 4 ≡ true = grind (arith, nat_tests) in
      let is : get (sheet s (low u)) c ≡ u j = get_sheet s (low u) d j (let a = rd.below in omega arith) (omega arith) ∙ (own_is u j ∙ ap (λ x. cond x (u j) (board w j d)) four) in
      let e : raised (get (sheet s (low u)) c) ≡ u j + 1 = ap raised is ∙ (let f : raised (u j) ≡ u j + 1 = omega arith in f) in
      comes_to (sheet s (low (set_cell u j (u j + 1)))) (does_plus input c (sheet s (low u)))
      (ap (put (sheet s (low u)) c) e ∙ put_sheet s (low u) (low (set_cell u j (u j + 1))) d j (u j + 1) (let a = rd.below in omega arith) (omega arith)
      (own_is (set_cell u j (u j + 1)) j ∙ (ap (λ x. cond x (set_cell u j (u j + 1) j) (board w j d)) four ∙ set_at u j (u j + 1)))
      (same j (u j + 1) u))
    where
      same : (j n : ℕ) (u : ℕ → ℕ) (k i : ℕ) → k ≤ 12 → i < 10 → (k ≡ j → i ≢ d) → low u k i ≡ low (set_cell u j n) k i
      same j n u k i lk li off = by (nat_eq i d) refl
        where
          by : (x : Bool) → nat_eq i d ≡ x → cond x (cond (nat_lt k 4) (u k) (board w k d)) (board w k i) ≡ cond x (cond (nat_lt k 4) (set_cell u j n k) (board w k d)) (board w k i)
          by true e = ap (λ x. cond (nat_lt k 4) x (board w k d)) (sym (set_other u j n k (λ f. off f (eqb-true i d e))))
          by false e = refl

  unit_from : (c : ℕ) (u : ℕ → ℕ) (j n r q : ℕ) → c ≤ 137 → 128 ≤ c → j < 4 → u j < 4
      → Does input (goto_code c (lane_cell d j) ++ (Plus ∷ []) ++ goto_code (lane_cell d j) c) c (row_of (at u) 135 1 n r q) c (row_of (at (set_cell u j (u j + 1))) 135 1 n r q) 95
  unit_from c u j n r q le ge lt less =
      let s : Tape = aside n r q in
      let u' : ℕ → ℕ = set_cell u j (u j + 1) in
      let a = rd.below in
      goes_from (row_of (at u) 135 1 n r q)
      (comes_to (row_of (at u') 135 1 n r q)
      (next (next (does_goto input c (lane_cell d j) (sheet s (low u)) 47 (omega arith)) (raised_at s u j lt less)) (does_goto input (lane_cell d j) c (sheet s (low u')) 47 (omega arith)))
      (sym (rows u' n r q))) (sym (rows u n r q))

  unit_balanced : (j : ℕ) → IsBalanced (getc_unit d j)
  unit_balanced j =
      balanced_append (goto_code (unit_start j) (lane_cell d j) ++ (Plus ∷ [])) (goto_code (lane_cell d j) (unit_start j))
      (balanced_append (goto_code (unit_start j) (lane_cell d j)) (Plus ∷ []) (balanced_goto (unit_start j) (lane_cell d j)) refl) (balanced_goto (lane_cell d j) (unit_start j))

  low_unit : (j : ℕ) (u : ℕ → ℕ) (n r q : ℕ) → j < 3 → u j < 3 → Does input (getc_unit d j) 137 (row_of (at u) 135 1 n r q) 137 (row_of (at (set_cell u j (u j + 1))) 135 1 n r q) 95
  low_unit zero u n r q lt less = unit_from 137 u 0 n r q (omega arith) (omega arith) (omega arith) (omega arith)
  low_unit (suc zero) u n r q lt less = unit_from 137 u 1 n r q (omega arith) (omega arith) (omega arith) (omega arith)
  low_unit (suc (suc zero)) u n r q lt less = unit_from 137 u 2 n r q (omega arith) (omega arith) (omega arith) (omega arith)
  low_unit (suc (suc (suc j))) u n r q lt less = absurd (omega arith)

  units : Units input at 135 1 95 (getc_unit d)
  units = record {
    balanced = unit_balanced;
    guard = λ u. get_past t (low u) 135 (omega arith) ∙ clear.home;
    free = λ u. get_past t (low u) 138 (omega arith) ∙ clear.free;
    low = low_unit;
    top = λ u n r q less. unit_from 136 u 3 n r q (omega arith) (omega arith) (omega arith) (omega arith);
  }

  -- the row with nothing in it but the byte
  row_begun : (u : ℕ → ℕ) (n : ℕ) → row_of (at u) 135 1 n 0 0 ≡ put (at u) 136 n
  row_begun u n =
      ap (λ s. put (put s 137 0) 136 n) (put_is (at u) 139 0 (get_past t (low u) 139 (omega arith) ∙ clear.quarter))
      ∙ ap (λ s. put s 136 n) (put_is (at u) 137 0 (get_past t (low u) 137 (omega arith) ∙ clear.rest))

  row_gone : (u : ℕ → ℕ) → row_of (at u) 135 1 0 0 0 ≡ at u
  row_gone u = row_begun u 0 ∙ put_is (at u) 136 0 (get_past t (low u) 136 (omega arith) ∙ clear.byte)

  zero_digits : sheet t (board w) ≡ at (λ j. 0)
  zero_digits = sheet_ext t (board w) (low (λ j. 0)) (λ j l lj ll. each j l lj)
    where
      each : (j l : ℕ) → j ≤ 12 → board w j l ≡ low (λ j. 0) j l
      each j l lj = by (nat_eq l d) refl
        where
          none_at : (x y : Bool) → nat_lt j 4 ≡ x → nat_lt j 12 ≡ y → cond x 0 (board w j d) ≡ board w j d
          none_at false y ex ey = refl
          none_at true true ex ey = let lt : j < 12 = grind (arith, nat_tests) in sym (board_digit w j d lt rd.no_guide (let a = rd.below in omega arith) ∙ none_in w d none j)
          none_at true false ex ey = let lt : j < 4 = grind (arith, nat_tests) in let ge : 12 ≤ j = grind (arith, nat_tests) in absurd (omega arith)

          by : (x : Bool) → nat_eq l d ≡ x → board w j l ≡ cond x (cond (nat_lt j 4) 0 (board w j d)) (board w j l)
          by true e = ap (board w j) (eqb-true l d e) ∙ sym (none_at (nat_lt j 4) (nat_lt j 12) refl refl)
          by false e = refl

  byte_digits : (n : ℕ) → n < 256 → at (dealt n (λ j. 0)) ≡ sheet t (board (set_cell w d n))
  byte_digits n less = sheet_ext t (low (dealt n (λ j. 0))) (board (set_cell w d n)) (λ j l lj ll. each j l lj ll)
    where
      at_digit : (j : ℕ) → j < 4 → dealt n (λ j. 0) j ≡ digit n j
      at_digit zero lt = refl
      at_digit (suc zero) lt = refl
      at_digit (suc (suc zero)) lt = let e : n / 16 % 4 ≡ n / 4 / 4 % 4 = omega arith in e
      at_digit (suc (suc (suc zero))) lt = let e : n / 64 ≡ n / 4 / 4 / 4 % 4 = omega arith in e
      at_digit (suc (suc (suc (suc j)))) lt = absurd (omega arith)

      each : (j l : ℕ) → j ≤ 12 → l < 10 → low (dealt n (λ j. 0)) j l ≡ board (set_cell w d n) j l
      each j l lj ll = by (nat_eq l d) refl
        where
          there : (x : Bool) → nat_eq j 12 ≡ x → cond (nat_lt j 4) (dealt n (λ j. 0) j) (board w j d) ≡ board (set_cell w d n) j d
          there true e = subst (λ j. cond (nat_lt j 4) (dealt n (λ j. 0) j) (board w j d) ≡ board (set_cell w d n) j d) (sym (eqb-true j 12 e)) refl
          there false e =
              let ne : j ≢ 12 = eqb-false j 12 e in
              let lt : j < 12 = omega arith in
              digits (nat_lt j 4) refl lt ∙ sym (board_digit (set_cell w d n) j d lt rd.no_guide (let a = rd.below in omega arith) ∙ ap (λ k. digit k j) (set_at w d n))
            where
              digits : (x : Bool) → nat_lt j 4 ≡ x → j < 12 → cond x (dealt n (λ j. 0) j) (board w j d) ≡ digit n j
              digits true f lt = let four : j < 4 = grind (arith, nat_tests) in at_digit j four
              digits false f lt =
                  let ge : 4 ≤ j = grind (arith, nat_tests) in
                  board_digit w j d lt rd.no_guide (let a = rd.below in omega arith) ∙ (none_in w d none j ∙ sym (digit_past 4 n j less ge))

          kept : (x y : Bool) → l ≢ d → nat_eq l 5 ≡ x → nat_eq l 9 ≡ y → cond (nat_lt j 12) (cond x 1 (cond y 0 (digit (w l) j))) 0 ≡ cond (nat_lt j 12) (cond x 1 (cond y 0 (digit (set_cell w d n l) j))) 0
          kept x y ne ex ey = ap (λ n. cond (nat_lt j 12) (cond x 1 (cond y 0 (digit n j))) 0) (sym (set_other w d n l ne))

          by : (x : Bool) → nat_eq l d ≡ x → low (dealt n (λ j. 0)) j l ≡ board (set_cell w d n) j l
          by true e = ap (low (dealt n (λ j. 0)) j) (eqb-true l d e) ∙ (own_is (dealt n (λ j. 0)) j ∙ (there (nat_eq j 12) refl ∙ ap (board (set_cell w d n) j) (sym (eqb-true l d e))))
          by false e = let ne : l ≢ d = eqb-false l d e in other_is (dealt n (λ j. 0)) j l ne ∙ kept (nat_eq l 5) (nat_eq l 9) ne refl refl

-- from the byte on
module _ (input : List ℕ) (t : Tape) (w : ℕ → ℕ) (d : ℕ) (rd : IsRegister d) (b : IsBoard w) (clear : IsClear t) (bytes : IsInput input) where
  abbrev w0 : ℕ → ℕ
  w0 = set_cell w d 0

  abbrev n : ℕ
  n = input_at input t.taken

  clear_on : IsClear (read_on t)
  clear_on = record { home = clear.home; byte = clear.byte; rest = clear.rest; free = clear.free; quarter = clear.quarter }

  pub byte_read : Does input (getc_code d) 135 (sheet t (board w)) 135 (sheet (read_on t) (board (set_cell w d (input_at input t.taken)))) (2 ^ 13)
  byte_read =
      let t' : Tape = read_on t in
      let none : w0 d ≡ 0 = set_at w d 0 in
      let less : n < 256 = input_at_byte input t.taken bytes in
      let given = units_give input (at input t' w0 d rd none clear_on) 135 1 95 (getc_unit d) (omega arith) (units input t' w0 d rd none clear_on) in
      let deal = bytes_dealt input (at input t' w0 d rd none clear_on) 135 1 (3 * 95 + 7 + 1) (λ j. units_code 1 (getc_unit d j)) (loop (Minus ∷ getc_unit d 3)) (λ j. 0) n (omega arith) less given refl refl refl refl in
      let read : Does input (Read ∷ []) 136 (sheet t (board w0)) 136 (row_of (at input t' w0 d rd none clear_on (λ j. 0)) 135 1 n 0 0) 1 =
      comes_to (row_of (at input t' w0 d rd none clear_on (λ j. 0)) 135 1 n 0 0) (does_read input 136 (sheet t (board w0)) bytes)
      (ap (λ s. put s 136 n) (zero_digits input t' w0 d rd none clear_on) ∙ sym (row_begun input t' w0 d rd none clear_on (λ j. 0) n)) in
      let end : row_of (at input t' w0 d rd none clear_on (dealt n (λ j. 0))) 135 1 0 0 0 ≡ sheet t' (board (set_cell w d n)) =
      row_gone input t' w0 d rd none clear_on (dealt n (λ j. 0)) ∙ (byte_digits input t' w0 d rd none clear_on n less ∙ ap (λ x. sheet t' (board x)) (set_again w d 0 n)) in
      does_within (2 ^ 13)
      (next (next (next (next ((clears_done w d rd b).does input t clear.home) (does_goto input 135 136 (sheet t (board w0)) 1 (omega arith))) read)
      (comes_to (sheet t' (board (set_cell w d n))) deal end)) (does_goto input 136 135 (sheet t' (board (set_cell w d n))) 1 (omega arith))) (omega arith)

pub bytes_read : BytesAreRead
bytes_read input t w d bytes rd b none clear = byte_read input t w d rd b clear bytes
