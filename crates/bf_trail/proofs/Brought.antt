-- A store on the whole tape.
use Rattle.std.proofs.Common.{◌≡◌, ◌≢◌, ℕ, zero, suc, ◌+◌, ◌-◌, ◌*◌, ◌/◌, ◌%◌, ◌^◌, ◌<◌, ◌≤◌, Bool, true, false, nat_lt, nat_eq, cond, List, refl, sym, ap, subst, ◌∙◌, arith}
use Rattle.std.proofs.lemmas.Bool.{eqb-true, eqb-false}
use Rattle.std.proofs.lemmas.Bool.Decides.{nat_tests}
use Rattle.bf_tape.specs.Tape.{Tape, get, put, set_cell}
use Rattle.bf_tape.specs.Does.{Does}
use Rattle.bf_tape.proofs.Moves.{does_within}
use Rattle.bf_tape.proofs.Pieces.{does_goto}
use Rattle.bf_tape.proofs.Slotted.{same_tape}
use Rattle.bf_columns.specs.Lanes.{lane_cell, laned}
use Rattle.bf_columns.specs.Sheet.{sheet, with_lane}
use Rattle.bf_columns.specs.Board.{digit, board}
use Rattle.bf_columns.specs.Near.{near}
use Rattle.bf_columns.specs.Rest.{byte_of, half_record, record_cell, ground, rest}
use Rattle.bf_columns.proofs.Tapes.{next, comes_to}
use Rattle.bf_columns.proofs.Lanes.{set_at, set_other}
use Rattle.bf_columns.proofs.Digits.{digit_small, digit_zero}
use Rattle.bf_columns.proofs.Sheets.{get_sheet, sheet_ext}
use Rattle.bf_columns.proofs.Rows.{put_past}
use Rattle.bf_trail.specs.Nest.{trail}
use Rattle.bf_trail.specs.Sides.{half, sided}
use Rattle.bf_trail.specs.Store.{store_code, byte_from, stored}
use Rattle.bf_trail.specs.Access.{bring_code, WordsAreBrought}
use Rattle.bf_trail.proofs.Stored.{words_stored}
use Rattle.bf_trail.proofs.Accessed.{laned_sheet, address, ground_byte, mid_blank, mid_none, trail_reached, by_half}

-- four digits of a word make its byte
digits_byte : (w i : ℕ) → i < 3 → byte_from (digit w) i ≡ byte_of w i
digits_byte w zero lt = four w
  where
    four : (v : ℕ) → v % 4 + 4 * (v / 4 % 4) + 16 * (v / 4 / 4 % 4) + 64 * (v / 4 / 4 / 4 % 4) ≡ v % 256
    four v = omega arith
digits_byte w (suc zero) lt = digits_byte (w / 4 / 4 / 4 / 4) zero (omega arith) ∙ (let e : w / 4 / 4 / 4 / 4 ≡ w / 256 = omega arith in ap (λ v. v % 256) e)
digits_byte w (suc (suc zero)) lt = digits_byte (w / 4 / 4 / 4 / 4) (suc zero) (omega arith) ∙ (let e : w / 4 / 4 / 4 / 4 ≡ w / 256 = omega arith in ap (λ v. v / 256 % 256) e)
digits_byte w (suc (suc (suc i))) lt = absurd (omega arith)

-- the memory's part of the tape with another word at an address
module _ (m : ℕ → ℕ) (taken : ℕ) (output : List ℕ) (a w : ℕ) where
  abbrev changed : ℕ → ℕ
  changed = set_cell m a w

  abbrev old : Tape
  old = ground m taken output

  abbrev new : Tape
  new = ground changed taken output

  half_same : (u i : ℕ) → (u ≡ a → i ≡ 0) → half_record (m u) i ≡ half_record (changed u) i
  half_same u zero f = refl
  half_same u (suc i) f = ap (λ v. byte_of v i) (sym (set_other m a w u (λ e. let z : suc i ≡ 0 = f e in absurd (omega arith))))

  -- a cell of no byte of that word
  cell_same : (n s q : ℕ) → n < 2 ^ 23 → s < 2 → a ≡ address n s → q ≢ half trail n s + 1 → q ≢ half trail n s + 2 → q ≢ half trail n s + 3 → old.cells q ≡ new.cells q
  cell_same n s q ln ls is n1 n2 n3 = by (nat_lt q 172) refl
    where
      near_half : (n s k i : ℕ) → n < 2 ^ 23 → s < 2 → a ≡ address n s → k < 2 ^ 23 → i < 4 → 172 + 8 * k + i ≢ half trail n s + 1 → 172 + 8 * k + i ≢ half trail n s + 2 → 172 + 8 * k + i ≢ half trail n s + 3 → k ≡ a → i ≡ 0
      near_half n zero k i ln ls is lk li n1 n2 n3 e = omega arith
      near_half n (suc zero) k i ln ls is lk li n1 n2 n3 e = omega arith
      near_half n (suc (suc s)) k i ln ls is lk li n1 n2 n3 e = absurd (omega arith)

      far_half : (n s k i : ℕ) → n < 2 ^ 23 → s < 2 → a ≡ address n s → k < 2 ^ 23 → 4 ≤ i → i < 8 → 172 + 8 * k + i ≢ half trail n s + 1 → 172 + 8 * k + i ≢ half trail n s + 2 → 172 + 8 * k + i ≢ half trail n s + 3 → 2 ^ 24 - 1 - k ≡ a → i - 4 ≡ 0
      far_half n zero k i ln ls is lk ge li n1 n2 n3 e = omega arith
      far_half n (suc zero) k i ln ls is lk ge li n1 n2 n3 e = omega arith
      far_half n (suc (suc s)) k i ln ls is lk ge li n1 n2 n3 e = absurd (omega arith)

      inside : (k i : ℕ) → 172 + 8 * k + i ≡ q → i < 8 → record_cell m k i ≡ record_cell changed k i
      inside k i e li = which (nat_lt k (2 ^ 23)) (nat_lt i 4) refl refl
        where
          which : (x y : Bool) → nat_lt k (2 ^ 23) ≡ x → nat_lt i 4 ≡ y
              → cond x (cond y (half_record (m k) i) (half_record (m (2 ^ 24 - 1 - k)) (i - 4))) 0 ≡ cond x (cond y (half_record (changed k) i) (half_record (changed (2 ^ 24 - 1 - k)) (i - 4))) 0
          which false y ex ey = refl
          which true true ex ey =
              let lk : k < 2 ^ 23 = grind (arith, nat_tests) in
              let l4 : i < 4 = grind (arith, nat_tests) in
              half_same k i (near_half n s k i ln ls is lk l4 (λ f. n1 (sym e ∙ f)) (λ f. n2 (sym e ∙ f)) (λ f. n3 (sym e ∙ f)))
          which true false ex ey =
              let lk : k < 2 ^ 23 = grind (arith, nat_tests) in
              let ge : 4 ≤ i = grind (arith, nat_tests) in
              half_same (2 ^ 24 - 1 - k) (i - 4) (far_half n s k i ln ls is lk ge li (λ f. n1 (sym e ∙ f)) (λ f. n2 (sym e ∙ f)) (λ f. n3 (sym e ∙ f)))

      by : (x : Bool) → nat_lt q 172 ≡ x → cond x 0 (record_cell m ((q - 172) / 8) ((q - 172) % 8)) ≡ cond x 0 (record_cell changed ((q - 172) / 8) ((q - 172) % 8))
      by true e = refl
      by false e = let ge : 172 ≤ q = grind (arith, nat_tests) in inside ((q - 172) / 8) ((q - 172) % 8) (omega arith) (omega arith)

  -- the word's bytes put into their cells
  pub put_word : (n s : ℕ) → n < 2 ^ 23 → s < 2 → a ≡ address n s → put (put (put old (half trail n s + 1) (byte_of w 0)) (half trail n s + 2) (byte_of w 1)) (half trail n s + 3) (byte_of w 2) ≡ new
  put_word n s ln ls is = same_tape old (put (put (put old (half trail n s + 1) (byte_of w 0)) (half trail n s + 2) (byte_of w 1)) (half trail n s + 3) (byte_of w 2)).cells new.cells (λ q. by q (nat_eq q (old.base + (half trail n s + 3))) (nat_eq q (old.base + (half trail n s + 2))) (nat_eq q (old.base + (half trail n s + 1))) refl refl refl)
    where
      there : (c i : ℕ) → i < 3 → c ≡ half trail n s + 1 + i → new.cells (new.base + c) ≡ byte_of w i
      there c i li e = ground_byte changed taken output c n s i ln ls li e ∙ ap (λ k. byte_of k i) (ap changed (sym is) ∙ set_at m a w)

      by : (q : ℕ) (x y z : Bool) → nat_eq q (old.base + (half trail n s + 3)) ≡ x → nat_eq q (old.base + (half trail n s + 2)) ≡ y → nat_eq q (old.base + (half trail n s + 1)) ≡ z → cond x (byte_of w 2) (cond y (byte_of w 1) (cond z (byte_of w 0) (old.cells q))) ≡ new.cells q
      by q true y z ex ey ez = sym (ap new.cells (eqb-true q (old.base + (half trail n s + 3)) ex) ∙ there (half trail n s + 3) 2 (omega arith) (omega arith))
      by q false true z ex ey ez = sym (ap new.cells (eqb-true q (old.base + (half trail n s + 2)) ey) ∙ there (half trail n s + 2) 1 (omega arith) (omega arith))
      by q false false true ex ey ez = sym (ap new.cells (eqb-true q (old.base + (half trail n s + 1)) ez) ∙ there (half trail n s + 1) 0 (omega arith) (omega arith))
      by q false false false ex ey ez =
          let x3 : q ≢ 0 + (half trail n s + 3) = eqb-false q (old.base + (half trail n s + 3)) ex in
          let x2 : q ≢ 0 + (half trail n s + 2) = eqb-false q (old.base + (half trail n s + 2)) ey in
          let x1 : q ≢ 0 + (half trail n s + 1) = eqb-false q (old.base + (half trail n s + 1)) ez in
          cell_same n s q ln ls is (λ f. x1 (omega arith)) (λ f. x2 (omega arith)) (λ f. x3 (omega arith))

module _ (input : List ℕ) (r m : ℕ → ℕ) (taken : ℕ) (output : List ℕ) (words : (l : ℕ) → r l < 2 ^ 24) where
  abbrev tape : Tape
  tape = ground m taken output

  abbrev word : ℕ
  word = r 6

  abbrev bare : ℕ → ℕ
  bare = set_cell r 3 0

  abbrev spent : ℕ → ℕ
  spent = set_cell bare 6 0

  abbrev memory : ℕ → ℕ
  memory = set_cell m (r 3) word

  abbrev begun : Tape
  begun = sheet tape (board bare)

  lane_is : (j : ℕ) → j < 12 → get begun (lane_cell 6 j) ≡ digit word j
  lane_is j lt = let f : nat_lt j 12 ≡ true = grind (arith, nat_tests) in get_sheet tape (board bare) 6 j (omega arith) (omega arith) ∙ ap (λ b. cond b (digit word j) 0) f

  lane_gone : sheet tape (with_lane (board bare) 6 (λ j. cond (nat_lt j 12) 0 (board bare j 6))) ≡ sheet tape (board spent)
  lane_gone = sheet_ext tape (with_lane (board bare) 6 (λ j. cond (nat_lt j 12) 0 (board bare j 6))) (board spent) (λ j l lj ll. by j l (nat_eq l 6) refl)
    where
      gone : (j : ℕ) (b : Bool) → cond b 0 (cond b (digit word j) 0) ≡ cond b (digit 0 j) 0
      gone j true = sym (digit_zero j)
      gone j false = refl

      kept : (j l : ℕ) → l ≢ 6 → board bare j l ≡ board spent j l
      kept j l ne = ap (λ n. cond (nat_lt j 12) (cond (nat_eq l 5) 1 (cond (nat_eq l 9) 0 (digit n j))) 0) (sym (set_other bare 6 0 l ne))

      by : (j l : ℕ) (b : Bool) → nat_eq l 6 ≡ b → cond b (cond (nat_lt j 12) 0 (board bare j 6)) (board bare j l) ≡ board spent j l
      by j l true e = gone j (nat_lt j 12) ∙ ap (board spent j) (sym (eqb-true l 6 e))
      by j l false e = kept j l (eqb-false l 6 e)

  brought : (n s : ℕ) → n < 2 ^ 23 → s < 2 → r 3 ≡ address n s → Does input store_code trail (sided begun trail n s) trail (rest spent memory taken output) (700 * n + 60000)
  brought n s ln ls at =
      comes_to (rest spent memory taken output)
      (words_stored input begun n s (digit word) ls (λ j lt. digit_small word j) (mid_blank input r m taken output words) (mid_none input r m taken output words) lane_is) there
    where
      bytes_are : stored begun (half trail n s) (digit word) ≡ put (put (put (laned 6 begun (λ k. 0) 12) (half trail n s + 1) (byte_of word 0)) (half trail n s + 2) (byte_of word 1)) (half trail n s + 3) (byte_of word 2)
      bytes_are = (λ i. put (put (put (laned 6 begun (λ k. 0) 12) (half trail n s + 1) (digits_byte word 0 (omega arith) i)) (half trail n s + 2) (digits_byte word 1 (omega arith) i)) (half trail n s + 3) (digits_byte word 2 (omega arith) i))

      there : stored begun (half trail n s) (digit word) ≡ rest spent memory taken output
      there =
          bytes_are
          ∙ (ap (λ u. put (put (put u (half trail n s + 1) (byte_of word 0)) (half trail n s + 2) (byte_of word 1)) (half trail n s + 3) (byte_of word 2)) (laned_sheet tape (board bare) 6 (λ k. 0) 12 (omega arith) (omega arith) ∙ lane_gone)
          ∙ (ap (λ u. put (put u (half trail n s + 2) (byte_of word 1)) (half trail n s + 3) (byte_of word 2)) (put_past tape (board spent) (half trail n s + 1) (byte_of word 0) (omega arith))
          ∙ (ap (λ u. put u (half trail n s + 3) (byte_of word 2)) (put_past (put tape (half trail n s + 1) (byte_of word 0)) (board spent) (half trail n s + 2) (byte_of word 1) (omega arith))
          ∙ (put_past (put (put tape (half trail n s + 1) (byte_of word 0)) (half trail n s + 2) (byte_of word 1)) (board spent) (half trail n s + 3) (byte_of word 2) (omega arith)
          ∙ ap (λ u. sheet u (board spent)) (put_word m taken output (r 3) word n s ln ls at)))))

  pub word_brought : Does input bring_code 135 (rest r m taken output) 135 (rest spent memory taken output) (2 ^ 19 * (near (r 3) + 1))
  word_brought = by_half input r m taken output words (Does input bring_code 135 (rest r m taken output) 135 (rest spent memory taken output) (2 ^ 19 * (near (r 3) + 1))) (λ n s ln ls en es at.
      subst (λ k. Does input bring_code 135 (rest r m taken output) 135 (rest spent memory taken output) (2 ^ 19 * (k + 1))) (sym en)
      (does_within (2 ^ 19 * (n + 1))
      (next (next (next (trail_reached input r m taken output words n s ln ls en es) (does_goto input 135 trail (sided begun trail n s) 29 (omega arith))) (brought n s ln ls at)) (does_goto input trail 135 (rest spent memory taken output) 29 (omega arith))) (omega arith)))

pub words_brought : WordsAreBrought
words_brought input r m taken output words = word_brought input r m taken output words
