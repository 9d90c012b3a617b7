-- Numbers put into lanes, and operations with a number.
use Rattle.std.proofs.Common.{◌≡◌, ◌≢◌, ℕ, zero, suc, ◌+◌, ◌-◌, ◌*◌, ◌/◌, ◌%◌, ◌^◌, ◌<◌, ◌≤◌, Bool, true, false, nat_lt, nat_eq, cond, List, [], ◌∷◌, ◌++◌, refl, sym, ap, subst, ◌∙◌, arith, eq-eqb, ne_eqb}
use Rattle.std.proofs.Math.Nat.{pow-suc, pow-le-pow_right}
use Rattle.std.proofs.lemmas.Bool.{eqb-true, eqb-false}
use Rattle.std.proofs.lemmas.Bool.Decides.{nat_tests}
use Rattle.bf_lang.specs.declared.command.Command.{Command}
use Rattle.bf_lang.specs.declared.command.Command.TheVariants.{Plus}
use Rattle.bf_lang.specs.Cells.{raised}
use Rattle.bf_tape.specs.Tape.{Tape, get, put, set_cell}
use Rattle.bf_tape.specs.Does.{Does, loop}
use Rattle.bf_tape.specs.Code.{many, goto_code}
use Rattle.bf_tape.proofs.Moves.{does_plus, does_none, does_within, does_strides}
use Rattle.bf_tape.proofs.Pieces.{does_goto, does_lefts}
use Rattle.bf_tape.proofs.Turning.{get_put}
use Rattle.bf_columns.specs.Lanes.{lane_cell}
use Rattle.bf_columns.specs.Columns.{right10}
use Rattle.bf_columns.specs.Sheet.{Sheet, sheet, with_lane, IsRegister}
use Rattle.bf_columns.specs.Board.{digit, board, IsBoard, Acts}
use Rattle.bf_columns.specs.Told.{Asks}
use Rattle.bf_columns.specs.Number.{digits_code, put_number_code, NumbersArePut, NumbersAreMoved, NumbersAreAdded, NumbersAreTaken, NumberEqualsAreTold, NumberLessAreTold, NumberMoreAreTold}
use Rattle.bf_columns.proofs.Tapes.{next, between, comes_to, goes_from, put_same, put_is}
use Rattle.bf_columns.proofs.Lanes.{set_at, set_other, set_again, fun_ext}
use Rattle.bf_columns.proofs.Visited.{strides_home}
use Rattle.bf_columns.proofs.Sheets.{get_sheet, get_past, sheet_ext}
use Rattle.bf_columns.proofs.Boards.{put_sheet, board_digit, board_guide}
use Rattle.bf_columns.proofs.Digits.{digit_zero}
use Rattle.bf_columns.proofs.Swept.{clears_done, lane_sums_done, lane_differences_done}
use Rattle.bf_columns.proofs.Asked.{lane_equals_told, lane_less_told, lane_more_told}

-- units put in a cell
pub pluses_put : (input : List ℕ) (c : ℕ) (s : Tape) (n v : ℕ) → v + n < 256 → Does input (many n Plus) c (put s c v) c (put s c (v + n)) n
pluses_put input c s zero v lt = let e : v ≡ v + 0 = omega arith in comes_to (put s c (v + 0)) (does_none input c (put s c v)) (ap (put s c) e)
pluses_put input c s (suc n) v lt =
    let e : raised v ≡ suc v = omega arith in
    let f : suc v + n ≡ v + suc n = omega arith in
    let one : Does input (Plus ∷ []) c (put s c v) c (put s c (suc v)) 1 = comes_to (put s c (suc v)) (does_plus input c (put s c v)) (ap (λ w. put (put s c v) c (raised w)) (get_put s c v) ∙ (put_same s c v (raised v) ∙ ap (put s c) e)) in
    does_within (suc n) (comes_to (put s c (v + suc n)) (next one (pluses_put input c s n (suc v) (omega arith))) (ap (put s c) f)) (omega arith)

-- digits past a number's length
pub digit_past : (m k j : ℕ) → k < 4 ^ m → m ≤ j → digit k j ≡ 0
digit_past zero k j lt le = let e : k ≡ 0 = omega arith in ap (λ n. digit n j) e ∙ digit_zero j
digit_past (suc m) k zero lt le = absurd (omega arith)
digit_past (suc m) k (suc j) lt le = digit_past m (k / 4) j (omega (arith, pow-suc 4 m, lt)) (omega arith)

module _ (input : List ℕ) (t : Tape) (w : ℕ → ℕ) (l k : ℕ) (ll : l < 9) (n5 : l ≢ 5) (none : w l ≡ 0) where
  -- the lane with so many digits
  abbrev part : ℕ → Sheet
  part i = with_lane (board w) l (λ j. cond (nat_lt j i) (digit k j) (board w j l))

  lane_is : (i j : ℕ) → part i j l ≡ cond (nat_lt j i) (digit k j) (board w j l)
  lane_is i j = ap (λ b. cond b (cond (nat_lt j i) (digit k j) (board w j l)) (board w j l)) (eq-eqb l l refl)

  beside_is : (i j q : ℕ) → q ≢ l → part i j q ≡ board w j q
  beside_is i j q ne = ap (λ b. cond b (cond (nat_lt j i) (digit k j) (board w j l)) (board w j q)) (ne_eqb q l ne)

  empty : (j : ℕ) → j < 12 → board w j l ≡ 0
  empty j lt = board_digit w j l lt n5 (omega arith) ∙ (ap (λ n. digit n j) none ∙ digit_zero j)

  one_digit : (i : ℕ) → i < 12 → put (sheet t (part i)) (lane_cell l i) (digit k i) ≡ sheet t (part (suc i))
  one_digit i lt = put_sheet t (part i) (part (suc i)) l i (digit k i) (omega arith) (omega arith) (let e : nat_lt i (suc i) ≡ true = grind (arith, nat_tests) in lane_is (suc i) i ∙ ap (λ b. cond b (digit k i) (board w i l)) e) same
    where
      same : (j q : ℕ) → j ≤ 12 → q < 10 → (j ≡ i → q ≢ l) → part i j q ≡ part (suc i) j q
      same j q lj lq off = by (nat_eq q l) refl
        where
          by : (x : Bool) → nat_eq q l ≡ x → part i j q ≡ part (suc i) j q
          by true e =
              let ne : j ≢ i = (λ f. off f (eqb-true q l e)) in
              let f : nat_lt j i ≡ nat_lt j (suc i) = grind (arith, nat_tests) in
              ap (part i j) (eqb-true q l e) ∙ (lane_is i j ∙ (ap (λ b. cond b (digit k j) (board w j l)) f ∙ (sym (lane_is (suc i) j) ∙ ap (part (suc i) j) (sym (eqb-true q l e)))))
          by false e = let ne : q ≢ l = eqb-false q l e in beside_is i j q ne ∙ sym (beside_is (suc i) j q ne)

  walk : (m i n : ℕ) → i + m ≤ 12 → ((j : ℕ) → digit n j ≡ digit k (i + j)) → Does input (digits_code n m) (130 + l - 10 * i) (sheet t (part i)) (130 + l - 10 * (i + m)) (sheet t (part (i + m))) (m * 13)
  walk zero i n le is = let e : i ≡ i + 0 = omega arith in between (130 + l - 10 * i) (130 + l - 10 * (i + 0)) (comes_to (sheet t (part (i + 0))) (does_none input (130 + l - 10 * i) (sheet t (part i))) (ap (λ q. sheet t (part q)) e)) refl (ap (λ q. 130 + l - 10 * q) e)
  walk (suc m) i n le is =
      let c : ℕ = lane_cell l i in
      let s : Tape = sheet t (part i) in
      let s' : Tape = sheet t (part (suc i)) in
      let e : c + 10 ≡ 130 + l - 10 * i = omega arith in
      let f : c ≡ 130 + l - 10 * suc i = omega arith in
      let g : suc i + m ≡ i + suc m = omega arith in
      let d : n % 4 ≡ digit k i = (let z : i + 0 ≡ i = omega arith in is 0 ∙ ap (digit k) z) in
      let small : n % 4 < 4 = omega arith in
      let zero_at : get s c ≡ 0 = get_sheet t (part i) l i (omega arith) (omega arith) ∙ (lane_is i i ∙ (let x : nat_lt i i ≡ false = grind (arith, nat_tests) in ap (λ b. cond b (digit k i) (board w i l)) x ∙ empty i (omega arith))) in
      let units : Does input (many (n % 4) Plus) c s c s' (n % 4) =
      comes_to s' (goes_from s (pluses_put input c s (n % 4) 0 (omega arith)) (put_is s c 0 zero_at)) ((let z : 0 + n % 4 ≡ digit k i = omega (arith, d) in ap (put s c) z) ∙ one_digit i (omega arith)) in
      let rest = walk m (suc i) (n / 4) (omega arith) (λ j. is (suc j) ∙ (let z : i + suc j ≡ suc i + j = omega arith in ap (digit k) z)) in
      let moved : Does input (many (n % 4) Plus) c s (130 + l - 10 * suc i) s' (n % 4) = between c (130 + l - 10 * suc i) units refl f in
      does_within (suc m * 13)
      (between (130 + l - 10 * i) (130 + l - 10 * (i + suc m)) (comes_to (sheet t (part (i + suc m))) (next (next (between (130 + l - 10 * i) c (does_lefts input 10 c s) e refl) moved) rest) (ap (λ q. sheet t (part q)) g)) refl (ap (λ q. 130 + l - 10 * q) g)) (omega arith)

  number_put : (m : ℕ) → m ≤ 12 → k < 4 ^ m → t.cells (t.base + 135) ≡ 0 → Does input (put_number_code l k m) 135 (sheet t (board w)) 135 (sheet t (board (set_cell w l k))) 400
  number_put m le lt home =
      let u : Tape = sheet t (part m) in
      let start : sheet t (board w) ≡ sheet t (part 0) = sheet_ext t (board w) (part 0) begin in
      let end : u ≡ sheet t (board (set_cell w l k)) = sheet_ext t (part m) (board (set_cell w l k)) finish in
      let a : 130 + l ≡ 130 + l - 10 * 0 = omega arith in
      let b : 130 + l - 10 * (0 + m) ≡ 130 + l - 10 * m = omega arith in
      let zero_m : 0 + m ≡ m = omega arith in
      let first : Does input (goto_code 135 (130 + l)) 135 (sheet t (board w)) (130 + l) (sheet t (part 0)) 5 = comes_to (sheet t (part 0)) (does_goto input 135 (130 + l) (sheet t (board w)) 5 (omega arith)) start in
      let digits : Does input (digits_code k m) (130 + l) (sheet t (part 0)) (130 + l - 10 * m) u (m * 13) =
      between (130 + l) (130 + l - 10 * m) (comes_to u (walk m 0 k (omega arith) (λ j. let z : j ≡ 0 + j = omega arith in ap (digit k) z)) (ap (λ q. sheet t (part q)) zero_m)) (sym a) b in
      let e : 135 - 10 * m + 10 * m ≡ 135 = omega arith in
      let guides : Does input (loop right10) (135 - 10 * m) u 135 u (11 * m + 1) =
      between (135 - 10 * m) 135 (does_strides {body = right10} refl (strides_home input u m (135 - 10 * m) (λ i li z.
      let p : 135 - 10 * m + 10 * i ≡ lane_cell 5 (m - 1 - i) = omega arith in
      absurd (omega (arith, get_sheet t (part m) 5 (m - 1 - i) (omega arith) (omega arith), beside_is m (m - 1 - i) 5 (λ f. n5 (sym f)), board_guide w (m - 1 - i) (omega arith), ap (get u) p, z)))
      (ap (get u) e ∙ (get_past t (part m) 135 (omega arith) ∙ home)))) refl e in
      comes_to (sheet t (board (set_cell w l k)))
      (does_within 400 (next (next (next first digits) (does_goto input (130 + l - 10 * m) (135 - 10 * m) u 5 (omega arith))) guides) (omega arith)) end
    where
      begin : (j q : ℕ) → j ≤ 12 → q < 10 → board w j q ≡ part 0 j q
      begin j q lj lq = by (nat_eq q l) refl
        where
          by : (x : Bool) → nat_eq q l ≡ x → board w j q ≡ part 0 j q
          by true e = let f : nat_lt j 0 ≡ false = grind (arith, nat_tests) in ap (board w j) (eqb-true q l e) ∙ sym (ap (part 0 j) (eqb-true q l e) ∙ (lane_is 0 j ∙ ap (λ b. cond b (digit k j) (board w j l)) f))
          by false e = sym (beside_is 0 j q (eqb-false q l e))

      finish : (j q : ℕ) → j ≤ 12 → q < 10 → part m j q ≡ board (set_cell w l k) j q
      finish j q lj lq = by (nat_eq q l) refl
        where
          kept : (x y : Bool) → q ≢ l → nat_eq q 5 ≡ x → nat_eq q 9 ≡ y → cond (nat_lt j 12) (cond x 1 (cond y 0 (digit (w q) j))) 0 ≡ cond (nat_lt j 12) (cond x 1 (cond y 0 (digit (set_cell w l k q) j))) 0
          kept x y ne ex ey = ap (λ n. cond (nat_lt j 12) (cond x 1 (cond y 0 (digit n j))) 0) (sym (set_other w l k q ne))

          lane : (x : Bool) → nat_lt j 12 ≡ x → cond (nat_lt j m) (digit k j) (board w j l) ≡ board (set_cell w l k) j l
          lane false e =
              let f : nat_lt j m ≡ false = grind (arith, nat_tests) in
              ap (λ b. cond b (digit k j) (board w j l)) f ∙ ((λ i. cond (e i) (cond (nat_eq l 5) 1 (cond (nat_eq l 9) 0 (digit (w l) j))) 0) ∙ sym (λ i. cond (e i) (cond (nat_eq l 5) 1 (cond (nat_eq l 9) 0 (digit (set_cell w l k l) j))) 0))
          lane true e = let lt12 : j < 12 = grind (arith, nat_tests) in written (nat_lt j m) refl lt12 ∙ sym (board_digit (set_cell w l k) j l lt12 n5 (omega arith) ∙ ap (λ n. digit n j) (set_at w l k))
            where
              written : (y : Bool) → nat_lt j m ≡ y → j < 12 → cond y (digit k j) (board w j l) ≡ digit k j
              written true f lt12 = refl
              written false f lt12 = let ge : m ≤ j = grind (arith, nat_tests) in empty j lt12 ∙ sym (digit_past m k j lt ge)

          by : (x : Bool) → nat_eq q l ≡ x → part m j q ≡ board (set_cell w l k) j q
          by true e = ap (part m j) (eqb-true q l e) ∙ (lane_is m j ∙ (lane (nat_lt j 12) refl ∙ ap (board (set_cell w l k) j) (sym (eqb-true q l e))))
          by false e = let ne : q ≢ l = eqb-false q l e in beside_is m j q ne ∙ kept (nat_eq q 5) (nat_eq q 9) ne refl refl

pub numbers_put : NumbersArePut
numbers_put w l k m ll n5 none le lt = record { does = λ input t home. number_put input t w l k ll n5 none m le lt home }

-- one after the other
pub acts_then : {code more : List Command} {w w' w'' : ℕ → ℕ} {a b : ℕ} (most : ℕ) → Acts code w w' a → Acts more w' w'' b → a + b ≤ most → Acts (code ++ more) w w'' most
acts_then most f g le = record { does = λ input t home. does_within most (next (f.does input t home) (g.does input t home)) le }

pub asks_then : {code more : List Command} {w w' w'' : ℕ → ℕ} {answer : Bool} {a b : ℕ} (most : ℕ) → Acts code w w' a → Asks more w' w'' answer b → a + b ≤ most → Asks (code ++ more) w w'' answer most
asks_then most f g le = record { does = λ input t home flag. does_within most (next (f.does input t home) (g.does input t home flag)) le }

pub acts_as : {code : List Command} {w : ℕ → ℕ} {most : ℕ} (w' w'' : ℕ → ℕ) → Acts code w w' most → w' ≡ w'' → Acts code w w'' most
acts_as {code = code} {w = w} {most = most} w' w'' a e = subst (λ x. Acts code w x most) e a

-- a word in a register, and none in x, y
below_word : (k m : ℕ) → m ≤ 12 → k < 4 ^ m → k < 2 ^ 24
below_word k m le lt = let e : 4 ^ m ≤ 4 ^ 12 = pow-le-pow_right (omega arith) le in omega (arith, e, lt)

set_board : (w : ℕ → ℕ) (l k : ℕ) → IsBoard w → l ≢ 3 → k < 2 ^ 24 → IsBoard (set_cell w l k)
set_board w l k b n3 lt = record { words = λ i. small (nat_eq i l) i; spare = set_other w l k 3 (λ e. n3 (sym e)) ∙ b.spare }
  where
    small : (x : Bool) (i : ℕ) → cond x k (w i) < 2 ^ 24
    small true i = lt
    small false i = b.words i

pub numbers_moved : NumbersAreMoved
numbers_moved w d k m rd b le lt =
    acts_as (set_cell (set_cell w d 0) d k) (set_cell w d k)
    (acts_then 1100 (clears_done w d rd b) (numbers_put (set_cell w d 0) d k m rd.below rd.no_guide (set_at w d 0) le lt) (omega arith)) (set_again w d 0 k)

-- lane y there and gone again
y_gone : (w : ℕ → ℕ) (k : ℕ) → w 6 ≡ 0 → set_cell (set_cell w 6 k) 6 0 ≡ w
y_gone w k none = set_again w 6 k 0 ∙ fun_ext each
  where
    each : (q : ℕ) → set_cell w 6 0 q ≡ w q
    each q = by (nat_eq q 6) refl
      where
        by : (x : Bool) → nat_eq q 6 ≡ x → cond x 0 (w q) ≡ w q
        by true e = sym (ap w (eqb-true q 6 e) ∙ none)
        by false e = refl

module _ (w : ℕ → ℕ) (d k m : ℕ) (rd : IsRegister d) (b : IsBoard w) (none : w 6 ≡ 0) (le : m ≤ 12) (lt : k < 4 ^ m) where
  abbrev with_y : ℕ → ℕ
  with_y = set_cell w 6 k

  y_board : IsBoard with_y
  y_board = set_board w 6 k b (λ e. absurd (omega arith)) (below_word k m le lt)

  y_is : with_y 6 ≡ k
  y_is = set_at w 6 k

  d_is : with_y d ≡ w d
  d_is = set_other w 6 k d rd.no_y

  gone : (n n' : ℕ) → n ≡ n' → set_cell (set_cell with_y 6 0) d n ≡ set_cell w d n'
  gone n n' e = λ i. set_cell (y_gone w k none i) d (e i)

pub numbers_added : NumbersAreAdded
numbers_added w d k m rd b none le lt =
    let wy = set_cell w 6 k in
    acts_as (set_cell (set_cell wy 6 0) d ((wy d + wy 6) % 2 ^ 24)) (set_cell w d ((w d + k) % 2 ^ 24))
    (acts_then 4100 (numbers_put w 6 k m (omega arith) (λ e. absurd (omega arith)) none le lt) (lane_sums_done wy d rd (y_board w d k m rd b none le lt)) (omega arith))
    (gone w d k m rd b none le lt ((wy d + wy 6) % 2 ^ 24) ((w d + k) % 2 ^ 24) (λ i. (d_is w d k m rd b none le lt i + y_is w d k m rd b none le lt i) % 2 ^ 24))

pub numbers_taken : NumbersAreTaken
numbers_taken w d k m rd b none le lt =
    let wy = set_cell w 6 k in
    acts_as (set_cell (set_cell wy 6 0) d ((wy d + (2 ^ 24 - wy 6)) % 2 ^ 24)) (set_cell w d ((w d + (2 ^ 24 - k)) % 2 ^ 24))
    (acts_then 3600 (numbers_put w 6 k m (omega arith) (λ e. absurd (omega arith)) none le lt) (lane_differences_done wy d rd (y_board w d k m rd b none le lt)) (omega arith))
    (gone w d k m rd b none le lt ((wy d + (2 ^ 24 - wy 6)) % 2 ^ 24) ((w d + (2 ^ 24 - k)) % 2 ^ 24) (λ i. (d_is w d k m rd b none le lt i + (2 ^ 24 - y_is w d k m rd b none le lt i)) % 2 ^ 24))

-- the same answer, told otherwise
asks_as : {code : List Command} {w : ℕ → ℕ} {most : ℕ} (w' w'' : ℕ → ℕ) (x y : Bool) → Asks code w w' x most → w' ≡ w'' → x ≡ y → Asks code w w'' y most
asks_as {code = code} {w = w} {most = most} w' w'' x y a e f = subst (λ q. Asks code w w'' q most) f (subst (λ q. Asks code w q x most) e a)

pub number_equals_told : NumberEqualsAreTold
number_equals_told w d k m rd b none le lt =
    let wy = set_cell w 6 k in
    asks_as (set_cell wy 6 0) w (nat_eq (wy d) (wy 6)) (nat_eq (w d) k)
    (asks_then 6100 (numbers_put w 6 k m (omega arith) (λ e. absurd (omega arith)) none le lt) (lane_equals_told wy d rd (y_board w d k m rd b none le lt)) (omega arith))
    (y_gone w k none) (λ i. nat_eq (d_is w d k m rd b none le lt i) (y_is w d k m rd b none le lt i))

pub number_less_told : NumberLessAreTold
number_less_told w d k m rd b none le lt =
    let wy = set_cell w 6 k in
    asks_as (set_cell wy 6 0) w (nat_lt (wy d) (wy 6)) (nat_lt (w d) k)
    (asks_then 3700 (numbers_put w 6 k m (omega arith) (λ e. absurd (omega arith)) none le lt) (lane_less_told wy d rd (y_board w d k m rd b none le lt)) (omega arith))
    (y_gone w k none) (λ i. nat_lt (d_is w d k m rd b none le lt i) (y_is w d k m rd b none le lt i))

pub number_more_told : NumberMoreAreTold
number_more_told w d k m rd b none le lt =
    let wy = set_cell w 6 k in
    asks_as (set_cell wy 6 0) w (nat_lt (wy 6) (wy d)) (nat_lt k (w d))
    (asks_then 3700 (numbers_put w 6 k m (omega arith) (λ e. absurd (omega arith)) none le lt) (lane_more_told wy d rd (y_board w d k m rd b none le lt)) (omega arith))
    (y_gone w k none) (λ i. nat_lt (y_is w d k m rd b none le lt i) (d_is w d k m rd b none le lt i))
