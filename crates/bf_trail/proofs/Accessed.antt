-- The access to memory on the whole tape, and a load.
use Rattle.std.proofs.Common.{◌≡◌, ◌≢◌, ℕ, zero, suc, ◌+◌, ◌-◌, ◌*◌, ◌/◌, ◌%◌, ◌^◌, ◌<◌, ◌≤◌, Bool, true, false, nat_lt, nat_eq, cond, List, ◌++◌, refl, sym, ap, subst, ◌∙◌, arith, eq-eqb}
use Rattle.std.proofs.lemmas.Bool.{eqb-true, eqb-false}
use Rattle.std.proofs.lemmas.Bool.Decides.{nat_tests}
use Rattle.bf_tape.specs.Tape.{Tape, get, put, set_cell}
use Rattle.bf_tape.specs.Does.{Does}
use Rattle.bf_tape.proofs.Moves.{does_within}
use Rattle.bf_tape.proofs.Pieces.{does_goto}
use Rattle.bf_tape.proofs.Turning.{get_put, get_other}
use Rattle.bf_columns.specs.Lanes.{lane_cell, laned, number}
use Rattle.bf_columns.specs.Sheet.{Sheet, sheet, with_lane}
use Rattle.bf_columns.specs.Board.{digit, board}
use Rattle.bf_columns.specs.Near.{near, side, near_code}
use Rattle.bf_columns.specs.Rest.{byte_of, half_record, record_cell, ground, rest}
use Rattle.bf_columns.proofs.Tapes.{next, comes_to, goes_from, put_same, put_is}
use Rattle.bf_columns.proofs.Lanes.{set_at, set_other}
use Rattle.bf_columns.proofs.Digits.{digit_small, digit_zero, number_digits, digits_unique}
use Rattle.bf_columns.proofs.Sheets.{get_sheet, get_past, sheet_ext}
use Rattle.bf_columns.proofs.Rows.{put_past}
use Rattle.bf_columns.proofs.Boards.{put_sheet, same_choice}
use Rattle.bf_columns.proofs.Neared.{near_found}
use Rattle.bf_trail.specs.Trail.{IsBlank}
use Rattle.bf_trail.specs.Nest.{trail}
use Rattle.bf_trail.specs.Sides.{half, sided}
use Rattle.bf_trail.specs.Lay.{trail_code}
use Rattle.bf_trail.specs.Load.{load_code, given, IsEmpty}
use Rattle.bf_trail.specs.Access.{fetch_code, WordsAreFetched}
use Rattle.bf_trail.proofs.Loaded.{words_loaded}
use Rattle.bf_trail.proofs.Aimed.{trails_laid}

own_lane : (v : Sheet) (l : ℕ) (x : ℕ → ℕ) (j : ℕ) → with_lane v l x j l ≡ x j
own_lane v l x j = ap (λ b. cond b (x j) (v j l)) (eq-eqb l l refl)

-- digits put into the cells of a lane
pub laned_sheet : (t : Tape) (v : Sheet) (l : ℕ) (y : ℕ → ℕ) (m : ℕ) → l < 10 → m ≤ 12 → laned l (sheet t v) y m ≡ sheet t (with_lane v l (λ j. cond (nat_lt j m) (y j) (v j l)))
laned_sheet t v l y zero ll le = sheet_ext t v (with_lane v l (λ j. cond (nat_lt j 0) (y j) (v j l))) (λ j k lj lk. by j k (nat_eq k l) refl)
  where
    by : (j k : ℕ) (b : Bool) → nat_eq k l ≡ b → v j k ≡ cond b (cond (nat_lt j 0) (y j) (v j l)) (v j k)
    by j k true e = let z : nat_lt j 0 ≡ false = grind (arith, nat_tests) in ap (v j) (eqb-true k l e) ∙ sym (ap (λ b. cond b (y j) (v j l)) z)
    by j k false e = refl
laned_sheet t v l y (suc m) ll le =
    let x : ℕ → ℕ = λ j. cond (nat_lt j m) (y j) (v j l) in
    let x' : ℕ → ℕ = λ j. cond (nat_lt j (suc m)) (y j) (v j l) in
    ap (λ u. put u (lane_cell l m) (y m)) (laned_sheet t v l y m ll (omega arith))
    ∙ put_sheet t (with_lane v l x) (with_lane v l x') l m (y m) ll (omega arith) (own_lane v l x' m ∙ ap (λ b. cond b (y m) (v m l)) (here m)) (λ k i lk li off. by k i off (nat_eq i l) refl)
  where
    here : (m : ℕ) → nat_lt m (suc m) ≡ true
    here m = grind (arith, nat_tests)

    after : (k : ℕ) → k ≢ m → nat_lt k m ≡ nat_lt k (suc m)
    after k ne = choose (nat_lt k m) refl
      where
        choose : (b : Bool) → nat_lt k m ≡ b → b ≡ nat_lt k (suc m)
        choose true e = let lt : k < m = grind (arith, nat_tests) in let f : nat_lt k (suc m) ≡ true = grind (arith, nat_tests) in sym f
        choose false e = let ge : m ≤ k = grind (arith, nat_tests) in let gt : suc m ≤ k = omega arith in let f : nat_lt k (suc m) ≡ false = grind (arith, nat_tests) in sym f

    by : (k i : ℕ) → (k ≡ m → i ≢ l) → (b : Bool) → nat_eq i l ≡ b → cond b (cond (nat_lt k m) (y k) (v k l)) (v k i) ≡ cond b (cond (nat_lt k (suc m)) (y k) (v k l)) (v k i)
    by k i off true e = ap (λ b. cond b (y k) (v k l)) (after k (λ f. off f (eqb-true i l e)))
    by k i off false e = refl

-- digits that are there
pub laned_there : (l : ℕ) (s : Tape) (x : ℕ → ℕ) (m : ℕ) → m ≤ 12 → ((j : ℕ) → j < 12 → get s (lane_cell l j) ≡ x j) → laned l s x m ≡ s
laned_there l s x zero le is = refl
laned_there l s x (suc m) le is = ap (λ u. put u (lane_cell l m) (x m)) (laned_there l s x m (omega arith) is) ∙ put_is s (lane_cell l m) (x m) (is m (omega arith))

-- one digit put into a lane
put_lane : (t : Tape) (v : Sheet) (l : ℕ) (x : ℕ → ℕ) (j n : ℕ) → l < 10 → j ≤ 12 → put (sheet t (with_lane v l x)) (lane_cell l j) n ≡ sheet t (with_lane v l (set_cell x j n))
put_lane t v l x j n ll lj = put_sheet t (with_lane v l x) (with_lane v l (set_cell x j n)) l j n ll lj (own_lane v l (set_cell x j n) j ∙ set_at x j n) (λ k i lk li off. by k i off (nat_eq i l) refl)
  where
    by : (k i : ℕ) → (k ≡ j → i ≢ l) → (b : Bool) → nat_eq i l ≡ b → cond b (x k) (v k i) ≡ cond b (set_cell x j n k) (v k i)
    by k i off true e = sym (set_other x j n k (λ f. off f (eqb-true i l e)))
    by k i off false e = refl

-- a byte's digits in their places
abbrev byte_at : (ℕ → ℕ) → ℕ → ℕ → ℕ → ℕ
byte_at x i b = set_cell (set_cell (set_cell (set_cell x (4 * i + 3) (b / 64)) (4 * i + 2) (b / 16 % 4)) (4 * i + 1) (b / 4 % 4)) (4 * i + 0) (b % 4)

given_sheet : (t : Tape) (v : Sheet) (x : ℕ → ℕ) (i b : ℕ) → i < 3 → given (sheet t (with_lane v 6 x)) i b ≡ sheet t (with_lane v 6 (byte_at x i b))
given_sheet t v x i b li =
    let c0 : ℕ = lane_cell 6 (4 * i + 0) in let c1 : ℕ = lane_cell 6 (4 * i + 1) in let c2 : ℕ = lane_cell 6 (4 * i + 2) in
    let d0 : ℕ = b % 4 in let d1 : ℕ = b / 4 % 4 in let d2 : ℕ = b / 16 % 4 in let d3 : ℕ = b / 64 in
    let x3 : ℕ → ℕ = set_cell x (4 * i + 3) d3 in
    let x2 : ℕ → ℕ = set_cell x3 (4 * i + 2) d2 in
    let x1 : ℕ → ℕ = set_cell x2 (4 * i + 1) d1 in
    ap (λ u. put (put (put u c2 d2) c1 d1) c0 d0) (put_lane t v 6 x (4 * i + 3) d3 (omega arith) (omega arith))
    ∙ (ap (λ u. put (put u c1 d1) c0 d0) (put_lane t v 6 x3 (4 * i + 2) d2 (omega arith) (omega arith))
    ∙ (ap (λ u. put u c0 d0) (put_lane t v 6 x2 (4 * i + 1) d1 (omega arith) (omega arith))
    ∙ put_lane t v 6 x1 (4 * i + 0) d0 (omega arith) (omega arith)))

-- three bytes make a word's digits
module _ (w : ℕ) (lw : w < 2 ^ 24) where
  abbrev bytes : ℕ → ℕ
  bytes = byte_at (byte_at (byte_at (λ j. 0) 0 (byte_of w 0)) 1 (byte_of w 1)) 2 (byte_of w 2)

  byte_small : (i : ℕ) → byte_of w i < 256
  byte_small i = small w i
    where
      small : (w i : ℕ) → byte_of w i < 256
      small w zero = omega arith
      small w (suc i) = small (w / 256) i

  bytes_small : (k : ℕ) → k < 12 → bytes k < 4
  bytes_small zero lt = omega arith
  bytes_small (suc zero) lt = omega arith
  bytes_small (suc (suc zero)) lt = omega arith
  bytes_small (suc (suc (suc zero))) lt = omega arith
  bytes_small (suc (suc (suc (suc zero)))) lt = omega arith
  bytes_small (suc (suc (suc (suc (suc zero))))) lt = omega arith
  bytes_small (suc (suc (suc (suc (suc (suc zero)))))) lt = omega arith
  bytes_small (suc (suc (suc (suc (suc (suc (suc zero))))))) lt = omega arith
  bytes_small (suc (suc (suc (suc (suc (suc (suc (suc zero)))))))) lt = omega arith
  bytes_small (suc (suc (suc (suc (suc (suc (suc (suc (suc zero))))))))) lt = omega arith
  bytes_small (suc (suc (suc (suc (suc (suc (suc (suc (suc (suc zero)))))))))) lt = omega arith
  bytes_small (suc (suc (suc (suc (suc (suc (suc (suc (suc (suc (suc zero))))))))))) lt = omega arith
  bytes_small (suc (suc (suc (suc (suc (suc (suc (suc (suc (suc (suc (suc k)))))))))))) lt = absurd (omega arith)

  bytes_number : number bytes 12 ≡ w
  bytes_number =
      weighed (byte_of w 0 % 4) (byte_of w 0 / 4 % 4) (byte_of w 0 / 16 % 4) (byte_of w 0 / 64) (byte_of w 1 % 4) (byte_of w 1 / 4 % 4) (byte_of w 1 / 16 % 4) (byte_of w 1 / 64)
      (byte_of w 2 % 4) (byte_of w 2 / 4 % 4) (byte_of w 2 / 16 % 4) (byte_of w 2 / 64) (byte_of w 0) (byte_of w 1) (byte_of w 2) w (sum (byte_of w 0)) (sum (byte_of w 1)) (sum (byte_of w 2)) (split w lw)
    where
      sum : (b : ℕ) → b % 4 + 4 * (b / 4 % 4) + 16 * (b / 16 % 4) + 64 * (b / 64) ≡ b
      sum b = omega arith

      split : (w : ℕ) → w < 2 ^ 24 → w % 256 + 256 * (w / 256 % 256) + 65536 * (w / 256 / 256 % 256) ≡ w
      split w lw = omega arith

      weighed : (a0 a1 a2 a3 b0 b1 b2 b3 c0 c1 c2 c3 a b c w : ℕ) → a0 + 4 * a1 + 16 * a2 + 64 * a3 ≡ a → b0 + 4 * b1 + 16 * b2 + 64 * b3 ≡ b → c0 + 4 * c1 + 16 * c2 + 64 * c3 ≡ c → a + 256 * b + 65536 * c ≡ w
          → 0 + a0 * 4 ^ 0 + a1 * 4 ^ 1 + a2 * 4 ^ 2 + a3 * 4 ^ 3 + b0 * 4 ^ 4 + b1 * 4 ^ 5 + b2 * 4 ^ 6 + b3 * 4 ^ 7 + c0 * 4 ^ 8 + c1 * 4 ^ 9 + c2 * 4 ^ 10 + c3 * 4 ^ 11 ≡ w
      weighed a0 a1 a2 a3 b0 b1 b2 b3 c0 c1 c2 c3 a b c w ea eb ec ew = omega arith

  bytes_digits : (j : ℕ) → j < 12 → bytes j ≡ digit w j
  bytes_digits j lt = sym (digits_unique 12 bytes j bytes_small lt) ∙ ap (λ n. digit n j) bytes_number

-- the address of the word in a half record
abbrev pub address : ℕ → ℕ → ℕ
address n zero = n
address n (suc s) = 2 ^ 24 - 1 - n

-- what the memory's part of the tape holds
module _ (m : ℕ → ℕ) (taken : ℕ) (output : List ℕ) where
  abbrev g : Tape
  g = ground m taken output

  pub ground_none : (c : ℕ) → c < 172 → get g c ≡ 0
  ground_none c lt = let b : nat_lt (0 + c) 172 ≡ true = grind (arith, nat_tests) in ap (λ x. cond x 0 (record_cell m ((0 + c - 172) / 8) ((0 + c - 172) % 8))) b

  pub ground_cell : (c n i : ℕ) → c ≡ 172 + 8 * n + i → i < 8 → get g c ≡ record_cell m n i
  ground_cell c n i e lt =
      let b : nat_lt (0 + c) 172 ≡ false = grind (arith, nat_tests) in
      let q : (0 + c - 172) / 8 ≡ n = omega arith in
      let p : (0 + c - 172) % 8 ≡ i = omega arith in
      ap (λ x. cond x 0 (record_cell m ((0 + c - 172) / 8) ((0 + c - 172) % 8))) b ∙ (λ k. record_cell m (q k) (p k))

  ground_mark : (k : ℕ) → get g (172 + 4 * k) ≡ 0
  ground_mark k = by (k % 2) (omega arith) (omega arith)
    where
      by : (h : ℕ) → h < 2 → 172 + 4 * k ≡ 172 + 8 * (k / 2) + 4 * h → get g (172 + 4 * k) ≡ 0
      by zero lt e = ground_cell (172 + 4 * k) (k / 2) 0 e (omega arith) ∙ same_choice (nat_lt (k / 2) (2 ^ 23)) 0
      by (suc zero) lt e = ground_cell (172 + 4 * k) (k / 2) 4 e (omega arith) ∙ same_choice (nat_lt (k / 2) (2 ^ 23)) 0
      by (suc (suc h)) lt e = absurd (omega arith)

  -- a byte of a word in the first or in the second half of a record
  pub ground_near : (c n i : ℕ) → n < 2 ^ 23 → i < 3 → c ≡ 172 + 8 * n + suc i → get g c ≡ byte_of (m n) i
  ground_near c n i ln li e =
      let b : nat_lt n (2 ^ 23) ≡ true = grind (arith, nat_tests) in
      let d : nat_lt (suc i) 4 ≡ true = grind (arith, nat_tests) in
      ground_cell c n (suc i) e (omega arith) ∙ (λ k. cond (b k) (cond (d k) (half_record (m n) (suc i)) (half_record (m (2 ^ 24 - 1 - n)) (suc i - 4))) 0)

  pub ground_far : (c n i : ℕ) → n < 2 ^ 23 → i < 3 → c ≡ 176 + 8 * n + suc i → get g c ≡ byte_of (m (2 ^ 24 - 1 - n)) i
  ground_far c n i ln li e =
      let b : nat_lt n (2 ^ 23) ≡ true = grind (arith, nat_tests) in
      let d : nat_lt (4 + suc i) 4 ≡ false = grind (arith, nat_tests) in
      let f : 4 + suc i - 4 ≡ suc i = omega arith in
      ground_cell c n (4 + suc i) (omega arith) (omega arith) ∙ (λ k. cond (b k) (cond (d k) (half_record (m n) (4 + suc i)) (half_record (m (2 ^ 24 - 1 - n)) (f k))) 0)

  pub ground_byte : (c n s i : ℕ) → n < 2 ^ 23 → s < 2 → i < 3 → c ≡ half trail n s + 1 + i → get g c ≡ byte_of (m (address n s)) i
  ground_byte c n zero i ln ls li e = ground_near c n i ln li (omega arith)
  ground_byte c n (suc zero) i ln ls li e = ground_far c n i ln li (omega arith)
  ground_byte c n (suc (suc s)) i ln ls li e = absurd (omega arith)

-- from an address in lane x to a trail and a side, on the whole tape
module _ (input : List ℕ) (r m : ℕ → ℕ) (taken : ℕ) (output : List ℕ) (words : (l : ℕ) → r l < 2 ^ 24) where
  abbrev t : Tape
  t = ground m taken output

  -- the registers with nothing in lane x
  abbrev r2 : ℕ → ℕ
  r2 = set_cell r 3 0

  abbrev mid : Tape
  mid = sheet t (board r2)

  pub mid_blank : IsBlank mid (trail + 8)
  mid_blank = record { at = λ k. get_past t (board r2) (172 + 4 * k) (omega arith) ∙ ground_mark m taken output k }

  pub mid_none : get mid trail ≡ 0
  mid_none = get_past t (board r2) trail (omega arith) ∙ ground_none m taken output trail (omega arith)

  -- the tape where the near address and the side are told
  module _ (n s : ℕ) (ln : n < 2 ^ 23) (ls : s < 2) where
    abbrev r1 : ℕ → ℕ
    r1 = set_cell r 3 n

    abbrev t1 : Tape
    t1 = put t 168 s

    abbrev start : Tape
    start = sheet t1 (board r1)

    start_past : (c : ℕ) → 130 ≤ c → 168 ≢ c → get start c ≡ get t c
    start_past c le ne = get_past t1 (board r1) c le ∙ get_other t 168 c s ne

    start_blank : IsBlank start (trail + 8)
    start_blank = record { at = λ k. start_past (172 + 4 * k) (omega arith) (λ e. absurd (omega arith)) ∙ ground_mark m taken output k }

    lane_gone : sheet t1 (with_lane (board r1) 3 (λ j. cond (nat_lt j 12) 0 (board r1 j 3))) ≡ sheet t1 (board r2)
    lane_gone = sheet_ext t1 (with_lane (board r1) 3 (λ j. cond (nat_lt j 12) 0 (board r1 j 3))) (board r2) (λ j l lj ll. by j l (nat_eq l 3) refl)
      where
        gone : (j : ℕ) (b : Bool) → cond b 0 (cond b (digit n j) 0) ≡ cond b (digit 0 j) 0
        gone j true = sym (digit_zero j)
        gone j false = refl

        kept : (j l : ℕ) → l ≢ 3 → board r1 j l ≡ board r2 j l
        kept j l ne = ap (λ n. cond (nat_lt j 12) (cond (nat_eq l 5) 1 (cond (nat_eq l 9) 0 (digit n j))) 0) (set_other r 3 n l ne ∙ sym (set_other r 3 0 l ne))

        by : (j l : ℕ) (b : Bool) → nat_eq l 3 ≡ b → cond b (cond (nat_lt j 12) 0 (board r1 j 3)) (board r1 j l) ≡ board r2 j l
        by j l true e = gone j (nat_lt j 12) ∙ ap (board r2 j) (sym (eqb-true l 3 e))
        by j l false e = kept j l (eqb-false l 3 e)

    bare_is : put (laned 3 start (λ k. 0) 12) 168 0 ≡ mid
    bare_is =
        ap (λ u. put u 168 0) (laned_sheet t1 (board r1) 3 (λ k. 0) 12 (omega arith) (omega arith) ∙ lane_gone)
        ∙ (put_past t1 (board r2) 168 0 (omega arith) ∙ ap (λ u. sheet u (board r2)) (put_same t 168 s 0 ∙ put_is t 168 0 (ground_none m taken output 168 (omega arith))))

    lane_there : (j : ℕ) → j < 12 → get start (lane_cell 3 j) ≡ digit n j
    lane_there j lt = let f : nat_lt j 12 ≡ true = grind (arith, nat_tests) in get_sheet t1 (board r1) 3 j (omega arith) (omega arith) ∙ ap (λ b. cond b (digit n j) 0) f

    laid_out : Does input trail_code 135 start 135 (sided mid trail n s) (2 ^ 18 * (n + 1))
    laid_out =
        let is : number (digit n) 12 ≡ n = number_digits 12 n (omega arith) in
        let few : number (digit n) 12 < 2 ^ 23 = omega (arith, is, ln) in
        let run = trails_laid input start (digit n) s ls (λ j lt. digit_small n j) few start_blank (start_past trail (omega arith) (λ e. absurd (omega arith)) ∙ ground_none m taken output trail (omega arith))
        (get_past t1 (board r1) 168 (omega arith) ∙ get_put t 168 s) in
        goes_from start
        (comes_to (sided mid trail n s)
        (subst (λ k. Does input trail_code 135 (laned 3 start (digit n) 12) 135 (sided (put (laned 3 start (λ k. 0) 12) 168 0) trail k s) (2 ^ 18 * (k + 1))) is run)
        (ap (λ u. sided u trail n s) bare_is)) (laned_there 3 start (digit n) 12 (omega arith) lane_there)

    pub trail_reached : near (r 3) ≡ n → side (r 3) ≡ s → Does input (near_code ++ trail_code) 135 (rest r m taken output) 135 (sided mid trail n s) (2 ^ 11 + 2 ^ 18 * (n + 1))
    trail_reached en es = next (comes_to start (near_found input t r (ground_none m taken output 135 (omega arith)) (ground_none m taken output 168 (omega arith)) words) (λ i. sheet (put t 168 (es i)) (board (set_cell r 3 (en i))))) laid_out

  -- the record of the address and its half
  pub by_half : (A : Type 0) → ((n s : ℕ) → n < 2 ^ 23 → s < 2 → near (r 3) ≡ n → side (r 3) ≡ s → r 3 ≡ address n s → A) → A
  by_half A f = by (nat_lt (r 3) (2 ^ 23)) refl
    where
      by : (b : Bool) → nat_lt (r 3) (2 ^ 23) ≡ b → A
      by true e =
          let lt : r 3 < 2 ^ 23 = grind (arith, nat_tests) in
          f (r 3) 0 lt (omega arith) (ap (λ b. cond b (r 3) (2 ^ 24 - 1 - r 3)) e) (ap (λ b. cond b 0 1) e) refl
      by false e =
          let ge : 2 ^ 23 ≤ r 3 = grind (arith, nat_tests) in
          let top : r 3 < 2 ^ 24 = words 3 in
          f (2 ^ 24 - 1 - r 3) 1 (omega arith) (omega arith) (ap (λ b. cond b (r 3) (2 ^ 24 - 1 - r 3)) e) (ap (λ b. cond b 0 1) e) (omega arith)

module _ (input : List ℕ) (r m : ℕ → ℕ) (taken : ℕ) (output : List ℕ) (words : (l : ℕ) → r l < 2 ^ 24) (stored : (k : ℕ) → m k < 2 ^ 24) (none : r 6 ≡ 0) where
  abbrev tape : Tape
  tape = ground m taken output

  abbrev word : ℕ
  word = m (r 3)

  abbrev bare : ℕ → ℕ
  bare = set_cell r 3 0

  -- the word in lane y
  abbrev full : ℕ → ℕ
  full = set_cell bare 6 word

  abbrev begun : Tape
  begun = sheet tape (board bare)

  lane_none : (j : ℕ) → board bare j 6 ≡ 0
  lane_none j = ap (λ n. cond (nat_lt j 12) (digit n j) 0) none ∙ (ap (λ n. cond (nat_lt j 12) n 0) (digit_zero j) ∙ same_choice (nat_lt j 12) 0)

  empty : (i : ℕ) → i < 3 → IsEmpty begun i
  empty i li = record {
    first = get_sheet tape (board bare) 6 (4 * i + 0) (omega arith) (omega arith) ∙ lane_none (4 * i + 0);
    second = get_sheet tape (board bare) 6 (4 * i + 1) (omega arith) (omega arith) ∙ lane_none (4 * i + 1);
    third = get_sheet tape (board bare) 6 (4 * i + 2) (omega arith) (omega arith) ∙ lane_none (4 * i + 2);
    fourth = get_sheet tape (board bare) 6 (4 * i + 3) (omega arith) (omega arith) ∙ lane_none (4 * i + 3);
  }

  mid_lane : begun ≡ sheet tape (with_lane (board bare) 6 (λ j. 0))
  mid_lane = sheet_ext tape (board bare) (with_lane (board bare) 6 (λ j. 0)) (λ j l lj ll. by j l (nat_eq l 6) refl)
    where
      by : (j l : ℕ) (b : Bool) → nat_eq l 6 ≡ b → board bare j l ≡ cond b 0 (board bare j l)
      by j l true e = ap (board bare j) (eqb-true l 6 e) ∙ lane_none j
      by j l false e = refl

  word_lane : sheet tape (with_lane (board bare) 6 (bytes word (stored (r 3)))) ≡ sheet tape (board full)
  word_lane = sheet_ext tape (with_lane (board bare) 6 (bytes word (stored (r 3)))) (board full) (λ j l lj ll. by j l lj (nat_eq l 6) refl)
    where
      here : (j : ℕ) → j ≤ 12 → (b : Bool) → nat_eq j 12 ≡ b → bytes word (stored (r 3)) j ≡ board full j 6
      here j lj true e = subst (λ j. bytes word (stored (r 3)) j ≡ board full j 6) (sym (eqb-true j 12 e)) refl
      here j lj false e =
          let ne : j ≢ 12 = eqb-false j 12 e in
          let lt : j < 12 = omega arith in
          let f : nat_lt j 12 ≡ true = grind (arith, nat_tests) in
          bytes_digits word (stored (r 3)) j lt ∙ sym (ap (λ b. cond b (digit word j) 0) f)

      kept : (j l : ℕ) → l ≢ 6 → board bare j l ≡ board full j l
      kept j l ne = ap (λ n. cond (nat_lt j 12) (cond (nat_eq l 5) 1 (cond (nat_eq l 9) 0 (digit n j))) 0) (sym (set_other bare 6 word l ne))

      by : (j l : ℕ) → j ≤ 12 → (b : Bool) → nat_eq l 6 ≡ b → cond b (bytes word (stored (r 3)) j) (board bare j l) ≡ board full j l
      by j l lj true e = here j lj (nat_eq j 12) refl ∙ ap (board full j) (sym (eqb-true l 6 e))
      by j l lj false e = kept j l (eqb-false l 6 e)

  given_word : given (given (given begun 0 (byte_of word 0)) 1 (byte_of word 1)) 2 (byte_of word 2) ≡ sheet tape (board full)
  given_word =
      let x0 : ℕ → ℕ = byte_at (λ j. 0) 0 (byte_of word 0) in
      let x1 : ℕ → ℕ = byte_at x0 1 (byte_of word 1) in
      ap (λ u. given (given (given u 0 (byte_of word 0)) 1 (byte_of word 1)) 2 (byte_of word 2)) mid_lane
      ∙ (ap (λ u. given (given u 1 (byte_of word 1)) 2 (byte_of word 2)) (given_sheet tape (board bare) (λ j. 0) 0 (byte_of word 0) (omega arith))
      ∙ (ap (λ u. given u 2 (byte_of word 2)) (given_sheet tape (board bare) x0 1 (byte_of word 1) (omega arith))
      ∙ (given_sheet tape (board bare) x1 2 (byte_of word 2) (omega arith) ∙ word_lane)))

  loaded : (n s : ℕ) → n < 2 ^ 23 → s < 2 → r 3 ≡ address n s → Does input load_code trail (sided begun trail n s) trail (sheet tape (board full)) (700 * n + 67000)
  loaded n s ln ls at =
      comes_to (sheet tape (board full))
      (words_loaded input begun n s (byte_of word 0) (byte_of word 1) (byte_of word 2) ls (byte_small word (stored (r 3)) 0) (byte_small word (stored (r 3)) 1) (byte_small word (stored (r 3)) 2)
      (mid_blank input r m taken output words) (mid_none input r m taken output words) (is 0 (omega arith)) (is 1 (omega arith)) (is 2 (omega arith)) (empty 0 (omega arith)) (empty 1 (omega arith)) (empty 2 (omega arith))) given_word
    where
      is : (i : ℕ) → i < 3 → get begun (half trail n s + 1 + i) ≡ byte_of word i
      is i li = get_past tape (board bare) (half trail n s + 1 + i) (omega arith) ∙ (ground_byte m taken output (half trail n s + 1 + i) n s i ln ls li refl ∙ ap (λ k. byte_of (m k) i) (sym at))

  pub word_fetched : Does input fetch_code 135 (rest r m taken output) 135 (rest full m taken output) (2 ^ 19 * (near (r 3) + 1))
  word_fetched = by_half input r m taken output words (Does input fetch_code 135 (rest r m taken output) 135 (rest full m taken output) (2 ^ 19 * (near (r 3) + 1))) (λ n s ln ls en es at.
      subst (λ k. Does input fetch_code 135 (rest r m taken output) 135 (rest full m taken output) (2 ^ 19 * (k + 1))) (sym en)
      (does_within (2 ^ 19 * (n + 1))
      (next (next (next (trail_reached input r m taken output words n s ln ls en es) (does_goto input 135 trail (sided begun trail n s) 29 (omega arith))) (loaded n s ln ls at)) (does_goto input trail 135 (sheet tape (board full)) 29 (omega arith))) (omega arith)))

pub words_fetched : WordsAreFetched
words_fetched input r m taken output words stored none = word_fetched input r m taken output words stored none
