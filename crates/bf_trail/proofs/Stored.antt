-- A word from lane y to a half record.
use Rattle.std.proofs.Common.{◌≡◌, ◌≢◌, ℕ, zero, suc, ◌+◌, ◌-◌, ◌*◌, ◌/◌, ◌%◌, ◌^◌, ◌<◌, ◌≤◌, Bool, true, false, nat_eq, cond, List, [], ◌∷◌, ◌++◌, refl, sym, ap, ◌∙◌, arith}
use Rattle.std.proofs.Math.Nat.{mul-le-mul_right}
use Rattle.std.proofs.lemmas.Bool.{eqb-true, eqb-false}
use Rattle.bf_lang.specs.declared.command.Command.TheVariants.{Right, Left, Plus, Minus}
use Rattle.bf_lang.specs.Balance.{IsBalanced}
use Rattle.bf_lang.specs.Cells.{raised, lowered}
use Rattle.bf_lang.proofs.Partners.{balanced_append}
use Rattle.bf_tape.specs.Tape.{Tape, get, put, set_cell}
use Rattle.bf_tape.specs.Does.{Does, loop}
use Rattle.bf_tape.specs.Slots.{holding, AreApart, IsNew}
use Rattle.bf_tape.specs.Code.{many, goto_code}
use Rattle.bf_tape.proofs.Slotted.{get_held, put_held, get_free, held}
use Rattle.bf_tape.proofs.Moves.{does_minus, does_none, does_loop, does_within}
use Rattle.bf_tape.proofs.Pieces.{by_bytes, does_rights, does_lefts, does_goto, counted, minus_at, plus_at, balanced_many, balanced_goto}
use Rattle.bf_columns.specs.Lanes.{lane_cell, laned}
use Rattle.bf_tape.proofs.Turning.{get_put, get_other}
use Rattle.bf_columns.proofs.Tapes.{next, between, comes_to, goes_from, put_same, put_is, put_swap}
use Rattle.bf_columns.proofs.Lanes.{fun_ext, set_at, set_other, set_again, laned_ext, get_laned, get_laned_other, put_laned}
use Rattle.bf_trail.specs.Trail.{laid, IsBlank}
use Rattle.bf_trail.specs.Nest.{trail}
use Rattle.bf_trail.specs.Sides.{end_of, out_side_code, back_side_code, half, sided, AtHalf}
use Rattle.bf_trail.specs.Store.{store_unit, digits_out, byte_in, store_code, byte_from, stored, WordsAreStored}
use Rattle.bf_trail.proofs.Sided.{reached, trails_taken_up}
use Rattle.bf_trail.proofs.Marks.{laid_put}
use Rattle.bf_trail.proofs.Fetched.{pluses}
use Rattle.bf_trail.proofs.Loaded.{sided_other}

-- a cell becomes 0, whatever it has
pub clear_any : (input : List ℕ) (c : ℕ) (s : Tape) → Does input (loop (Minus ∷ [])) c s c (put s c 0) 511
clear_any input c s = by_bytes refl (λ bytes.
    let n : ℕ = get s c in
    let at : ℕ → Tape = λ k. holding s (c ∷ []) (k ∷ []) in
    does_within 511 (goes_from s (does_loop refl (counted input (Minus ∷ []) c 1 n at (λ k. get_held s (c ∷ []) (k ∷ []) 0 (tt, tt) (omega arith) refl) (λ k lt. minus_at input s (c ∷ []) (tt, tt) (suc k ∷ []) 0 (omega arith) refl) n (omega arith))) (held s (c ∷ [])))
    (omega (arith, bytes (s.base + c))))

module _ (input : List ℕ) (t : Tape) (n side : ℕ) (ls : side < 2) (at : AtHalf t trail n side) where
  abbrev p : ℕ
  p = half trail n side

  abbrev accs : List ℕ
  accs = (p + 8) ∷ (p + 12) ∷ (p + 16) ∷ []

  apart : AreApart accs
  apart = ((omega arith, (omega arith, tt)), ((omega arith, tt), (tt, tt)))

  -- digits in lane y, and what was brought for the bytes
  abbrev state : (ℕ → ℕ) → (ℕ → ℕ) → Tape
  state x v = holding (laned 6 t x 12) accs (v 0 ∷ v 1 ∷ v 2 ∷ [])

  new_acc : (c : ℕ) → c < p + 8 → IsNew c accs
  new_acc c lt = (omega arith, (omega arith, (omega arith, tt)))

  lane_is : (x v : ℕ → ℕ) (j : ℕ) → j < 12 → get (state x v) (lane_cell 6 j) ≡ x j
  lane_is x v j lt = get_free (laned 6 t x 12) (lane_cell 6 j) accs (v 0 ∷ v 1 ∷ v 2 ∷ []) (new_acc (lane_cell 6 j) (omega arith)) ∙ get_laned 6 t x 12 j (omega arith) lt

  lane_put : (x v : ℕ → ℕ) (j y : ℕ) → j < 12 → put (state x v) (lane_cell 6 j) y ≡ state (set_cell x j y) v
  lane_put x v j y lt =
      let l : Tape = laned 6 t x 12 in
      let c : ℕ = lane_cell 6 j in
      put_swap (put (put l (p + 16) (v 2)) (p + 12) (v 1)) (p + 8) c (v 0) y (λ e. absurd (omega arith))
      ∙ (ap (λ u. put u (p + 8) (v 0)) (put_swap (put l (p + 16) (v 2)) (p + 12) c (v 1) y (λ e. absurd (omega arith)))
      ∙ (ap (λ u. put (put u (p + 12) (v 1)) (p + 8) (v 0)) (put_swap l (p + 16) c (v 2) y (λ e. absurd (omega arith)))
      ∙ ap (λ u. put (put (put u (p + 16) (v 2)) (p + 12) (v 1)) (p + 8) (v 0)) (put_laned 6 t x 12 j y (omega arith) lt)))

  acc_is : (x v : ℕ → ℕ) (i : ℕ) → i < 3 → get (state x v) (p + (8 + 4 * i)) ≡ v i
  acc_is x v zero lt = let e : p + (8 + 4 * 0) ≡ p + 8 = omega arith in ap (get (state x v)) e ∙ get_held (laned 6 t x 12) accs (v 0 ∷ v 1 ∷ v 2 ∷ []) 0 apart (omega arith) refl
  acc_is x v (suc zero) lt = let e : p + (8 + 4 * 1) ≡ p + 12 = omega arith in ap (get (state x v)) e ∙ get_held (laned 6 t x 12) accs (v 0 ∷ v 1 ∷ v 2 ∷ []) 1 apart (omega arith) refl
  acc_is x v (suc (suc zero)) lt = let e : p + (8 + 4 * 2) ≡ p + 16 = omega arith in ap (get (state x v)) e ∙ get_held (laned 6 t x 12) accs (v 0 ∷ v 1 ∷ v 2 ∷ []) 2 apart (omega arith) refl
  acc_is x v (suc (suc (suc i))) lt = absurd (omega arith)

  acc_put : (x v : ℕ → ℕ) (i y : ℕ) → i < 3 → put (state x v) (p + (8 + 4 * i)) y ≡ state x (set_cell v i y)
  acc_put x v zero y lt = let e : p + (8 + 4 * 0) ≡ p + 8 = omega arith in ap (λ c. put (state x v) c y) e ∙ put_held (laned 6 t x 12) accs (v 0 ∷ v 1 ∷ v 2 ∷ []) 0 y apart (omega arith) refl
  acc_put x v (suc zero) y lt = let e : p + (8 + 4 * 1) ≡ p + 12 = omega arith in ap (λ c. put (state x v) c y) e ∙ put_held (laned 6 t x 12) accs (v 0 ∷ v 1 ∷ v 2 ∷ []) 1 y apart (omega arith) refl
  acc_put x v (suc (suc zero)) y lt = let e : p + (8 + 4 * 2) ≡ p + 16 = omega arith in ap (λ c. put (state x v) c y) e ∙ put_held (laned 6 t x 12) accs (v 0 ∷ v 1 ∷ v 2 ∷ []) 2 y apart (omega arith) refl
  acc_put x v (suc (suc (suc i))) y lt = absurd (omega arith)

  -- the way to the half record is told by other cells
  kept : (x v : ℕ → ℕ) (c : ℕ) → 164 ≤ c → c < p + 8 → get (state x v) c ≡ get t c
  kept x v c ge lt = get_free (laned 6 t x 12) c accs (v 0 ∷ v 1 ∷ v 2 ∷ []) (new_acc c lt) ∙ get_laned_other 6 t x 12 c (λ k lk e. absurd (omega arith))

  stays : (x v : ℕ → ℕ) → AtHalf (state x v) trail n side
  stays x v = record {
    trail = record {
      before = kept x v trail (omega arith) (omega arith) ∙ at.trail.before;
      marks = λ k lt. kept x v (trail + 8 * (k + 1)) (omega arith) (omega arith) ∙ at.trail.marks k lt;
      end = kept x v (trail + 8 * (n + 1)) (omega arith) (omega arith) ∙ at.trail.end;
    };
    beside = kept x v (end_of trail n + 4) (omega arith) (omega arith) ∙ at.beside;
    guard = kept x v (p + 4) (omega arith) (omega arith) ∙ at.guard;
  }

  -- one unit brought
  unit_brought : (x v : ℕ → ℕ) (j w : ℕ) → j < 12 → v (j / 4) < 256 → 4 ^ (j % 4) ≡ w → w ≤ 64 → Does input (store_unit j) (lane_cell 6 j) (state x v) (lane_cell 6 j) (state x (set_cell v (j / 4) ((v (j / 4) + w) % 256))) (18 * n + 450)
  unit_brought x v j w lt small w_is few =
      let i : ℕ = j / 4 in
      let c : ℕ = p + (8 + 4 * i) in
      let s : Tape = state x v in
      let s' : Tape = state x (set_cell v i ((v i + w) % 256)) in
      let li : i < 3 = omega arith in
      let up0 : Does input (many (4 ^ (j % 4)) Plus) c s c (put s c ((v i + 4 ^ (j % 4)) % 256)) (4 ^ (j % 4)) = pluses input (4 ^ (j % 4)) c (v i) s (acc_is x v i li) small in
      let up : Does input (many (4 ^ (j % 4)) Plus) c s c s' 64 = does_within 64 (comes_to s' up0 (ap (λ q. put s c ((v i + q) % 256)) w_is ∙ acc_put x v i ((v i + w) % 256) li)) (omega (arith, w_is, few)) in
      does_within (18 * n + 450)
      (next (next (next (next (next (next (does_goto input (lane_cell 6 j) trail s 150 (omega arith)) (reached input s trail n side ls (stays x v)).out)
      (does_rights input (8 + 4 * i) p s)) up) (does_lefts input (8 + 4 * i) p s'))
      (reached input s' trail n side ls (stays x (set_cell v i ((v i + w) % 256)))).back) (does_goto input trail (lane_cell 6 j) s' 150 (omega arith))) (omega arith)

  unit_balanced : (j : ℕ) → IsBalanced (Minus ∷ store_unit j)
  unit_balanced j =
      let y : ℕ = lane_cell 6 j in
      let r : ℕ = 8 + 4 * (j / 4) in
      balanced_append (Minus ∷ []) (store_unit j) refl
      (balanced_append (goto_code y trail ++ out_side_code ++ many r Right ++ many (4 ^ (j % 4)) Plus ++ many r Left ++ back_side_code) (goto_code trail y)
      (balanced_append (goto_code y trail ++ out_side_code ++ many r Right ++ many (4 ^ (j % 4)) Plus ++ many r Left) back_side_code
      (balanced_append (goto_code y trail ++ out_side_code ++ many r Right ++ many (4 ^ (j % 4)) Plus) (many r Left)
      (balanced_append (goto_code y trail ++ out_side_code ++ many r Right) (many (4 ^ (j % 4)) Plus)
      (balanced_append (goto_code y trail ++ out_side_code) (many r Right) (balanced_append (goto_code y trail) out_side_code (balanced_goto y trail) refl) (balanced_many r Right refl))
      (balanced_many (4 ^ (j % 4)) Plus refl)) (balanced_many r Left refl)) refl) (balanced_goto trail y))

  -- so many units of a digit, of which some are to come
  abbrev brought : (ℕ → ℕ) → (ℕ → ℕ) → ℕ → ℕ → ℕ → ℕ → Tape
  brought x v j w top k = state (set_cell x j k) (set_cell v (j / 4) ((v (j / 4) + w * (top - k)) % 256))

  digit_brought : (x v : ℕ → ℕ) (j w top : ℕ) → j < 12 → x j ≡ top → top < 4 → v (j / 4) < 256 → 4 ^ (j % 4) ≡ w → w ≤ 64
      → Does input (loop (Minus ∷ store_unit j)) (lane_cell 6 j) (state x v) (lane_cell 6 j) (state (set_cell x j 0) (set_cell v (j / 4) ((v (j / 4) + w * top) % 256))) (54 * n + 1400)
  digit_brought x v j w top lt is four small w_is few =
      let i : ℕ = j / 4 in
      let start : brought x v j w top top ≡ state x v =
      (let z : top - top ≡ 0 = omega arith in
      let m : (v i + w * (top - top)) % 256 ≡ v i = (let q : w * (top - top) ≡ 0 = ap (λ k. w * k) z ∙ (let o : w * 0 ≡ 0 = omega arith in o) in omega (arith, q, small)) in
      (λ q. state (set_cell x j (sym is q)) (set_cell v i (m q))) ∙ (λ q. state (same_cell x j q) (same_cell v i q))) in
      let end : brought x v j w top 0 ≡ state (set_cell x j 0) (set_cell v i ((v i + w * top) % 256)) = (let z : top - 0 ≡ top = omega arith in ap (λ k. state (set_cell x j 0) (set_cell v i ((v i + w * k) % 256))) z) in
      let few_turns : top * (18 * n + 451 + 1) ≤ 3 * (18 * n + 451 + 1) = mul-le-mul_right (18 * n + 451 + 1) (let f : top ≤ 3 = omega arith in f) in
      does_within (54 * n + 1400)
      (comes_to (state (set_cell x j 0) (set_cell v i ((v i + w * top) % 256)))
      (goes_from (state x v) (does_loop (unit_balanced j) (counted input (Minus ∷ store_unit j) (lane_cell 6 j) (18 * n + 451) top (brought x v j w top)
      (λ k. lane_is (set_cell x j k) (set_cell v i ((v i + w * (top - k)) % 256)) j lt ∙ set_at x j k) (λ k lk. turn k lk) top (omega arith))) start) end) (omega (arith, few_turns))
    where
      same_cell : (f : ℕ → ℕ) (q : ℕ) → set_cell f q (f q) ≡ f
      same_cell f q = fun_ext (λ k. by (nat_eq k q) refl)
        where
          by : {k : ℕ} (b : Bool) → nat_eq k q ≡ b → cond b (f q) (f k) ≡ f k
          by true e = ap f (sym (eqb-true _ _ e))
          by false e = refl

      turn : (k : ℕ) → k < top → Does input (Minus ∷ store_unit j) (lane_cell 6 j) (brought x v j w top (suc k)) (lane_cell 6 j) (brought x v j w top k) (18 * n + 451)
      turn k lk =
          let i : ℕ = j / 4 in
          let u : ℕ = (v i + w * (top - suc k)) % 256 in
          let x' : ℕ → ℕ = set_cell x j (suc k) in
          let v' : ℕ → ℕ = set_cell v i u in
          let s : Tape = state x' v' in
          let down : put s (lane_cell 6 j) (lowered (get s (lane_cell 6 j))) ≡ state (set_cell x j k) v' =
          ap (λ q. put s (lane_cell 6 j) (lowered q)) (lane_is x' v' j lt ∙ set_at x j (suc k)) ∙ (lane_put x' v' j k lt ∙ ap (λ f. state f v') (set_again x j (suc k) k)) in
          let u_is : v' i ≡ u = set_at v i u in
          let small' : v' i < 256 = (let m : u < 256 = omega arith in omega (arith, u_is, m)) in
          let more : (v' i + w) % 256 ≡ (v i + w * (top - k)) % 256 =
          (let y : ℕ = top - suc k in
          let e : top - k ≡ suc y = omega arith in
          let f : w * (top - k) ≡ w * y + w = ap (λ q. w * q) e ∙ (let g : w * suc y ≡ w * y + w = omega arith in g) in
          omega (arith, u_is, f)) in
          does_within (18 * n + 451)
          (comes_to (brought x v j w top k)
          (next (comes_to (state (set_cell x j k) v') (does_minus input (lane_cell 6 j) s) down) (unit_brought (set_cell x j k) v' j w lt small' w_is few))
          (ap (λ q. state (set_cell x j k) (set_cell v' i q)) more ∙ ap (state (set_cell x j k)) (set_again v i u ((v i + w * (top - k)) % 256)))) (omega arith)

  -- what is brought by so many digits
  abbrev sums : (ℕ → ℕ) → ℕ → ℕ → ℕ
  sums a zero i = 0
  sums a (suc m) i = set_cell (sums a m) (m / 4) ((sums a m (m / 4) + 4 ^ (m % 4) * a m) % 256) i

  -- lane y where so many digits are gone
  abbrev left_of : (ℕ → ℕ) → ℕ → ℕ → ℕ
  left_of a zero k = a k
  left_of a (suc m) k = set_cell (left_of a m) m 0 k

  left_is : (a : ℕ → ℕ) (m k : ℕ) → m ≤ k → left_of a m k ≡ a k
  left_is a zero k le = refl
  left_is a (suc m) k le = set_other (left_of a m) m 0 k (λ e. absurd (omega arith)) ∙ left_is a m k (omega arith)

  left_none : (a : ℕ → ℕ) (m k : ℕ) → k < m → left_of a m k ≡ 0
  left_none a zero k lt = absurd (omega arith)
  left_none a (suc m) k lt = by (nat_eq k m) refl (λ l. left_none a m k l)
    where
      by : (b : Bool) → nat_eq k m ≡ b → (k < m → left_of a m k ≡ 0) → cond b 0 (left_of a m k) ≡ 0
      by true e f = refl
      by false e f = let ne : k ≢ m = eqb-false k m e in f (omega arith)

  sums_small : (a : ℕ → ℕ) (m i : ℕ) → sums a m i < 256
  sums_small a zero i = omega arith
  sums_small a (suc m) i = by (nat_eq i (m / 4)) (sums_small a m i)
    where
      by : (b : Bool) → sums a m i < 256 → cond b ((sums a m (m / 4) + 4 ^ (m % 4) * a m) % 256) (sums a m i) < 256
      by true lt = omega arith
      by false lt = lt

  power_small : (m : ℕ) → m < 4 → 4 ^ m ≤ 64
  power_small zero lt = omega arith
  power_small (suc zero) lt = omega arith
  power_small (suc (suc zero)) lt = omega arith
  power_small (suc (suc (suc zero))) lt = omega arith
  power_small (suc (suc (suc (suc m)))) lt = absurd (omega arith)

  all_brought : (a : ℕ → ℕ) (m : ℕ) → m ≤ 12 → ((j : ℕ) → j < 12 → a j < 4) → Does input (digits_out m) trail (state a (λ i. 0)) trail (state (left_of a m) (sums a m)) (m * (54 * n + 1700))
  all_brought a zero le small = does_within (0 * (54 * n + 1700)) (does_none input trail (state a (λ i. 0))) (omega arith)
  all_brought a (suc m) le small =
      let x : ℕ → ℕ = left_of a m in
      let v : ℕ → ℕ = sums a m in
      let s : Tape = state x v in
      let s' : Tape = state (left_of a (suc m)) (sums a (suc m)) in
      let y : ℕ = lane_cell 6 m in
      let one : Does input (loop (Minus ∷ store_unit m)) y s y s' (54 * n + 1400) =
      digit_brought x v m (4 ^ (m % 4)) (a m) (omega arith) (left_is a m m (omega arith)) (small m (omega arith)) (sums_small a m (m / 4)) refl (power_small (m % 4) (omega arith)) in
      does_within (suc m * (54 * n + 1700))
      (next (next (next (all_brought a m (omega arith) small) (does_goto input trail y s 150 (omega arith))) one) (does_goto input y trail s' 150 (omega arith))) (omega arith)

  -- a byte of the half record takes what was brought
  byte_taken : (s : Tape) (i v : ℕ) → i < 3 → get s (p + (8 + 4 * i)) ≡ v → v < 256 → Does input (byte_in i) p s p (put (put s (p + (1 + i)) v) (p + (8 + 4 * i)) 0) 9000
  byte_taken s i v li is lv =
      let byte : ℕ = p + (1 + i) in
      let acc : ℕ = p + (8 + 4 * i) in
      let s1 : Tape = put s byte 0 in
      let two : List ℕ = acc ∷ byte ∷ [] in
      let apart_two : AreApart two = ((omega arith, tt), (tt, tt)) in
      let row : ℕ → Tape = λ k. holding s1 two (k ∷ (v - k) ∷ []) in
      let to : byte + (7 + 3 * i) ≡ acc = omega arith in
      let turn : (k : ℕ) → k < v → Does input (Minus ∷ many (7 + 3 * i) Left ++ (Plus ∷ []) ++ many (7 + 3 * i) Right) acc (row (suc k)) acc (row k) 28 = λ k lk.
      let up : raised (v - suc k) ≡ v - k = omega arith in
      let mid : Tape = holding s1 two (k ∷ (v - suc k) ∷ []) in
      does_within 28
      (next (next (next (minus_at input s1 two apart_two (suc k ∷ (v - suc k) ∷ []) 0 (omega arith) refl) (between acc byte (does_lefts input (7 + 3 * i) byte mid) to refl))
      (comes_to (row k) (plus_at input s1 two apart_two (k ∷ (v - suc k) ∷ []) 1 (omega arith) refl) (ap (λ x. holding s1 two (k ∷ x ∷ [])) up)))
      (between byte acc (does_rights input (7 + 3 * i) byte (row k)) refl to)) (omega arith) in
      let b : IsBalanced (Minus ∷ many (7 + 3 * i) Left ++ (Plus ∷ []) ++ many (7 + 3 * i) Right) =
      balanced_append (Minus ∷ many (7 + 3 * i) Left ++ (Plus ∷ [])) (many (7 + 3 * i) Right)
      (balanced_append (Minus ∷ many (7 + 3 * i) Left) (Plus ∷ []) (balanced_append (Minus ∷ []) (many (7 + 3 * i) Left) refl (balanced_many (7 + 3 * i) Left refl)) refl) (balanced_many (7 + 3 * i) Right refl) in
      let acc_kept : get s1 acc ≡ v = get_other s byte acc 0 (λ e. absurd (omega arith)) ∙ is in
      let start : row v ≡ s1 = (let z : v - v ≡ 0 = omega arith in (λ q. holding s1 two (sym acc_kept q ∷ (z ∙ sym (get_put s byte 0)) q ∷ [])) ∙ held s1 two) in
      let end : row 0 ≡ put (put s byte v) acc 0 = (let z : v - 0 ≡ v = omega arith in ap (λ k. put (put s1 byte k) acc 0) z ∙ ap (λ u. put u acc 0) (put_same s byte 0 v)) in
      let moved : Does input (loop (Minus ∷ many (7 + 3 * i) Left ++ (Plus ∷ []) ++ many (7 + 3 * i) Right)) acc s1 acc (put (put s byte v) acc 0) (v * 29 + 1) =
      comes_to (put (put s byte v) acc 0) (goes_from s1 (does_loop b (counted input (Minus ∷ many (7 + 3 * i) Left ++ (Plus ∷ []) ++ many (7 + 3 * i) Right) acc 28 v row (λ k. get_held s1 two (k ∷ (v - k) ∷ []) 0 apart_two (omega arith) refl) turn v (omega arith))) start) end in
      let u : Tape = put (put s byte v) acc 0 in
      does_within 9000
      (next (next (next (next (does_rights input (1 + i) p s) (clear_any input byte s)) (between byte acc (does_rights input (7 + 3 * i) byte s1) refl to)) moved) (does_lefts input (8 + 4 * i) p u)) (omega arith)

  -- all three, where nothing was brought before
  module _ (l : Tape) (v0 v1 v2 : ℕ) (z0 : get l (p + 8) ≡ 0) (z1 : get l (p + 12) ≡ 0) (z2 : get l (p + 16) ≡ 0) (s0 : v0 < 256) (s1 : v1 < 256) (s2 : v2 < 256) where
    abbrev b0 : ℕ
    b0 = p + (1 + 0)

    abbrev b1 : ℕ
    b1 = p + (1 + 1)

    abbrev b2 : ℕ
    b2 = p + (1 + 2)

    abbrev full : Tape
    full = holding l accs (v0 ∷ v1 ∷ v2 ∷ [])

    abbrev last : Tape
    last = put (put (put l b0 v0) b1 v1) b2 v2

    abbrev one_taken : Tape
    one_taken = put (put (put l (p + 16) v2) (p + 12) v1) b0 v0

    abbrev two_taken : Tape
    two_taken = put (put (put l (p + 16) v2) b0 v0) b1 v1

    bytes_taken : Does input (byte_in 0) p full p one_taken 9000 × Does input (byte_in 1) p one_taken p two_taken 9000 × Does input (byte_in 2) p two_taken p last 9000
    bytes_taken =
        let m2 : Tape = put l (p + 16) v2 in
        let m1 : Tape = put m2 (p + 12) v1 in
        let a0 : p + (8 + 4 * 0) ≡ p + 8 = omega arith in
        let a1 : p + (8 + 4 * 1) ≡ p + 12 = omega arith in
        let a2 : p + (8 + 4 * 2) ≡ p + 16 = omega arith in
        let t1 : Tape = put m1 b0 v0 in
        let t2 : Tape = put (put m2 b0 v0) b1 v1 in
        let g0 : get full (p + (8 + 4 * 0)) ≡ v0 = ap (get full) a0 ∙ get_put m1 (p + 8) v0 in
        let g1 : get t1 (p + (8 + 4 * 1)) ≡ v1 = ap (get t1) a1 ∙ (get_other m1 b0 (p + 12) v0 (λ e. absurd (omega arith)) ∙ get_put m2 (p + 12) v1) in
        let g2 : get t2 (p + (8 + 4 * 2)) ≡ v2 = ap (get t2) a2 ∙ (get_other (put m2 b0 v0) b1 (p + 16) v1 (λ e. absurd (omega arith)) ∙ (get_other m2 b0 (p + 16) v0 (λ e. absurd (omega arith)) ∙ get_put l (p + 16) v2)) in
        let n1 : get m1 (p + 8) ≡ 0 = get_other m2 (p + 12) (p + 8) v1 (λ e. absurd (omega arith)) ∙ (get_other l (p + 16) (p + 8) v2 (λ e. absurd (omega arith)) ∙ z0) in
        let n2 : get m2 (p + 12) ≡ 0 = get_other l (p + 16) (p + 12) v2 (λ e. absurd (omega arith)) ∙ z1 in
        let e1 : put (put full b0 v0) (p + (8 + 4 * 0)) 0 ≡ t1 =
        ap (λ c. put (put full b0 v0) c 0) a0 ∙ (put_swap full b0 (p + 8) v0 0 (λ e. absurd (omega arith)) ∙ ap (λ u. put u b0 v0) (put_same m1 (p + 8) v0 0 ∙ put_is m1 (p + 8) 0 n1)) in
        let e2 : put (put t1 b1 v1) (p + (8 + 4 * 1)) 0 ≡ t2 =
        ap (λ c. put (put t1 b1 v1) c 0) a1 ∙ (put_swap t1 b1 (p + 12) v1 0 (λ e. absurd (omega arith)) ∙ ap (λ u. put u b1 v1) (put_swap m1 b0 (p + 12) v0 0 (λ e. absurd (omega arith)) ∙ ap (λ u. put u b0 v0) (put_same m2 (p + 12) v1 0 ∙ put_is m2 (p + 12) 0 n2))) in
        let e3 : put (put t2 b2 v2) (p + (8 + 4 * 2)) 0 ≡ last =
        ap (λ c. put (put t2 b2 v2) c 0) a2 ∙ (put_swap t2 b2 (p + 16) v2 0 (λ e. absurd (omega arith)) ∙ ap (λ u. put u b2 v2)
        (put_swap (put m2 b0 v0) b1 (p + 16) v1 0 (λ e. absurd (omega arith)) ∙ ap (λ u. put u b1 v1)
        (put_swap m2 b0 (p + 16) v0 0 (λ e. absurd (omega arith)) ∙ ap (λ u. put u b0 v0) (put_same l (p + 16) v2 0 ∙ put_is l (p + 16) 0 z2)))) in
        (comes_to t1 (byte_taken full 0 v0 (omega arith) g0 s0) e1, comes_to t2 (byte_taken t1 1 v1 (omega arith) g1 s1) e2, comes_to last (byte_taken t2 2 v2 (omega arith) g2 s2) e3)

-- a cell beside the trail's marks, put before or after the trail is laid
sided_beside : (s : Tape) (n side c v : ℕ) → ((k : ℕ) → k < n → trail + 8 + 8 * k ≢ c) → end_of trail n + 4 ≢ c → put (sided s trail n side) c v ≡ sided (put s c v) trail n side
sided_beside s n side c v off beside =
    sym (ap (λ x. put x (end_of trail n + 4) side) (laid_put s (trail + 8) n c v off) ∙ put_swap (laid s (trail + 8) n) c (end_of trail n + 4) v side (λ e. beside (sym e)))

sided_lane : (s : Tape) (n side m : ℕ) (x : ℕ → ℕ) → m ≤ 12 → laned 6 (sided s trail n side) x m ≡ sided (laned 6 s x m) trail n side
sided_lane s n side zero x le = refl
sided_lane s n side (suc m) x le =
    ap (λ u. put u (lane_cell 6 m) (x m)) (sided_lane s n side m x (omega arith))
    ∙ sided_beside (laned 6 s x m) n side (lane_cell 6 m) (x m) (λ k lk e. absurd (omega arith)) (λ e. absurd (omega arith))

module _ (input : List ℕ) (s : Tape) (n side : ℕ) (a : ℕ → ℕ) (ls : side < 2) (small : (j : ℕ) → j < 12 → a j < 4) (blank : IsBlank s (trail + 8)) (none : get s trail ≡ 0) (is : (j : ℕ) → j < 12 → get s (lane_cell 6 j) ≡ a j) where
  abbrev q : ℕ
  q = half trail n side

  abbrev t : Tape
  t = sided s trail n side

  at_start : AtHalf t trail n side
  at_start = (trails_taken_up input s trail n side ls blank none).0

  -- a mark place right of the half record
  mark_none : (m c : ℕ) → 2 ≤ m → q + 4 * m ≡ c → get t c ≡ 0
  mark_none m c le e =
      let f : trail + 8 + 4 * (2 * n + side + m) ≡ c = omega arith in
      sided_other s n side c (λ k lk g. absurd (omega arith)) (λ g. absurd (omega arith)) ∙ (ap (get s) (sym f) ∙ blank.at (2 * n + side + m))

  lane_here : (j : ℕ) → j < 12 → get t (lane_cell 6 j) ≡ a j
  lane_here j lt = sided_other s n side (lane_cell 6 j) (λ k lk e. absurd (omega arith)) (λ e. absurd (omega arith)) ∙ is j lt

  -- the tape itself, by its digits
  laned_self : (m : ℕ) → m ≤ 12 → laned 6 t a m ≡ t
  laned_self zero le = refl
  laned_self (suc m) le = ap (λ u. put u (lane_cell 6 m) (a m)) (laned_self m (omega arith)) ∙ put_is t (lane_cell 6 m) (a m) (lane_here m (omega arith))

  abbrev begin_state : Tape
  begin_state = state input t n side ls at_start a (λ i. 0)

  begin_is : begin_state ≡ t
  begin_is =
      ap (λ u. put (put (put u (q + 16) 0) (q + 12) 0) (q + 8) 0) (laned_self 12 (omega arith))
      ∙ (ap (λ u. put (put u (q + 12) 0) (q + 8) 0) (put_is t (q + 16) 0 (mark_none 4 (q + 16) (omega arith) (omega arith)))
      ∙ (ap (λ u. put u (q + 8) 0) (put_is t (q + 12) 0 (mark_none 3 (q + 12) (omega arith) (omega arith)))
      ∙ put_is t (q + 8) 0 (mark_none 2 (q + 8) (omega arith) (omega arith))))

  total : (a0 a1 a2 a3 : ℕ) → a0 < 4 → a1 < 4 → a2 < 4 → a3 < 4 → (((((0 + 1 * a0) % 256 + 4 * a1) % 256 + 16 * a2) % 256) + 64 * a3) % 256 ≡ a0 + 4 * a1 + 16 * a2 + 64 * a3
  total a0 a1 a2 a3 l0 l1 l2 l3 = omega arith

  word_from : (x v : ℕ → ℕ) → ((k : ℕ) → k < 12 → x k ≡ 0) → ((i : ℕ) → v i < 256) → v 0 ≡ byte_from a 0 → v 1 ≡ byte_from a 1 → v 2 ≡ byte_from a 2
      → Does input (digits_out 12) trail begin_state trail (state input t n side ls at_start x v) (12 * (54 * n + 1700)) → Does input store_code trail t trail (stored s q a) (700 * n + 60000)
  word_from x v gone few v0 v1 v2 brought =
      let l : Tape = laned 6 t x 12 in
      let l' : Tape = laned 6 t (λ k. 0) 12 in
      let l_is : l ≡ l' = laned_ext 6 t x (λ k. 0) 12 (λ k lk. gone k lk) in
      let far : (c : ℕ) → 164 ≤ c → get l' c ≡ get t c = λ c le. get_laned_other 6 t (λ k. 0) 12 c (λ k lk e. absurd (omega arith)) in
      let full : Tape = holding l' ((q + 8) ∷ (q + 12) ∷ (q + 16) ∷ []) (v 0 ∷ v 1 ∷ v 2 ∷ []) in
      let full_is : state input t n side ls at_start x v ≡ full = ap (λ u. holding u ((q + 8) ∷ (q + 12) ∷ (q + 16) ∷ []) (v 0 ∷ v 1 ∷ v 2 ∷ [])) l_is in
      let out = (reached input (state input t n side ls at_start x v) trail n side ls (stays input t n side ls at_start x v)).out in
      let taken = bytes_taken input t n side ls at_start l' (v 0) (v 1) (v 2) (far (q + 8) (omega arith) ∙ mark_none 2 (q + 8) (omega arith) (omega arith)) (far (q + 12) (omega arith) ∙ mark_none 3 (q + 12) (omega arith) (omega arith)) (far (q + 16) (omega arith) ∙ mark_none 4 (q + 16) (omega arith) (omega arith)) (few 0) (few 1) (few 2) in
      let s' : Tape = laned 6 s (λ k. 0) 12 in
      let c0 : q + (1 + 0) ≡ q + 1 = omega arith in
      let c1 : q + (1 + 1) ≡ q + 2 = omega arith in
      let c2 : q + (1 + 2) ≡ q + 3 = omega arith in
      let w0 : ℕ = byte_from a 0 in let w1 : ℕ = byte_from a 1 in let w2 : ℕ = byte_from a 2 in
      let last_is : put (put (put l' (q + (1 + 0)) (v 0)) (q + (1 + 1)) (v 1)) (q + (1 + 2)) (v 2) ≡ sided (stored s q a) trail n side =
      (λ i. put (put (put l' (c0 i) (v0 i)) (c1 i) (v1 i)) (c2 i) (v2 i))
      ∙ (ap (λ u. put (put (put u (q + 1) w0) (q + 2) w1) (q + 3) w2) (sided_lane s n side 12 (λ k. 0) (omega arith))
      ∙ (ap (λ u. put (put u (q + 2) w1) (q + 3) w2) (sided_beside s' n side (q + 1) w0 (λ k lk e. absurd (omega arith)) (λ e. absurd (omega arith)))
      ∙ (ap (λ u. put u (q + 3) w2) (sided_beside (put s' (q + 1) w0) n side (q + 2) w1 (λ k lk e. absurd (omega arith)) (λ e. absurd (omega arith)))
      ∙ sided_beside (put (put s' (q + 1) w0) (q + 2) w1) n side (q + 3) w2 (λ k lk e. absurd (omega arith)) (λ e. absurd (omega arith))))) in
      let kept : (c : ℕ) → 164 ≤ c → c ≢ q + 1 → c ≢ q + 2 → c ≢ q + 3 → get (stored s q a) c ≡ get s c = λ c le d1 d2 d3.
      get_other (put (put s' (q + 1) w0) (q + 2) w1) (q + 3) c w2 (λ e. d3 (sym e)) ∙ (get_other (put s' (q + 1) w0) (q + 2) c w1 (λ e. d2 (sym e)) ∙ (get_other s' (q + 1) c w0 (λ e. d1 (sym e))
      ∙ get_laned_other 6 s (λ k. 0) 12 c (λ k lk e. absurd (omega arith)))) in
      let blank' : IsBlank (stored s q a) (trail + 8) = record { at = λ k. kept (trail + 8 + 4 * k) (omega arith) (λ e. absurd (omega arith)) (λ e. absurd (omega arith)) (λ e. absurd (omega arith)) ∙ blank.at k } in
      let none' : get (stored s q a) trail ≡ 0 = kept trail (omega arith) (λ e. absurd (omega arith)) (λ e. absurd (omega arith)) (λ e. absurd (omega arith)) ∙ none in
      let up = (trails_taken_up input (stored s q a) trail n side ls blank' none').1 in
      does_within (700 * n + 60000)
      (next (next (next (next (next (goes_from t brought begin_is) out) (goes_from (state input t n side ls at_start x v) taken.0 (sym full_is))) taken.1) (comes_to (sided (stored s q a) trail n side) taken.2 last_is)) up) (omega arith)

  byte_0 : sums input t n side ls at_start a 12 0 ≡ byte_from a 0
  byte_0 = total (a 0) (a 1) (a 2) (a 3) (small 0 (omega arith)) (small 1 (omega arith)) (small 2 (omega arith)) (small 3 (omega arith))

  byte_1 : sums input t n side ls at_start a 12 1 ≡ byte_from a 1
  byte_1 = total (a 4) (a 5) (a 6) (a 7) (small 4 (omega arith)) (small 5 (omega arith)) (small 6 (omega arith)) (small 7 (omega arith))

  byte_2 : sums input t n side ls at_start a 12 2 ≡ byte_from a 2
  byte_2 = total (a 8) (a 9) (a 10) (a 11) (small 8 (omega arith)) (small 9 (omega arith)) (small 10 (omega arith)) (small 11 (omega arith))

  pub word_stored : Does input store_code trail t trail (stored s q a) (700 * n + 60000)
  word_stored =
      word_from (left_of input t n side ls at_start a 12) (sums input t n side ls at_start a 12) (left_none input t n side ls at_start a 12) (sums_small input t n side ls at_start a 12) byte_0 byte_1 byte_2
      (all_brought input t n side ls at_start a 12 (omega arith) small)

pub words_stored : WordsAreStored
words_stored input s n side a ls small blank none is = word_stored input s n side a ls small blank none is
