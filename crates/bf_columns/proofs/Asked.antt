-- Comparisons, from home to home.
use Rattle.std.proofs.Common.{◌≡◌, ◌≢◌, ℕ, zero, suc, ◌+◌, ◌-◌, ◌*◌, ◌%◌, ◌^◌, ◌<◌, ◌≤◌, Bool, true, false, nat_lt, nat_eq, cond, List, [], ◌∷◌, refl, sym, ap, subst, ◌∙◌, arith, eq-eqb, ne_eqb}
use Rattle.std.proofs.lemmas.Bool.{eqb-true, eqb-false}
use Rattle.std.proofs.lemmas.Bool.Decides.{nat_tests}
use Rattle.bf_tape.specs.Tape.{Tape, get, put, set_cell}
use Rattle.bf_tape.specs.Does.{Does}
use Rattle.bf_tape.proofs.Moves.{does_within}
use Rattle.bf_columns.specs.Lanes.{number}
use Rattle.bf_columns.specs.Text.{Text, comes}
use Rattle.bf_columns.specs.Bodies.{Rule, follows, less_text, less_rule, more_text, more_rule, less_y_text, less_y_rule, more_y_text, more_y_rule}
use Rattle.bf_columns.specs.Sheet.{Sheet, sheet, IsRegister}
use Rattle.bf_columns.specs.Worked.{body_of, carried, Carries, worked}
use Rattle.bf_columns.specs.Board.{digit, board, IsBoard}
use Rattle.bf_columns.specs.Told.{Teller, answers, passed, pass_text, differ_text, differing, differ_y_text, differing_y, answer_cells, none_text, some_text, equal_code, order_code, Asks, EqualsAreTold, LessAreTold, MoreAreTold, LaneEqualsAreTold, LaneLessAreTold, LaneMoreAreTold}
use Rattle.bf_columns.proofs.Tapes.{next, comes_to}
use Rattle.bf_columns.proofs.Lanes.{set_at, set_other}
use Rattle.bf_columns.proofs.Reckoned.{below_each}
use Rattle.bf_columns.proofs.Sheets.{sheet_ext}
use Rattle.bf_columns.proofs.Boards.{board_guide, board_z, swept_out, carry_small, carry_next, ended}
use Rattle.bf_columns.proofs.Digits.{digit_small, number_digits, borrow_tells}
use Rattle.bf_columns.proofs.Tabled.{pass_answers, differ_answers, differ_y_answers, none_answers, some_answers, less_follows, more_follows, less_y_follows, more_y_follows}
use Rattle.bf_columns.proofs.Swept.{beside, beside_register, beside_differs, none_in, none_below}
use Rattle.bf_columns.proofs.Back.{told, backed, goes_away, back_done, answer_given}

-- nothing done from the left yet
begun_back : (w : ℕ → ℕ) (c : ℕ → ℕ) (j l : ℕ) → (j ≡ 12 → l ≢ 9) → backed w 0 c j l ≡ board w j l
begun_back w c j l off = at_nine (nat_eq l 9) refl
  where
    lane : (x : Bool) → nat_lt j 12 ≡ x → cond x (board w j 6) 0 ≡ board w j 6
    lane true e = refl
    lane false e = sym (ap (λ x. cond x (digit (w 6) j) 0) e)

    at_six : (x : Bool) → nat_eq l 6 ≡ x → cond x (cond (nat_lt j (12 - 0)) (board w j 6) 0) (board w j l) ≡ board w j l
    at_six true e = lane (nat_lt j 12) refl ∙ ap (board w j) (sym (eqb-true l 6 e))
    at_six false e = refl

    at_nine : (x : Bool) → nat_eq l 9 ≡ x → cond x (cond (nat_eq j (12 - 0)) (c 0) 0) (cond (nat_eq l 6) (cond (nat_lt j (12 - 0)) (board w j 6) 0) (board w j l)) ≡ board w j l
    at_nine true e = let ne : j ≢ 12 = (λ f. off f (eqb-true l 9 e)) in ap (λ x. cond x (c 0) 0) (ne_eqb j 12 ne) ∙ (sym (board_z w j) ∙ ap (board w j) (sym (eqb-true l 9 e)))
    at_nine false e = at_six (nat_eq l 6) refl

-- with a number told to column 11
begun_with : (w : ℕ → ℕ) (v : Sheet) (c : ℕ → ℕ) → ((j l : ℕ) → j ≤ 12 → l < 10 → (j ≡ 12 → l ≢ 9) → v j l ≡ board w j l) → v 12 9 ≡ c 0 → (j l : ℕ) → j ≤ 12 → l < 10 → v j l ≡ backed w 0 c j l
begun_with w v c same z j l lj ll = by (nat_eq j 12) (nat_eq l 9) refl refl
  where
    by : (x y : Bool) → nat_eq j 12 ≡ x → nat_eq l 9 ≡ y → v j l ≡ backed w 0 c j l
    by true true ex ey = (λ i. v (eqb-true j 12 ex i) (eqb-true l 9 ey i)) ∙ (z ∙ sym (λ i. backed w 0 c (eqb-true j 12 ex i) (eqb-true l 9 ey i)))
    by true false ex ey = let ne : l ≢ 9 = eqb-false l 9 ey in same j l lj ll (λ e. ne) ∙ sym (begun_back w c j l (λ e. ne))
    by false y ex ey = let ne : j ≢ 12 = eqb-false j 12 ex in same j l lj ll (λ e. absurd (ne e)) ∙ sym (begun_back w c j l (λ e. absurd (ne e)))

-- equal words from equal digits
equal_digits : (a b : ℕ) → a < 2 ^ 24 → b < 2 ^ 24 → ((j : ℕ) → j < 12 → digit a j ≡ digit b j) → a ≡ b
equal_digits a b la lb same = sym (number_digits 12 a la) ∙ (numbers 12 (λ j lt. same j lt) ∙ number_digits 12 b lb)
  where
    numbers : (m : ℕ) → ((j : ℕ) → j < m → digit a j ≡ digit b j) → number (digit a) m ≡ number (digit b) m
    numbers zero h = refl
    numbers (suc m) h = λ i. numbers m (λ j lt. h j (omega arith)) i + h m (omega arith) i * 4 ^ m

-- how many columns from the left differ
abbrev counted_of : ℕ → ℕ → ℕ → ℕ
counted_of a b zero = 0
counted_of a b (suc k) = cond (nat_eq (digit a (11 - k)) (digit b (11 - k))) (counted_of a b k) (suc (counted_of a b k))

counted_small : (a b k : ℕ) → counted_of a b k ≤ k
counted_small a b zero = omega arith
counted_small a b (suc k) = by (nat_eq (digit a (11 - k)) (digit b (11 - k))) (counted_of a b k) (counted_small a b k)
  where
    by : (x : Bool) (n : ℕ) → n ≤ k → cond x n (suc n) ≤ suc k
    by true n le = omega arith
    by false n le = omega arith

counted_same : (a k : ℕ) → counted_of a a k ≡ 0
counted_same a zero = refl
counted_same a (suc k) = ap (λ x. cond x (counted_of a a k) (suc (counted_of a a k))) (eq-eqb (digit a (11 - k)) (digit a (11 - k)) refl) ∙ counted_same a k

counted_none : (a b k : ℕ) → counted_of a b k ≡ 0 → (j : ℕ) → j < 12 → 12 ≤ j + k → digit a j ≡ digit b j
counted_none a b zero e j lt le = absurd (omega arith)
counted_none a b (suc k) e j lt le = one_more a b k e j lt le (λ g le'. counted_none a b k g j lt le')
  where
    one_more : (a b k : ℕ) → counted_of a b (suc k) ≡ 0 → (j : ℕ) → j < 12 → 12 ≤ j + suc k → (counted_of a b k ≡ 0 → 12 ≤ j + k → digit a j ≡ digit b j) → digit a j ≡ digit b j
    one_more a b k e j lt le before = by (nat_eq (digit a (11 - k)) (digit b (11 - k))) refl
      where
        here : (x : Bool) → nat_eq j (11 - k) ≡ x → counted_of a b k ≡ 0 → nat_eq (digit a (11 - k)) (digit b (11 - k)) ≡ true → digit a j ≡ digit b j
        here true h g f = subst (λ i. digit a i ≡ digit b i) (sym (eqb-true j (11 - k) h)) (eqb-true (digit a (11 - k)) (digit b (11 - k)) f)
        here false h g f = let ne : j ≢ 11 - k = eqb-false j (11 - k) h in before g (omega arith)

        by : (x : Bool) → nat_eq (digit a (11 - k)) (digit b (11 - k)) ≡ x → digit a j ≡ digit b j
        by false f = let g : suc (counted_of a b k) ≡ 0 = sym (ap (λ x. cond x (counted_of a b k) (suc (counted_of a b k))) f) ∙ e in absurd (omega arith)
        by true f = here (nat_eq j (11 - k)) refl (sym (ap (λ x. cond x (counted_of a b k) (suc (counted_of a b k))) f) ∙ e) f

-- the answer
equal_answer : (a b : ℕ) → a < 2 ^ 24 → b < 2 ^ 24 → nat_eq (counted_of a b 12) 0 ≡ nat_eq a b
equal_answer a b la lb = by (nat_eq a b) refl (nat_eq (counted_of a b 12) 0) refl
  where
    by : (x : Bool) → nat_eq a b ≡ x → (y : Bool) → nat_eq (counted_of a b 12) 0 ≡ y → y ≡ x
    by true e true f = refl
    by true e false f = absurd (eqb-false (counted_of a b 12) 0 f (subst (λ c. counted_of a c 12 ≡ 0) (eqb-true a b e) (counted_same a 12)))
    by false e true f = absurd (eqb-false a b e (equal_digits a b la lb (λ j lt. counted_none a b 12 (eqb-true (counted_of a b 12) 0 f) j lt (omega arith))))
    by false e false f = refl

module _ (w w' : ℕ → ℕ) (d s ny most top : ℕ) (rd : IsRegister d) (rs : IsRegister s) (differ : d ≢ s) (b : IsBoard w) (small_y : (j : ℕ) → j < 12 → digit (w 6) j < ny) (same : (l : ℕ) → l < 9 → l ≢ 5 → l ≢ 6 → w l ≡ w' l) (none : w' 6 ≡ 0) (other : ℕ) (lo : other < 2 ^ 24) where
  equal_asked : (text : Text) (r : Teller) → 12 * (most + 11) + 254 ≤ top → answers text r ny 12 most ≡ true → ((k : ℕ) → k ≤ 12 → told r w d s 0 k ≡ counted_of (w d) other k) → Asks (equal_code (body_of d s text)) w w' (nat_eq (w d) other) top
  equal_asked text r le e is = record { does = done }
    where
      done : (input : List ℕ) (t : Tape) → get t 135 ≡ 0 → get t 136 ≡ 0 → Does input (equal_code (body_of d s text)) 135 (sheet t (board w)) 135 (sheet (put t 136 (cond (nat_eq (w d) other) 1 0)) (board w')) top
      done input t home flag =
          let c : ℕ → ℕ = told r w d s 0 in
          let n : ℕ = c 12 in
          let n_small : n < 13 = (let f = counted_small (w d) other 12 in omega (arith, f, is 12 (omega arith))) in
          let begin : sheet t (board w) ≡ sheet t (backed w 0 c) = sheet_ext t (board w) (backed w 0 c) (begun_with w (board w) c (λ j l lj ll off. refl) refl) in
          let small : (k : ℕ) → k < 12 → c k < 12 = λ k lt. (let f = counted_small (w d) other k in omega (arith, f, is k (omega arith))) in
          let back = back_done input t home w d s ny 12 0 most rd rs differ b small_y text r e small in
          let tells = below_each 13 n (λ n. comes answer_cells answer_cells none_text 2 (n ∷ 0 ∷ 0 ∷ []) (0 ∷ cond (nat_eq n 0) 1 0 ∷ 0 ∷ []) 100) none_answers n_small in
          let f_is : cond (nat_eq n 0) 1 0 ≡ cond (nat_eq (w d) other) 1 0 = (let g : nat_eq n 0 ≡ nat_eq (w d) other = ap (λ k. nat_eq k 0) (is 12 (omega arith)) ∙ equal_answer (w d) other (b.words d) lo in ap (λ x. cond x 1 0) g) in
          let given = answer_given input t home flag w w' n (cond (nat_eq n 0) 1 0) c refl same none none_text tells in
          comes_to (sheet (put t 136 (cond (nat_eq (w d) other) 1 0)) (board w'))
          (does_within top (next (next (comes_to (sheet t (backed w 0 c)) (goes_away input t (board w) (λ j lt. board_guide w j lt) refl) begin) back) given) (omega arith))
          (ap (λ f. sheet (put t 136 f) (board w')) f_is)

  order_asked : (text : Text) (r : Rule) (answer : Bool) → 12 * (most + 11) + 734 ≤ top → follows text r ny 2 most ≡ true → (carries : Carries r ny 2)
      → ((j : ℕ) → j < 12 → r.own (digit (w d) j) (digit (w s) j) (digit (w 6) j) (carried r (board w) d s 0 0 j) ≡ digit (w' d) j)
      → ((j : ℕ) → j < 12 → r.spare (digit (w d) j) (digit (w s) j) (digit (w 6) j) (carried r (board w) d s 0 0 j) ≡ digit (w' 3) j)
      → ((j : ℕ) → j < 12 → r.lane (digit (w d) j) (digit (w s) j) (digit (w 6) j) (carried r (board w) d s 0 0 j) ≡ digit (w' 6) j)
      → carried r (board w) d s 0 0 12 ≡ cond answer 1 0 → IsBoard w' → Asks (order_code (body_of d s text)) w w' answer top
  order_asked text r answer le e carries own_is spare_is lane_is tells b' = record { does = done }
    where
      passes : (z k : ℕ) → told passed w' d s z k ≡ z
      passes z zero = refl
      passes z (suc k) = passes z k

      done : (input : List ℕ) (t : Tape) → get t 135 ≡ 0 → get t 136 ≡ 0 → Does input (order_code (body_of d s text)) 135 (sheet t (board w)) 135 (sheet (put t 136 (cond answer 1 0)) (board w')) top
      done input t home flag =
          let z : ℕ = carried r (board w) d s 0 0 12 in
          let c : ℕ → ℕ = told passed w' d s z in
          let lz : z < 2 = carry_small w d s ny 2 r rd rs differ b small_y (omega arith) carries 12 (omega arith) in
          let kept : (l : ℕ) → l < 9 → l ≢ d → l ≢ 3 → l ≢ 6 → l ≢ 5 → w l ≡ w' l = λ l ll nd n3 n6 n5. same l ll n5 n6 in
          let out = swept_out w d s ny 2 r rd rs differ b small_y (omega arith) carries w' own_is spare_is lane_is kept input t text most e in
          let v : Sheet = worked r (board w) d s 0 0 12 in
          let begin : sheet t v ≡ sheet t (backed w' 0 c) = sheet_ext t v (backed w' 0 c) (begun_with w' v c (λ j l lj ll off. ended w d s ny 2 r rd rs differ b small_y (omega arith) carries w' own_is spare_is lane_is kept j l lj ll off) refl) in
          let back = back_done input t home w' d s 1 2 z 40 rd rs differ b' (none_below w' none) pass_text passed pass_answers (λ k lt. let f = passes z k in omega (arith, f, lz)) in
          let told_test = below_each 2 z (λ n. comes answer_cells answer_cells some_text 2 (n ∷ 0 ∷ 0 ∷ []) (0 ∷ n ∷ 0 ∷ []) 100) some_answers lz in
          let given = answer_given input t home flag w' w' z z c (passes z 12) (λ l ll n5 n6. refl) none some_text told_test in
          comes_to (sheet (put t 136 (cond answer 1 0)) (board w'))
          (does_within top (next (next (comes_to (sheet t (backed w' 0 c)) out begin) back) given) (omega arith))
          (ap (λ f. sheet (put t 136 f) (board w')) tells)

-- a borrow, with the digit that a difference would have
borrowed : (a b z : ℕ) → a < 4 → b < 4 → z < 2 → a + 4 * cond (nat_lt a (b + z)) 1 0 ≡ (a + 4 - (b + z)) % 4 + b + z
borrowed a b z la lb lz = by (nat_lt a (b + z)) refl
  where
    by : (x : Bool) → nat_lt a (b + z) ≡ x → a + 4 * cond x 1 0 ≡ (a + 4 - (b + z)) % 4 + b + z
    by true e = let lt : a < b + z = grind (arith, nat_tests) in omega arith
    by false e = let le : b + z ≤ a = grind (arith, nat_tests) in omega arith

choice_small : (x : Bool) → cond x 1 0 < 2
choice_small true = omega arith
choice_small false = omega arith

-- the last borrow is the answer
last_borrow : (a b : ℕ) (c : ℕ → ℕ) → a < 2 ^ 24 → b < 2 ^ 24 → c 0 ≡ 0 → ((j : ℕ) → j ≤ 12 → c j < 2) → ((j : ℕ) → j < 12 → c (suc j) ≡ cond (nat_lt (digit a j) (digit b j + c j)) 1 0) → c 12 ≡ cond (nat_lt a b) 1 0
last_borrow a b c la lb none small step =
    let x : ℕ → ℕ = λ j. (digit a j + 4 - (digit b j + c j)) % 4 in
    let told = borrow_tells a b x c la lb none (λ j lt. omega arith) (small 12 (omega arith)) (λ j lt. ap (λ k. digit a j + 4 * k) (step j lt) ∙ borrowed (digit a j) (digit b j) (c j) (digit_small a j) (digit_small b j) (small j (omega arith))) in
    by (c 12) (small 12 (omega arith)) told.0 told.1
  where
    by : (n : ℕ) → n < 2 → (n ≡ 1 → a < b) → (n ≡ 0 → b ≤ a) → n ≡ cond (nat_lt a b) 1 0
    by zero lt f g = let le : b ≤ a = g refl in let e : nat_lt a b ≡ false = grind (arith, nat_tests) in sym (ap (λ x. cond x 1 0) e)
    by (suc zero) lt f g = let less : a < b = f refl in let e : nat_lt a b ≡ true = grind (arith, nat_tests) in sym (ap (λ x. cond x 1 0) e)
    by (suc (suc n)) lt f g = absurd (omega arith)

pub equals_told : EqualsAreTold
equals_told w d s rd rs differ b none =
    equal_asked w w d s 1 500 6400 rd rs differ b (none_below w none) (λ l ll n5 n6. refl) none (w s) (b.words s) differ_text differing (omega arith) differ_answers is
  where
    is : (k : ℕ) → k ≤ 12 → told differing w d s 0 k ≡ counted_of (w d) (w s) k
    is zero le = refl
    is (suc k) le = ap (λ n. cond (nat_eq (digit (w d) (11 - k)) (digit (w s) (11 - k))) n (suc n)) (is k (omega arith))

-- lane y gone
module _ (w : ℕ → ℕ) (b : IsBoard w) where
  gone_same : (l : ℕ) → l < 9 → l ≢ 5 → l ≢ 6 → w l ≡ set_cell w 6 0 l
  gone_same l ll n5 n6 = sym (set_other w 6 0 l n6)

  gone_board : IsBoard (set_cell w 6 0)
  gone_board = record { words = λ l. small (nat_eq l 6) l; spare = set_other w 6 0 3 (λ e. absurd (omega arith)) ∙ b.spare }
    where
      small : (x : Bool) (l : ℕ) → cond x 0 (w l) < 2 ^ 24
      small true l = omega arith
      small false l = b.words l

pub lane_equals_told : LaneEqualsAreTold
lane_equals_told w d rd b =
    equal_asked w (set_cell w 6 0) d (beside d) 4 440 5700 rd (beside_register d) (beside_differs d) b (λ j lt. digit_small (w 6) j) (gone_same w b) (set_at w 6 0) (w 6) (b.words 6) differ_y_text differing_y (omega arith) differ_y_answers is
  where
    is : (k : ℕ) → k ≤ 12 → told differing_y w d (beside d) 0 k ≡ counted_of (w d) (w 6) k
    is zero le = refl
    is (suc k) le = ap (λ n. cond (nat_eq (digit (w d) (11 - k)) (digit (w 6) (11 - k))) n (suc n)) (is k (omega arith))

pub less_told : LessAreTold
less_told w d s rd rs differ b none =
    let carries : Carries less_rule 1 2 = λ a b y z la lb ly lz. choice_small (nat_lt a (b + z)) in
    let c : ℕ → ℕ = λ i. carried less_rule (board w) d s 0 0 i in
    let small = carry_small w d s 1 2 less_rule rd rs differ b (none_below w none) (omega arith) carries in
    let tells : c 12 ≡ cond (nat_lt (w d) (w s)) 1 0 = last_borrow (w d) (w s) c (b.words d) (b.words s) refl small (λ j lt. carry_next w d s 1 2 less_rule rd rs differ b (none_below w none) (omega arith) carries j lt) in
    order_asked w w d s 1 280 4300 rd rs differ b (none_below w none) (λ l ll n5 n6. refl) none (w s) (b.words s) less_text less_rule (nat_lt (w d) (w s)) (omega arith) less_follows carries
    (λ j lt. refl) (λ j lt. sym (none_in w 3 b.spare j)) (λ j lt. sym (none_in w 6 none j)) tells b

pub more_told : MoreAreTold
more_told w d s rd rs differ b none =
    let carries : Carries more_rule 1 2 = λ a b y z la lb ly lz. choice_small (nat_lt b (a + z)) in
    let c : ℕ → ℕ = λ i. carried more_rule (board w) d s 0 0 i in
    let small = carry_small w d s 1 2 more_rule rd rs differ b (none_below w none) (omega arith) carries in
    let tells : c 12 ≡ cond (nat_lt (w s) (w d)) 1 0 = last_borrow (w s) (w d) c (b.words s) (b.words d) refl small (λ j lt. carry_next w d s 1 2 more_rule rd rs differ b (none_below w none) (omega arith) carries j lt) in
    order_asked w w d s 1 280 4300 rd rs differ b (none_below w none) (λ l ll n5 n6. refl) none (w s) (b.words s) more_text more_rule (nat_lt (w s) (w d)) (omega arith) more_follows carries
    (λ j lt. refl) (λ j lt. sym (none_in w 3 b.spare j)) (λ j lt. sym (none_in w 6 none j)) tells b

pub lane_less_told : LaneLessAreTold
lane_less_told w d rd b =
    let s : ℕ = beside d in let rs = beside_register d in let differ = beside_differs d in
    let few : (j : ℕ) → j < 12 → digit (w 6) j < 4 = λ j lt. digit_small (w 6) j in
    let carries : Carries less_y_rule 4 2 = λ a b y z la lb ly lz. choice_small (nat_lt a (y + z)) in
    let c : ℕ → ℕ = λ i. carried less_y_rule (board w) d s 0 0 i in
    let small = carry_small w d s 4 2 less_y_rule rd rs differ b few (omega arith) carries in
    let tells : c 12 ≡ cond (nat_lt (w d) (w 6)) 1 0 = last_borrow (w d) (w 6) c (b.words d) (b.words 6) refl small (λ j lt. carry_next w d s 4 2 less_y_rule rd rs differ b few (omega arith) carries j lt) in
    order_asked w (set_cell w 6 0) d s 4 200 3300 rd rs differ b few (gone_same w b) (set_at w 6 0) (w 6) (b.words 6) less_y_text less_y_rule (nat_lt (w d) (w 6)) (omega arith) less_y_follows carries
    (λ j lt. ap (λ n. digit n j) (sym (set_other w 6 0 d rd.no_y))) (λ j lt. sym (none_in (set_cell w 6 0) 3 (gone_board w b).spare j)) (λ j lt. sym (none_in (set_cell w 6 0) 6 (set_at w 6 0) j)) tells (gone_board w b)

pub lane_more_told : LaneMoreAreTold
lane_more_told w d rd b =
    let s : ℕ = beside d in let rs = beside_register d in let differ = beside_differs d in
    let few : (j : ℕ) → j < 12 → digit (w 6) j < 4 = λ j lt. digit_small (w 6) j in
    let carries : Carries more_y_rule 4 2 = λ a b y z la lb ly lz. choice_small (nat_lt y (a + z)) in
    let c : ℕ → ℕ = λ i. carried more_y_rule (board w) d s 0 0 i in
    let small = carry_small w d s 4 2 more_y_rule rd rs differ b few (omega arith) carries in
    let tells : c 12 ≡ cond (nat_lt (w 6) (w d)) 1 0 = last_borrow (w 6) (w d) c (b.words 6) (b.words d) refl small (λ j lt. carry_next w d s 4 2 more_y_rule rd rs differ b few (omega arith) carries j lt) in
    order_asked w (set_cell w 6 0) d s 4 200 3300 rd rs differ b few (gone_same w b) (set_at w 6 0) (w 6) (b.words 6) more_y_text more_y_rule (nat_lt (w 6) (w d)) (omega arith) more_y_follows carries
    (λ j lt. ap (λ n. digit n j) (sym (set_other w 6 0 d rd.no_y))) (λ j lt. sym (none_in (set_cell w 6 0) 3 (gone_board w b).spare j)) (λ j lt. sym (none_in (set_cell w 6 0) 6 (set_at w 6 0) j)) tells (gone_board w b)
