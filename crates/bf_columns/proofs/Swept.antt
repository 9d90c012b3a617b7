-- Operations that are one sweep.
use Rattle.std.proofs.Common.{◌≡◌, ◌≢◌, ℕ, zero, suc, ◌+◌, ◌-◌, ◌*◌, ◌/◌, ◌%◌, ◌^◌, ◌<◌, refl, sym, ap, ◌∙◌, arith}
use Rattle.bf_tape.specs.Tape.{set_cell}
use Rattle.bf_columns.specs.Bodies.{copy_text, copy_rule, clear_text, clear_rule, to_y_text, to_y_rule, to_x_text, to_x_rule, sum_text, sum_rule, sum_y_text, sum_y_rule, difference_text, difference_rule, difference_y_text, difference_y_rule}
use Rattle.bf_columns.specs.Sheet.{IsRegister}
use Rattle.bf_columns.specs.Worked.{carried}
use Rattle.bf_columns.specs.Board.{digit, board, CopiesAreDone, ClearsAreDone, RegistersGoToY, RegistersGoToX, SumsAreDone, DifferencesAreDone, LaneSumsAreDone, LaneDifferencesAreDone}
use Rattle.bf_columns.proofs.Lanes.{set_at, set_other}
use Rattle.bf_columns.proofs.Boards.{swept, carry_small, carry_next}
use Rattle.bf_columns.proofs.Digits.{digit_small, digit_zero, sum_digits, difference_digits}
use Rattle.bf_columns.proofs.Tabled.{copy_follows, clear_follows, to_y_follows, to_x_follows, sum_follows, sum_y_follows, difference_follows, difference_y_follows}

-- another register than one: 0 or 1, whichever it is not
abbrev pub beside : ℕ → ℕ
beside zero = 1
beside (suc d) = 0

pub beside_register : (d : ℕ) → IsRegister (beside d)
beside_register zero = record { below = omega arith; no_x = omega arith; no_guide = omega arith; no_y = omega arith }
beside_register (suc d) = record { below = omega arith; no_x = omega arith; no_guide = omega arith; no_y = omega arith }

pub beside_differs : (d : ℕ) → d ≢ beside d
beside_differs zero e = absurd (omega arith)
beside_differs (suc d) e = absurd (omega arith)

-- the digit of a lane that holds 0
pub none_in : (w : ℕ → ℕ) (l : ℕ) → w l ≡ 0 → (j : ℕ) → digit (w l) j ≡ 0
none_in w l e j = ap (λ n. digit n j) e ∙ digit_zero j

pub none_below : (w : ℕ → ℕ) → w 6 ≡ 0 → (j : ℕ) → j < 12 → digit (w 6) j < 1
none_below w e j lt = let f = none_in w 6 e j in omega arith

-- another word in a register alone
module _ (w : ℕ → ℕ) (d n : ℕ) (rd : IsRegister d) where
  set_own : (j : ℕ) → digit n j ≡ digit (set_cell w d n d) j
  set_own j = ap (λ x. digit x j) (sym (set_at w d n))

  set_beside : (l j : ℕ) → l ≢ d → digit (w l) j ≡ digit (set_cell w d n l) j
  set_beside l j ne = ap (λ x. digit x j) (sym (set_other w d n l ne))

  set_kept : (l : ℕ) → l < 9 → l ≢ d → l ≢ 3 → l ≢ 6 → l ≢ 5 → w l ≡ set_cell w d n l
  set_kept l ll nd n3 n6 n5 = sym (set_other w d n l nd)

three_not : (d : ℕ) → IsRegister d → 3 ≢ d
three_not d rd e = rd.no_x (sym e)

six_not : (d : ℕ) → IsRegister d → 6 ≢ d
six_not d rd e = rd.no_y (sym e)

pub copies_done : CopiesAreDone
copies_done w d s rd rs differ b none =
    swept w d s 1 1 copy_rule rd rs differ b (none_below w none) (omega arith) (λ a b y z la lb ly lz. omega arith) (set_cell w d (w s))
    (λ j lt. set_own w d (w s) rd j)
    (λ j lt. sym (none_in w 3 b.spare j) ∙ set_beside w d (w s) rd 3 j (three_not d rd))
    (λ j lt. set_beside w d (w s) rd 6 j (six_not d rd))
    (set_kept w d (w s) rd) copy_text 140 2200 (omega arith) (omega arith) copy_follows

pub clears_done : ClearsAreDone
clears_done w d rd b =
    swept w d (beside d) 4 1 clear_rule rd (beside_register d) (beside_differs d) b (λ j lt. digit_small (w 6) j) (omega arith) (λ a b y z la lb ly lz. omega arith) (set_cell w d 0)
    (λ j lt. sym (digit_zero j) ∙ set_own w d 0 rd j)
    (λ j lt. sym (none_in w 3 b.spare j) ∙ set_beside w d 0 rd 3 j (three_not d rd))
    (λ j lt. set_beside w d 0 rd 6 j (six_not d rd))
    (set_kept w d 0 rd) clear_text 20 700 (omega arith) (omega arith) clear_follows

pub to_y_done : RegistersGoToY
to_y_done w d rd b none =
    swept w d (beside d) 1 1 to_y_rule rd (beside_register d) (beside_differs d) b (none_below w none) (omega arith) (λ a b y z la lb ly lz. omega arith) (set_cell w 6 (w d))
    (λ j lt. ap (λ x. digit x j) (sym (set_other w 6 (w d) d rd.no_y)))
    (λ j lt. sym (none_in w 3 b.spare j) ∙ ap (λ x. digit x j) (sym (set_other w 6 (w d) 3 (λ e. absurd (omega arith)))))
    (λ j lt. ap (λ x. digit x j) (sym (set_at w 6 (w d))))
    (λ l ll nd n3 n6 n5. sym (set_other w 6 (w d) l n6)) to_y_text 140 2200 (omega arith) (omega arith) to_y_follows

pub to_x_done : RegistersGoToX
to_x_done w d rd b none =
    swept w d (beside d) 1 1 to_x_rule rd (beside_register d) (beside_differs d) b (none_below w none) (omega arith) (λ a b y z la lb ly lz. omega arith) (set_cell w 3 (w d))
    (λ j lt. ap (λ x. digit x j) (sym (set_other w 3 (w d) d rd.no_x)))
    (λ j lt. ap (λ x. digit x j) (sym (set_at w 3 (w d))))
    (λ j lt. sym (none_in w 6 none j) ∙ ap (λ x. digit x j) (sym (set_other w 3 (w d) 6 (λ e. absurd (omega arith)))))
    (λ l ll nd n3 n6 n5. sym (set_other w 3 (w d) l n3)) to_x_text 140 2200 (omega arith) (omega arith) to_x_follows

pub sums_done : SumsAreDone
sums_done w d s rd rs differ b none =
    let n : ℕ = (w d + w s) % 2 ^ 24 in
    let carries : (a b y z : ℕ) → a < 4 → b < 4 → y < 1 → z < 2 → (a + b + z) / 4 < 2 = λ a b y z la lb ly lz. omega arith in
    let c : ℕ → ℕ = λ i. carried sum_rule (board w) d s 0 0 i in
    let x : ℕ → ℕ = λ j. (digit (w d) j + digit (w s) j + c j) % 4 in
    let step : (j : ℕ) → j < 12 → x j + 4 * c (suc j) ≡ digit (w d) j + digit (w s) j + c j = λ j lt. let e = carry_next w d s 1 2 sum_rule rd rs differ b (none_below w none) (omega arith) carries j lt in omega (arith, e) in
    let own = sum_digits (w d) (w s) x c (b.words d) (b.words s) refl (λ j lt. omega arith) step in
    swept w d s 1 2 sum_rule rd rs differ b (none_below w none) (omega arith) carries (set_cell w d n)
    (λ j lt. own j lt ∙ set_own w d n rd j)
    (λ j lt. sym (none_in w 3 b.spare j) ∙ set_beside w d n rd 3 j (three_not d rd))
    (λ j lt. set_beside w d n rd 6 j (six_not d rd))
    (set_kept w d n rd) sum_text 345 4600 (omega arith) (omega arith) sum_follows

-- a digit less another one and a borrow
taken : (a b z : ℕ) → a < 4 → b < 4 → z < 2 → a + 4 * (1 - (a + 4 - (b + z)) / 4) ≡ (a + 4 - (b + z)) % 4 + b + z
taken a b z la lb lz = omega arith

pub differences_done : DifferencesAreDone
differences_done w d s rd rs differ b none =
    let n : ℕ = (w d + (2 ^ 24 - w s)) % 2 ^ 24 in
    let carries : (a b y z : ℕ) → a < 4 → b < 4 → y < 1 → z < 2 → 1 - (a + 4 - (b + z)) / 4 < 2 = λ a b y z la lb ly lz. omega arith in
    let c : ℕ → ℕ = λ i. carried difference_rule (board w) d s 0 0 i in
    let x : ℕ → ℕ = λ j. (digit (w d) j + 4 - (digit (w s) j + c j)) % 4 in
    let step : (j : ℕ) → j < 12 → digit (w d) j + 4 * c (suc j) ≡ x j + digit (w s) j + c j = λ j lt.
    let few = carry_small w d s 1 2 difference_rule rd rs differ b (none_below w none) (omega arith) carries j (omega arith) in
    ap (λ k. digit (w d) j + 4 * k) (carry_next w d s 1 2 difference_rule rd rs differ b (none_below w none) (omega arith) carries j lt) ∙ taken (digit (w d) j) (digit (w s) j) (c j) (digit_small (w d) j) (digit_small (w s) j) few in
    let own = difference_digits (w d) (w s) x c (b.words d) (b.words s) refl (λ j lt. omega arith) step in
    swept w d s 1 2 difference_rule rd rs differ b (none_below w none) (omega arith) carries (set_cell w d n)
    (λ j lt. own j lt ∙ set_own w d n rd j)
    (λ j lt. sym (none_in w 3 b.spare j) ∙ set_beside w d n rd 3 j (three_not d rd))
    (λ j lt. set_beside w d n rd 6 j (six_not d rd))
    (set_kept w d n rd) difference_text 300 4100 (omega arith) (omega arith) difference_follows

-- lane y cleared, and another word in a register
module _ (w : ℕ → ℕ) (d n : ℕ) (rd : IsRegister d) where
  both_own : (j : ℕ) → digit n j ≡ digit (set_cell (set_cell w 6 0) d n d) j
  both_own j = ap (λ x. digit x j) (sym (set_at (set_cell w 6 0) d n))

  both_x : w 3 ≡ 0 → (j : ℕ) → 0 ≡ digit (set_cell (set_cell w 6 0) d n 3) j
  both_x e j = sym (digit_zero j) ∙ ap (λ x. digit x j) (sym (set_other (set_cell w 6 0) d n 3 (three_not d rd) ∙ (set_other w 6 0 3 (λ f. absurd (omega arith)) ∙ e)))

  both_y : (j : ℕ) → 0 ≡ digit (set_cell (set_cell w 6 0) d n 6) j
  both_y j = sym (digit_zero j) ∙ ap (λ x. digit x j) (sym (set_other (set_cell w 6 0) d n 6 (six_not d rd) ∙ set_at w 6 0))

  both_kept : (l : ℕ) → l < 9 → l ≢ d → l ≢ 3 → l ≢ 6 → l ≢ 5 → w l ≡ set_cell (set_cell w 6 0) d n l
  both_kept l ll nd n3 n6 n5 = sym (set_other (set_cell w 6 0) d n l nd ∙ set_other w 6 0 l n6)

pub lane_sums_done : LaneSumsAreDone
lane_sums_done w d rd b =
    let s : ℕ = beside d in let rs = beside_register d in let differ = beside_differs d in
    let n : ℕ = (w d + w 6) % 2 ^ 24 in
    let few_y : (j : ℕ) → j < 12 → digit (w 6) j < 4 = λ j lt. digit_small (w 6) j in
    let carries : (a b y z : ℕ) → a < 4 → b < 4 → y < 4 → z < 2 → (a + y + z) / 4 < 2 = λ a b y z la lb ly lz. omega arith in
    let c : ℕ → ℕ = λ i. carried sum_y_rule (board w) d s 0 0 i in
    let x : ℕ → ℕ = λ j. (digit (w d) j + digit (w 6) j + c j) % 4 in
    let step : (j : ℕ) → j < 12 → x j + 4 * c (suc j) ≡ digit (w d) j + digit (w 6) j + c j = λ j lt. let e = carry_next w d s 4 2 sum_y_rule rd rs differ b few_y (omega arith) carries j lt in omega (arith, e) in
    let own = sum_digits (w d) (w 6) x c (b.words d) (b.words 6) refl (λ j lt. omega arith) step in
    swept w d s 4 2 sum_y_rule rd rs differ b few_y (omega arith) carries (set_cell (set_cell w 6 0) d n)
    (λ j lt. own j lt ∙ both_own w d n rd j) (λ j lt. both_x w d n rd b.spare j) (λ j lt. both_y w d n rd j) (both_kept w d n rd) sum_y_text 270 3700 (omega arith) (omega arith) sum_y_follows

pub lane_differences_done : LaneDifferencesAreDone
lane_differences_done w d rd b =
    let s : ℕ = beside d in let rs = beside_register d in let differ = beside_differs d in
    let n : ℕ = (w d + (2 ^ 24 - w 6)) % 2 ^ 24 in
    let few_y : (j : ℕ) → j < 12 → digit (w 6) j < 4 = λ j lt. digit_small (w 6) j in
    let carries : (a b y z : ℕ) → a < 4 → b < 4 → y < 4 → z < 2 → 1 - (a + 4 - (y + z)) / 4 < 2 = λ a b y z la lb ly lz. omega arith in
    let c : ℕ → ℕ = λ i. carried difference_y_rule (board w) d s 0 0 i in
    let x : ℕ → ℕ = λ j. (digit (w d) j + 4 - (digit (w 6) j + c j)) % 4 in
    let step : (j : ℕ) → j < 12 → digit (w d) j + 4 * c (suc j) ≡ x j + digit (w 6) j + c j = λ j lt.
    let few = carry_small w d s 4 2 difference_y_rule rd rs differ b few_y (omega arith) carries j (omega arith) in
    ap (λ k. digit (w d) j + 4 * k) (carry_next w d s 4 2 difference_y_rule rd rs differ b few_y (omega arith) carries j lt) ∙ taken (digit (w d) j) (digit (w 6) j) (c j) (digit_small (w d) j) (digit_small (w 6) j) few in
    let own = difference_digits (w d) (w 6) x c (b.words d) (b.words 6) refl (λ j lt. omega arith) step in
    swept w d s 4 2 difference_y_rule rd rs differ b few_y (omega arith) carries (set_cell (set_cell w 6 0) d n)
    (λ j lt. own j lt ∙ both_own w d n rd j) (λ j lt. both_x w d n rd b.spare j) (λ j lt. both_y w d n rd j) (both_kept w d n rd) difference_y_text 230 3200 (omega arith) (omega arith) difference_y_follows
