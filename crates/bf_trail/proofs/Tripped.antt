-- Trips to the trail's end, and the nest on a tape.
use Rattle.std.proofs.Common.{◌≡◌, ℕ, ◌+◌, ◌*◌, ◌^◌, ◌<◌, ◌≤◌, List, [], ◌++◌, refl, sym, ap, subst, ◌∙◌, arith}
use Rattle.std.proofs.lemmas.Bool.Decides.{nat_tests}
use Rattle.bf_lang.specs.Balance.{IsBalanced}
use Rattle.bf_lang.proofs.Partners.{balanced_append}
use Rattle.bf_tape.specs.Tape.{Tape, get, put, set_cell}
use Rattle.bf_tape.specs.Does.{Does}
use Rattle.bf_tape.specs.Code.{goto_code}
use Rattle.bf_tape.proofs.Moves.{does_within}
use Rattle.bf_tape.proofs.Pieces.{does_goto, balanced_goto}
use Rattle.bf_trail.specs.Trail.{Trail, laid, IsBlank, out_code, back_code, lay_code, lay_most}
use Rattle.bf_trail.specs.Nest.{cell, trail, trip_code, nest_code, started, spent, trip_most, level_most}
use Rattle.bf_columns.specs.Lanes.{number, laned}
use Rattle.bf_columns.proofs.Tapes.{next, between, comes_to}
use Rattle.bf_trail.proofs.Marks.{get_laid_other, get_laid, laid_put, laid_more, blank_on}
use Rattle.bf_columns.proofs.Lanes.{laned_ext, get_laned, get_laned_other, put_laned}
use Rattle.bf_trail.proofs.Scanned.{trail_walked}
use Rattle.bf_trail.proofs.Laid.{marks_laid}
use Rattle.bf_trail.proofs.Nested.{Ready, level_done, value}

-- marks after a cell are a trail
pub trail_of : (s : Tape) (h n : ℕ) → IsBlank s (h + 8) → get s h ≡ 0 → Trail (laid s (h + 8) n) h n
trail_of s h n blank none = record {
  before = get_laid_other s (h + 8) n h (λ k lt e. absurd (omega arith)) ∙ none;
  marks = λ k lt. let e : h + 8 + 8 * k ≡ h + 8 * (k + 1) = omega arith in ap (get (laid s (h + 8) n)) (sym e) ∙ get_laid s (h + 8) n k lt;
  end =
      let e : h + 8 + 4 * (2 * n) ≡ h + 8 * (n + 1) = omega arith in
      get_laid_other s (h + 8) n (h + 8 * (n + 1)) (λ j lt f. absurd (omega arith)) ∙ (ap (get s) (sym e) ∙ blank.at (2 * n));
}

-- out, marks, and back
pub record Trips (input : List ℕ) (s : Tape) (h n j : ℕ) : Type 0 where
  pub out : Does input out_code h (laid s (h + 8) n) (h + 8 * (n + 1)) (laid s (h + 8) n) (9 * (n + 1))
  pub lay : Does input (lay_code j) (h + 8 * (n + 1)) (laid s (h + 8) n) (h + 8 * (n + 4 ^ j + 1)) (laid s (h + 8) (n + 4 ^ j)) (lay_most j)
  pub back : Does input back_code (h + 8 * (n + 4 ^ j + 1)) (laid s (h + 8) (n + 4 ^ j)) h (laid s (h + 8) (n + 4 ^ j)) (9 * (n + 4 ^ j + 1))

pub trip_laid : (input : List ℕ) (s : Tape) (h n j : ℕ) → IsBlank s (h + 8) → get s h ≡ 0 → Trips input s h n j
trip_laid input s h n j blank none =
    let m : ℕ = 4 ^ j in
    let u : Tape = laid s (h + 8) n in
    let v : Tape = laid s (h + 8) (n + m) in
    let e : h + 8 + 8 * n ≡ h + 8 * (n + 1) = omega arith in
    let f : h + 8 * (n + 1) + 8 * m ≡ h + 8 * (n + m + 1) = omega arith in
    let more : laid u (h + 8 * (n + 1)) m ≡ v = ap (λ c. laid u c m) (sym e) ∙ laid_more s (h + 8) n m in
    let room : IsBlank u (h + 8 * (n + 1)) = subst (λ c. IsBlank u c) e (blank_on s (h + 8) n blank) in record {
      out = (trail_walked input u h n (trail_of s h n blank none)).out;
      lay = between (h + 8 * (n + 1)) (h + 8 * (n + m + 1)) (comes_to v ((marks_laid input j).does (h + 8 * (n + 1)) u room) more) refl f;
      back = (trail_walked input v h (n + m) (trail_of s h (n + m) blank none)).back;
    }

-- the trail's end and all after it lie apart from the digits
pub laned_blank : (s : Tape) (x : ℕ → ℕ) → IsBlank s (trail + 8) → IsBlank (laned 3 s x 12) (trail + 8)
laned_blank s x blank = record { at = λ k. get_laned_other 3 s x 12 (trail + 8 + 4 * k) (λ j lt e. absurd (omega arith)) ∙ blank.at k }

module _ (input : List ℕ) (s : Tape) (blank : IsBlank s (trail + 8)) (none : get s trail ≡ 0) where
  -- so many marks and these digits
  abbrev at : ℕ → (ℕ → ℕ) → Tape
  at n x = laid (laned 3 s x 12) (trail + 8) n

  got : (n : ℕ) (x : ℕ → ℕ) (j : ℕ) → j < 12 → get (at n x) (cell j) ≡ x j
  got n x j lt = get_laid_other (laned 3 s x 12) (trail + 8) n (cell j) (λ k less e. absurd (omega arith)) ∙ get_laned 3 s x 12 j (omega arith) lt

  pub puts : (n : ℕ) (x : ℕ → ℕ) (j v : ℕ) → j < 12 → put (at n x) (cell j) v ≡ at n (set_cell x j v)
  puts n x j v lt = sym (laid_put (laned 3 s x 12) (trail + 8) n (cell j) v (λ k less e. absurd (omega arith))) ∙ ap (λ t. laid t (trail + 8) n) (put_laned 3 s x 12 j v (omega arith) lt)

  trips : (top j n : ℕ) (x : ℕ → ℕ) → j < 6 → n + 4 ^ j ≤ top → Does input (trip_code j) (cell j) (at n x) (cell j) (at (n + 4 ^ j) x) (trip_most top j)
  trips top j n x lt le =
      let t : Tape = laned 3 s x 12 in
      let off : get t trail ≡ 0 = get_laned_other 3 s x 12 trail (λ k less e. absurd (omega arith)) ∙ none in
      let trip : Trips input t trail n j = trip_laid input t trail n j (laned_blank s x blank) off in
      does_within (trip_most top j)
      (next (next (next (next (does_goto input (cell j) trail (at n x) 91 (omega arith)) trip.out) trip.lay) trip.back) (does_goto input trail (cell j) (at (n + 4 ^ j) x) 91 (omega arith)))
      (trip_few n (4 ^ j) top (lay_most j) le)
    where
      trip_few : (n m top l : ℕ) → n + m ≤ top → 91 + 9 * (n + 1) + l + 9 * (n + m + 1) + 91 ≤ 200 + 18 * top + l
      trip_few n m top l le = omega arith

  balanced : (j : ℕ) → IsBalanced (trip_code j)
  balanced j =
      balanced_append (goto_code (cell j) trail ++ out_code ++ lay_code j ++ back_code) (goto_code trail (cell j))
      (balanced_append (goto_code (cell j) trail ++ out_code ++ lay_code j) back_code
      (balanced_append (goto_code (cell j) trail ++ out_code) (lay_code j)
      (balanced_append (goto_code (cell j) trail) out_code (balanced_goto (cell j) trail) refl) (marks_laid [] j).balanced) refl)
      (balanced_goto trail (cell j))

  pub nest_done : (a : ℕ → ℕ) → Does input nest_code (cell 11) (laned 3 s (started a) 12) (cell 11) (laid (laned 3 s (spent 6 a) 12) (trail + 8) (number a 12)) (level_most (trip_most (number a 12)) a 6)
  unfolding nest_code
  nest_done a =
      let top : ℕ = number a 12 in
      let ready : Ready 6 a (started a) = record { low = λ k lt. grind (arith, nat_tests); high = λ k le lt. grind (arith, nat_tests) } in
      let sum : 0 + value 6 a ≡ number a 12 = omega arith in
      let same : laned 3 s (spent 6 (started a)) 12 ≡ laned 3 s (spent 6 a) 12 = laned_ext 3 s (spent 6 (started a)) (spent 6 a) 12 (λ k lt. grind (arith, nat_tests)) in
      comes_to (laid (laned 3 s (spent 6 a) 12) (trail + 8) (number a 12))
      (level_done input top at trip_code (trip_most top) got puts balanced (trips top) 6 a (started a) 0 (omega arith) ready (omega arith))
      (λ i. laid (same i) (trail + 8) (sum i))
