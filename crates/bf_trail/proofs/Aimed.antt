-- The trail of an address.
use Rattle.std.proofs.Common.{◌≡◌, ◌≢◌, ℕ, zero, suc, ◌+◌, ◌-◌, ◌*◌, ◌^◌, ◌<◌, ◌≤◌, Bool, true, false, nat_lt, nat_eq, cond, List, [], ◌∷◌, refl, sym, ap, ◌∙◌, arith}
use Rattle.std.proofs.Math.Nat.{mul-le-mul_right}
use Rattle.std.proofs.lemmas.Bool.{eqb-true, eqb-false}
use Rattle.std.proofs.lemmas.Bool.Decides.{nat_tests}
use Rattle.bf_lang.specs.declared.command.Command.TheVariants.{Plus}
use Rattle.bf_lang.specs.Balance.{IsBalanced}
use Rattle.bf_lang.specs.Cells.{raised, lowered}
use Rattle.bf_tape.specs.Tape.{Tape, get, put, set_cell}
use Rattle.bf_tape.specs.Does.{Does, loop}
use Rattle.bf_tape.proofs.Moves.{does_plus, does_minus, does_none, does_within}
use Rattle.bf_tape.proofs.Pieces.{does_goto, does_rights, does_lefts}
use Rattle.bf_tape.proofs.Turning.{get_put, get_other}
use Rattle.bf_columns.specs.Lanes.{laned, number}
use Rattle.bf_columns.proofs.Tapes.{next, between, comes_to, put_is}
use Rattle.bf_columns.proofs.Lanes.{laned_ext, get_laned, get_laned_other, put_laned}
use Rattle.bf_columns.proofs.Moved.{once, skipped}
use Rattle.bf_trail.specs.Trail.{laid, IsBlank}
use Rattle.bf_trail.specs.Nest.{cell, trail, high, started, spent, trip_most, level_most}
use Rattle.bf_trail.specs.Sides.{end_of, sided}
use Rattle.bf_trail.specs.Lay.{raises, clears, side_trip, trail_code, TrailsAreLaid}
use Rattle.bf_trail.proofs.Marks.{get_laid_other, laid_put}
use Rattle.bf_trail.proofs.Scanned.{trail_walked}
use Rattle.bf_trail.proofs.Tripped.{trail_of, laned_blank, puts, nest_done}
use Rattle.bf_trail.proofs.Sided.{trails_taken_up}
use Rattle.bf_trail.proofs.Stored.{clear_any}

-- the bound of the nest
few_times : (x c l : ℕ) → x < 4 → x * (c + l + 2) ≤ 3 * (c + 2) + x * l
few_times x c l lt = let e : x * (c + 2) ≤ 3 * (c + 2) = mul-le-mul_right (c + 2) (let f : x ≤ 3 = omega arith in f) in omega (arith, e)

nest_few : (a : ℕ → ℕ) → ((j : ℕ) → j < 12 → a j < 4) → number a 12 < 2 ^ 23 → level_most (trip_most (number a 12)) a 6 + 5000 + 20 * number a 12 ≤ 2 ^ 18 * (number a 12 + 1)
nest_few a small near =
    let n : ℕ = number a 12 in
    let h : ℕ = high a 6 in
    let c : ℕ = 200 + 18 * n in
    let r0 = few_times (a 0) c 9 (small 0 (omega arith)) in
    let r1 = few_times (a 1) c 336 (small 1 (omega arith)) in
    let r2 = few_times (a 2) c 2544 (small 2 (omega arith)) in
    let r3 = few_times (a 3) c 14976 (small 3 (omega arith)) in
    let r4 = few_times (a 4) c 79104 (small 4 (omega arith)) in
    let r5 = few_times (a 5) c 393216 (small 5 (omega arith)) in
    let parts : n ≡ a 0 + 4 * a 1 + 16 * a 2 + 64 * a 3 + 256 * a 4 + 1024 * a 5 + 4096 * h = omega arith in
    let few : h ≤ 2047 = omega (arith, parts, near) in
    let product : h * n ≤ 2047 * n = mul-le-mul_right n few in
    last n h (a 0) (a 1) (a 2) (a 3) (a 4) (a 5) parts product r0 r1 r2 r3 r4 r5
  where
    last : (n h a0 a1 a2 a3 a4 a5 : ℕ) → n ≡ a0 + 4 * a1 + 16 * a2 + 64 * a3 + 256 * a4 + 1024 * a5 + 4096 * h → h * n ≤ 2047 * n
        → a0 * (200 + 18 * n + 9 + 2) ≤ 3 * (200 + 18 * n + 2) + a0 * 9 → a1 * (200 + 18 * n + 336 + 2) ≤ 3 * (200 + 18 * n + 2) + a1 * 336 → a2 * (200 + 18 * n + 2544 + 2) ≤ 3 * (200 + 18 * n + 2) + a2 * 2544
        → a3 * (200 + 18 * n + 14976 + 2) ≤ 3 * (200 + 18 * n + 2) + a3 * 14976 → a4 * (200 + 18 * n + 79104 + 2) ≤ 3 * (200 + 18 * n + 2) + a4 * 79104 → a5 * (200 + 18 * n + 393216 + 2) ≤ 3 * (200 + 18 * n + 2) + a5 * 393216
        → 50 + (a0 * (200 + 18 * n + 9 + 2) + 11) + (a1 * (200 + 18 * n + 336 + 2) + 11) + (a2 * (200 + 18 * n + 2544 + 2) + 11) + (a3 * (200 + 18 * n + 14976 + 2) + 11) + (a4 * (200 + 18 * n + 79104 + 2) + 11) + (a5 * (200 + 18 * n + 393216 + 2) + 11)
        + 40 * 6 + h * (4 * (200 + 18 * n + 393216 + 2) + 420) + 5000 + 20 * n ≤ 2 ^ 18 * (n + 1)
    last n h a0 a1 a2 a3 a4 a5 parts product r0 r1 r2 r3 r4 r5 =
        let split : h * (4 * (200 + 18 * n + 393216 + 2) + 420) ≡ 72 * (h * n) + 1574092 * h = omega arith in
        omega (arith, parts, product, r0, r1, r2, r3, r4, r5, split)

module _ (input : List ℕ) (s : Tape) (a : ℕ → ℕ) (small : (j : ℕ) → j < 12 → a j < 4) (blank : IsBlank s (trail + 8)) (none : get s trail ≡ 0) where
  abbrev n : ℕ
  n = number a 12

  -- so many digits raised
  abbrev up : ℕ → ℕ → ℕ
  up i k = cond (nat_lt k 6) (a k) (cond (nat_lt k (6 + i)) (suc (a k)) (a k))

  raised_all : (i : ℕ) → i ≤ 6 → Does input (raises i) (cell 5) (laned 3 s (up 0) 12) (cell (5 + i)) (laned 3 s (up i) 12) (i * 11)
  raised_all zero le = does_none input (cell 5) (laned 3 s (up 0) 12)
  raised_all (suc i) le =
      let j : ℕ = 6 + i in
      let t : Tape = laned 3 s (up i) 12 in
      let t' : Tape = laned 3 s (up (suc i)) 12 in
      let lj : j < 12 = omega arith in
      let e : cell j ≡ cell (5 + suc i) = omega arith in
      let g : get t (cell j) ≡ a j = get_laned 3 s (up i) 12 j (omega arith) lj ∙ here i in
      let v : raised (get t (cell j)) ≡ suc (a j) = ap raised g ∙ (let l = small j lj in let f : raised (a j) ≡ suc (a j) = omega arith in f) in
      let one : Does input (Plus ∷ []) (cell j) t (cell j) t' 1 =
      comes_to t' (does_plus input (cell j) t) (ap (put t (cell j)) v ∙ (put_laned 3 s (up i) 12 j (suc (a j)) (omega arith) lj ∙ laned_ext 3 s (set_cell (up i) j (suc (a j))) (up (suc i)) 12 (λ k lk. further i k))) in
      does_within (suc i * 11) (next (next (raised_all i (omega arith)) (does_goto input (cell (5 + i)) (cell j) t 10 (omega arith))) (between (cell j) (cell (5 + suc i)) one refl e)) (omega arith)
    where
      here : (i : ℕ) → up i (6 + i) ≡ a (6 + i)
      here i =
          let e : nat_lt (6 + i) 6 ≡ false = grind (arith, nat_tests) in
          let f : nat_lt (6 + i) (6 + i) ≡ false = grind (arith, nat_tests) in
          (λ q. cond (e q) (a (6 + i)) (cond (f q) (suc (a (6 + i))) (a (6 + i))))

      further : (i k : ℕ) → set_cell (up i) (6 + i) (suc (a (6 + i))) k ≡ up (suc i) k
      further i k = by (nat_eq k (6 + i)) refl
        where
          by : (b : Bool) → nat_eq k (6 + i) ≡ b → cond b (suc (a (6 + i))) (up i k) ≡ up (suc i) k
          by true x =
              let is : k ≡ 6 + i = eqb-true k (6 + i) x in
              let e : nat_lt (6 + i) 6 ≡ false = grind (arith, nat_tests) in
              let f : nat_lt (6 + i) (6 + suc i) ≡ true = grind (arith, nat_tests) in
              sym (ap (up (suc i)) is ∙ (λ q. cond (e q) (a (6 + i)) (cond (f q) (suc (a (6 + i))) (a (6 + i)))))
          by false x =
              let ne : k ≢ 6 + i = eqb-false k (6 + i) x in
              let f : nat_lt k (6 + i) ≡ nat_lt k (6 + suc i) = grind (arith, nat_tests) in
              ap (λ b. cond (nat_lt k 6) (a k) (cond b (suc (a k)) (a k))) f

  up_none : laned 3 s a 12 ≡ laned 3 s (up 0) 12
  up_none = laned_ext 3 s a (up 0) 12 (λ k lk. sym (by k (nat_lt k 6) (nat_lt k (6 + 0)) refl refl))
    where
      by : (k : ℕ) (x y : Bool) → nat_lt k 6 ≡ x → nat_lt k (6 + 0) ≡ y → cond x (a k) (cond y (suc (a k)) (a k)) ≡ a k
      by k true y ex ey = refl
      by k false true ex ey = absurd (grind (arith, nat_tests))
      by k false false ex ey = refl

  up_all : laned 3 s (up 6) 12 ≡ laned 3 s (started a) 12
  up_all = laned_ext 3 s (up 6) (started a) 12 (λ k lk. let e : nat_lt k (6 + 6) ≡ true = grind (arith, nat_tests) in ap (λ b. cond (nat_lt k 6) (a k) (cond b (suc (a k)) (a k))) e)

  -- what the nest left, where so many digits are cleared
  abbrev down : ℕ → ℕ → ℕ
  down i k = cond (nat_lt k 5) 0 (cond (nat_lt k (11 - i)) 4 0)

  abbrev with_marks : (ℕ → ℕ) → Tape
  with_marks x = laid (laned 3 s x 12) (trail + 8) n

  cleared_all : (i : ℕ) → i ≤ 6 → Does input (clears i) (cell 11) (with_marks (down 0)) (cell (11 - i)) (with_marks (down i)) (i * 521)
  cleared_all zero le = does_none input (cell 11) (with_marks (down 0))
  cleared_all (suc i) le =
      let j : ℕ = 10 - i in
      let t : Tape = with_marks (down i) in
      let t' : Tape = with_marks (down (suc i)) in
      let e : cell j ≡ cell (11 - suc i) = omega arith in
      let is : put t (cell j) 0 ≡ t' = puts input s blank none n (down i) j 0 (omega arith) ∙ ap (λ u. laid u (trail + 8) n) (laned_ext 3 s (set_cell (down i) j 0) (down (suc i)) 12 (λ k lk. further i k (omega arith))) in
      does_within (suc i * 521) (next (next (cleared_all i (omega arith)) (does_goto input (cell (11 - i)) (cell j) t 10 (omega arith))) (between (cell j) (cell (11 - suc i)) (comes_to t' (clear_any input (cell j) t) is) refl e)) (omega arith)
    where
      further : (i k : ℕ) → i < 6 → set_cell (down i) (10 - i) 0 k ≡ down (suc i) k
      further i k lt = by (nat_eq k (10 - i)) refl
        where
          by : (b : Bool) → nat_eq k (10 - i) ≡ b → cond b 0 (down i k) ≡ down (suc i) k
          by true x =
              let is : k ≡ 10 - i = eqb-true k (10 - i) x in
              let e : nat_lt k 5 ≡ false = grind (arith, nat_tests) in
              let f : nat_lt k (11 - suc i) ≡ false = grind (arith, nat_tests) in
              sym (λ q. cond (e q) 0 (cond (f q) 4 0))
          by false x =
              let ne : k ≢ 10 - i = eqb-false k (10 - i) x in
              let f : nat_lt k (11 - i) ≡ nat_lt k (11 - suc i) = grind (arith, nat_tests) in
              ap (λ b. cond (nat_lt k 5) 0 (cond b 4 0)) f

  down_begun : with_marks (spent 6 a) ≡ with_marks (down 0)
  down_begun = ap (λ u. laid u (trail + 8) n) (laned_ext 3 s (spent 6 a) (down 0) 12 (λ k lk. by k lk (nat_lt k 11) (nat_eq k 11) refl refl))
    where
      by : (k : ℕ) → k < 12 → (x y : Bool) → nat_lt k 11 ≡ x → nat_eq k 11 ≡ y → cond (nat_lt k 5) 0 (cond x 4 (cond y 0 (a k))) ≡ cond (nat_lt k 5) 0 (cond x 4 0)
      by k lk true y ex ey = refl
      by k lk false true ex ey = refl
      by k lk false false ex ey = absurd (grind (arith, nat_tests))

  down_all : with_marks (down 6) ≡ with_marks (λ k. 0)
  down_all = ap (λ u. laid u (trail + 8) n) (laned_ext 3 s (down 6) (λ k. 0) 12 (λ k lk. by (nat_lt k 5) 0 4))
    where
      by : (x : Bool) (v w : ℕ) → cond x v (cond x w v) ≡ v
      by true v w = refl
      by false v w = refl

  abbrev bare : Tape
  bare = put (laned 3 s (λ k. 0) 12) 168 0

  bare_blank : IsBlank bare (trail + 8)
  bare_blank = record { at = λ k. get_other (laned 3 s (λ k. 0) 12) 168 (trail + 8 + 4 * k) 0 (λ e. absurd (omega arith)) ∙ (laned_blank s (λ k. 0) blank).at k }

  bare_none : get bare trail ≡ 0
  bare_none = get_other (laned 3 s (λ k. 0) 12) 168 trail 0 (λ e. absurd (omega arith)) ∙ (get_laned_other 3 s (λ k. 0) 12 trail (λ k lk e. absurd (omega arith)) ∙ none)

  lowered_side : put (with_marks (λ k. 0)) 168 0 ≡ laid bare (trail + 8) n
  lowered_side = sym (laid_put (laned 3 s (λ k. 0) 12) (trail + 8) n 168 0 (λ k lk e. absurd (omega arith)))

  -- the side goes to the trail's end
  side_done : (side : ℕ) → side < 2 → get s 168 ≡ side → Does input (loop side_trip) 168 (with_marks (λ k. 0)) 168 (sided bare trail n side) (18 * n + 60)
  side_done side lt is = by side lt (get_laid_other (laned 3 s (λ k. 0) 12) (trail + 8) n 168 (λ k lk e. absurd (omega arith)) ∙ (get_laned_other 3 s (λ k. 0) 12 168 (λ k lk e. absurd (omega arith)) ∙ is))
    where
      u : Tape
      u = with_marks (λ k. 0)

      trip : (v : ℕ) → get (with_marks (λ k. 0)) 168 ≡ suc v → v ≡ 0 → Does input side_trip 168 (with_marks (λ k. 0)) 168 (sided bare trail n 1) (18 * n + 50)
      trip v is z =
          let w : Tape = laid bare (trail + 8) n in
          let end : ℕ = end_of trail n in
          let down : put (with_marks (λ k. 0)) 168 (lowered (get (with_marks (λ k. 0)) 168)) ≡ w = ap (λ x. put (with_marks (λ k. 0)) 168 (lowered x)) is ∙ (ap (put (with_marks (λ k. 0)) 168) z ∙ lowered_side) in
          let walked = trail_walked input w trail n (trail_of bare trail n bare_blank bare_none) in
          let f : trail + 8 + 4 * (2 * n + 1) ≡ end + 4 = omega arith in
          let zero_at : get w (end + 4) ≡ 0 = get_laid_other bare (trail + 8) n (end + 4) (λ k lk e. absurd (omega arith)) ∙ (ap (get bare) (sym f) ∙ bare_blank.at (2 * n + 1)) in
          let t : Tape = sided bare trail n 1 in
          let mark : put w (end + 4) (raised (get w (end + 4))) ≡ t = ap (λ x. put w (end + 4) (raised x)) zero_at in
          let at = (trails_taken_up input bare trail n 1 (omega arith) bare_blank bare_none).0 in
          let back = (trail_walked input t trail n at.trail).back in
          does_within (18 * n + 50)
          (next (next (next (next (next (next (next (comes_to w (does_minus input 168 (with_marks (λ k. 0))) down) (does_goto input 168 trail w 4 (omega arith))) walked.out)
          (does_rights input 4 end w)) (comes_to t (does_plus input (end + 4) w) mark)) (does_lefts input 4 end t)) back) (does_goto input trail 168 t 4 (omega arith))) (omega arith)

      balanced : IsBalanced side_trip
      balanced = refl

      by : (side : ℕ) → side < 2 → get (with_marks (λ k. 0)) 168 ≡ side → Does input (loop side_trip) 168 (with_marks (λ k. 0)) 168 (sided bare trail n side) (18 * n + 60)
      by zero lt is =
          let f : trail + 8 + 4 * (2 * n + 1) ≡ end_of trail n + 4 = omega arith in
          let zero_at : get (laid bare (trail + 8) n) (end_of trail n + 4) ≡ 0 = get_laid_other bare (trail + 8) n (end_of trail n + 4) (λ k lk e. absurd (omega arith)) ∙ (ap (get bare) (sym f) ∙ bare_blank.at (2 * n + 1)) in
          let same : with_marks (λ k. 0) ≡ sided bare trail n 0 = sym (put_is (with_marks (λ k. 0)) 168 0 is) ∙ (lowered_side ∙ sym (put_is (laid bare (trail + 8) n) (end_of trail n + 4) 0 zero_at)) in
          does_within (18 * n + 60) (comes_to (sided bare trail n 0) (skipped side_trip balanced is) same) (omega arith)
      by (suc v) lt is =
          let z : v ≡ 0 = omega arith in
          let t : Tape = sided bare trail n 1 in
          let off : get t 168 ≡ 0 = get_other (laid bare (trail + 8) n) (end_of trail n + 4) 168 1 (λ e. absurd (omega arith)) ∙ (get_laid_other bare (trail + 8) n 168 (λ k lk e. absurd (omega arith)) ∙ get_put (laned 3 s (λ k. 0) 12) 168 0) in
          let e : t ≡ sided bare trail n (suc v) = ap (λ x. sided bare trail n (suc x)) (sym z) in
          does_within (18 * n + 60) (comes_to (sided bare trail n (suc v)) (once (λ q. absurd (omega (arith, is, q))) (trip v is z) off) e) (omega arith)

  pub aimed : (side : ℕ) → side < 2 → n < 2 ^ 23 → get s 168 ≡ side → Does input trail_code 135 (laned 3 s a 12) 135 (sided bare trail n side) (2 ^ 18 * (n + 1))
  aimed side lt near is =
      let few = nest_few a small near in
      let last : Tape = sided bare trail n side in
      does_within (2 ^ 18 * (n + 1))
      (next (next (next (next (next (next (comes_to (laned 3 s (up 0) 12) (does_goto input 135 (cell 5) (laned 3 s a 12) 62 (omega arith)) up_none)
      (comes_to (laned 3 s (started a) 12) (raised_all 6 (omega arith)) up_all)) (comes_to (with_marks (down 0)) (nest_done input s blank none a) down_begun))
      (comes_to (with_marks (λ k. 0)) (cleared_all 6 (omega arith)) down_all)) (does_goto input (cell 5) 168 (with_marks (λ k. 0)) 95 (omega arith)))
      (side_done side lt is)) (does_goto input 168 135 last 33 (omega arith))) (sums (level_most (trip_most n) a 6) n (2 ^ 18 * (n + 1)) few)
    where
      sums : (l n top : ℕ) → l + 5000 + 20 * n ≤ top → 62 + 6 * 11 + l + 6 * 521 + 95 + (18 * n + 60) + 33 ≤ top
      sums l n top le = omega arith

pub trails_laid : TrailsAreLaid
trails_laid input s a side lt small near blank none is = aimed input s a small blank none side lt near is
