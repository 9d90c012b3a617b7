-- Words that are moved, compared and reduced.
use Rattle.std.proofs.Common.{◌≡◌, ℕ, ◌+◌, ◌-◌, ◌%◌, ◌^◌, ◌<◌, ◌≤◌, true, false, refl, ap, nat_lt, arith}
use Rattle.std.specs.Prelude.{ℤ, pos, negsuc, ◌-ℤ◌, ◌≤ℤ◌, ◌<ℤ◌, int_le}
use Rattle.std.proofs.lemmas.Int.{ints}
use Rattle.std.proofs.lemmas.Bool.{ltb-true, ltb-false}
use Rattle.eir_core.specs.Memory.{Memory}
use Rattle.sq_back.specs.Code.{load_lines, store_lines, find_lines, move_lines, wrap_sum_lines, wrap_difference_lines}
use Rattle.sq_back.proofs.CellLemmas.{Small}
use Rattle.sq_back.proofs.Bank.{Slot, Hand, Bank, Frame, cell_of, get, put, get-put, put-put, number_at}
use Rattle.sq_back.proofs.Steps.{state, Code, head_line, tail_lines, lines_as, Has, Goes, Comes, goes_then, goes_as, fixed, zero_has, high_row, zero_on, slot_on, slot_next, slot_jump, slot_fall, slot_clear, zero_go}
use Rattle.word24.specs.Word.{difference_word}

-- a number below 0
abbrev pub minus : ℕ → ℤ
minus x = pos 0 -ℤ pos x

pub small_pos : (x : ℕ) → x ≤ 2 ^ 30 → Small (pos x)
small_pos x h = record { low = omega (arith, ints); high = omega (arith, ints) }

pub small_minus : (x : ℕ) → x ≤ 2 ^ 30 → Small (minus x)
small_minus x h = record { low = omega (arith, ints); high = omega (arith, ints) }

pub above_zero : (v : ℤ) → pos 0 <ℤ v → int_le v (pos 0) ≡ false
above_zero (pos n) h = let some : 0 < n = omega (arith, ints) in grind arith
above_zero (negsuc n) h = absurd (omega (arith, ints))

pub at_most_zero : (v : ℤ) → v ≤ℤ pos 0 → int_le v (pos 0) ≡ true
at_most_zero (pos n) h = let none : n ≡ 0 = omega (arith, ints) in rw none refl
at_most_zero (negsuc n) h = refl

twice : (z u : ℤ) → z ≡ pos 0 → z -ℤ (pos 0 -ℤ u) ≡ u
twice z u e = rw e (omega (arith, ints))

pub minus_minus : (z : ℤ) (x : ℕ) → z ≡ pos 0 → z -ℤ minus x ≡ pos x
minus_minus z x e = twice z (pos x) e

-- the numbers that stay, and the lines for memory and for blocks, in a program of so many blocks
pub record Ready (f : Frame) (n : ℕ) : Type 0 where
  pub few : n ≤ 2 ^ 24
  pub one : number_at f.image 12 ≡ pos 1
  pub minus_one : number_at f.image 13 ≡ negsuc 0
  pub most : number_at f.image 14 ≡ pos (2 ^ 24 - 1)
  pub minus_most : number_at f.image 15 ≡ negsuc (2 ^ 24 - 2)
  pub memory : number_at f.image 16 ≡ pos f.start
  pub count : number_at f.image 17 ≡ pos n
  pub rows : number_at f.image 18 ≡ pos 132
  pub load : Code f 21 load_lines
  pub store : Code f 48 store_lines
  pub find : Code f 90 find_lines

module _ (f : Frame) where
  -- a slot gets a cell's number
  pub moves : (b : Bank) (m : Memory) (i a : ℕ) (s : Slot) (place u : ℤ) → Code f i (move_lines i a (cell_of f.hand s) place) → 132 ≤ i → Has f (pos 0) b m a u → Small u
      → Goes f (state (pos i) (pos 0) b m) (state place (pos 0) (put b s u) m) 4
  moves b m i a s place u c0 high from few =
      let n : ℤ = pos 0 -ℤ u in
      let c1 = tail_lines c0 in
      let c2 = tail_lines c1 in
      let c3 = tail_lines c2 in
      let b1 = put b s (pos 0) in
      let b2 = put b1 s u in
      let low : Small n = record { low = omega (arith, ints, few.low, few.high); high = omega (arith, ints, few.low, few.high) } in
      let s0 = zero_on f (pos 0) b m i a u n (high_row f (pos 0) b m i _ (head_line c0) high) from refl low in
      let s1 = slot_clear f n b m (i + 3) s (high_row f n b m (i + 3) _ (head_line c1) (omega arith)) in
      let s2 = slot_on f n b1 m (i + 3 + 3) 3 s n u (high_row f n b1 m (i + 3 + 3) _ (head_line c2) (omega arith)) (zero_has f n b1 m) (twice (get b1 s) u (get-put b s (pos 0))) few in
      let s3 = zero_go f n b2 m (i + 3 + 3 + 3) place (high_row f n b2 m (i + 3 + 3 + 3) _ (head_line c3) (omega arith)) in
      goes_as _ (state place (pos 0) (put b s u) m) (goes_then s0 (goes_then s1 (goes_then s2 s3))) (ap (λ y. state place (pos 0) y m) (put-put b s (pos 0) u))

module _ (f : Frame) (n : ℕ) (ready : Ready f n) where
  pub one_has : (z : ℤ) (b : Bank) (m : Memory) → Has f z b m 12 (pos 1)
  one_has z b m = fixed f z b m 12 (pos 1) (omega (arith, f.high)) refl ready.one

  pub minus_one_has : (z : ℤ) (b : Bank) (m : Memory) → Has f z b m 13 (negsuc 0)
  minus_one_has z b m = fixed f z b m 13 (negsuc 0) (omega (arith, f.high)) refl ready.minus_one

  pub most_has : (z : ℤ) (b : Bank) (m : Memory) → Has f z b m 14 (pos (2 ^ 24 - 1))
  most_has z b m = fixed f z b m 14 (pos (2 ^ 24 - 1)) (omega (arith, f.high)) refl ready.most

  pub minus_most_has : (z : ℤ) (b : Bank) (m : Memory) → Has f z b m 15 (negsuc (2 ^ 24 - 2))
  minus_most_has z b m = fixed f z b m 15 (negsuc (2 ^ 24 - 2)) (omega (arith, f.high)) refl ready.minus_most

  pub memory_has : (z : ℤ) (b : Bank) (m : Memory) → Has f z b m 16 (pos f.start)
  memory_has z b m = fixed f z b m 16 (pos f.start) (omega (arith, f.high)) refl ready.memory

  pub count_has : (z : ℤ) (b : Bank) (m : Memory) → Has f z b m 17 (pos n)
  count_has z b m = fixed f z b m 17 (pos n) (omega (arith, f.high)) refl ready.count

  pub rows_has : (z : ℤ) (b : Bank) (m : Memory) → Has f z b m 18 (pos 132)
  rows_has z b m = fixed f z b m 18 (pos 132) (omega (arith, f.high)) refl ready.rows

  -- a sum in the register in hand becomes a word
  pub wraps_sum : (b : Bank) (m : Memory) (i : ℕ) (place : ℤ) (s : ℕ) → Code f i (wrap_sum_lines i (cell_of f.hand Hand) place) → 132 ≤ i → s < 2 ^ 25
      → Comes f (state (pos i) (pos 0) (put b Hand (pos s)) m) (state place (pos 0) (put b Hand (pos (s % 2 ^ 24))) m) 3
  wraps_sum b m i place s c0 high few =
      let o : ℤ = pos 0 in
      let c1 = tail_lines c0 in
      let c2 = tail_lines c1 in
      let c3 = tail_lines c2 in
      let c4 = tail_lines c3 in
      let v : ℤ = pos s -ℤ pos (2 ^ 24 - 1) in
      let b0 = put b Hand (pos s) in
      let b1 = put b Hand v in
      let low : Small v = record { low = omega (arith, ints); high = omega (arith, ints) } in
      let w = s % 2 ^ 24 in
      let b2 = put b Hand (pos w) in
      elim (nat_lt s (2 ^ 24)) as (λ t. nat_lt s (2 ^ 24) ≡ t → Comes f (state (pos i) o b0 m) (state place o b2 m) 3) [
        | true ↦ λ e.
            let lt : s < 2 ^ 24 = ltb-true _ _ e in
            let s0 = slot_jump f o b0 m i 14 Hand (pos (i + 9)) (pos (2 ^ 24 - 1)) v (high_row f o b0 m i _ (head_line c0) high) (most_has o b0 m) refl low (at_most_zero v (omega (arith, ints))) in
            let d3 = lines_as (i + 3 + 3 + 3) (i + 9) (omega arith) c3 in
            let d4 = lines_as (i + 3 + 3 + 3 + 3) (i + 12) (omega arith) c4 in
            let s1 = slot_next f o b1 m (i + 9) (i + 12) 15 Hand (negsuc (2 ^ 24 - 2)) (pos w) (high_row f o b1 m (i + 9) _ (head_line d3) (omega arith)) (minus_most_has o b1 m) (omega (arith, ints)) (small_pos w (omega arith)) (omega arith) in
            let s2 = zero_go f o b2 m (i + 12) place (high_row f o b2 m (i + 12) _ (head_line d4) (omega arith)) in
            record { count = 3; some = omega arith; few = omega arith; goes = goes_then s0 (goes_then s1 s2) }
        | false ↦ λ e.
            let ge : 2 ^ 24 ≤ s = ltb-false _ _ e in
            let s0 = slot_fall f o b0 m i 14 Hand (pos (i + 9)) (pos (2 ^ 24 - 1)) v (high_row f o b0 m i _ (head_line c0) high) (most_has o b0 m) refl low (above_zero v (omega (arith, ints))) in
            let s1 = slot_next f o b1 m (i + 3) (i + 6) 12 Hand (pos 1) (pos w) (high_row f o b1 m (i + 3) _ (head_line c1) (omega arith)) (one_has o b1 m) (omega (arith, ints)) (small_pos w (omega arith)) (omega arith) in
            let d2 = lines_as (i + 3 + 3) (i + 6) (omega arith) c2 in
            let s2 = zero_go f o b2 m (i + 6) place (high_row f o b2 m (i + 6) _ (head_line d2) (omega arith)) in
            record { count = 3; some = omega arith; few = omega arith; goes = goes_then s0 (goes_then s1 s2) }
      ] refl

  -- a difference in the register in hand becomes a word
  pub wraps_difference : (b : Bank) (m : Memory) (i : ℕ) (place : ℤ) (x y : ℕ) → Code f i (wrap_difference_lines i (cell_of f.hand Hand) place) → 132 ≤ i → x < 2 ^ 24 → y < 2 ^ 24
      → Comes f (state (pos i) (pos 0) (put b Hand (pos x -ℤ pos y)) m) (state place (pos 0) (put b Hand (pos (difference_word x y))) m) 3
  wraps_difference b m i place x y c0 high few few' =
      let o : ℤ = pos 0 in
      let c1 = tail_lines c0 in
      let c2 = tail_lines c1 in
      let c3 = tail_lines c2 in
      let c4 = tail_lines c3 in
      let d : ℤ = pos x -ℤ pos y in
      let v : ℤ = d -ℤ negsuc 0 in
      let b0 = put b Hand d in
      let b1 = put b Hand v in
      let low : Small v = record { low = omega (arith, ints); high = omega (arith, ints) } in
      let w = difference_word x y in
      let b2 = put b Hand (pos w) in
      elim (nat_lt x y) as (λ t. nat_lt x y ≡ t → Comes f (state (pos i) o b0 m) (state place o b2 m) 3) [
        | true ↦ λ e.
            let lt : x < y = ltb-true _ _ e in
            let s0 = slot_jump f o b0 m i 13 Hand (pos (i + 9)) (negsuc 0) v (high_row f o b0 m i _ (head_line c0) high) (minus_one_has o b0 m) refl low (at_most_zero v (omega (arith, ints))) in
            let d3 = lines_as (i + 3 + 3 + 3) (i + 9) (omega arith) c3 in
            let d4 = lines_as (i + 3 + 3 + 3 + 3) (i + 12) (omega arith) c4 in
            let s1 = slot_next f o b1 m (i + 9) (i + 12) 15 Hand (negsuc (2 ^ 24 - 2)) (pos w) (high_row f o b1 m (i + 9) _ (head_line d3) (omega arith)) (minus_most_has o b1 m) (omega (arith, ints)) (small_pos w (omega arith)) (omega arith) in
            let s2 = zero_go f o b2 m (i + 12) place (high_row f o b2 m (i + 12) _ (head_line d4) (omega arith)) in
            record { count = 3; some = omega arith; few = omega arith; goes = goes_then s0 (goes_then s1 s2) }
        | false ↦ λ e.
            let ge : y ≤ x = ltb-false _ _ e in
            let s0 = slot_fall f o b0 m i 13 Hand (pos (i + 9)) (negsuc 0) v (high_row f o b0 m i _ (head_line c0) high) (minus_one_has o b0 m) refl low (above_zero v (omega (arith, ints))) in
            let s1 = slot_next f o b1 m (i + 3) (i + 6) 12 Hand (pos 1) (pos w) (high_row f o b1 m (i + 3) _ (head_line c1) (omega arith)) (one_has o b1 m) (omega (arith, ints)) (small_pos w (omega arith)) (omega arith) in
            let d2 = lines_as (i + 3 + 3) (i + 6) (omega arith) c2 in
            let s2 = zero_go f o b2 m (i + 6) place (high_row f o b2 m (i + 6) _ (head_line d2) (omega arith)) in
            record { count = 3; some = omega arith; few = omega arith; goes = goes_then s0 (goes_then s1 s2) }
      ] refl
