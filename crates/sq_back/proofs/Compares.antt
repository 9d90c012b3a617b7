-- Words that are compared.
use Rattle.std.proofs.Common.{◌≡◌, ℕ, ◌+◌, ◌^◌, ◌<◌, ◌≤◌, true, false, not, cond, refl, sym, ap, nat_eq, nat_lt, arith}
use Rattle.std.specs.Prelude.{ℤ, pos, negsuc, nat_le, ◌-ℤ◌}
use Rattle.std.proofs.lemmas.Int.{ints}
use Rattle.std.proofs.lemmas.Bool.{ltb-true, ltb-false}
use Rattle.eir_core.specs.declared.ops.Cond.{Cond}
use Rattle.eir_core.specs.declared.ops.Cond.TheVariants.{Eq, Ne, Lt, Gt, Le, Ge}
use Rattle.eir_core.specs.Memory.{Memory}
use Rattle.eir_core.specs.Step.{holds}
use Rattle.sq_back.specs.Code.{Branches, branches_of, difference_lines, sign_lines, compare_lines}
use Rattle.sq_back.proofs.CellLemmas.{Small}
use Rattle.sq_back.proofs.Bank.{Work, Bank, Frame, put}
use Rattle.sq_back.proofs.Steps.{State, state, Code, head_line, tail_lines, front_lines, back_lines, lines_as, Has, Goes, Comes, goes_then, goes_as, zero_has, high_row, zero_on, slot_on, slot_jump, slot_fall, slot_clear, zero_clear, zero_go}
use Rattle.sq_back.proofs.Moves.{minus, small_pos, small_minus, above_zero, at_most_zero, minus_minus, Ready, minus_one_has}

-- where the difference is negative, 0, or positive, the way is that of the comparison
below : (test : Cond) (there otherwise : ℤ) (x y : ℕ) → x < y → (branches_of test there otherwise).negative ≡ cond (holds test x y) there otherwise
below Eq there otherwise x y h = let e : nat_eq x y ≡ false = grind arith in sym (ap (λ t. cond t there otherwise) e)
below Ne there otherwise x y h = let e : nat_eq x y ≡ false = grind arith in sym (ap (λ t. cond (not t) there otherwise) e)
below Lt there otherwise x y h = let e : nat_lt x y ≡ true = grind arith in sym (ap (λ t. cond t there otherwise) e)
below Gt there otherwise x y h = let e : nat_lt y x ≡ false = grind arith in sym (ap (λ t. cond t there otherwise) e)
below Le there otherwise x y h = let e : nat_le x y ≡ true = grind arith in sym (ap (λ t. cond t there otherwise) e)
below Ge there otherwise x y h = let e : nat_le y x ≡ false = grind arith in sym (ap (λ t. cond t there otherwise) e)

same : (test : Cond) (there otherwise : ℤ) (x y : ℕ) → x ≡ y → (branches_of test there otherwise).zero ≡ cond (holds test x y) there otherwise
same Eq there otherwise x y h = let e : nat_eq x y ≡ true = grind arith in sym (ap (λ t. cond t there otherwise) e)
same Ne there otherwise x y h = let e : nat_eq x y ≡ true = grind arith in sym (ap (λ t. cond (not t) there otherwise) e)
same Lt there otherwise x y h = let e : nat_lt x y ≡ false = grind arith in sym (ap (λ t. cond t there otherwise) e)
same Gt there otherwise x y h = let e : nat_lt y x ≡ false = grind arith in sym (ap (λ t. cond t there otherwise) e)
same Le there otherwise x y h = let e : nat_le x y ≡ true = grind arith in sym (ap (λ t. cond t there otherwise) e)
same Ge there otherwise x y h = let e : nat_le y x ≡ true = grind arith in sym (ap (λ t. cond t there otherwise) e)

above : (test : Cond) (there otherwise : ℤ) (x y : ℕ) → y < x → (branches_of test there otherwise).positive ≡ cond (holds test x y) there otherwise
above Eq there otherwise x y h = let e : nat_eq x y ≡ false = grind arith in sym (ap (λ t. cond t there otherwise) e)
above Ne there otherwise x y h = let e : nat_eq x y ≡ false = grind arith in sym (ap (λ t. cond (not t) there otherwise) e)
above Lt there otherwise x y h = let e : nat_lt x y ≡ false = grind arith in sym (ap (λ t. cond t there otherwise) e)
above Gt there otherwise x y h = let e : nat_lt y x ≡ true = grind arith in sym (ap (λ t. cond t there otherwise) e)
above Le there otherwise x y h = let e : nat_le x y ≡ false = grind arith in sym (ap (λ t. cond t there otherwise) e)
above Ge there otherwise x y h = let e : nat_le y x ≡ true = grind arith in sym (ap (λ t. cond t there otherwise) e)

-- a way to a place, with some number in the work cell
pub record Signed (f : Frame) (c : State) (place : ℤ) (b : Bank) (m : Memory) (most : ℕ) : Type 0 where
  pub value : ℤ
  pub way : Comes f c (state place (pos 0) (put b Work value) m) most

module _ (f : Frame) (n : ℕ) (ready : Ready f n) where
  -- the difference of two words comes into the work cell
  differences : (b : Bank) (m : Memory) (i a c x y : ℕ) → Code f i (difference_lines i a c) → 132 ≤ i → Has f (pos 0) b m a (pos x) → Has f (pos 0) (put b Work (pos x)) m c (pos y) → x < 2 ^ 24 → y < 2 ^ 24
      → Goes f (state (pos i) (pos 0) b m) (state (pos (i + 15)) (pos 0) (put b Work (pos x -ℤ pos y)) m) 5
  differences b m i a c x y c0 high from to few few' =
      let o : ℤ = pos 0 in
      let z = minus x in
      let b1 = put b Work o in
      let b2 = put b Work (pos x) in
      let d : ℤ = pos x -ℤ pos y in
      let b3 = put b Work d in
      let c1 = tail_lines c0 in
      let c2 = tail_lines c1 in
      let c3 = tail_lines c2 in
      let c4 = tail_lines c3 in
      let i1 = i + 3 in
      let i2 = i + 3 + 3 in
      let i3 = i + 3 + 3 + 3 in
      let i4 = i + 3 + 3 + 3 + 3 in
      let low : Small d = record { low = omega (arith, ints); high = omega (arith, ints) } in
      let far : i + 3 + 3 + 3 + 3 + 3 ≡ i + 15 = omega arith in
      let s0 = zero_on f o b m i a (pos x) z (high_row f o b m i _ (head_line c0) high) from refl (small_minus x (omega arith)) in
      let s1 = slot_clear f z b m i1 Work (high_row f z b m i1 _ (head_line c1) (omega arith)) in
      let s2 = slot_on f z b1 m i2 3 Work z (pos x) (high_row f z b1 m i2 _ (head_line c2) (omega arith)) (zero_has f z b1 m) (minus_minus o x refl) (small_pos x (omega arith)) in
      let s3 = zero_clear f z b2 m i3 (high_row f z b2 m i3 _ (head_line c3) (omega arith)) in
      let s4 = slot_on f o b2 m i4 c Work (pos y) d (high_row f o b2 m i4 _ (head_line c4) (omega arith)) to refl low in
      goes_as _ (state (pos (i + 15)) o b3 m) (goes_then s0 (goes_then s1 (goes_then s2 (goes_then s3 s4)))) (ap (λ k. state (pos k) o b3 m) far)

  -- the sign of the difference in the work cell shows the way
  signs : (b : Bank) (m : Memory) (i x y : ℕ) (branches : Branches) (place : ℤ) → Code f i (sign_lines i branches) → 132 ≤ i → x < 2 ^ 24 → y < 2 ^ 24 → (x < y → branches.negative ≡ place) → (x ≡ y → branches.zero ≡ place) → (y < x → branches.positive ≡ place)
      → Signed f (state (pos i) (pos 0) (put b Work (pos x -ℤ pos y)) m) place b m 3
  signs b m i x y branches place c0 high few few' less equal more =
      let o : ℤ = pos 0 in
      let d : ℤ = pos x -ℤ pos y in
      let v : ℤ = d -ℤ negsuc 0 in
      let b0 = put b Work d in
      let b1 = put b Work v in
      let c1 = tail_lines c0 in
      let c2 = lines_as (i + 3 + 3) (i + 6) (omega arith) (tail_lines c1) in
      let c3 = tail_lines c2 in
      let low : Small d = record { low = omega (arith, ints); high = omega (arith, ints) } in
      let low' : Small v = record { low = omega (arith, ints); high = omega (arith, ints) } in
      let kept : d -ℤ o ≡ d = omega (arith, ints) in
      let r0 = high_row f o b0 m i _ (head_line c0) high in
      let r2 = high_row f o b0 m (i + 6) _ (head_line c2) (omega arith) in
      elim (nat_lt y x) as (λ t. nat_lt y x ≡ t → Signed f (state (pos i) o b0 m) place b m 3) [
        | true ↦ λ e.
            let lt : y < x = ltb-true _ _ e in
            let s0 = slot_fall f o b0 m i 3 Work (pos (i + 6)) o d r0 (zero_has f o b0 m) kept low (above_zero d (omega (arith, ints))) in
            let s1 = zero_go f o b0 m (i + 3) branches.positive (high_row f o b0 m (i + 3) _ (head_line c1) (omega arith)) in
            record { value = d; way = record { count = 2; some = omega arith; few = omega arith; goes = goes_as _ (state place o b0 m) (goes_then s0 s1) (ap (λ g. state g o b0 m) (more lt)) } }
        | false ↦ λ e.
            let ge : x ≤ y = ltb-false _ _ e in
            let s0 = slot_jump f o b0 m i 3 Work (pos (i + 6)) o d r0 (zero_has f o b0 m) kept low (at_most_zero d (omega (arith, ints))) in
            elim (nat_lt x y) as (λ t. nat_lt x y ≡ t → Signed f (state (pos i) o b0 m) place b m 3) [
              | true ↦ λ e'.
                  let lt : x < y = ltb-true _ _ e' in
                  let s1 = slot_jump f o b0 m (i + 6) 13 Work branches.negative (negsuc 0) v r2 (minus_one_has f n ready o b0 m) refl low' (at_most_zero v (omega (arith, ints))) in
                  record { value = v; way = record { count = 2; some = omega arith; few = omega arith; goes = goes_as _ (state place o b1 m) (goes_then s0 s1) (ap (λ g. state g o b1 m) (less lt)) } }
              | false ↦ λ e'.
                  let le : y ≤ x = ltb-false _ _ e' in let is : x ≡ y = omega arith in
                  let s1 = slot_fall f o b0 m (i + 6) 13 Work branches.negative (negsuc 0) v r2 (minus_one_has f n ready o b0 m) refl low' (above_zero v (omega (arith, ints))) in
                  let s2 = zero_go f o b1 m (i + 6 + 3) branches.zero (high_row f o b1 m (i + 6 + 3) _ (head_line c3) (omega arith)) in
                  record { value = v; way = record { count = 3; some = omega arith; few = omega arith; goes = goes_as _ (state place o b1 m) (goes_then s0 (goes_then s1 s2)) (ap (λ g. state g o b1 m) (equal is)) } }
            ] refl
      ] refl

  -- two words are compared
  pub compares : (b : Bank) (m : Memory) (i a c x y : ℕ) (test : Cond) (there otherwise : ℤ) → Code f i (compare_lines i a c (branches_of test there otherwise)) → 132 ≤ i → Has f (pos 0) b m a (pos x) → Has f (pos 0) (put b Work (pos x)) m c (pos y) → x < 2 ^ 24 → y < 2 ^ 24
      → Signed f (state (pos i) (pos 0) b m) (cond (holds test x y) there otherwise) b m 8
  compares b m i a c x y test there otherwise code high from to few few' =
      let branches = branches_of test there otherwise in
      let first = differences b m i a c x y (front_lines (difference_lines i a c) (sign_lines (i + 15) branches) code) high from to few few' in
      let second = signs b m (i + 15) x y branches (cond (holds test x y) there otherwise) (back_lines (difference_lines i a c) (sign_lines (i + 15) branches) code) (omega arith) few few' (below test there otherwise x y) (same test there otherwise x y) (above test there otherwise x y) in
      record { value = second.value; way = record { count = 5 + second.way.count; some = omega arith; few = omega (arith, second.way.few); goes = goes_then first second.way.goes } }
