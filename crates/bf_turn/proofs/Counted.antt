-- The number of binary digits, from the zeros in front of 32 of them.
use Rattle.std.proofs.Common.{◌≡◌, ℕ, suc, ◌-◌, ◌*◌, ◌^◌, ◌<◌, ◌≤◌, nat_lt, true, false, refl, arith}
use Rattle.std.specs.Int.Count.{count_leading_zeros}
use Rattle.std.proofs.lemmas.Nat.{leading_length}
use Rattle.std.proofs.lemmas.Bool.{ltb-true, ltb-false}
use Rattle.std.proofs.Math.Nat.{pow-succ', pow-le-pow_right}
use Rattle.sim_trait.specs.Digits.{digit_count}
use Rattle.sim_trait.proofs.Digits.{digit_count-digits}

pub counted : (n : ℕ) → n < 2 ^ 32 → 32 - count_leading_zeros 32 n ≡ digit_count n
counted n small =
    let (m, all, within, lead) = leading_length 32 n small in
    let has = digit_count-digits n in
    let few : digit_count n ≤ m = has.least m within in
    elim (nat_lt (digit_count n) m) as (λ b. nat_lt (digit_count n) m ≡ b → 32 - count_leading_zeros 32 n ≡ digit_count n) [
      | true ↦ λ e.
          let lt : digit_count n < m = ltb-true (digit_count n) m e in
          let p : 2 ^ suc (digit_count n) ≡ 2 * 2 ^ digit_count n = pow-succ' 2 (digit_count n) in
          let next : suc (digit_count n) ≤ m = omega arith in
          let grows : 2 ^ suc (digit_count n) ≤ 2 ^ m = pow-le-pow_right (omega arith) next in
          absurd (omega (arith, has.enough))
      | false ↦ λ e. let ge : m ≤ digit_count n = ltb-false (digit_count n) m e in omega arith
    ] refl
