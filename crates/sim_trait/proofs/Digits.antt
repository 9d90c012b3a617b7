-- The number of binary digits.
use Rattle.std.proofs.Common.{◌≡◌, ◌≢◌, ℕ, zero, suc, ◌+◌, ◌*◌, ◌/◌, ◌^◌, ◌<◌, ◌≤◌, true, false, cond, nat_eq, refl, ap, ◌∙◌, arith, add-one}
use Rattle.std.proofs.lemmas.Bool.{eqb-true, eqb-false}
use Rattle.std.proofs.Math.Nat.{pow-succ'}
use Rattle.sim_trait.specs.Digits.{halvings, digit_count, HasDigits}

halvings-few : (most n : ℕ) → halvings most n ≤ n
halvings-few zero n = omega arith
halvings-few (suc most) n = elim (nat_eq n 0) as (λ b. nat_eq n 0 ≡ b → cond b 0 (halvings most (n / 2) + 1) ≤ n) [
  | true ↦ λ e. omega arith
  | false ↦ λ e. let some : n ≢ 0 = eqb-false n 0 e in omega (arith, halvings-few most (n / 2))
] refl

-- one digit more than the half has
one_more : (n d : ℕ) → n ≢ 0 → HasDigits (n / 2) d → HasDigits n (d + 1)
one_more n d some half = record {
  enough = let p : 2 ^ (d + 1) ≡ 2 * 2 ^ d = ap (λ j. 2 ^ j) (add-one d) ∙ pow-succ' 2 d in omega (arith, half.enough);
  least = λ k h. least k h;
}
  where
    least : (k : ℕ) → n < 2 ^ k → d + 1 ≤ k
    least zero h = absurd (omega arith)
    least (suc k) h =
        let p : 2 ^ suc k ≡ 2 * 2 ^ k = pow-succ' 2 k in
        omega (arith, half.least k (omega arith))

halvings-digits : (most n : ℕ) → n ≤ most → HasDigits n (halvings most n)
halvings-digits zero n small = record { enough = omega arith; least = λ k h. omega arith }
halvings-digits (suc most) n small = elim (nat_eq n 0) as (λ b. nat_eq n 0 ≡ b → HasDigits n (cond b 0 (halvings most (n / 2) + 1))) [
  | true ↦ λ e. let none : n ≡ 0 = eqb-true n 0 e in record { enough = omega arith; least = λ k h. omega arith }
  | false ↦ λ e. let some : n ≢ 0 = eqb-false n 0 e in one_more n (halvings most (n / 2)) some (halvings-digits most (n / 2) (omega arith))
] refl

pub digit_count-small : (n : ℕ) → digit_count n ≤ n
unfolding digit_count
digit_count-small n = halvings-few n n

pub digit_count-digits : (n : ℕ) → HasDigits n (digit_count n)
unfolding digit_count
digit_count-digits n = halvings-digits n n (omega arith)
