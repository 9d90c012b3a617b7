-- Bytes of numbers.
use Rattle.std.proofs.Common.{◌≡◌, ℕ, zero, suc, ◌+◌, ◌-◌, ◌*◌, ◌%◌, ◌^◌, ◌<◌, ◌≤◌, true, false, nat_eq, nat_lt, cond, refl, sym, ap, ◌∙◌, arith, eq-eqb, ne_eqb}
use Rattle.std.proofs.lemmas.Bool.{ltb-true, ltb-false, lt-ltb, le-ltb}
use Rattle.bf_lang.specs.Cells.{raised, lowered}
use Rattle.bf_word.specs.Word.{low_byte, mid_byte, high_byte}

-- so much less, and so much more, of words
abbrev pub less : ℕ → ℕ → ℕ
less k d = (d + (2 ^ 24 - k)) % 2 ^ 24

abbrev pub more : ℕ → ℕ → ℕ
more k d = (d + k) % 2 ^ 24

pub same_tests : (x y z : ℕ) → (x ≡ 0 → y < z) → (y < z → x ≡ 0) → nat_eq x 0 ≡ nat_lt y z
same_tests x y z to from =
    elim (nat_lt y z) as (λ q. nat_lt y z ≡ q → nat_eq x 0 ≡ q) [
      | true ↦ λ q. eq-eqb x 0 (from (ltb-true y z q))
      | false ↦ λ q. let le : z ≤ y = ltb-false y z q in ne_eqb x 0 (λ e. let lt : y < z = to e in absurd (omega arith))
    ] refl

lowered_is : (v : ℕ) → v < 2 ^ 8 → lowered v ≡ (v + 255) % 2 ^ 8
lowered_is zero lt = refl
lowered_is (suc n) lt = omega arith

pub lowered_low : (d : ℕ) → d < 2 ^ 24 → lowered (low_byte d) ≡ low_byte (less 1 d)
lowered_low d lt = lowered_is (low_byte d) (omega arith) ∙ omega arith

pub lowered_mid : (d : ℕ) → d < 2 ^ 24 → lowered (mid_byte d) ≡ mid_byte (less 256 d)
lowered_mid d lt = lowered_is (mid_byte d) (omega arith) ∙ omega arith

pub lowered_high : (d : ℕ) → d < 2 ^ 24 → lowered (high_byte d) ≡ high_byte (less 65536 d)
lowered_high d lt = lowered_is (high_byte d) (omega arith) ∙ omega arith

-- the number of the bytes
pub bytes_low : (a b c : ℕ) → a < 2 ^ 8 → b < 2 ^ 8 → c < 2 ^ 8 → low_byte (a + 256 * b + 65536 * c) ≡ a
bytes_low a b c x y z = omega arith

pub bytes_mid : (a b c : ℕ) → a < 2 ^ 8 → b < 2 ^ 8 → c < 2 ^ 8 → mid_byte (a + 256 * b + 65536 * c) ≡ b
bytes_mid a b c x y z = omega arith

pub bytes_high : (a b c : ℕ) → a < 2 ^ 8 → b < 2 ^ 8 → c < 2 ^ 8 → high_byte (a + 256 * b + 65536 * c) ≡ c
bytes_high a b c x y z = omega arith

pub number_of_bytes : (v : ℕ) → v < 2 ^ 24 → low_byte v + 256 * mid_byte v + 65536 * high_byte v ≡ v
number_of_bytes v lt = omega arith

-- so much was taken: the number left, and whether there was not as much
pub taken_more : (a t p : ℕ) → a < 2 ^ 24 → t + p < 2 ^ 24 → less p ((a + (2 ^ 24 - t)) % 2 ^ 24) ≡ (a + (2 ^ 24 - (t + p))) % 2 ^ 24
taken_more a t p la lt = omega arith

pub borrow_more : (a t p : ℕ) → a < 2 ^ 24 → t + p < 2 ^ 24
    → cond (nat_lt ((a + (2 ^ 24 - t)) % 2 ^ 24) p) (raised (cond (nat_lt a t) 1 0)) (cond (nat_lt a t) 1 0) ≡ cond (nat_lt a (t + p)) 1 0
borrow_more a t p la lt =
    elim (nat_lt a t) as (λ q. nat_lt a t ≡ q → cond (nat_lt ((a + (2 ^ 24 - t)) % 2 ^ 24) p) (raised (cond q 1 0)) (cond q 1 0) ≡ cond (nat_lt a (t + p)) 1 0) [
      | true ↦ λ q.
          let h : a < t = ltb-true a t q in
          let e : nat_lt ((a + (2 ^ 24 - t)) % 2 ^ 24) p ≡ false = le-ltb ((a + (2 ^ 24 - t)) % 2 ^ 24) p (omega arith) in
          let f : nat_lt a (t + p) ≡ true = lt-ltb a (t + p) (omega arith) in
          ap (λ b. cond b 2 1) e ∙ sym (ap (λ b. cond b 1 0) f)
      | false ↦ λ q.
          let h : t ≤ a = ltb-false a t q in
          let e : nat_lt ((a + (2 ^ 24 - t)) % 2 ^ 24) p ≡ nat_lt a (t + p) =
          elim (nat_lt a (t + p)) as (λ r. nat_lt a (t + p) ≡ r → nat_lt ((a + (2 ^ 24 - t)) % 2 ^ 24) p ≡ r) [
            | true ↦ λ r. let g : a < t + p = ltb-true a (t + p) r in lt-ltb ((a + (2 ^ 24 - t)) % 2 ^ 24) p (omega arith)
            | false ↦ λ r. let g : t + p ≤ a = ltb-false a (t + p) r in le-ltb ((a + (2 ^ 24 - t)) % 2 ^ 24) p (omega arith)
          ] refl in
          ap (λ b. cond b 1 0) e
    ] refl
