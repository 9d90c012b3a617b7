-- The operators on words, by the numbers of the words.
use Rattle.std.proofs.Common.{◌≡◌, ⊎_elim, ℕ, zero, suc, ◌+◌, ◌-◌, ◌*◌, ◌/◌, ◌%◌, ◌^◌, ◌<◌, ◌≤◌, refl, ap, ap₂, ◌∙◌, arith, mul_comm}
use Rattle.std.specs.Prelude.{pos, ◌-ℤ◌, ◌*ℤ◌, neg_ℤ, int_div, int_rem}
use Rattle.std.proofs.lemmas.Bool.{cases_lt}
use Rattle.std.proofs.lemmas.Nat.{div-add-mod'}
use Rattle.c_apart.proofs.Words.{unsigned_difference}
use Rattle.word24.specs.Word.{difference_word, signed_of}
use Rattle.c_types.specs.Constants.{wrapped}

-- ---- a word below zero, by what it lacks

pub low_is : (x : ℕ) → x < 2 ^ 23 → signed_of x ≡ pos x
low_is x a = grind (arith, a)

pub high_is : (x : ℕ) → 2 ^ 23 ≤ x → x < 2 ^ 24 → signed_of x ≡ neg_ℤ (pos (2 ^ 24 - x))
high_is x a b = grind (arith, a, b)

-- ---- products

neg_wraps : (w z k : ℕ) → w + z ≡ k * 2 ^ 24 → wrapped (neg_ℤ (pos w)) ≡ z % 2 ^ 24
neg_wraps w z k e = grind (arith, e)

neg_times : (u y : ℕ) → neg_ℤ (pos u) *ℤ pos y ≡ neg_ℤ (pos (u * y))
neg_times zero y = grind arith
neg_times (suc u) y = grind arith

times_neg : (x v : ℕ) → pos x *ℤ neg_ℤ (pos v) ≡ neg_ℤ (pos (x * v))
times_neg x zero = grind arith
times_neg x (suc v) = grind arith

neg_times_neg : (u v : ℕ) → neg_ℤ (pos u) *ℤ neg_ℤ (pos v) ≡ pos (u * v)
neg_times_neg zero v = grind arith
neg_times_neg (suc u) zero = grind arith
neg_times_neg (suc u) (suc v) = refl

pub both_lack : (x u y v : ℕ) → x + u ≡ 2 ^ 24 → y + v ≡ 2 ^ 24 → u * v % 2 ^ 24 ≡ x * y % 2 ^ 24
both_lack x u y v e f = let first : (x + u) * y ≡ 2 ^ 24 * y = ap (λ z. z * y) e in let second : u * (y + v) ≡ u * 2 ^ 24 = ap (λ z. u * z) f in omega (arith, first, second)

-- the product of what words count as is that of the words, modulo 2^24
pub product_is : (x y : ℕ) → x < 2 ^ 24 → y < 2 ^ 24 → wrapped (signed_of x *ℤ signed_of y) ≡ x * y % 2 ^ 24
product_is x y sx sy = ⊎_elim (λ lx. ⊎_elim (low_low lx) (low_high lx) (cases_lt y (2 ^ 23))) (λ hx. ⊎_elim (high_low hx) (high_high hx) (cases_lt y (2 ^ 23))) (cases_lt x (2 ^ 23))
  where
    whole : (z : ℕ) → z < 2 ^ 24 → z + (2 ^ 24 - z) ≡ 2 ^ 24
    whole z lt = omega (arith, lt)

    low_low : x < 2 ^ 23 → y < 2 ^ 23 → wrapped (signed_of x *ℤ signed_of y) ≡ x * y % 2 ^ 24
    low_low a b = ap₂ (λ p q. wrapped (p *ℤ q)) (low_is x a) (low_is y b)

    low_high : x < 2 ^ 23 → 2 ^ 23 ≤ y → wrapped (signed_of x *ℤ signed_of y) ≡ x * y % 2 ^ 24
    low_high a b = ap₂ (λ p q. wrapped (p *ℤ q)) (low_is x a) (high_is y b sy) ∙ (ap wrapped (times_neg x (2 ^ 24 - y)) ∙ neg_wraps (x * (2 ^ 24 - y)) (x * y) x (lack (2 ^ 24 - y) (whole y sy)))
      where
        lack : (v : ℕ) → y + v ≡ 2 ^ 24 → x * v + x * y ≡ x * 2 ^ 24
        lack v e = let times : x * (y + v) ≡ x * 2 ^ 24 = ap (λ z. x * z) e in omega (arith, times)

    high_low : 2 ^ 23 ≤ x → y < 2 ^ 23 → wrapped (signed_of x *ℤ signed_of y) ≡ x * y % 2 ^ 24
    high_low a b = ap₂ (λ p q. wrapped (p *ℤ q)) (high_is x a sx) (low_is y b) ∙ (ap wrapped (neg_times (2 ^ 24 - x) y) ∙ neg_wraps ((2 ^ 24 - x) * y) (x * y) y (lack (2 ^ 24 - x) (whole x sx)))
      where
        lack : (u : ℕ) → x + u ≡ 2 ^ 24 → u * y + x * y ≡ y * 2 ^ 24
        lack u e = let times : (x + u) * y ≡ 2 ^ 24 * y = ap (λ z. z * y) e in omega (arith, times)

    high_high : 2 ^ 23 ≤ x → 2 ^ 23 ≤ y → wrapped (signed_of x *ℤ signed_of y) ≡ x * y % 2 ^ 24
    high_high a b = ap₂ (λ p q. wrapped (p *ℤ q)) (high_is x a sx) (high_is y b sy) ∙ (ap wrapped (neg_times_neg (2 ^ 24 - x) (2 ^ 24 - y)) ∙ both_lack x (2 ^ 24 - x) y (2 ^ 24 - y) (whole x sx) (whole y sy))

-- ---- quotients

pub unsigned_quotient_is : (x y : ℕ) → x < 2 ^ 24 → wrapped (int_div (pos x) (pos y)) ≡ x / y
unsigned_quotient_is x y a = grind (arith, a)

pub low_by_high : (x v : ℕ) → wrapped (int_div (pos x) (neg_ℤ (pos v))) ≡ difference_word 0 (x / v % 2 ^ 24)
low_by_high x v = grind arith

pub high_by_low : (u y : ℕ) → wrapped (int_div (neg_ℤ (pos u)) (pos y)) ≡ difference_word 0 (u / y % 2 ^ 24)
high_by_low u y = grind arith

pub high_by_high : (u v : ℕ) → wrapped (int_div (neg_ℤ (pos u)) (neg_ℤ (pos v))) ≡ u / v % 2 ^ 24
high_by_high u v = grind arith

-- ---- what is left

pub unsigned_remainder_is : (x y : ℕ) → x < 2 ^ 24 → wrapped (int_rem (pos x) (pos y)) ≡ x % y
unsigned_remainder_is x y a = grind (arith, a)

pub left_over : (x y : ℕ) → x < 2 ^ 24 → wrapped (pos x -ℤ pos (y * (x / y) % 2 ^ 24)) ≡ x % y
left_over x y a =
    let parts : x / y * y + x % y ≡ x = div-add-mod' x y in
    let turned : y * (x / y) ≡ x / y * y = mul_comm y (x / y) in
    let few : y * (x / y) < 2 ^ 24 = omega (arith, a, parts, turned) in
    ap (λ z. wrapped (pos x -ℤ pos z)) (omega (arith, few)) ∙ (unsigned_difference x (y * (x / y)) a few ∙ omega (arith, a, parts, turned, few))
