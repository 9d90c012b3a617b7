-- The operators on words, by the numbers of the words.
use Rattle.std.proofs.Common.{◌≡◌, ⊎_elim, ℕ, zero, suc, ◌+◌, ◌-◌, ◌*◌, ◌/◌, ◌%◌, ◌^◌, ◌<◌, ◌≤◌, Bool, true, false, refl, sym, ap, ap₂, ◌∙◌, arith}
use Rattle.std.specs.Prelude.{pos, ◌*ℤ◌, neg_ℤ, int_div, int_rem}
use Rattle.std.specs.Int.{int_div_euclid}
use Rattle.std.proofs.lemmas.Bool.{cases_lt, leb-true, leb-false}
use Rattle.std.proofs.Math.Nat.{pow-le-pow_right}
use Rattle.word24.specs.Word.{difference_word, signed_of, is_high}
use Rattle.c_types.specs.Constants.{counted, wrapped}
use Rattle.c_routines.specs.SignedDivide.{with_sign, size_of, differ}
use Rattle.c_routines.specs.SignedRight.{shifted_with_sign, signed_shift}

-- ---- a word below zero, by what it lacks

low_is : (x : ℕ) → x < 2 ^ 23 → signed_of x ≡ pos x
low_is x a = grind (arith, a)

high_is : (x : ℕ) → 2 ^ 23 ≤ x → x < 2 ^ 24 → signed_of x ≡ neg_ℤ (pos (2 ^ 24 - x))
high_is x a b = grind (arith, a, b)

size_is : (x : ℕ) → 2 ^ 23 ≤ x → x < 2 ^ 24 → difference_word 0 x ≡ 2 ^ 24 - x
size_is x a b = omega (arith, a, b)

-- ---- products

neg_wraps : (w z k : ℕ) → w + z ≡ k * 2 ^ 24 → wrapped (neg_ℤ (pos w)) ≡ z % 2 ^ 24
neg_wraps w z k e = grind (arith, e)

neg_times : (u y : ℕ) → neg_ℤ (pos u) *ℤ pos y ≡ neg_ℤ (pos (u * y))
neg_times zero y = grind arith
neg_times (suc u) y = grind arith

times_neg : (x v : ℕ) → pos x *ℤ neg_ℤ (pos v) ≡ neg_ℤ (pos (x * v))
times_neg x zero = grind arith
times_neg x (suc v) = grind arith

neg_times_neg : (u v : ℕ) → neg_ℤ (pos u) *ℤ neg_ℤ (pos v) ≡ pos (u * v)
neg_times_neg zero v = grind arith
neg_times_neg (suc u) zero = grind arith
neg_times_neg (suc u) (suc v) = refl

both_lack : (x u y v : ℕ) → x + u ≡ 2 ^ 24 → y + v ≡ 2 ^ 24 → u * v % 2 ^ 24 ≡ x * y % 2 ^ 24
both_lack x u y v e f = let first : (x + u) * y ≡ 2 ^ 24 * y = ap (λ z. z * y) e in let second : u * (y + v) ≡ u * 2 ^ 24 = ap (λ z. u * z) f in omega (arith, first, second)

signed_product : (x y : ℕ) → x < 2 ^ 24 → y < 2 ^ 24 → wrapped (signed_of x *ℤ signed_of y) ≡ x * y % 2 ^ 24
signed_product x y sx sy = ⊎_elim (λ lx. ⊎_elim (low_low lx) (low_high lx) (cases_lt y (2 ^ 23))) (λ hx. ⊎_elim (high_low hx) (high_high hx) (cases_lt y (2 ^ 23))) (cases_lt x (2 ^ 23))
  where
    whole : (z : ℕ) → z < 2 ^ 24 → z + (2 ^ 24 - z) ≡ 2 ^ 24
    whole z lt = omega (arith, lt)

    low_low : x < 2 ^ 23 → y < 2 ^ 23 → wrapped (signed_of x *ℤ signed_of y) ≡ x * y % 2 ^ 24
    low_low a b = ap₂ (λ p q. wrapped (p *ℤ q)) (low_is x a) (low_is y b)

    low_high : x < 2 ^ 23 → 2 ^ 23 ≤ y → wrapped (signed_of x *ℤ signed_of y) ≡ x * y % 2 ^ 24
    low_high a b = ap₂ (λ p q. wrapped (p *ℤ q)) (low_is x a) (high_is y b sy) ∙ (ap wrapped (times_neg x (2 ^ 24 - y)) ∙ neg_wraps (x * (2 ^ 24 - y)) (x * y) x (lack (2 ^ 24 - y) (whole y sy)))
      where
        lack : (v : ℕ) → y + v ≡ 2 ^ 24 → x * v + x * y ≡ x * 2 ^ 24
        lack v e = let times : x * (y + v) ≡ x * 2 ^ 24 = ap (λ z. x * z) e in omega (arith, times)

    high_low : 2 ^ 23 ≤ x → y < 2 ^ 23 → wrapped (signed_of x *ℤ signed_of y) ≡ x * y % 2 ^ 24
    high_low a b = ap₂ (λ p q. wrapped (p *ℤ q)) (high_is x a sx) (low_is y b) ∙ (ap wrapped (neg_times (2 ^ 24 - x) y) ∙ neg_wraps ((2 ^ 24 - x) * y) (x * y) y (lack (2 ^ 24 - x) (whole x sx)))
      where
        lack : (u : ℕ) → x + u ≡ 2 ^ 24 → u * y + x * y ≡ y * 2 ^ 24
        lack u e = let times : (x + u) * y ≡ 2 ^ 24 * y = ap (λ z. z * y) e in omega (arith, times)

    high_high : 2 ^ 23 ≤ x → 2 ^ 23 ≤ y → wrapped (signed_of x *ℤ signed_of y) ≡ x * y % 2 ^ 24
    high_high a b = ap₂ (λ p q. wrapped (p *ℤ q)) (high_is x a sx) (high_is y b sy) ∙ (ap wrapped (neg_times_neg (2 ^ 24 - x) (2 ^ 24 - y)) ∙ both_lack x (2 ^ 24 - x) y (2 ^ 24 - y) (whole x sx) (whole y sy))

pub product_is : (x y : ℕ) → x < 2 ^ 24 → y < 2 ^ 24 → (unsigned : Bool) → wrapped (counted unsigned x *ℤ counted unsigned y) ≡ x * y % 2 ^ 24
product_is x y sx sy true = refl
product_is x y sx sy false = signed_product x y sx sy

-- ---- quotients

pub unsigned_quotient_is : (x y : ℕ) → x < 2 ^ 24 → wrapped (int_div (pos x) (pos y)) ≡ x / y
unsigned_quotient_is x y a = grind (arith, a)

low_by_high : (x v : ℕ) → wrapped (int_div (pos x) (neg_ℤ (pos v))) ≡ difference_word 0 (x / v % 2 ^ 24)
low_by_high x v = grind arith

high_by_low : (u y : ℕ) → wrapped (int_div (neg_ℤ (pos u)) (pos y)) ≡ difference_word 0 (u / y % 2 ^ 24)
high_by_low u y = grind arith

high_by_high : (u v : ℕ) → wrapped (int_div (neg_ℤ (pos u)) (neg_ℤ (pos v))) ≡ u / v % 2 ^ 24
high_by_high u v = grind arith

small_quotient : (x y : ℕ) → x < 2 ^ 24 → x / y % 2 ^ 24 ≡ x / y
small_quotient x y a = grind (arith, a)

signed_quotient_by : (x y : ℕ) (t u : Bool) → x < 2 ^ 24 → y < 2 ^ 24 → is_high x ≡ t → is_high y ≡ u → wrapped (int_div (signed_of x) (signed_of y)) ≡ with_sign (differ t u) (with_sign t x / with_sign u y)
signed_quotient_by x y false false sx sy et eu = ap₂ (λ p q. wrapped (int_div p q)) (low_is x (leb-false (2 ^ 23) x et)) (low_is y (leb-false (2 ^ 23) y eu)) ∙ unsigned_quotient_is x y sx
signed_quotient_by x y false true sx sy et eu =
    let high : 2 ^ 23 ≤ y = leb-true (2 ^ 23) y eu in
    ap₂ (λ p q. wrapped (int_div p q)) (low_is x (leb-false (2 ^ 23) x et)) (high_is y high sy)
    ∙ (low_by_high x (2 ^ 24 - y) ∙ (ap (difference_word 0) (small_quotient x (2 ^ 24 - y) sx) ∙ ap (λ v. difference_word 0 (x / v)) (sym (size_is y high sy))))
signed_quotient_by x y true false sx sy et eu =
    let high : 2 ^ 23 ≤ x = leb-true (2 ^ 23) x et in
    let less : 2 ^ 24 - x < 2 ^ 24 = omega (arith, high) in
    ap₂ (λ p q. wrapped (int_div p q)) (high_is x high sx) (low_is y (leb-false (2 ^ 23) y eu))
    ∙ (high_by_low (2 ^ 24 - x) y ∙ (ap (difference_word 0) (small_quotient (2 ^ 24 - x) y less) ∙ ap (λ u. difference_word 0 (u / y)) (sym (size_is x high sx))))
signed_quotient_by x y true true sx sy et eu =
    let high : 2 ^ 23 ≤ x = leb-true (2 ^ 23) x et in
    let high' : 2 ^ 23 ≤ y = leb-true (2 ^ 23) y eu in
    let less : 2 ^ 24 - x < 2 ^ 24 = omega (arith, high) in
    ap₂ (λ p q. wrapped (int_div p q)) (high_is x high sx) (high_is y high' sy)
    ∙ (high_by_high (2 ^ 24 - x) (2 ^ 24 - y) ∙ (small_quotient (2 ^ 24 - x) (2 ^ 24 - y) less ∙ ap₂ (λ u v. u / v) (sym (size_is x high sx)) (sym (size_is y high' sy))))

pub signed_quotient_is : (x y : ℕ) → x < 2 ^ 24 → y < 2 ^ 24 → wrapped (int_div (signed_of x) (signed_of y)) ≡ with_sign (differ (is_high x) (is_high y)) (size_of x / size_of y)
signed_quotient_is x y sx sy = signed_quotient_by x y (is_high x) (is_high y) sx sy refl refl

-- ---- what is left, with the sign of the dividend

pub unsigned_remainder_is : (x y : ℕ) → x < 2 ^ 24 → wrapped (int_rem (pos x) (pos y)) ≡ x % y
unsigned_remainder_is x y a = grind (arith, a)

low_rem_high : (x v : ℕ) → x < 2 ^ 24 → wrapped (int_rem (pos x) (neg_ℤ (pos v))) ≡ x % v
low_rem_high x v a = grind (arith, a)

high_rem_low : (u y : ℕ) → u < 2 ^ 24 → wrapped (int_rem (neg_ℤ (pos u)) (pos y)) ≡ difference_word 0 (u % y)
high_rem_low u y a = grind (arith, a)

high_rem_high : (u v : ℕ) → u < 2 ^ 24 → wrapped (int_rem (neg_ℤ (pos u)) (neg_ℤ (pos v))) ≡ difference_word 0 (u % v)
high_rem_high u v a = grind (arith, a)

signed_remainder_by : (x y : ℕ) (t u : Bool) → x < 2 ^ 24 → y < 2 ^ 24 → is_high x ≡ t → is_high y ≡ u → wrapped (int_rem (signed_of x) (signed_of y)) ≡ with_sign t (with_sign t x % with_sign u y)
signed_remainder_by x y false false sx sy et eu = ap₂ (λ p q. wrapped (int_rem p q)) (low_is x (leb-false (2 ^ 23) x et)) (low_is y (leb-false (2 ^ 23) y eu)) ∙ unsigned_remainder_is x y sx
signed_remainder_by x y false true sx sy et eu =
    let high : 2 ^ 23 ≤ y = leb-true (2 ^ 23) y eu in
    ap₂ (λ p q. wrapped (int_rem p q)) (low_is x (leb-false (2 ^ 23) x et)) (high_is y high sy) ∙ (low_rem_high x (2 ^ 24 - y) sx ∙ ap (λ v. x % v) (sym (size_is y high sy)))
signed_remainder_by x y true false sx sy et eu =
    let high : 2 ^ 23 ≤ x = leb-true (2 ^ 23) x et in
    let less : 2 ^ 24 - x < 2 ^ 24 = omega (arith, high) in
    ap₂ (λ p q. wrapped (int_rem p q)) (high_is x high sx) (low_is y (leb-false (2 ^ 23) y eu)) ∙ (high_rem_low (2 ^ 24 - x) y less ∙ ap (λ u. difference_word 0 (u % y)) (sym (size_is x high sx)))
signed_remainder_by x y true true sx sy et eu =
    let high : 2 ^ 23 ≤ x = leb-true (2 ^ 23) x et in
    let high' : 2 ^ 23 ≤ y = leb-true (2 ^ 23) y eu in
    let less : 2 ^ 24 - x < 2 ^ 24 = omega (arith, high) in
    ap₂ (λ p q. wrapped (int_rem p q)) (high_is x high sx) (high_is y high' sy) ∙ (high_rem_high (2 ^ 24 - x) (2 ^ 24 - y) less ∙ ap₂ (λ u v. difference_word 0 (u % v)) (sym (size_is x high sx)) (sym (size_is y high' sy)))

pub signed_remainder_is : (x y : ℕ) → x < 2 ^ 24 → y < 2 ^ 24 → wrapped (int_rem (signed_of x) (signed_of y)) ≡ with_sign (is_high x) (size_of x % size_of y)
signed_remainder_is x y sx sy = signed_remainder_by x y (is_high x) (is_high y) sx sy refl refl

-- ---- shifts

right_by : (x p : ℕ) → x < 2 ^ 24 → wrapped (int_div_euclid (pos x) (pos p)) ≡ x / p
right_by x p a = grind (arith, a)

high_right_by : (x p : ℕ) → 2 ^ 23 ≤ x → x < 2 ^ 24 → 0 < p → wrapped (int_div_euclid (signed_of x) (pos p)) ≡ 2 ^ 24 - 1 - (2 ^ 24 - 1 - x) / p
high_right_by x p a b c = grind (arith, a, b, c)

low_right_by : (x p : ℕ) → x < 2 ^ 23 → wrapped (int_div_euclid (signed_of x) (pos p)) ≡ x / p
low_right_by x p a = grind (arith, a)

pub right_is : (x y : ℕ) → x < 2 ^ 24 → wrapped (int_div_euclid (pos x) (pos (2 ^ y))) ≡ x / 2 ^ y
right_is x y sx = right_by x (2 ^ y) sx

signed_right_by : (x y : ℕ) (t : Bool) → x < 2 ^ 24 → is_high x ≡ t → wrapped (int_div_euclid (signed_of x) (pos (2 ^ y))) ≡ shifted_with_sign t x y
signed_right_by x y true sx e = high_right_by x (2 ^ y) (leb-true (2 ^ 23) x e) sx (pow-le-pow_right {n = 2} (omega arith) {i = 0} {j = y} (omega arith))
signed_right_by x y false sx e = low_right_by x (2 ^ y) (leb-false (2 ^ 23) x e)

pub signed_right_is : (x y : ℕ) → x < 2 ^ 24 → wrapped (int_div_euclid (signed_of x) (pos (2 ^ y))) ≡ signed_shift x y
signed_right_is x y sx = signed_right_by x y (is_high x) sx refl
