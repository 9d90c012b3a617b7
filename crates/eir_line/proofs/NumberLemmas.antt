-- Numbers by their digits.
use Rattle.std.proofs.Common.{◌≡◌, ℕ, ◌+◌, ◌-◌, ◌*◌, ◌<◌, ◌≤◌, min, List, [], ◌∷◌, ◌++◌, length, get_or, take, ⊎_elim, refl, ap, ◌∙◌, arith}
use Rattle.std.proofs.Math.Nat.{mul-le-mul_left, mul-le-mul_right}
use Rattle.std.proofs.lemmas.Bool.{cases_lt}
use Rattle.std.proofs.lemmas.List.{take_more}
use Rattle.eir_line.specs.Numbers.{value_after, value_of}

value_after-push : (radix n : ℕ) (bytes : List ℕ) (b : ℕ) → value_after radix n (bytes ++ (b ∷ [])) ≡ value_after radix n bytes * radix + (b - 48)
value_after-push radix n [] b = refl
value_after-push radix n (a ∷ bytes) b = value_after-push radix (n * radix + (a - 48)) bytes b

-- one digit more
pub value_of-more : (radix : ℕ) (bytes : List ℕ) (i : ℕ) → i < length bytes → value_of radix (take (i + 1) bytes) ≡ value_of radix (take i bytes) * radix + (get_or bytes i 0 - 48)
value_of-more radix bytes i h = ap (value_of radix) (take_more bytes i 0 h) ∙ value_after-push radix 0 (take i bytes) (get_or bytes i 0)

-- a cap that is applied at each digit is a cap on the number
pub capped_step : (cap n radix d : ℕ) → 0 < radix → min (min n cap * radix + d) cap ≡ min (n * radix + d) cap
capped_step cap n radix d h = ⊎_elim
    (λ (low : n < cap). let e : min n cap ≡ n = omega arith in rw e refl)
    (λ (high : cap ≤ n).
    let e : min n cap ≡ cap = omega arith in
    let grown : cap * radix ≤ n * radix = mul-le-mul_right radix high in
    let kept : cap * 1 ≤ cap * radix = mul-le-mul_left cap (omega arith) in
    rw e (omega arith))
    (cases_lt n cap)
