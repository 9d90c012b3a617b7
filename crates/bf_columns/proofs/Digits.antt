-- Words and their digits.
use Rattle.std.proofs.Common.{◌≡◌, ℕ, zero, suc, ◌+◌, ◌-◌, ◌*◌, ◌/◌, ◌%◌, ◌^◌, ◌<◌, ◌≤◌, refl, sym, ap, ◌∙◌, arith}
use Rattle.std.proofs.Math.Nat.{pow-suc, mul-le-mul_left}
use Rattle.bf_columns.specs.Lanes.{number}
use Rattle.bf_columns.specs.Board.{digit}

pub digit_small : (w j : ℕ) → digit w j < 4
digit_small w zero = omega arith
digit_small w (suc j) = digit_small (w / 4) j

pub digit_zero : (j : ℕ) → digit 0 j ≡ 0
digit_zero zero = refl
digit_zero (suc j) = digit_zero j

pub number_below : (x : ℕ → ℕ) (m : ℕ) → ((j : ℕ) → j < m → x j < 4) → number x m < 4 ^ m
number_below x zero small = omega arith
number_below x (suc m) small =
    let le : 4 ^ m * x m ≤ 4 ^ m * 3 = mul-le-mul_left (4 ^ m) (let lt = small m (omega arith) in omega arith) in
    omega (arith, number_below x m (λ j lt. small j (omega arith)), pow-suc 4 m)

-- the lowest digit apart
lowest : (x : ℕ → ℕ) (m : ℕ) → number x (suc m) ≡ x 0 + 4 * number (λ k. x (suc k)) m
lowest x zero = omega arith
lowest x (suc m) =
    let p : ℕ = 4 ^ m in
    let e : x (suc m) * 4 ^ suc m ≡ 4 * (x (suc m) * p) = ap (λ q. x (suc m) * q) (pow-suc 4 m) ∙ (let h : x (suc m) * (p * 4) ≡ 4 * (x (suc m) * p) = omega arith in h) in
    omega (arith, lowest x m, e)

pub number_digits : (m w : ℕ) → w < 4 ^ m → number (digit w) m ≡ w
number_digits zero w lt = omega arith
number_digits (suc m) w lt =
    let less : w / 4 < 4 ^ m = omega (arith, pow-suc 4 m, lt) in
    omega (arith, lowest (digit w) m, number_digits m (w / 4) less)

pub digits_unique : (m : ℕ) (x : ℕ → ℕ) (j : ℕ) → ((k : ℕ) → k < m → x k < 4) → j < m → digit (number x m) j ≡ x j
digits_unique zero x j small lt = absurd (omega arith)
digits_unique (suc m) x zero small lt =
    let n : ℕ = number (λ k. x (suc k)) m in
    let e : (x 0 + 4 * n) % 4 ≡ x 0 = (let s = small 0 (omega arith) in omega arith) in
    ap (λ w. w % 4) (lowest x m) ∙ e
digits_unique (suc m) x (suc j) small lt =
    let n : ℕ = number (λ k. x (suc k)) m in
    let e : (x 0 + 4 * n) / 4 ≡ n = (let s = small 0 (omega arith) in omega arith) in
    ap (λ w. digit (w / 4) j) (lowest x m) ∙ (ap (λ w. digit w j) e ∙ digits_unique m (λ k. x (suc k)) j (λ k l. small (suc k) (omega arith)) (omega arith))

-- digits that add up with carries
pub balance : (s p q c : ℕ → ℕ) (m : ℕ) → c 0 ≡ 0 → ((j : ℕ) → j < m → s j + 4 * c (suc j) ≡ p j + q j + c j) → number s m + c m * 4 ^ m ≡ number p m + number q m
balance s p q c zero none step = omega (arith, none)
balance s p q c (suc m) none step =
    let r : ℕ = 4 ^ m in
    let f : (s m + 4 * c (suc m)) * r ≡ (p m + q m + c m) * r = ap (λ w. w * r) (step m (omega arith)) in
    let g : c (suc m) * 4 ^ suc m ≡ 4 * c (suc m) * r = ap (λ w. c (suc m) * w) (pow-suc 4 m) ∙ (let h : c (suc m) * (r * 4) ≡ 4 * c (suc m) * r = omega arith in h) in
    omega (arith, balance s p q c m none (λ j lt. step j (omega arith)), f, g)

-- the digits of a sum
pub sum_digits : (a b : ℕ) (x c : ℕ → ℕ) → a < 2 ^ 24 → b < 2 ^ 24 → c 0 ≡ 0 → ((j : ℕ) → j < 12 → x j < 4) → ((j : ℕ) → j < 12 → x j + 4 * c (suc j) ≡ digit a j + digit b j + c j) → (j : ℕ) → j < 12 → x j ≡ digit ((a + b) % 2 ^ 24) j
sum_digits a b x c la lb none small step j lt =
    let e = balance x (digit a) (digit b) c 12 none step in
    let n : ℕ = number x 12 in
    let below : n < 4 ^ 12 = number_below x 12 small in
    let is : n ≡ (a + b) % 2 ^ 24 = last n (c 12) (number (digit a) 12) (number (digit b) 12) (number_digits 12 a la) (number_digits 12 b lb) below e in
    sym (digits_unique 12 x j small lt) ∙ ap (λ w. digit w j) is
  where
    last : (n c na nb : ℕ) → na ≡ a → nb ≡ b → n < 4 ^ 12 → n + c * 4 ^ 12 ≡ na + nb → n ≡ (a + b) % 2 ^ 24
    last n c na nb ea eb ln e = omega arith

-- the digits of a difference
pub difference_digits : (a b : ℕ) (x c : ℕ → ℕ) → a < 2 ^ 24 → b < 2 ^ 24 → c 0 ≡ 0 → ((j : ℕ) → j < 12 → x j < 4) → ((j : ℕ) → j < 12 → digit a j + 4 * c (suc j) ≡ x j + digit b j + c j) → (j : ℕ) → j < 12 → x j ≡ digit ((a + (2 ^ 24 - b)) % 2 ^ 24) j
difference_digits a b x c la lb none small step j lt =
    let e = balance (digit a) x (digit b) c 12 none step in
    let n : ℕ = number x 12 in
    let below : n < 4 ^ 12 = number_below x 12 small in
    let is : n ≡ (a + (2 ^ 24 - b)) % 2 ^ 24 = last n (c 12) (number (digit a) 12) (number (digit b) 12) (number_digits 12 a la) (number_digits 12 b lb) below e in
    sym (digits_unique 12 x j small lt) ∙ ap (λ w. digit w j) is
  where
    last : (n c na nb : ℕ) → na ≡ a → nb ≡ b → n < 4 ^ 12 → na + c * 4 ^ 12 ≡ n + nb → n ≡ (a + (2 ^ 24 - b)) % 2 ^ 24
    last n c na nb ea eb ln e = omega arith

-- a borrow tells which word is less
pub borrow_tells : (a b : ℕ) (x c : ℕ → ℕ) → a < 2 ^ 24 → b < 2 ^ 24 → c 0 ≡ 0 → ((j : ℕ) → j < 12 → x j < 4) → c 12 < 2 → ((j : ℕ) → j < 12 → digit a j + 4 * c (suc j) ≡ x j + digit b j + c j) → (c 12 ≡ 1 → a < b) × (c 12 ≡ 0 → b ≤ a)
borrow_tells a b x c la lb none small few step =
    let e = balance (digit a) x (digit b) c 12 none step in
    let below : number x 12 < 4 ^ 12 = number_below x 12 small in
    last (number x 12) (c 12) (number (digit a) 12) (number (digit b) 12) (number_digits 12 a la) (number_digits 12 b lb) below e
  where
    last : (n c na nb : ℕ) → na ≡ a → nb ≡ b → n < 4 ^ 12 → na + c * 4 ^ 12 ≡ n + nb → (c ≡ 1 → a < b) × (c ≡ 0 → b ≤ a)
    last n c na nb ea eb ln e = ((λ f. omega arith), (λ f. omega arith))
