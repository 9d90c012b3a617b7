-- The digits of a number, one place after the other, are those of the number.
use Rattle.std.proofs.Common.{◌≡◌, ⊎_elim, ℕ, zero, suc, ◌+◌, ◌*◌, ◌/◌, ◌%◌, ◌^◌, ◌<◌, ◌≤◌, List, [], ◌∷◌, ◌++◌, Bool, true, false, nat_le, refl, sym, ap, ap₂, ◌∙◌, subst, arith, append_assoc, append-nil, pow-suc, mul_comm}
use Rattle.std.specs.Prelude.{if◌then◌else◌}
use Rattle.std.specs.Fmt.{digit_glyph, digits, digits_onto}
use Rattle.std.proofs.Math.Nat.{pow-le-pow_right, div-div-eq-div-mul, div-lt_iff_lt-mul, div-eq_of_lt, mod-eq_of_lt, mod-lt, one-mul, pow-zero, le-div_iff_mul-le}
use Rattle.std.proofs.Math.Arith.{mod-mul}
use Rattle.std.proofs.lemmas.Nat.{div-mul-add, mod-mul-add}
use Rattle.std.proofs.lemmas.Bool.{cases_lt, lt-leb, le-leb, ne_eqb, eq-eqb}

-- the digits of r at so many places above the lowest and at the lowest, where a has digits
abbrev pub digits_at : ℕ → ℕ → ℕ → ℕ → List ℕ
digits_at base zero a r = digit_glyph false r ∷ []
digits_at base (suc k) a r = if nat_le (base ^ suc k) a then digit_glyph false (r / base ^ suc k) ∷ digits_at base k a (r % base ^ suc k) else digits_at base k a r

module _ (b : ℕ) (some : 0 < b) where
  pub power_some : (k : ℕ) → 0 < b ^ k
  power_some zero = omega (arith, pow-zero b)
  power_some (suc k) = let h : 0 < b ^ k = power_some k in subst (λ z. 0 < z) (sym (pow-suc b k)) (positive (b ^ k) h)
    where
      positive : (p : ℕ) → 0 < p → 0 < p * b
      positive p h = grind (arith, h, some)

  pub one_power : b ^ 1 ≡ b
  one_power = pow-suc b 0 ∙ (ap (λ z. z * b) (pow-zero b) ∙ one-mul b)

  over : (k r : ℕ) → r / b ^ suc k ≡ r / b / b ^ k
  over k r = ap (λ z. r / z) (pow-suc b k ∙ mul_comm (b ^ k) b) ∙ sym (div-div-eq-div-mul r b (b ^ k))

  parts : (k r : ℕ) → r % b ^ suc k ≡ (r / b % b ^ k) * b + r % b
  parts k r = ap (λ z. r % z) (pow-suc b k) ∙ mod-mul r (power_some k) some

  left_over : (k r : ℕ) → r % b ^ suc k / b ≡ r / b % b ^ k
  left_over k r = ap (λ z. z / b) (parts k r) ∙ div-mul-add (r / b % b ^ k) b (r % b) (mod-lt r some)

  left_last : (k r : ℕ) → r % b ^ suc k % b ≡ r % b
  left_last k r = ap (λ z. z % b) (parts k r) ∙ mod-mul-add (r / b % b ^ k) b (r % b) (mod-lt r some)

  tested : (k a : ℕ) → nat_le (b ^ suc k) a ≡ nat_le (b ^ k) (a / b)
  tested k a = ⊎_elim less more (cases_lt (a / b) (b ^ k))
    where
      less : a / b < b ^ k → nat_le (b ^ suc k) a ≡ nat_le (b ^ k) (a / b)
      less h =
          let lt : a < b ^ k * b = (div-lt_iff_lt-mul {k = b} {x = a} {y = b ^ k} some).0 h in
          ap (λ z. nat_le z a) (pow-suc b k) ∙ (lt-leb (b ^ k * b) a lt ∙ sym (lt-leb (b ^ k) (a / b) h))

      more : b ^ k ≤ a / b → nat_le (b ^ suc k) a ≡ nat_le (b ^ k) (a / b)
      more h = ap (λ z. nat_le z a) (pow-suc b k) ∙ (le-leb (b ^ k * b) a ((le-div_iff_mul-le {k = b} {x = b ^ k} {y = a} some).0 h) ∙ sym (le-leb (b ^ k) (a / b) h))

  abbrev glyph : ℕ → ℕ
  glyph d = digit_glyph false d

  if_after : (t : Bool) (xs ys : List ℕ) (z : ℕ) → (if t then xs ++ z ∷ [] else ys ++ z ∷ []) ≡ (if t then xs else ys) ++ z ∷ []
  if_after true xs ys z = refl
  if_after false xs ys z = refl

  -- the last digit apart
  pub last_apart : (k a r : ℕ) → b ≤ a → digits_at b (suc k) a r ≡ digits_at b k (a / b) (r / b) ++ glyph (r % b) ∷ []
  last_apart zero a r le =
      ap (λ t. if t then glyph (r / b ^ 1) ∷ glyph (r % b ^ 1) ∷ [] else glyph r ∷ []) (ap (λ z. nat_le z a) one ∙ le-leb b a le)
      ∙ ap (λ z. glyph (r / z) ∷ glyph (r % z) ∷ []) one
    where
      one : b ^ 1 ≡ b
      one = one_power
  last_apart (suc k) a r le =
      ap (λ t. if t then glyph (r / b ^ suc (suc k)) ∷ digits_at b (suc k) a (r % b ^ suc (suc k)) else digits_at b (suc k) a r) (tested (suc k) a)
      ∙ (ap₂ (λ xs ys. if nat_le (b ^ suc k) (a / b) then xs else ys) (on (last_apart k a (r % b ^ suc (suc k)) le)) (last_apart k a r le)
      ∙ if_after (nat_le (b ^ suc k) (a / b)) (glyph (r / b / b ^ suc k) ∷ digits_at b k (a / b) (r / b % b ^ suc k)) (digits_at b k (a / b) (r / b)) (glyph (r % b)))
    where
      on : digits_at b (suc k) a (r % b ^ suc (suc k)) ≡ digits_at b k (a / b) (r % b ^ suc (suc k) / b) ++ glyph (r % b ^ suc (suc k) % b) ∷ [] →
          glyph (r / b ^ suc (suc k)) ∷ digits_at b (suc k) a (r % b ^ suc (suc k)) ≡ (glyph (r / b / b ^ suc k) ∷ digits_at b k (a / b) (r / b % b ^ suc k)) ++ glyph (r % b) ∷ []
      on e =
          ap₂ (λ x xs. glyph x ∷ xs) (over (suc k) r)
          (e ∙ ap₂ (λ x y. digits_at b k (a / b) x ++ glyph y ∷ []) (left_over (suc k) r) (left_last (suc k) r))

  -- of a number with one digit
  one_digit : (k a r : ℕ) → a < b → digits_at b k a r ≡ glyph r ∷ []
  one_digit zero a r lt = refl
  one_digit (suc k) a r lt =
      ap (λ t. if t then glyph (r / b ^ suc k) ∷ digits_at b k a (r % b ^ suc k) else digits_at b k a r) (lt-leb (b ^ suc k) a large) ∙ one_digit k a r lt
    where
      large : a < b ^ suc k
      large = let h : 0 < b ^ k = power_some k in omega (arith, lt, pow-suc b k, times (b ^ k) h)
        where
          times : (p : ℕ) → 0 < p → b ≤ p * b
          times p h = grind (arith, h)

  low : (k f n : ℕ) (acc : List ℕ) → n < b → digits_onto (suc f) b false n acc ≡ digits_at b k n n ++ acc
  low k f n acc h =
      ap (λ t. if t then glyph (n % b) ∷ acc else digits_onto f b false (n / b) (glyph (n % b) ∷ acc)) (eq-eqb (n / b) 0 (div-eq_of_lt h))
      ∙ (ap (λ z. glyph z ∷ acc) (mod-eq_of_lt h) ∙ ap (λ xs. xs ++ acc) (sym (one_digit k n n h)))

  not_none : (n : ℕ) → b ≤ n → n / b ≡ 0 → ⊥
  not_none n h e = let one : 1 ≤ n / b = (le-div_iff_mul-le {k = b} {x = 1} {y = n} some).1 (omega (arith, h)) in absurd (omega (arith, one, e))

  -- with fuel for each place
  pub onto_is : (k f n : ℕ) (acc : List ℕ) → k ≤ f → n < b ^ suc k → digits_onto (suc f) b false n acc ≡ digits_at b k n n ++ acc
  onto_is zero f n acc le lt = low zero f n acc (omega (arith, lt, one_power))
  onto_is (suc k) zero n acc le lt = absurd (omega (arith, le))
  onto_is (suc k) (suc f) n acc le lt =
      ⊎_elim (low (suc k) (suc f) n acc) (λ h. more h (onto_is k f (n / b) (glyph (n % b) ∷ acc) (omega (arith, le)) ((div-lt_iff_lt-mul {k = b} {x = n} {y = b ^ suc k} some).1 (subst (λ z. n < z) (pow-suc b (suc k)) lt)))) (cases_lt n b)
    where
      more : b ≤ n → digits_onto (suc f) b false (n / b) (glyph (n % b) ∷ acc) ≡ digits_at b k (n / b) (n / b) ++ (glyph (n % b) ∷ acc) → digits_onto (suc (suc f)) b false n acc ≡ digits_at b (suc k) n n ++ acc
      more h e =
          ap (λ t. if t then glyph (n % b) ∷ acc else digits_onto (suc f) b false (n / b) (glyph (n % b) ∷ acc)) (ne_eqb (n / b) 0 (not_none n h))
          ∙ (e ∙ (sym (append_assoc (digits_at b k (n / b) (n / b)) (glyph (n % b) ∷ []) acc) ∙ ap (λ xs. xs ++ acc) (sym (last_apart k n n h))))

-- with 64 places and more than enough
pub digits_are : (b k n : ℕ) → 0 < b → k < 64 → n < b ^ suc k → digits b false n ≡ digits_at b k n n
unfolding digits
digits_are b k n some few lt = onto_is b some k 63 n [] (omega (arith, few)) lt ∙ append-nil (digits_at b k n n)

-- the digits of r at each place from one on
abbrev pub text_at : ℕ → ℕ → ℕ → List ℕ
text_at base zero r = digit_glyph false r ∷ []
text_at base (suc k) r = digit_glyph false (r / base ^ suc k) ∷ text_at base k (r % base ^ suc k)

-- where a has a digit at the highest place, it has one at each
at_each : (b k a r : ℕ) → 0 < b → (0 < k → b ^ k ≤ a) → digits_at b k a r ≡ text_at b k r
at_each b zero a r some h = refl
at_each b (suc k) a r some h =
    let le : b ^ suc k ≤ a = h (omega arith) in
    ap (λ t. if t then digit_glyph false (r / b ^ suc k) ∷ digits_at b k a (r % b ^ suc k) else digits_at b k a r) (le-leb (b ^ suc k) a le)
    ∙ ap (λ xs. digit_glyph false (r / b ^ suc k) ∷ xs) (at_each b k a (r % b ^ suc k) some (λ z. lower le))
  where
    lower : b ^ suc k ≤ a → b ^ k ≤ a
    lower le = omega (arith, pow-le-pow_right {n = b} some {i = k} {j = suc k} (omega arith), le)

-- a number is written from its highest place on
pub written_from : (b k n : ℕ) → 0 < b → k < 64 → (0 < k → b ^ k ≤ n) → n < b ^ suc k → text_at b k n ≡ digits b false n
written_from b k n some few high lt = sym (digits_are b k n some few lt ∙ at_each b k n n some high)
