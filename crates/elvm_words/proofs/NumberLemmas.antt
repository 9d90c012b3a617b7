-- How a number is read.
use Rattle.std.proofs.Common.{◌≡◌, ◌<◌, ◌≤◌, ◌^◌, ◌&&◌, ℕ, Bool, true, false, List, [], ◌∷◌, length, Some, None, refl, arith, nat_le, nat_lt, if◌then◌else◌}
use Rattle.std.specs.List.{list_all}
use Rattle.std.specs.Char.{is_ascii_digit, digit_value}
use Rattle.std.specs.Str.Parse.{AllDigits, IsNumeral, digits_value, without_leading_plus}
use Rattle.std.proofs.lemmas.Str.{digit_value_digit}
use Rattle.std.proofs.lemmas.Str.Parse.{without_leading_plus_none}
use Rattle.std.proofs.lemmas.Bool.{leb-true}
use Rattle.elvm_words.specs.Number.{is_digits, number_in}

both : (a b : Bool) → (a && b) ≡ true → (a ≡ true) × (b ≡ true)
both true b e = (refl, e)
both false b e = (e, absurd (cc e))

in_range : (c : ℕ) → is_ascii_digit c ≡ true → (48 ≤ c) × (c ≤ 57)
in_range c e = let p = both (nat_le 48 c) (nat_le c 57) e in (leb-true 48 c p.0, leb-true c 57 p.1)

digit_fits : (c : ℕ) → is_ascii_digit c ≡ true → digit_value c < 10
digit_fits c e =
    let r = in_range c e in
    let d = digit_value_digit c r in
    omega (arith, d, r.1)

no_plus : (c : ℕ) (cs : List ℕ) → is_ascii_digit c ≡ true → without_leading_plus (c ∷ cs) ≡ c ∷ cs
no_plus c cs e = without_leading_plus_none (c ∷ cs) (λ x. let r = in_range c e in omega (arith, r.0, x))

all_digits : (text : List ℕ) → list_all is_ascii_digit text ≡ true → AllDigits 10 text
all_digits [] e = tt
all_digits (c ∷ cs) e =
    let p = both (is_ascii_digit c) (list_all is_ascii_digit cs) e in
    (digit_fits c p.0, all_digits cs p.1)

le_lt : (v high : ℕ) → v ≤ high → high < 2 ^ 64 → v < 2 ^ 64
le_lt v high a b = omega (arith, a, b)

no_value : (d l h : Bool) (v : ℕ) → h ≡ false → None ≡ (if d && (l && h) then Some v else None)
no_value true true h v e = rw e refl
no_value true false h v e = refl
no_value false l h v e = refl

above : (v high : ℕ) → (v ≤ high → ⊥) → nat_le v high ≡ false
above v high never = go (nat_le v high) refl
  where
    go : (b : Bool) → nat_le v high ≡ b → nat_le v high ≡ false
    go true e = absurd (never (leb-true v high e))
    go false e = e

-- a text of digits that is no u64 isn't in the range
pub number_in-large : (most low high : ℕ) (text : List ℕ) → is_digits most text ≡ true → high < 2 ^ 64
    → (IsNumeral 10 (without_leading_plus text) × (digits_value 10 (without_leading_plus text) < 2 ^ 64) → ⊥)
    → None ≡ number_in most low high text
number_in-large most low high [] e fits none = refl
number_in-large most low high (c ∷ cs) e fits none =
    let p = both (nat_lt 0 (length (c ∷ cs))) (nat_le (length (c ∷ cs)) most && list_all is_ascii_digit (c ∷ cs)) e in
    let q = both (nat_le (length (c ∷ cs)) most) (list_all is_ascii_digit (c ∷ cs)) p.1 in
    let plain = no_plus c cs (both (is_ascii_digit c) (list_all is_ascii_digit cs) q.1).0 in
    let below : digits_value 10 (c ∷ cs) ≤ high → digits_value 10 (c ∷ cs) < 2 ^ 64 = λ le. le_lt (digits_value 10 (c ∷ cs)) high le fits in
    let large : digits_value 10 (c ∷ cs) < 2 ^ 64 → ⊥ = λ small. none (rw plain ((omega arith, all_digits (c ∷ cs) q.1), small)) in
    no_value (is_digits most (c ∷ cs)) (nat_le low (digits_value 10 (c ∷ cs))) (nat_le (digits_value 10 (c ∷ cs)) high) (digits_value 10 (c ∷ cs))
    (above (digits_value 10 (c ∷ cs)) high (λ le. large (below le)))
