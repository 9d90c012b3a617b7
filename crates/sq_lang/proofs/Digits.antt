-- Digits, and the numbers that they write.
use Rattle.std.proofs.Common.{◌≡◌, ℕ, ◌+◌, ◌-◌, ◌*◌, ◌^◌, ◌<◌, min, Bool, true, false, ◌&&◌, List, [], ◌∷◌, length, get_or, take, arith}
use Rattle.std.specs.Bool.{MatchBool, ◌==◌}
use Rattle.std.specs.Char.{digit_value, is_ascii_digit}
use Rattle.std.specs.List.{list_all}
use Rattle.std.specs.Str.Parse.{AllDigits, IsNumeral, digits_value}
use Rattle.std.proofs.lemmas.Bool.Decides.{nat_tests}
use Rattle.std.proofs.lemmas.Int.Digits.{digits_value_more}
use Rattle.std.proofs.lemmas.Str.{digit_value_digit}
use Rattle.std.proofs.lemmas.Str.Parse.{digit_at}

is_digit_decides : (c : ℕ) → MatchBool (is_ascii_digit c) (digit_value c < 10) (digit_value c < 10 → ⊥)
is_digit_decides c = grind (arith, nat_tests)

both : (a b : Bool) (A B : Type 0) → MatchBool a A (A → ⊥) → MatchBool b B (B → ⊥) → MatchBool (a && b) (A × B) (A × B → ⊥)
both true true A B p q = (p, q)
both true false A B p q = λ h. q h.1
both false b A B p q = λ h. p h.0

pub digits_decide : (bytes : List ℕ) → MatchBool (list_all is_ascii_digit bytes) (AllDigits 10 bytes) (AllDigits 10 bytes → ⊥)
digits_decide [] = tt
digits_decide (c ∷ bytes) = both (is_ascii_digit c) (list_all is_ascii_digit bytes) (digit_value c < 10) (AllDigits 10 bytes) (is_digit_decides c) (digits_decide bytes)

-- one more digit, where numbers stop at the last one of 64 bits
capped : (v d size : ℕ) → size ≡ min v (2 ^ 64 - 1) → min (min (size * 10) (2 ^ 64 - 1) + d) (2 ^ 64 - 1) ≡ min (v * 10 + d) (2 ^ 64 - 1)
capped v d size e = omega arith

pub size_more : (digits : List ℕ) (i size : ℕ) → AllDigits 10 digits → i < length digits → size ≡ min (digits_value 10 (take i digits)) (2 ^ 64 - 1)
    → min (min (size * 10) (2 ^ 64 - 1) + (get_or digits i 0 - 48)) (2 ^ 64 - 1) ≡ min (digits_value 10 (take (i + 1) digits)) (2 ^ 64 - 1)
size_more digits i size all below e =
    let range = digit_at digits i all below in
    let back : digit_value (get_or digits i 0) + 48 ≡ get_or digits i 0 = digit_value_digit (get_or digits i 0) range in
    let digit : get_or digits i 0 - 48 ≡ digit_value (get_or digits i 0) = omega arith in
    rw (digit, digits_value_more 10 digits i below) (capped (digits_value 10 (take i digits)) (digit_value (get_or digits i 0)) size e)

pub numeral_decides : (bytes : List ℕ) (r : Bool) → 0 < length bytes → r ≡ list_all is_ascii_digit bytes → MatchBool r (IsNumeral 10 bytes) (IsNumeral 10 bytes → ⊥)
numeral_decides bytes r some e =
    rw e (elim (list_all is_ascii_digit bytes) as (λ b. MatchBool b (AllDigits 10 bytes) (AllDigits 10 bytes → ⊥) → MatchBool b (IsNumeral 10 bytes) (IsNumeral 10 bytes → ⊥)) [
      | true ↦ λ h. (some, h)
      | false ↦ λ h n. h n.1
    ] (digits_decide bytes))

-- what a test for emptiness tells
pub some_of : (n : ℕ) (r : Bool) → r ≡ (n == 0) → r ≡ false → 0 < n
some_of n r e f = grind (arith, nat_tests)

pub none_of : (n : ℕ) (r : Bool) → r ≡ (n == 0) → r ≡ true → n ≡ 0
none_of n r e f = grind (arith, nat_tests)
