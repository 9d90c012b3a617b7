-- Digits, and the numbers that they write.
use Rattle.std.proofs.Common.{◌≡◌, ℕ, ◌+◌, ◌-◌, ◌*◌, ◌^◌, ◌<◌, min, Bool, true, false, ◌&&◌, List, [], ◌∷◌, length, get_or, take, nat_lt, None, Some, refl, arith}
use Rattle.std.specs.Bool.{MatchBool}
use Rattle.std.specs.Char.{digit_value, is_ascii_digit}
use Rattle.std.specs.List.{list_all}
use Rattle.std.specs.Str.Parse.{AllDigits, digits_value}
use Rattle.std.proofs.lemmas.Bool.Decides.{nat_tests}
use Rattle.std.proofs.lemmas.Int.Digits.{digits_value_more}
use Rattle.std.proofs.lemmas.Str.{digit_value_digit}
use Rattle.std.proofs.lemmas.Str.Parse.{digit_at}
use Rattle.piet_image.specs.Pieces.{is_number, number_in}

is_digit_decides : (c : ℕ) → MatchBool (is_ascii_digit c) (digit_value c < 10) (digit_value c < 10 → ⊥)
is_digit_decides c = grind (arith, nat_tests)

both : (a b : Bool) (A B : Type 0) → MatchBool a A (A → ⊥) → MatchBool b B (B → ⊥) → MatchBool (a && b) (A × B) (A × B → ⊥)
both true true A B p q = (p, q)
both true false A B p q = λ h. q h.1
both false b A B p q = λ h. p h.0

digits_decide : (bytes : List ℕ) → MatchBool (list_all is_ascii_digit bytes) (AllDigits 10 bytes) (AllDigits 10 bytes → ⊥)
digits_decide [] = tt
digits_decide (c ∷ bytes) = both (is_ascii_digit c) (list_all is_ascii_digit bytes) (digit_value c < 10) (AllDigits 10 bytes) (is_digit_decides c) (digits_decide bytes)

pub digits_are : (bytes : List ℕ) → list_all is_ascii_digit bytes ≡ true → AllDigits 10 bytes
digits_are bytes e =
    let decided = digits_decide bytes in
    let P : Bool → Type 0 = λ b. MatchBool b (AllDigits 10 bytes) (AllDigits 10 bytes → ⊥) in
    go (list_all is_ascii_digit bytes) e decided
  where
    go : (b : Bool) → b ≡ true → MatchBool b (AllDigits 10 bytes) (AllDigits 10 bytes → ⊥) → AllDigits 10 bytes
    go true e d = d
    go false e d = cc

pub are_digits : (bytes : List ℕ) → AllDigits 10 bytes → list_all is_ascii_digit bytes ≡ true
are_digits bytes all = go (list_all is_ascii_digit bytes) (digits_decide bytes)
  where
    go : (b : Bool) → MatchBool b (AllDigits 10 bytes) (AllDigits 10 bytes → ⊥) → b ≡ true
    go true d = refl
    go false d = absurd (d all)

and_right : (a b : Bool) → (a && b) ≡ true → b ≡ true
and_right true b h = h
and_right false b h = cc

pub digits_of : (piece : List ℕ) → is_number piece ≡ true → AllDigits 10 piece
digits_of piece e = digits_are piece (and_right (nat_lt 0 (length piece)) (list_all is_ascii_digit piece) e)

pub number_is : (piece : List ℕ) → is_number piece ≡ true → number_in piece ≡ Some (digits_value 10 piece)
number_is piece e = rw e refl

pub no_number : (piece : List ℕ) → is_number piece ≡ false → number_in piece ≡ None
no_number piece e = rw e refl

-- one more digit, where numbers stop at the last one of 64 bits
capped : (v d size : ℕ) → size ≡ min v (2 ^ 64 - 1) → min (min (size * 10) (2 ^ 64 - 1) + d) (2 ^ 64 - 1) ≡ min (v * 10 + d) (2 ^ 64 - 1)
capped v d size e = omega arith

pub size_more : (digits : List ℕ) (i size : ℕ) → AllDigits 10 digits → i < length digits → size ≡ min (digits_value 10 (take i digits)) (2 ^ 64 - 1)
    → min (min (size * 10) (2 ^ 64 - 1) + (get_or digits i 0 - 48)) (2 ^ 64 - 1) ≡ min (digits_value 10 (take (i + 1) digits)) (2 ^ 64 - 1)
size_more digits i size all below e =
    let range = digit_at digits i all below in
    let back : digit_value (get_or digits i 0) + 48 ≡ get_or digits i 0 = digit_value_digit (get_or digits i 0) range in
    let digit : get_or digits i 0 - 48 ≡ digit_value (get_or digits i 0) = omega arith in
    rw (digit, digits_value_more 10 digits i below) (capped (digits_value 10 (take i digits)) (digit_value (get_or digits i 0)) size e)
