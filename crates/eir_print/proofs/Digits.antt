-- Numbers in decimal, read again.
use Rattle.std.proofs.Common.{◌≡◌, ℕ, zero, suc, ◌+◌, ◌-◌, ◌*◌, ◌^◌, ◌<◌, ◌≤◌, Bool, true, false, not, cond, if◌then◌else◌, ◌==◌, ◌&&◌, List, [], ◌∷◌, ◌++◌, length, take, drop, Option, Some, None, refl, sym, ap, subst, ◌∙◌, arith}
use Rattle.std.specs.Prelude.{decimal}
use Rattle.std.specs.List.{prefix_len, take_while, list_all}
use Rattle.std.specs.Char.{is_ascii_digit, digit_value}
use Rattle.std.specs.Str.Parse.{AllDigits, digits_value_after, digits_value}
use Rattle.std.proofs.Math.Seq.{take-append_seam, drop-append_seam}
use Rattle.std.proofs.lemmas.Fmt.{decimal_is_IsNumeral}
use Rattle.std.proofs.lemmas.Str.Parse.{digit_from_value}
use Rattle.eir_line.specs.Line.{Number}
use Rattle.eir_line.specs.Bytes.{◌>>=◌, begins, drop_while, digits_at, is_blank, past_blanks, starts_name, goes_on_name}
use Rattle.eir_line.specs.Numbers.{value_after, value_of}
use Rattle.eir_line.specs.Grammar.{number_at, signed_at, named_at, term_at}

-- what holds of the ten digits holds of each byte between them
digit_cases : (P : ℕ → Type 0) → P 48 → P 49 → P 50 → P 51 → P 52 → P 53 → P 54 → P 55 → P 56 → P 57 → (b : ℕ) → 48 ≤ b → b ≤ 57 → P b
digit_cases P p0 p1 p2 p3 p4 p5 p6 p7 p8 p9 b low high = let e : 48 + (b - 48) ≡ b = omega arith in subst P e (go (b - 48) (omega arith)) where
  go : (d : ℕ) → d < 10 → P (48 + d)
  go zero h = p0
  go (suc zero) h = p1
  go (suc (suc zero)) h = p2
  go (suc (suc (suc zero))) h = p3
  go (suc (suc (suc (suc zero)))) h = p4
  go (suc (suc (suc (suc (suc zero))))) h = p5
  go (suc (suc (suc (suc (suc (suc zero)))))) h = p6
  go (suc (suc (suc (suc (suc (suc (suc zero))))))) h = p7
  go (suc (suc (suc (suc (suc (suc (suc (suc zero)))))))) h = p8
  go (suc (suc (suc (suc (suc (suc (suc (suc (suc zero))))))))) h = p9
  go (suc (suc (suc (suc (suc (suc (suc (suc (suc (suc d)))))))))) h = absurd (omega arith)

-- a test that each digit passes
abbrev pub PassesDigits : (ℕ → Bool) → Type 0
PassesDigits p = (b : ℕ) → 48 ≤ b → b ≤ 57 → p b ≡ true

pub digits_pass : PassesDigits is_ascii_digit
digits_pass = digit_cases (λ b. is_ascii_digit b ≡ true) refl refl refl refl refl refl refl refl refl refl

pub names_go_on : PassesDigits goes_on_name
names_go_on = digit_cases (λ b. goes_on_name b ≡ true) refl refl refl refl refl refl refl refl refl refl

pub unblank : (b : ℕ) → 48 ≤ b → b ≤ 57 → is_blank b ≡ false
unblank = digit_cases (λ b. is_blank b ≡ false) refl refl refl refl refl refl refl refl refl refl

unnamed : (b : ℕ) → 48 ≤ b → b ≤ 57 → starts_name b ≡ false
unnamed = digit_cases (λ b. starts_name b ≡ false) refl refl refl refl refl refl refl refl refl refl

unsigned : (b : ℕ) → 48 ≤ b → b ≤ 57 → (b == 45) ≡ false
unsigned = digit_cases (λ b. (b == 45) ≡ false) refl refl refl refl refl refl refl refl refl refl

unbroken_digit : PassesDigits (λ b. not (b == 10))
unbroken_digit = digit_cases (λ b. not (b == 10) ≡ true) refl refl refl refl refl refl refl refl refl refl

value_of_digit : (b : ℕ) → 48 ≤ b → b ≤ 57 → digit_value b ≡ b - 48
value_of_digit = digit_cases (λ b. digit_value b ≡ b - 48) refl refl refl refl refl refl refl refl refl refl

prefix_digits : (p : ℕ → Bool) (ds rest : List ℕ) → PassesDigits p → AllDigits 10 ds → begins p rest ≡ false → prefix_len p (ds ++ rest) ≡ length ds
prefix_digits p [] [] h d e = refl
prefix_digits p [] (b ∷ bs) h d e = ap (λ t. cond t (1 + prefix_len p bs) 0) e
prefix_digits p (x ∷ xs) rest h d e =
    let k = digit_from_value x d.0 in
    let more : 1 + length xs ≡ suc (length xs) = omega arith in
    ap (λ t. cond t (1 + prefix_len p (xs ++ rest)) 0) (h x k.0 k.1) ∙ (ap (λ n. 1 + n) (prefix_digits p xs rest h d.1 e) ∙ more)

pub digits_taken : (p : ℕ → Bool) (ds rest : List ℕ) → PassesDigits p → AllDigits 10 ds → begins p rest ≡ false → take_while p (ds ++ rest) ≡ ds
digits_taken p ds rest h d e = ap (λ n. take n (ds ++ rest)) (prefix_digits p ds rest h d e) ∙ take-append_seam ds rest

pub digits_dropped : (p : ℕ → Bool) (ds rest : List ℕ) → PassesDigits p → AllDigits 10 ds → begins p rest ≡ false → drop_while p (ds ++ rest) ≡ rest
digits_dropped p ds rest h d e = ap (λ n. drop n (ds ++ rest)) (prefix_digits p ds rest h d e) ∙ drop-append_seam ds rest

value_after-digits : (n : ℕ) (ds : List ℕ) → AllDigits 10 ds → value_after 10 n ds ≡ digits_value_after 10 n ds
value_after-digits n [] d = refl
value_after-digits n (c ∷ cs) d =
    let k = digit_from_value c d.0 in
    ap (λ v. value_after 10 (n * 10 + v) cs) (sym (value_of_digit c k.0 k.1)) ∙ value_after-digits (n * 10 + digit_value c) cs d.1

with_value : List ℕ × List ℕ → Option (ℕ × List ℕ)
with_value x = Some (value_of 10 x.0, x.1)

-- digits and what follows them, as a number
number_read : (ds rest : List ℕ) (n : ℕ) → 0 < length ds → AllDigits 10 ds → digits_value 10 ds ≡ n → begins is_ascii_digit rest ≡ false → number_at (ds ++ rest) ≡ Some (n, rest)
unfolding number_at with_value
number_read [] rest n some d v e = absurd (omega arith)
number_read (c ∷ cs) rest n some d v e =
    let k = digit_from_value c d.0 in
    let bytes = c ∷ cs ++ rest in
    let value : value_of 10 (c ∷ cs) ≡ n = value_after-digits 0 (c ∷ cs) d ∙ v in
    let found : List ℕ × List ℕ = (take_while is_ascii_digit bytes, drop_while is_ascii_digit bytes) in
    let read = λ (x : List ℕ × List ℕ). with_value x in
    let one : (digits_at bytes >>= read) ≡ read found = ap (λ t. (if t then Some found else None) >>= read) (digits_pass c k.0 k.1) in
    one
    ∙ (ap (λ x. Some (value_of 10 x, drop_while is_ascii_digit bytes)) (digits_taken is_ascii_digit (c ∷ cs) rest digits_pass d e)
    ∙ (ap (λ x. Some (value_of 10 (c ∷ cs), x)) (digits_dropped is_ascii_digit (c ∷ cs) rest digits_pass d e)
    ∙ ap (λ x. Some (x, rest)) value))

-- the same, as a value
term_read : (ds rest : List ℕ) (n : ℕ) → 0 < length ds → AllDigits 10 ds → digits_value 10 ds ≡ n → begins is_ascii_digit rest ≡ false → term_at (ds ++ rest) ≡ Some (Number false n, rest)
unfolding term_at signed_at
term_read [] rest n some d v e = absurd (omega arith)
term_read (c ∷ cs) rest n some d v e =
    let k = digit_from_value c d.0 in
    let bytes = c ∷ cs ++ rest in
    let one : term_at bytes ≡ signed_at bytes = ap (λ t. if t then named_at bytes else signed_at bytes) (unnamed c k.0 k.1) in
    let two : signed_at bytes ≡ (number_at bytes >>= (λ n. Some (Number false n.0, n.1))) =
    ap (λ t. if t then (number_at (drop 1 bytes) >>= (λ n. Some (Number true n.0, n.1))) else (number_at bytes >>= (λ n. Some (Number false n.0, n.1)))) (unsigned c k.0 k.1) in
    one ∙ (two ∙ ap (λ o. o >>= (λ n. Some (Number false n.0, n.1))) (number_read (c ∷ cs) rest n some d v e))

space_passed : (ds rest : List ℕ) → 0 < length ds → AllDigits 10 ds → past_blanks (32 ∷ (ds ++ rest)) ≡ ds ++ rest
space_passed [] rest some d = absurd (omega arith)
space_passed (c ∷ cs) rest some d =
    let k = digit_from_value c d.0 in
    ap (λ t. drop (1 + cond t (1 + prefix_len is_blank (cs ++ rest)) 0) (32 ∷ c ∷ (cs ++ rest))) (unblank c k.0 k.1)

unbroken_digits : (ds : List ℕ) → AllDigits 10 ds → list_all (λ b. not (b == 10)) ds ≡ true
unbroken_digits [] d = refl
unbroken_digits (c ∷ cs) d =
    let k = digit_from_value c d.0 in
    ap (λ t. t && list_all (λ b. not (b == 10)) cs) (unbroken_digit c k.0 k.1) ∙ unbroken_digits cs d.1

pub decimal_digits : (n : ℕ) → n < 2 ^ 64 → AllDigits 10 (decimal n)
decimal_digits n h = (decimal_is_IsNumeral n h).0.1

pub decimal_read : (n : ℕ) (rest : List ℕ) → n < 2 ^ 64 → begins is_ascii_digit rest ≡ false → term_at (decimal n ++ rest) ≡ Some (Number false n, rest)
decimal_read n rest h e = let k = decimal_is_IsNumeral n h in term_read (decimal n) rest n k.0.0 k.0.1 k.1 e

pub decimal_unspaced : (n : ℕ) (rest : List ℕ) → n < 2 ^ 64 → past_blanks (32 ∷ (decimal n ++ rest)) ≡ decimal n ++ rest
decimal_unspaced n rest h = let k = decimal_is_IsNumeral n h in space_passed (decimal n) rest k.0.0 k.0.1

pub decimal_unbroken : (n : ℕ) → n < 2 ^ 64 → list_all (λ b. not (b == 10)) (decimal n) ≡ true
decimal_unbroken n h = unbroken_digits (decimal n) (decimal_digits n h)
