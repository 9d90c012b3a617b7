-- Signed numbers in LEB128.
use Rattle.std.proofs.Common.{◌≡◌, ℕ, zero, suc, ◌+◌, ◌-◌, ◌*◌, ◌/◌, ◌%◌, ◌^◌, ◌<◌, ◌≤◌, Bool, true, false, nat_lt, List, [], ◌∷◌, length, ℤ, pos, negsuc, sym, ap, ◌∙◌, arith, pow-suc}
use Rattle.wasm_bytes.specs.Number.{signed_value, is_i32}
use Rattle.wasm_bytes.specs.Laws.{behind_byte}
use Rattle.wasm_bin.specs.Grammar.{IsLeb, SpellsInteger}
use Rattle.wasm_bytes.proofs.Signed.{signed_value-last, signed_value-negative, signed_value-more}
use Rattle.wasm_write.specs.Leb.{low_bits, leb, integer_bytes}
use Rattle.wasm_write.proofs.Digits.{less_than, by_limit, leb_last, leb_more, leb_some, leb_few, leb_is_leb}

-- the number of this distance from 0, or from -1 on the other side
abbrev pub number_of : Bool → ℕ → ℤ
number_of false n = pos n
number_of true n = negsuc n

pub last_byte : (turned : Bool) (n : ℕ) → n < 64 → signed_value (low_bits turned n ∷ []) ≡ number_of turned n
last_byte false n h =
    let same : n % 128 ≡ n = omega arith in
    rw same (signed_value-last n h)
last_byte true n h = signed_value-negative (127 - n % 128) n (omega arith) (omega arith)

more_bytes : (byte : ℕ) (bytes : List ℕ) → 0 < length bytes → signed_value (byte ∷ bytes) ≡ behind_byte byte (signed_value bytes)
more_bytes byte [] h = absurd (omega arith)
more_bytes byte (next ∷ others) h = signed_value-more byte next others

whole : (turned : Bool) (n : ℕ) → behind_byte (low_bits turned n + 128) (number_of turned (n / 128)) ≡ number_of turned n
whole false n = let e : (n % 128 + 128) % 128 + 128 * (n / 128) ≡ n = omega arith in ap pos e
whole true n = let e : 128 * (n / 128) + (127 - (127 - n % 128 + 128) % 128) ≡ n = omega arith in ap negsuc e

quotient_below : (n m : ℕ) → n < m * 128 → n / 128 < m
quotient_below n m h = omega arith

pub signed_leb : (turned : Bool) (k n : ℕ) → n < 64 * 128 ^ k → signed_value (leb turned 64 k n) ≡ number_of turned n
signed_leb turned zero n h =
    let small : n < 64 = omega (arith, h) in
    last_byte turned n small
signed_leb turned (suc k) n h = by_limit n 64 (signed_value (leb turned 64 (suc k) n) ≡ number_of turned n)
    (λ low. rw (leb_last turned 64 (suc k) n low) (last_byte turned n low))
    (λ high.
    let e : 128 ^ suc k ≡ 128 ^ k * 128 = pow-suc 128 k in
    let big : n < 64 * 128 ^ k * 128 = omega arith in
    let rest = signed_leb turned k (n / 128) (quotient_below n (64 * 128 ^ k) big) in
    let bytes = leb turned 64 k (n / 128) in
    leb_more_value turned k n high ∙ (more_bytes (low_bits turned n + 128) bytes (leb_some turned 64 k (n / 128)) ∙ (ap (behind_byte (low_bits turned n + 128)) rest ∙ whole turned n)))
  where
    leb_more_value : (turned : Bool) (k n : ℕ) → 64 ≤ n → signed_value (leb turned 64 (suc k) n) ≡ signed_value ((low_bits turned n + 128) ∷ leb turned 64 k (n / 128))
    leb_more_value turned k n high = ap signed_value (leb_more turned 64 k n high)

-- a last byte stands for a number near 0
pub last_small : (turned : Bool) (byte n : ℕ) → byte < 128 → signed_value (byte ∷ []) ≡ number_of turned n → n < 64
last_small turned byte n lt e = by_limit byte 64 (n < 64)
    (λ low. below turned n byte (sym (signed_value-last byte low) ∙ e) low)
    (λ high. let k = 127 - byte in above turned n k (sym (signed_value-negative byte k high (omega arith)) ∙ e) (omega arith))
  where
    below : (turned : Bool) (n byte : ℕ) → pos byte ≡ number_of turned n → byte < 64 → n < 64
    below false n byte e lt = let same : byte ≡ n = cc in omega arith
    below true n byte e lt = absurd cc

    above : (turned : Bool) (n k : ℕ) → negsuc k ≡ number_of turned n → k < 64 → n < 64
    above false n k e lt = absurd cc
    above true n k e lt = let same : k ≡ n = cc in omega arith

-- what the bytes behind a first one stand for
pub rest_is : (turned : Bool) (byte n : ℕ) (v : ℤ) → behind_byte byte v ≡ number_of turned n → v ≡ number_of turned (n / 128)
rest_is false byte n (pos m) e =
    let same : byte % 128 + 128 * m ≡ n = cc in
    let quotient : m ≡ n / 128 = omega arith in
    ap pos quotient
rest_is true byte n (pos m) e = absurd cc
rest_is false byte n (negsuc m) e = absurd cc
rest_is true byte n (negsuc m) e =
    let same : 128 * m + (127 - byte % 128) ≡ n = cc in
    let quotient : m ≡ n / 128 = omega arith in
    ap negsuc quotient

-- no bytes of this number are fewer
pub signed_least : (turned : Bool) (k n : ℕ) (bytes : List ℕ) → IsLeb bytes → signed_value bytes ≡ number_of turned n → length (leb turned 64 k n) ≤ length bytes
signed_least turned zero n [] p e = absurd p
signed_least turned (suc k) n [] p e = absurd p
signed_least turned zero n (byte ∷ bytes) p e = omega arith
signed_least turned (suc k) n (byte ∷ []) p e =
    let small = last_small turned byte n p e in
    rw (leb_last turned 64 (suc k) n small) (omega arith)
signed_least turned (suc k) n (byte ∷ next ∷ others) p e = by_limit n 64 (length (leb turned 64 (suc k) n) ≤ length (byte ∷ next ∷ others))
    (λ low. rw (leb_last turned 64 (suc k) n low) (omega arith))
    (λ high.
    let rest = signed_least turned k (n / 128) (next ∷ others) p.1 (rest_is turned byte n (signed_value (next ∷ others)) (sym (signed_value-more byte next others) ∙ e)) in
    rw (leb_more turned 64 k n high) (omega arith))

fits_below : (n : ℕ) → nat_lt n (2 ^ 31) ≡ true → n < 64 * 128 ^ 4
fits_below n h = omega (arith, less_than n (2 ^ 31) h)

-- a signed number of 32 bits is spelled
pub integer_spelled : (z : ℤ) → is_i32 z ≡ true → SpellsInteger z (integer_bytes z)
unfolding SpellsInteger integer_bytes
integer_spelled (pos n) h = (leb_is_leb false 64 4 n, leb_few false 64 4 n, signed_leb false 4 n (fits_below n h), h)
integer_spelled (negsuc n) h = (leb_is_leb true 64 4 n, leb_few true 64 4 n, signed_leb true 4 n (fits_below n h), h)

pub integer_least : (z : ℤ) (bytes : List ℕ) → SpellsInteger z bytes → length (integer_bytes z) ≤ length bytes
unfolding SpellsInteger integer_bytes
integer_least (pos n) bytes p = signed_least false 4 n bytes p.0 p.2
integer_least (negsuc n) bytes p = signed_least true 4 n bytes p.0 p.2

pub integer_fits : (z : ℤ) (bytes : List ℕ) → SpellsInteger z bytes → is_i32 z ≡ true
unfolding SpellsInteger
integer_fits z bytes p = p.3

pub integer_few : (z : ℤ) → length (integer_bytes z) ≤ 5
unfolding integer_bytes
integer_few (pos n) = leb_few false 64 4 n
integer_few (negsuc n) = leb_few true 64 4 n
