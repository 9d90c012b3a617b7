-- Unsigned numbers in LEB128.
use Rattle.std.proofs.Common.{◌≡◌, ℕ, zero, suc, ◌+◌, ◌-◌, ◌*◌, ◌/◌, ◌%◌, ◌^◌, ◌<◌, ◌≤◌, Bool, true, false, nat_lt, List, [], ◌∷◌, ◌++◌, length, refl, sym, ap, ◌∙◌, arith, append_assoc, pow-suc}
use Rattle.std.proofs.lemmas.Bool.Decides.{nat_tests}
use Rattle.wasm_bytes.specs.Number.{unsigned_value}
use Rattle.wasm_bin.specs.Grammar.{IsLeb, SpellsNumber}
use Rattle.wasm_write.specs.Leb.{low_bits, leb, number_bytes}

pub is_less : (a b : ℕ) → a < b → nat_lt a b ≡ true
is_less a b h = grind (arith, nat_tests)

pub is_not_less : (a b : ℕ) → b ≤ a → nat_lt a b ≡ false
is_not_less a b h = grind (arith, nat_tests)

pub less_than : (a b : ℕ) → nat_lt a b ≡ true → a < b
less_than a b h = grind (arith, nat_tests)

pub not_less_than : (a b : ℕ) → nat_lt a b ≡ false → b ≤ a
not_less_than a b h = grind (arith, nat_tests)

-- by whether it is below a limit
pub by_limit : (n limit : ℕ) (P : Type 0) → (n < limit → P) → (limit ≤ n → P) → P
by_limit n limit P low high = elim (nat_lt n limit) as (λ b. nat_lt n limit ≡ b → P) [ true ↦ λ h. low (less_than n limit h) | false ↦ λ h. high (not_less_than n limit h) ] refl

pub leb_last : (turned : Bool) (limit k n : ℕ) → n < limit → leb turned limit k n ≡ low_bits turned n ∷ []
leb_last turned limit zero n h = refl
leb_last turned limit (suc k) n h = rw (is_less n limit h) refl

pub leb_more : (turned : Bool) (limit k n : ℕ) → limit ≤ n → leb turned limit (suc k) n ≡ (low_bits turned n + 128) ∷ leb turned limit k (n / 128)
leb_more turned limit k n h = rw (is_not_less n limit h) refl

pub leb_some : (turned : Bool) (limit k n : ℕ) → 0 < length (leb turned limit k n)
leb_some turned limit zero n = omega arith
leb_some turned limit (suc k) n = by_limit n limit (0 < length (leb turned limit (suc k) n))
    (λ h. rw (leb_last turned limit (suc k) n h) (omega arith))
    (λ h. rw (leb_more turned limit k n h) (omega arith))

pub leb_few : (turned : Bool) (limit k n : ℕ) → length (leb turned limit k n) ≤ suc k
leb_few turned limit zero n = omega arith
leb_few turned limit (suc k) n = by_limit n limit (length (leb turned limit (suc k) n) ≤ suc (suc k))
    (λ h. rw (leb_last turned limit (suc k) n h) (omega arith))
    (λ h. let few = leb_few turned limit k (n / 128) in rw (leb_more turned limit k n h) (omega arith))

quotient_below : (n m : ℕ) → n < m * 128 → n / 128 < m
quotient_below n m h = omega arith

pub leb_short : (k j n : ℕ) → n < 128 ^ suc j → length (leb false 128 k n) ≤ suc j
leb_short zero j n h = omega arith
leb_short (suc k) zero n h =
    let small : n < 128 = omega (arith, h) in
    rw (leb_last false 128 (suc k) n small) (omega arith)
leb_short (suc k) (suc j) n h = by_limit n 128 (length (leb false 128 (suc k) n) ≤ suc (suc j))
    (λ low. rw (leb_last false 128 (suc k) n low) (omega arith))
    (λ high.
    let big : n < 128 ^ suc j * 128 = rw pow-suc at h in
    let rest = leb_short k j (n / 128) (quotient_below n (128 ^ suc j) big) in
    rw (leb_more false 128 k n high) (omega arith))

low_small : (turned : Bool) (n : ℕ) → low_bits turned n < 128
low_small false n = omega arith
low_small true n = omega arith

-- a byte with the highest bit in front of others
pub is_leb-more : (byte : ℕ) (bytes : List ℕ) → 128 ≤ byte → IsLeb bytes → IsLeb (byte ∷ bytes)
is_leb-more byte [] h p = absurd p
is_leb-more byte (next ∷ others) h p = (h, p)

pub leb_is_leb : (turned : Bool) (limit k n : ℕ) → IsLeb (leb turned limit k n)
leb_is_leb turned limit zero n = low_small turned n
leb_is_leb turned limit (suc k) n = by_limit n limit (IsLeb (leb turned limit (suc k) n))
    (λ h. rw (leb_last turned limit (suc k) n h) (low_small turned n))
    (λ h. rw (leb_more turned limit k n h) (is_leb-more (low_bits turned n + 128) (leb turned limit k (n / 128)) (omega arith) (leb_is_leb turned limit k (n / 128))))

whole : (n v : ℕ) → v ≡ n / 128 → (n % 128 + 128) % 128 + 128 * v ≡ n
whole n v e = omega arith

pub unsigned_leb : (k n : ℕ) → n < 128 ^ suc k → unsigned_value (leb false 128 k n) ≡ n
unsigned_leb zero n h =
    let small : n < 128 = omega (arith, h) in
    omega arith
unsigned_leb (suc k) n h = by_limit n 128 (unsigned_value (leb false 128 (suc k) n) ≡ n)
    (λ low. rw (leb_last false 128 (suc k) n low) (omega arith))
    (λ high.
    let big : n < 128 ^ suc k * 128 = rw pow-suc at h in
    let rest = unsigned_leb k (n / 128) (quotient_below n (128 ^ suc k) big) in
    rw (leb_more false 128 k n high) (whole n (unsigned_value (leb false 128 k (n / 128))) rest))

behind : (byte n v : ℕ) → byte % 128 + 128 * v ≡ n → v ≡ n / 128
behind byte n v e = omega arith

-- no bytes of this number are fewer
pub leb_least : (k n : ℕ) (bytes : List ℕ) → IsLeb bytes → unsigned_value bytes ≡ n → length (leb false 128 k n) ≤ length bytes
leb_least zero n [] p e = absurd p
leb_least (suc k) n [] p e = absurd p
leb_least zero n (byte ∷ bytes) p e = omega arith
leb_least (suc k) n (byte ∷ []) p e =
    let small : n < 128 = omega arith in
    rw (leb_last false 128 (suc k) n small) (omega arith)
leb_least (suc k) n (byte ∷ next ∷ others) p e = by_limit n 128 (length (leb false 128 (suc k) n) ≤ length (byte ∷ next ∷ others))
    (λ low. rw (leb_last false 128 (suc k) n low) (omega arith))
    (λ high.
    let rest = leb_least k (n / 128) (next ∷ others) p.1 (behind byte n (unsigned_value (next ∷ others)) e) in
    rw (leb_more false 128 k n high) (omega arith))

pub leb_grows : (k a b : ℕ) → a ≤ b → length (leb false 128 k a) ≤ length (leb false 128 k b)
leb_grows zero a b h = omega arith
leb_grows (suc k) a b h = by_limit a 128 (length (leb false 128 (suc k) a) ≤ length (leb false 128 (suc k) b))
    (λ low. let some = leb_some false 128 (suc k) b in rw (leb_last false 128 (suc k) a low) (omega arith))
    (λ high.
    let le : a / 128 ≤ b / 128 = omega arith in
    let rest = leb_grows k (a / 128) (b / 128) le in
    rw (leb_more false 128 k a high, leb_more false 128 k b (omega arith)) (omega arith))

pub number_some : (n : ℕ) → 0 < length (number_bytes n)
unfolding number_bytes
number_some n = leb_some false 128 4 n

pub number_few : (n : ℕ) → length (number_bytes n) ≤ 5
unfolding number_bytes
number_few n = leb_few false 128 4 n

pub number_grows : (a b : ℕ) → a ≤ b → length (number_bytes a) ≤ length (number_bytes b)
unfolding number_bytes
number_grows a b h = leb_grows 4 a b h

pub number_short : (n : ℕ) → n ≤ 2 ^ 16 → length (number_bytes n) ≤ 3
unfolding number_bytes
number_short n h = leb_short 4 2 n (omega arith)

pub number_zero : number_bytes 0 ≡ 0 ∷ []
unfolding number_bytes
number_zero = refl

pub number_one : number_bytes 1 ≡ 1 ∷ []
unfolding number_bytes
number_one = refl

-- a number of 32 bits is spelled
pub number_spelled : (n : ℕ) → n < 2 ^ 32 → SpellsNumber n (number_bytes n)
unfolding SpellsNumber number_bytes
number_spelled n h = (leb_is_leb false 128 4 n, leb_few false 128 4 n, unsigned_leb 4 n (omega arith), h)

pub number_least : (n : ℕ) (bytes : List ℕ) → SpellsNumber n bytes → length (number_bytes n) ≤ length bytes
unfolding SpellsNumber number_bytes
number_least n bytes p = leb_least 4 n bytes p.0 p.2

pub number_fits : (n : ℕ) (bytes : List ℕ) → SpellsNumber n bytes → n < 2 ^ 32
unfolding SpellsNumber
number_fits n bytes p = p.3

-- one more byte, and the last
pub written_more : (turned : Bool) (limit i rest : ℕ) (front all : List ℕ) → i < 4 → limit ≤ rest → front ++ leb turned limit (4 - i) rest ≡ all → (front ++ (low_bits turned rest + 128) ∷ []) ++ leb turned limit (4 - (i + 1)) (rest / 128) ≡ all
written_more turned limit i rest front all lt le so_far =
    let k : 4 - i ≡ suc (4 - (i + 1)) = omega arith in
    let one : leb turned limit (4 - i) rest ≡ (low_bits turned rest + 128) ∷ leb turned limit (4 - (i + 1)) (rest / 128) = rw k (leb_more turned limit (4 - (i + 1)) rest le) in
    append_assoc front ((low_bits turned rest + 128) ∷ []) (leb turned limit (4 - (i + 1)) (rest / 128)) ∙ (ap (λ (bs : List ℕ). front ++ bs) (sym one) ∙ so_far)
