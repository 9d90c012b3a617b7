-- The signed number that bytes spell, by the standard's rule: the last byte is below 128 and counts from -64 to 63, and each byte before it adds its low seven bits to 128 times what follows.
use Rattle.std.proofs.Common.{suc, ◌≡◌, ℕ, ◌+◌, ◌*◌, ◌-◌, ◌%◌, ◌^◌, ◌<◌, ◌≤◌, true, false, cond, nat_lt, List, [], ◌∷◌, length, pos, negsuc, refl, sym, ap, ◌∙◌, arith, pow-suc}
use Rattle.std.specs.Prelude.{neg_ℤ}
use Rattle.std.proofs.lemmas.Bool.Decides.{nat_tests}
use Rattle.wasm_bytes.specs.Number.{unsigned_value, signed_of, signed_value}
use Rattle.wasm_bytes.specs.Laws.{behind_byte}

is_less : (a b : ℕ) → a < b → nat_lt a b ≡ true
is_less a b h = grind (arith, nat_tests)

is_not_less : (a b : ℕ) → b ≤ a → nat_lt a b ≡ false
is_not_less a b h = grind (arith, nat_tests)

less_than : (a b : ℕ) → nat_lt a b ≡ true → a < b
less_than a b h = grind (arith, nat_tests)

not_less_than : (a b : ℕ) → nat_lt a b ≡ false → b ≤ a
not_less_than a b h = grind (arith, nat_tests)

-- in the lower half, and in the upper
lower : (value span : ℕ) → 2 * value < span → signed_of value span ≡ pos value
lower value span h = ap (λ b. cond b (pos value) (neg_ℤ (pos (span - value)))) (is_less (2 * value) span h)

upper : (value span k : ℕ) → span ≤ 2 * value → span ≡ value + suc k → signed_of value span ≡ negsuc k
upper value span k h e =
    let left : span - value ≡ suc k = omega arith in
    ap (λ b. cond b (pos value) (neg_ℤ (pos (span - value)))) (is_not_less (2 * value) span h) ∙ ap (λ n. neg_ℤ (pos n)) left

below : (bytes : List ℕ) → unsigned_value bytes < 128 ^ length bytes
below [] = omega arith
below (byte ∷ bytes) =
    let less = below bytes in
    let low : byte % 128 < 128 = omega arith in
    rw (pow-suc 128 (length bytes)) (omega arith)

-- a last byte
pub signed_value-last : (byte : ℕ) → byte < 64 → signed_value (byte ∷ []) ≡ pos byte
signed_value-last byte lt =
    let same : byte % 128 + 128 * 0 ≡ byte = omega arith in
    ap (λ n. signed_of n 128) same ∙ lower byte 128 (omega arith)

-- one that stands for a number below 0: its distance to 128
pub signed_value-negative : (byte k : ℕ) → 64 ≤ byte → 128 ≡ byte + suc k → signed_value (byte ∷ []) ≡ negsuc k
signed_value-negative byte k le e =
    let same : byte % 128 + 128 * 0 ≡ byte = omega arith in
    ap (λ n. signed_of n 128) same ∙ upper byte 128 k (omega arith) e

low_half : (r v s span big : ℕ) → r < 128 → span ≡ s * 128 → big ≡ span * 128 → 2 * v < span → 2 * (r + 128 * v) < big
low_half r v s span big lt e f h = omega arith

high_half : (r v span big : ℕ) → big ≡ span * 128 → span ≤ 2 * v → big ≤ 2 * (r + 128 * v)
high_half r v span big f h = omega arith

distance : (r v k span big : ℕ) → r < 128 → big ≡ span * 128 → span ≡ v + suc k → big ≡ (r + 128 * v) + suc (128 * k + (127 - r))
distance r v k span big lt f e = omega arith

up_to : (v span : ℕ) → v < span → span ≡ v + suc (span - v - 1)
up_to v span lt = omega arith

-- a byte before others
pub signed_value-more : (byte next : ℕ) (others : List ℕ) → signed_value (byte ∷ next ∷ others) ≡ behind_byte byte (signed_value (next ∷ others))
signed_value-more byte next others =
    let r = byte % 128 in
    let v = unsigned_value (next ∷ others) in
    let s = 128 ^ length others in
    let span = 128 ^ length (next ∷ others) in
    let big = 128 ^ length (byte ∷ next ∷ others) in
    let low : r < 128 = omega arith in
    let e : span ≡ s * 128 = pow-suc 128 (length others) in
    let f : big ≡ span * 128 = pow-suc 128 (length (next ∷ others)) in
    elim (nat_lt (2 * v) span) as (λ b. nat_lt (2 * v) span ≡ b → signed_value (byte ∷ next ∷ others) ≡ behind_byte byte (signed_value (next ∷ others))) [
      | true ↦ λ h.
          let half = less_than (2 * v) span h in
          lower (r + 128 * v) big (low_half r v s span big low e f half) ∙ sym (ap (behind_byte byte) (lower v span half))
      | false ↦ λ h.
          let half = not_less_than (2 * v) span h in
          let k = span - v - 1 in
          let whole = up_to v span (below (next ∷ others)) in
          upper (r + 128 * v) big (128 * k + (127 - r)) (high_half r v span big f half) (distance r v k span big low f whole) ∙ sym (ap (behind_byte byte) (upper v span k half whole))
    ] refl
