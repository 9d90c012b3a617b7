-- Words that some bytes spell.
use Rattle.std.proofs.Common.{suc, ◌≡◌, ℕ, ◌+◌, ◌-◌, ◌*◌, ◌/◌, ◌%◌, ◌<◌, sym, ap, ◌∙◌, arith}
use Rattle.wasm_rule.specs.Memory.{ByteMap, byte_at, with_byte, with_bytes, word_at, bytes_of}

-- a byte and the bytes behind it
pub word_more : (m : ByteMap) (a n b : ℕ) → b ≡ a + 1 → word_at m a (suc n) ≡ byte_at m a + 256 * word_at m b n
word_more m a n b e = ap (λ k. byte_at m a + 256 * word_at m k n) (sym e)

pub half_parts : (m : ByteMap) (a b : ℕ) → b ≡ a + 1 → word_at m a 1 + 256 * word_at m b 1 ≡ word_at m a 2
half_parts m a b e = ap (λ k. word_at m a 1 + 256 * word_at m k 1) e ∙ omega arith

pub full_parts : (m : ByteMap) (a b : ℕ) → b ≡ a + 2 → word_at m a 2 + 65536 * word_at m b 2 ≡ word_at m a 4
full_parts m a b e =
    let next : b ≡ a + 1 + 1 = omega arith in
    ap (λ k. word_at m a 2 + 65536 * word_at m k 2) next ∙ omega arith

pub ruleset words = (half_parts, full_parts)

-- one more byte of a word is stored
pub stored_more : (m : ByteMap) (a n k w : ℕ) → k < n → with_bytes (with_byte m (a + k) (w % 256)) (a + (k + 1)) (bytes_of (n - (k + 1)) (w / 256)) ≡ with_bytes m (a + k) (bytes_of (n - k) w)
stored_more m a n k w lt =
    let more : n - k ≡ suc (n - (k + 1)) = omega arith in
    let next : a + (k + 1) ≡ a + k + 1 = omega arith in
    ap (λ j. with_bytes (with_byte m (a + k) (w % 256)) j (bytes_of (n - (k + 1)) (w / 256))) next ∙ sym (ap (λ j. with_bytes m (a + k) (bytes_of j w)) more)
