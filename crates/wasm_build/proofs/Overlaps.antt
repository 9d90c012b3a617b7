-- Words in memory.
use Rattle.std.proofs.Common.{◌≡◌, ◌⊎◌, ℕ, zero, suc, ◌+◌, ◌*◌, ◌/◌, ◌%◌, ◌^◌, ◌<◌, ◌≤◌, List, [], ◌∷◌, ◌++◌, length, get_or, refl, sym, ap, ◌∙◌, inl, inr, arith}
use Rattle.std.specs.Prelude.{slice_index}
use Rattle.std.specs.List.{flat_map}
use Rattle.std.specs.FinMap as map
use Rattle.std.proofs.lemmas.List.{get_or_past}
use Rattle.wasm_rule.specs.Memory.{ByteMap, byte_at, with_bytes, bytes_of, word_at}
use Rattle.wasm_rule.proofs.Stored.{byte_at-empty, byte_below, byte_behind, byte_stored, word_stored}

same_words : (a b : ByteMap) (address count : ℕ) → ((q : ℕ) → address ≤ q → q < address + count → byte_at a q ≡ byte_at b q) → word_at a address count ≡ word_at b address count
same_words a b address zero h = refl
same_words a b address (suc count) h =
    let first = h address (omega arith) (omega arith) in
    let rest = same_words a b (address + 1) count (λ q l u. h q (omega arith) (omega arith)) in
    ap (λ (byte : ℕ). byte + 256 * word_at a (address + 1) count) first ∙ ap (λ (word : ℕ). byte_at b address + 256 * word) rest

length_bytes : (count word : ℕ) → length (bytes_of count word) ≡ count
length_bytes zero word = refl
length_bytes (suc count) word = ap suc (length_bytes count (word / 256))

pub apart : (m : ByteMap) (address other count word : ℕ) → (other + count ≤ address) ⊎ (address + count ≤ other) → word_at (with_bytes m address (bytes_of count word)) other count ≡ word_at m other count
apart m address other count word (inl le) = same_words (with_bytes m address (bytes_of count word)) m other count (λ q l u. byte_below m address (bytes_of count word) q (omega arith))
apart m address other count word (inr le) =
    let long = length_bytes count word in
    same_words (with_bytes m address (bytes_of count word)) m other count (λ q l u. byte_behind m address (bytes_of count word) q (omega arith))

-- the number that so many bytes of a list from a place on spell
abbrev word_in : List ℕ → ℕ → ℕ → ℕ
word_in bytes place zero = 0
word_in bytes place (suc count) = get_or bytes place 0 + 256 * word_in bytes (place + 1) count

inside_or_past : (q n : ℕ) → (q < n) ⊎ (n ≤ q)
inside_or_past q n = grind arith

byte_in : (bytes : List ℕ) (q : ℕ) → (q < length bytes) ⊎ (length bytes ≤ q) → byte_at (with_bytes map.empty 0 bytes) q ≡ get_or bytes q 0
byte_in bytes q (inl lt) = byte_stored map.empty 0 bytes q q (omega arith) lt
byte_in bytes q (inr le) = byte_behind map.empty 0 bytes q (omega arith) ∙ (byte_at-empty q ∙ sym (get_or_past bytes q 0 le))

word_is : (bytes : List ℕ) (place count : ℕ) → word_at (with_bytes map.empty 0 bytes) place count ≡ word_in bytes place count
word_is bytes place zero = refl
word_is bytes place (suc count) =
    ap (λ (byte : ℕ). byte + 256 * word_at (with_bytes map.empty 0 bytes) (place + 1) count) (byte_in bytes place (inside_or_past place (length bytes)))
    ∙ ap (λ (word : ℕ). get_or bytes place 0 + 256 * word) (word_is bytes (place + 1) count)

behind_one : (byte : ℕ) (bytes : List ℕ) (place next count : ℕ) → next ≡ suc place → word_in (byte ∷ bytes) next count ≡ word_in bytes place count
behind_one byte bytes place next zero e = refl
behind_one byte bytes place next (suc count) e =
    let rest = behind_one byte bytes (place + 1) (next + 1) count (omega arith) in
    ap (λ (q : ℕ). get_or (byte ∷ bytes) q 0 + 256 * word_in (byte ∷ bytes) (next + 1) count) e ∙ ap (λ (word : ℕ). get_or bytes place 0 + 256 * word) rest

behind_four : (a b c d : ℕ) (bytes : List ℕ) (k : ℕ) → word_in (a ∷ b ∷ c ∷ d ∷ bytes) (4 * suc k) 4 ≡ word_in bytes (4 * k) 4
behind_four a b c d bytes k =
    behind_one a (b ∷ c ∷ d ∷ bytes) (3 + 4 * k) (4 * suc k) 4 (omega arith)
    ∙ (behind_one b (c ∷ d ∷ bytes) (2 + 4 * k) (3 + 4 * k) 4 (omega arith)
    ∙ (behind_one c (d ∷ bytes) (1 + 4 * k) (2 + 4 * k) 4 (omega arith)
    ∙ behind_one d bytes (4 * k) (1 + 4 * k) 4 (omega arith)))

first_word : (word : ℕ) (bytes : List ℕ) → word_in (bytes_of 4 word ++ bytes) 0 4 ≡ word % 256 ^ 4
first_word word bytes = sym (word_is (bytes_of 4 word) 0 4) ∙ word_stored map.empty 0 4 word

words_in : (words : List ℕ) (k : ℕ) → word_in (flat_map (bytes_of 4) words) (4 * k) 4 ≡ slice_index words k % 256 ^ 4
words_in [] k = refl
words_in (word ∷ words) zero = first_word word (flat_map (bytes_of 4) words)
words_in (word ∷ words) (suc k) =
    behind_four (word % 256) (word / 256 % 256) (word / 256 / 256 % 256) (word / 256 / 256 / 256 % 256) (flat_map (bytes_of 4) words) k ∙ words_in words k

pub segments : (words : List ℕ) (k : ℕ) → word_at (with_bytes map.empty 0 (flat_map (bytes_of 4) words)) (4 * k) 4 ≡ slice_index words k % 256 ^ 4
segments words k = word_is (flat_map (bytes_of 4) words) (4 * k) 4 ∙ words_in words k
