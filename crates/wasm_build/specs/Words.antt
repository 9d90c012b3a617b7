-- Words in memory.
use Rattle.std.specs.Prelude.{◌≡◌, ℕ, ◌+◌, ◌*◌, ◌%◌, ◌^◌, ◌≤◌, ◌⊎◌, List, slice_index}
use Rattle.std.specs.List.{flat_map}
use Rattle.std.specs.FinMap as map
use Rattle.wasm_rule.specs.Memory.{ByteMap, with_bytes, bytes_of, word_at}

-- words of so many bytes that don't overlap are apart
abbrev pub WordsAreApart : Type 0
WordsAreApart = (m : ByteMap) (address other count word : ℕ) → (other + count ≤ address) ⊎ (address + count ≤ other) →
    word_at (with_bytes m address (bytes_of count word)) other count ≡ word_at m other count

-- the bytes of words of four bytes, one after the other, read as these words, and as 0 behind them
abbrev pub SegmentsReadAsWords : Type 0
SegmentsReadAsWords = (words : List ℕ) (k : ℕ) → word_at (with_bytes map.empty 0 (flat_map (bytes_of 4) words)) (4 * k) 4 ≡ slice_index words k % 256 ^ 4
