-- The memory of a module: pages of 65,536 bytes.
use Rattle.std.specs.Prelude.{◌≡◌, ◌≢◌, ◌⊎◌, ℕ, zero, suc, ◌+◌, ◌*◌, ◌/◌, ◌%◌, Bool, nat_eq, nat_le, List, [], ◌∷◌}
use Rattle.std.specs.Ordering.{nat_cmp}
use Rattle.std.specs.FinMap as map
use Rattle.mach_core.specs.Sparse.{value_at, with_value}

-- the bytes other than 0, at their addresses
abbrev pub ByteMap : Type 0
ByteMap = map.FinMap nat_cmp ℕ

-- how many pages there are, and their bytes
pub record Memory : Type 0 where
  pub pages : ℕ
  pub bytes : ByteMap

-- the byte at an address
abbrev pub byte_at : ByteMap → ℕ → ℕ
byte_at bytes address = value_at 0 bytes address

-- with another byte at an address
abbrev pub with_byte : ByteMap → ℕ → ℕ → ByteMap
with_byte bytes address byte = with_value (nat_eq 0) bytes address byte

-- with these bytes from an address on
abbrev pub with_bytes : ByteMap → ℕ → List ℕ → ByteMap
with_bytes bytes address [] = bytes
with_bytes bytes address (byte ∷ more) = with_bytes (with_byte bytes address byte) (address + 1) more

-- the number that so many bytes from an address on spell, the lowest first
abbrev pub word_at : ByteMap → ℕ → ℕ → ℕ
word_at bytes address zero = 0
word_at bytes address (suc count) = byte_at bytes address + 256 * word_at bytes (address + 1) count

-- so many bytes of a word, the lowest first
abbrev pub bytes_of : ℕ → ℕ → List ℕ
bytes_of zero word = []
bytes_of (suc count) word = word % 256 ∷ bytes_of count (word / 256)

-- so many bytes from an address on lie in the memory
abbrev pub is_within : Memory → ℕ → ℕ → Bool
is_within memory address count = nat_le (address + count) (65536 * memory.pages)

-- the bytes of the page of an address are all 0
abbrev pub IsBlank : ByteMap → ℕ → Type 0
IsBlank bytes address = (q : ℕ) → q / 65536 ≡ address / 65536 → byte_at bytes q ≡ 0

-- one of the bytes that go from an address on is not 0, and its page is blank
abbrev pub WantsPage : ByteMap → ℕ → List ℕ → Type 0
WantsPage bytes address [] = ⊥
WantsPage bytes address (byte ∷ more) = ((byte ≢ 0) × IsBlank bytes address) ⊎ WantsPage bytes (address + 1) more
