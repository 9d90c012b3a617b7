-- What the fields of a memory stand for.
use Rattle.std.specs.Prelude.{◌≡◌, ◌≢◌, ℕ, zero, suc, ◌+◌, ◌*◌, ◌/◌, ◌%◌, ◌^◌, ◌<◌, ◌≤◌, List, [], ◌∷◌, length, slice_index, slice_set, Vec}
use Rattle.std.specs.declared.alloc.Global.{Global}
use Rattle.std.specs.FinMap as map
use Rattle.wasm_rule.specs.Memory.{ByteMap, Memory, with_byte}
use Rattle.wasm_parts.specs.declared.memory.Pages.TheInside.{Inside}

abbrev pub Table : Type 0
Table = List (Vec ℕ Global)

-- the bytes of a page; a page of zeros may have none
abbrev pub page_of : Table → ℕ → List ℕ
page_of [] k = []
page_of (page ∷ pages) zero = page.items
page_of (page ∷ pages) (suc k) = page_of pages k

-- a page with these bytes from an index on
abbrev pub with_bytes_in : List ℕ → ℕ → List ℕ → List ℕ
with_bytes_in page i [] = page
with_bytes_in page i (byte ∷ bytes) = with_bytes_in (slice_set page i byte) (i + 1) bytes

-- the number that so many bytes of a page spell from an index on, the lowest first
abbrev pub word_in : List ℕ → ℕ → ℕ → ℕ
word_in page i zero = 0
word_in page i (suc count) = slice_index page i + 256 * word_in page (i + 1) count

-- the byte at an address
unfoldable pub byte_in : Table → ℕ → ℕ
byte_in pages address = slice_index (page_of pages (address / 65536)) (address % 65536)

-- these bytes below an address, and 0 elsewhere
unfoldable pub bytes_below : ℕ → (ℕ → ℕ) → ByteMap
bytes_below zero f = map.empty
bytes_below (suc n) f = with_byte (bytes_below n f) n (f n)

-- the bytes of pages, which are fewer than 2^32
unfoldable pub bytes_of_pages : Table → ByteMap
bytes_of_pages pages = bytes_below (2 ^ 48) (byte_in pages)

abbrev pub memory_of : Inside → Memory
memory_of s = record { pages = s.count; bytes = bytes_of_pages s.pages.items }

-- the page of the address has its bytes
abbrev pub HasByte : Table → ℕ → Type 0
HasByte pages address = address % 65536 < length (page_of pages (address / 65536))

-- from the address on each of these bytes is 0, or its page has bytes
abbrev pub Fits : Table → ℕ → List ℕ → Type 0
Fits pages address [] = Unit {0}
Fits pages address (byte ∷ bytes) = (byte ≢ 0 → HasByte pages address) × Fits pages (address + 1) bytes

-- each page has all its bytes or none
abbrev pub AreWhole : Table → Type 0
AreWhole pages = (k : ℕ) → length (page_of pages k) ≢ 0 → length (page_of pages k) ≡ 65536

-- a change that leaves each byte its place
pub record Grows (old new : Table) : Type 0 where
  pub count : length new ≡ length old
  pub has : (address : ℕ) → HasByte old address → HasByte new address
  pub whole : AreWhole old → AreWhole new

-- there are so many pages, and each has all its bytes or none
pub record IsInside (s : Inside) : Type 0 where
  pub there : s.count ≤ length s.pages.items
  pub few : s.count < 2 ^ 32
  pub whole : AreWhole s.pages.items
