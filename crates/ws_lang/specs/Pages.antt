-- For proofs only: values at addresses, in pages of 4096 values for those from -4096 to 2^24 - 1 and in a map for all others.
use Rattle.std.specs.Prelude.{◌≡◌, ◌≢◌, ℕ, zero, suc, ◌+◌, ◌-◌, ◌*◌, ◌/◌, ◌%◌, cond, nat_lt, List, [], ◌∷◌, length, slice_index_or, Vec, ℤ, pos, negsuc}
use Rattle.std.specs.declared.alloc.Global.{Global}
use Rattle.mach_core.specs.Sparse.{value_at, with_value}
use Rattle.mach_core.specs.Integer.{is_zero}
use Rattle.ws_lang.specs.Step.{Heap}

-- where the pages have the value of an address; from 4097 * 4096 on they have none
abbrev pub index_of : ℤ → ℕ
index_of (pos n) = 4096 + n
index_of (negsuc n) = cond (nat_lt n 4096) (4095 - n) (4097 * 4096 + n)

-- the address of which they have the value there
abbrev pub address_of : ℕ → ℤ
address_of k = cond (nat_lt k 4096) (negsuc (4095 - k)) (pos (k - 4096))

-- the values of a page; a page of zeros may have none
abbrev pub page_of : List (Vec ℤ Global) → ℕ → List ℤ
page_of [] k = []
page_of (page ∷ pages) zero = page.items
page_of (page ∷ pages) (suc k) = page_of pages k

unfoldable pub value_in : List (Vec ℤ Global) → ℕ → ℤ
value_in pages k = slice_index_or (page_of pages (k / 4096)) (k % 4096) (pos 0)

-- a heap with these values laid over its own at the first addresses
unfoldable pub laid_over : ℕ → (ℕ → ℤ) → Heap → Heap
laid_over zero f far = far
laid_over (suc n) f far = with_value is_zero (laid_over n f far) (address_of n) (f n)

-- the heap of pages and of the map of all other values
unfoldable pub heap_of : List (Vec ℤ Global) → Heap → Heap
heap_of pages far = laid_over (4097 * 4096) (value_in pages) far

-- there are all pages, and each has all its values or none
pub record IsPaged (pages : List (Vec ℤ Global)) : Type 0 where
  pub count : length pages ≡ 4097
  pub whole : (k : ℕ) → length (page_of pages k) ≢ 0 → length (page_of pages k) ≡ 4096

-- the values of the page of an address are all 0
abbrev pub IsBlank : Heap → ℤ → Type 0
IsBlank heap address = (q : ℤ) → index_of q / 4096 ≡ index_of address / 4096 → value_at (pos 0) heap q ≡ pos 0
