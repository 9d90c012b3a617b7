-- For proofs only: cells in pages of 4096.
use Rattle.std.specs.Prelude.{◌≡◌, ◌≢◌, ℕ, zero, suc, ◌/◌, ◌%◌, ◌^◌, cond, nat_lt, List, [], length, Option, None, Some, Vec, slice_get, slice_index_or, ℤ, pos}
use Rattle.std.specs.declared.alloc.Global.{Global}
use Rattle.std.specs.BTreeMap.{is_at}
use Rattle.std.specs.FinMap as map
use Rattle.std.specs.Map.{lookup}
use Rattle.std.specs.Ordering.{nat_cmp}
use Rattle.sq_lang.specs.Step.{CellMap, with_cell}

-- the first pages, in a row
abbrev pub Front : Type 0
Front = List (Vec ℤ Global)

-- the pages behind them, with their numbers
abbrev pub Behind : Type 0
Behind = List (ℕ × Vec ℤ Global)

-- the cells of a page that is there
abbrev pub cells_in : Option (Vec ℤ Global) → List ℤ
cells_in None = []
cells_in (Some page) = page.items

-- the cells of a page; a page of zeros may have none
unfoldable pub page_at : Front → Behind → ℕ → List ℤ
page_at front behind k = cond (nat_lt k 4096) (cells_in (slice_get front k)) (cells_in (lookup (is_at (nat_cmp k)) behind))

-- the cell at an address in pages
abbrev pub paged : (ℕ → List ℤ) → ℕ → ℤ
paged page address = slice_index_or (page (address / 4096)) (address % 4096) (pos 0)

-- these cells at all addresses below one
unfoldable pub cells_below : ℕ → (ℕ → ℤ) → CellMap
cells_below zero cell = map.empty
cells_below (suc n) cell = with_cell (cells_below n cell) n (cell n)

-- the cells of pages
unfoldable pub cells_of : (ℕ → List ℤ) → CellMap
cells_of page = cells_below (2 ^ 64) (paged page)

-- all first pages have a place, and each page has all its cells or none
pub record IsPaged (front : Front) (behind : Behind) : Type 0 where
  pub count : length front ≡ 4096
  pub whole : (k : ℕ) → length (page_at front behind k) ≢ 0 → length (page_at front behind k) ≡ 4096

-- one page has these cells, and the others are as they were
pub record IsPageSet (page page' : ℕ → List ℤ) (k : ℕ) (cells : List ℤ) : Type 0 where
  pub here : page' k ≡ cells
  pub others : (j : ℕ) → j ≢ k → page' j ≡ page j
