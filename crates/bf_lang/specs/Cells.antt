-- The tape: the cells other than 0, at their places.
use Rattle.std.specs.Prelude.{ℕ, zero, suc, ◌+◌, ◌%◌, ◌^◌, nat_eq, List, [], ◌∷◌}
use Rattle.std.specs.Ordering.{nat_cmp}
use Rattle.std.specs.FinMap as map
use Rattle.mach_core.specs.Sparse.{value_at, with_value}

abbrev pub Cells : Type 0
Cells = map.FinMap nat_cmp ℕ

-- the cell at a place
abbrev pub cell_at : Cells → ℕ → ℕ
cell_at m place = value_at 0 m place

-- with another number in a cell
abbrev pub with_cell : Cells → ℕ → ℕ → Cells
with_cell m place value = with_value (nat_eq 0) m place value

-- one more, and 0 after 255
abbrev pub raised : ℕ → ℕ
raised n = (n + 1) % 2 ^ 8

-- one less, and 255 before 0
abbrev pub lowered : ℕ → ℕ
lowered zero = 255
lowered (suc n) = n

-- these cells from a place on, and 0 elsewhere
unfoldable pub cells_from : ℕ → List ℕ → Cells
cells_from place [] = map.empty
cells_from place (value ∷ values) = with_cell (cells_from (place + 1) values) place value
