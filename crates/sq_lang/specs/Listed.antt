-- For proofs only: the first cells as a list.
use Rattle.std.specs.Prelude.{ℕ, zero, suc, List, [], ◌∷◌, ◌++◌, ℤ}
use Rattle.sq_lang.specs.Step.{CellMap, cell_at}

-- the cells below an address
unfoldable pub first_cells : ℕ → CellMap → List ℤ
first_cells zero cells = []
first_cells (suc n) cells = first_cells n cells ++ cell_at cells n ∷ []
