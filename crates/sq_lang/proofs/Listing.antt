-- The first cells as a list, and one more of them.
use Rattle.std.proofs.Common.{◌≡◌, ◌≢◌, ℕ, zero, suc, ◌+◌, ◌<◌, List, [], ◌∷◌, ◌++◌, length, ℤ, refl, sym, ap, ◌∙◌, arith, add-zero, add-one}
use Rattle.std.proofs.lemmas.List.{length-append}
use Rattle.sq_lang.specs.Step.{CellMap, cell_at, with_cell, cells_from}
use Rattle.sq_lang.specs.Listed.{first_cells}
use Rattle.sq_lang.proofs.Below.{with_cell-swap}
use Rattle.sq_lang.proofs.CellsAtStart.{stored_same, stored_other}

pub length-first_cells : (n : ℕ) (cells : CellMap) → length (first_cells n cells) ≡ n
unfolding first_cells
length-first_cells zero cells = refl
length-first_cells (suc n) cells =
    let more = length-first_cells n cells in
    length-append (first_cells n cells) (cell_at cells n ∷ []) ∙ omega arith

pub first_cells-none : (cells : CellMap) → first_cells 0 cells ≡ []
unfolding first_cells
first_cells-none cells = refl

alike : (n : ℕ) (cells cells' : CellMap) → ((q : ℕ) → q < n → cell_at cells' q ≡ cell_at cells q) → first_cells n cells' ≡ first_cells n cells
unfolding first_cells
alike zero cells cells' same = refl
alike (suc n) cells cells' same =
    let front : first_cells n cells' ≡ first_cells n cells = alike n cells cells' (λ q l. same q (omega arith)) in
    let last : cell_at cells' n ≡ cell_at cells n = same n (omega arith) in
    ap (λ xs. xs ++ cell_at cells' n ∷ []) front ∙ ap (λ x. first_cells n cells ++ x ∷ []) last

-- one more cell
pub first_cells-more : (n : ℕ) (cells : CellMap) (z : ℤ) → first_cells (n + 1) (with_cell cells n z) ≡ first_cells n cells ++ z ∷ []
unfolding first_cells
first_cells-more n cells z =
    let front : first_cells n (with_cell cells n z) ≡ first_cells n cells = alike n cells (with_cell cells n z) (λ q l. stored_other cells n z q (omega arith)) in
    ap (λ k. first_cells k (with_cell cells n z)) (add-one n)
    ∙ (ap (λ xs. xs ++ cell_at (with_cell cells n z) n ∷ []) front ∙ ap (λ x. first_cells n cells ++ x ∷ []) (stored_same cells n z))

-- one more number laid down behind the others
laid_more : (xs : List ℤ) (k : ℕ) (z : ℤ) → with_cell (cells_from k xs) (k + length xs) z ≡ cells_from k (xs ++ z ∷ [])
laid_more [] k z = ap (λ a. with_cell (cells_from k []) a z) (add-zero k)
laid_more (x ∷ xs) k z =
    let other : k ≢ k + suc (length xs) = omega arith in
    let next : k + suc (length xs) ≡ k + 1 + length xs = omega arith in
    with_cell-swap (cells_from (k + 1) xs) k (k + suc (length xs)) x z other
    ∙ ap (λ m. with_cell m k x) (ap (λ a. with_cell (cells_from (k + 1) xs) a z) next ∙ laid_more xs (k + 1) z)

pub pushed : (n : ℕ) (cells cells' : CellMap) (z : ℤ) → cells' ≡ with_cell cells n z → cells ≡ cells_from 0 (first_cells n cells) → cells' ≡ cells_from 0 (first_cells (n + 1) cells')
pushed n cells cells' z is laid =
    let xs : List ℤ = first_cells n cells in
    let end : n ≡ 0 + length xs = omega (arith, length-first_cells n cells) in
    is
    ∙ (ap (λ m. with_cell m n z) laid
    ∙ (ap (λ a. with_cell (cells_from 0 xs) a z) end
    ∙ (laid_more xs 0 z
    ∙ (ap (cells_from 0) (sym (first_cells-more n cells z)) ∙ ap (λ m. cells_from 0 (first_cells (n + 1) m)) (sym is)))))

pub pushed_is : (n : ℕ) (cells cells' : CellMap) (z : ℤ) → cells' ≡ with_cell cells n z → first_cells (n + 1) cells' ≡ first_cells n cells ++ z ∷ []
pushed_is n cells cells' z is = ap (first_cells (n + 1)) is ∙ first_cells-more n cells z
