-- What stands in front of the lines for memory.
use Rattle.std.specs.Prelude.{ℕ, ◌-◌, ◌^◌, List, [], ◌∷◌, pos, negsuc}
use Rattle.sq_back.specs.declared.line.Line.{Line}
use Rattle.sq_back.specs.Code.{numbers, go, goal, rows_start}

-- the way to the first block of so many, and the cells: memory begins at an address
abbrev pub head_lines : ℕ → ℕ → ℕ → List Line
head_lines count start memory =
    go (goal count start) ∷ numbers (pos 0) (pos 0) (pos 0) ∷ numbers (pos 0) (pos 0) (pos 0) ∷ numbers (pos 0) (pos 0) (pos 0)
    ∷ numbers (pos 1) (negsuc 0) (pos (2 ^ 24 - 1)) ∷ numbers (negsuc (2 ^ 24 - 2)) (pos memory) (pos count) ∷ numbers (pos rows_start) (pos 0) (pos 0) ∷ []
