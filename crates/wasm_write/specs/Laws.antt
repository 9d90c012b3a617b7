-- What is spelled in as few bytes as it can be.
use Rattle.std.specs.Prelude.{ℕ, ◌≤◌, List, length}
use Rattle.wasm_bin.specs.Grammar.{Language}

-- a row of the language, than which none is shorter
pub record IsShortest (Spells : Language) (row : List ℕ) : Type 0 where
  pub spelled : Spells row
  pub least : (other : List ℕ) → Spells other → length row ≤ length other
