-- Cells that first values give.
use Rattle.std.specs.Prelude.{◌≡◌, ℕ, List, [], ◌++◌, length, map}
use Rattle.c_eval.specs.State as run
use Rattle.c_plain.specs.Program.{Program}
use Rattle.c_store.specs.declared.value.Cell as rust
use Rattle.c_store.specs.Shown.{cell_of}
use Rattle.c_resolved.specs.Same.{SameCells}
use Rattle.c_resolved.specs.Means as means
use Rattle.c_resolved.specs.Means.{file_lengths}
use Rattle.c_emitted.specs.declared.emitter.Emitter.{Emitter}
use Rattle.c_emitted.specs.Tables.{Tables, tables_in, Extends}
use Rattle.c_emitted.specs.Emits.{tables_of, Emits}

-- cells of a run are what the code has for them, in each program that has these tables, and perhaps more behind them
pub record ShowCells (t : Tables) (cells : List run.Cell) (shown : List rust.Cell) : Type 0 where
  pub count : length shown ≡ length cells
  pub same : (names : List (List ℕ)) (p : Program) → Extends t (tables_in names p) → SameCells (means.tables_of names p) (file_lengths p) cells (map cell_of shown)

-- cells stand behind others, and are these whatever the tables have
pub record AddsShown (old new : List rust.Cell) (cells : List run.Cell) : Type 0 where
  pub added : List rust.Cell
  pub behind : new ≡ old ++ added
  pub shown : (t : Tables) → ShowCells t cells added

-- cells stand behind others, and string literals were passed
pub record AddsCells (a b : Emitter) (old new : List rust.Cell) (cells : List run.Cell) (literals : List (List ℕ)) : Type 0 where
  pub added : List rust.Cell
  pub behind : new ≡ old ++ added
  pub shown : ShowCells (tables_of b) cells added
  pub emits : Emits a b [] literals
