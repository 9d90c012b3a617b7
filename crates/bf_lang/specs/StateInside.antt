-- What the fields of a state stand for.
use Rattle.std.specs.Prelude.{ℕ, List, false}
use Rattle.bf_lang.specs.Cells.{cells_from}
use Rattle.bf_lang.specs.Step.{Config}
use Rattle.bf_lang.specs.declared.state.BfState.TheInside.{Inside}

abbrev pub config_of : Inside → Config
config_of s = record { place = s.place; head = s.head; cells = cells_from 0 s.cells.items; fell = s.fell }

-- at a place, with the head at a cell of a tape that begins with these cells
abbrev pub config_at : ℕ → ℕ → List ℕ → Config
config_at place head cells = record { place = place; head = head; cells = cells_from 0 cells; fell = false }
