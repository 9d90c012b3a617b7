-- Laws of the definitions.
use Rattle.std.specs.Prelude.{◌≡◌, ℕ, ◌+◌, ◌*◌, Bool, cond}
use Rattle.bf_tape.specs.Tape.{Tape, get}

-- from one tape to another the base moved so many times by so many cells, and there the cell is 0
pub record IsMoved (s t : Tape) (c by : ℕ) (right : Bool) (turns : ℕ) : Type 0 where
  pub moved : cond right (s.base + turns * by) s.base ≡ cond right t.base (t.base + turns * by)
  pub zero : get t c ≡ 0
