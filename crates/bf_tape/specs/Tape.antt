-- A tape under a frame.
use Rattle.std.specs.Prelude.{◌≡◌, ℕ, ◌+◌, ◌<◌, ◌^◌, false, nat_eq, cond, List}
use Rattle.mach_core.specs.Rule.{Moment}
use Rattle.bf_lang.specs.Cells.{cell_at}
use Rattle.bf_lang.specs.Step.{Config}

-- where the frame stands, the cells by their places, and what was taken and written
pub record Tape : Type 0 where
  pub base : ℕ
  pub cells : ℕ → ℕ
  pub taken : ℕ
  pub output : List ℕ

-- the named cell
abbrev pub get : Tape → ℕ → ℕ
get s c = s.cells (s.base + c)

-- cells with another one at a place
abbrev pub set_cell : (ℕ → ℕ) → ℕ → ℕ → ℕ → ℕ
set_cell cells p v q = cond (nat_eq q p) v (cells q)

-- another number in a named cell, and all else as before
abbrev pub put : Tape → ℕ → ℕ → Tape
put s c v = record { base = s.base; cells = set_cell s.cells (s.base + c) v; taken = s.taken; output = s.output }

-- the machine is at this tape, with its head at a named cell
pub record Shows (m : Moment Config) (h : ℕ) (s : Tape) : Type 0 where
  pub head : m.config.head ≡ s.base + h
  pub fell : m.config.fell ≡ false
  pub cells : (p : ℕ) → cell_at m.config.cells p ≡ s.cells p
  pub bytes : (p : ℕ) → s.cells p < 2 ^ 8
  pub taken : m.taken ≡ s.taken
  pub output : m.output ≡ s.output
