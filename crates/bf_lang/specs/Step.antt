-- What a program does, command by command.
use Rattle.std.specs.Prelude.{ℕ, zero, suc, ◌+◌, Bool, true, false, nat_eq, nat_lt, cond, List, [], ◌∷◌, length, drop, Option, Some, None, slice_get}
use Rattle.std.specs.FinMap as map
use Rattle.mach_core.specs.declared.machine.Status.TheVariants.{Going, Ended, Fault}
use Rattle.mach_core.specs.Rule.{Rule}
use Rattle.bf_lang.specs.declared.command.Command.{Command}
use Rattle.bf_lang.specs.declared.command.Command.TheVariants.{Right, Left, Plus, Minus, Write, Read, Open, Close}
use Rattle.bf_lang.specs.Cells.{Cells, cell_at, with_cell, raised, lowered}

-- how many commands stand before the nearest `]` up to which as many `]` as `[` stand, with so many `[` before
abbrev pub close_in : ℕ → List Command → ℕ
close_in d [] = 0
close_in d (Open ∷ cs) = suc (close_in (suc d) cs)
close_in zero (Close ∷ cs) = 0
close_in (suc d) (Close ∷ cs) = suc (close_in d cs)
close_in d (c ∷ cs) = suc (close_in d cs)

-- a command before a place, looking back for an open `[`, with so many `]` between; `back` looks further back
abbrev pub open_by : Option Command → ℕ → (ℕ → ℕ) → ℕ → ℕ
open_by (Some Open) here back zero = here
open_by (Some Open) here back (suc d) = back d
open_by (Some Close) here back d = back (suc d)
open_by _ here back d = back d

-- the place after the nearest `[` before a place from which as many `[` as `]` stand, with so many `]` between, or 0
abbrev pub open_before : List Command → ℕ → ℕ → ℕ
open_before code zero = λ d. 0
open_before code (suc k) = λ d. open_by (slice_get code k) (suc k) (open_before code k) d

-- where a run is: the place of the next command, the place of the head, the cells, and whether the head fell off the tape
pub record Config : Type 0 where
  pub place : ℕ
  pub head : ℕ
  pub cells : Cells
  pub fell : Bool

-- the cell under the head
abbrev pub here : Config → ℕ
here s = cell_at s.cells s.head

-- at another place of the program
abbrev pub placed_at : Config → ℕ → Config
placed_at s place = record { place = place; head = s.head; cells = s.cells; fell = s.fell }

abbrev pub onward : Config → Config
onward s = placed_at s (s.place + 1)

-- on, with another number in the cell under the head
abbrev pub with_here : Config → ℕ → Config
with_here s value = record { place = s.place + 1; head = s.head; cells = with_cell s.cells s.head value; fell = s.fell }

-- on, with the head one cell to the left of the one that it stands at; at the first cell it falls off
abbrev pub to_left : Config → ℕ → Config
to_left s zero = record { place = s.place; head = s.head; cells = s.cells; fell = true }
to_left s (suc n) = record { place = s.place + 1; head = n; cells = s.cells; fell = s.fell }

-- what a command makes of a configuration, given the byte that it takes
abbrev pub after : List Command → Config → Option Command → ℕ → Config
after code s None byte = s
after code s (Some Right) byte = record { place = s.place + 1; head = s.head + 1; cells = s.cells; fell = s.fell }
after code s (Some Left) byte = to_left s s.head
after code s (Some Plus) byte = with_here s (raised (here s))
after code s (Some Minus) byte = with_here s (lowered (here s))
after code s (Some Write) byte = onward s
after code s (Some Read) byte = with_here s byte
after code s (Some Open) byte = placed_at s (cond (nat_eq (here s) 0) (s.place + 1 + close_in 0 (drop (s.place + 1) code) + 1) (s.place + 1))
after code s (Some Close) byte = placed_at s (cond (nat_eq (here s) 0) (s.place + 1) (open_before code s.place 0))

abbrev pub takes : Option Command → Bool
takes (Some Read) = true
takes _ = false

-- the bytes that a command writes
abbrev pub bytes_of : Option Command → Config → List ℕ
bytes_of (Some Write) s = here s ∷ []
bytes_of _ s = []

-- a fall to the left of the first cell is fault 1; past the last command a run has ended
abbrev pub bf_rule : List Command → Rule Config
bf_rule code = record {
  standing = λ s. cond s.fell (Fault 1) (cond (nat_lt s.place (length code)) Going Ended);
  wants = λ s. takes (slice_get code s.place);
  next = λ s byte. after code s (slice_get code s.place) byte;
  written = λ s byte. bytes_of (slice_get code s.place) s;
}

-- where a run begins, whatever the program: at its first command, at the first cell of a tape of zeros
abbrev pub bf_start : List Command → Config
bf_start code = record { place = 0; head = 0; cells = map.empty; fell = false }
