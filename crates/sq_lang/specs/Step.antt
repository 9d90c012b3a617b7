-- What a program does, step by step.
use Rattle.std.specs.Prelude.{ℕ, zero, ◌+◌, ◌-◌, ◌^◌, Bool, true, false, nat_lt, List, [], ◌∷◌, Option, Some, None, ℤ, pos, negsuc, ◌+ℤ◌, ◌-ℤ◌, unsigned_abs, int_le, if◌then◌else◌}
use Rattle.std.specs.Ordering.{nat_cmp}
use Rattle.std.specs.FinMap as map
use Rattle.mach_core.specs.declared.machine.Status.{Status}
use Rattle.mach_core.specs.declared.machine.Status.TheVariants.{Going, Ended, Fault}
use Rattle.mach_core.specs.Integer.{is_zero, is_in_range, byte_of}
use Rattle.mach_core.specs.Rule.{Rule}
use Rattle.mach_core.specs.Sparse.{value_at, with_value}
use Rattle.sq_lang.specs.declared.act.Act.{Act}
use Rattle.sq_lang.specs.declared.act.Act.TheVariants.{Take, Write, Subtract, Stop}

-- the cells other than 0, at their addresses
abbrev pub CellMap : Type 0
CellMap = map.FinMap nat_cmp ℤ

-- where the run is, its cells, and the code of the fault that it is at, if it is at one
pub record Config : Type 0 where
  pub address : ℤ
  pub cells : CellMap
  pub fault : Option ℕ

abbrev pub cell_at : CellMap → ℕ → ℤ
cell_at cells address = value_at (pos 0) cells address

abbrev pub with_cell : CellMap → ℕ → ℤ → CellMap
with_cell cells address value = with_value is_zero cells address value

-- these cells from an address on, and 0 elsewhere
abbrev pub cells_from : ℕ → List ℤ → CellMap
cells_from address [] = map.empty
cells_from address (value ∷ values) = with_cell (cells_from (address + 1) values) address value

-- what the words a, b and c ask for; -1 as a or b (`negsuc zero`) stands for the input or the output
abbrev pub act_of : ℤ → ℤ → ℤ → Act
act_of (negsuc zero) (pos b) c = Take b
act_of (pos a) (negsuc zero) c = Write a
act_of (pos a) (pos b) c = Subtract a b c
act_of _ _ c = Stop 1

-- what the three words from an address on ask for
abbrev pub act_from : CellMap → ℕ → Act
act_from cells p = if nat_lt (2 ^ 63 - 4) p then Stop 2 else act_of (cell_at cells p) (cell_at cells (p + 1)) (cell_at cells (p + 2))

-- what the next step does; a negative address has no step
abbrev pub act_at : Config → Act
act_at c = act_from c.cells (unsigned_abs c.address)

-- on to the next three words, with these cells
abbrev pub onward : Config → CellMap → Config
onward c cells = record { address = c.address +ℤ pos 3; cells = cells; fault = c.fault }

abbrev pub at_fault : Config → ℕ → Config
at_fault c code = record { address = c.address; cells = c.cells; fault = Some code }

-- with a difference at an address: to the target where it is at most 0, else on to the next three words
abbrev pub subtracted : Config → ℕ → ℤ → ℤ → Config
subtracted c b difference target =
    if is_in_range difference then
    record { address = if int_le difference (pos 0) then target else c.address +ℤ pos 3; cells = with_cell c.cells b difference; fault = c.fault }
    else at_fault c 2

-- what an act makes of a configuration, given the byte that it takes
abbrev pub after : Config → Act → ℕ → Config
after c (Take b) byte = onward c (with_cell c.cells b (pos byte))
after c (Write a) byte = onward c c.cells
after c (Subtract a b target) byte = subtracted c b (cell_at c.cells b -ℤ cell_at c.cells a) target
after c (Stop code) byte = at_fault c code

abbrev pub takes : Act → Bool
takes (Take b) = true
takes _ = false

-- the bytes that an act writes
abbrev pub bytes_of : CellMap → Act → List ℕ
bytes_of cells (Write a) = byte_of (cell_at cells a) ∷ []
bytes_of cells _ = []

-- at its fault if it is at one; else it has ended where the address is negative
abbrev pub standing_of : Option ℕ → ℤ → Status
standing_of (Some code) p = Fault code
standing_of None (pos p) = Going
standing_of None (negsuc p) = Ended

-- what a program does: its numbers matter at the start only
abbrev pub sq_rule : List ℤ → Rule Config
sq_rule program = record {
  standing = λ c. standing_of c.fault c.address;
  wants = λ c. takes (act_at c);
  next = λ c byte. after c (act_at c) byte;
  written = λ c byte. bytes_of c.cells (act_at c);
}

-- where a program begins: its numbers are the cells from 0 on
abbrev pub sq_start : List ℤ → Config
sq_start program = record { address = pos 0; cells = cells_from 0 program; fault = None }
