-- An EIR program and the SUBLEQ program for it are at the same.
use Rattle.std.specs.Prelude.{◌≡◌, ℕ, zero, suc, ◌+◌, ◌<◌, Bool, false, cond, nat_eq, nat_lt, ◌&&◌, ◌||◌, List, [], length, take, None, slice_get, unwrap_or, ℤ, pos}
use Rattle.eir_core.specs.declared.ops.Op.{Op}
use Rattle.eir_core.specs.declared.ops.Reg.{Reg}
use Rattle.eir_core.specs.Eir.{Eir}
use Rattle.eir_core.specs.Memory.{Memory, word_at}
use Rattle.eir_core.specs.Step.{Config, Regs, reg_of}
use Rattle.eir_core.specs.Words.{IsWords, IsPlaced}
use Rattle.sq_lang.specs.Step.{CellMap, Config as SqConfig, cell_at}
use Rattle.sq_back.specs.Code.{register_cell, zero_cell, load_from, load_next, store_from, store_to, store_next, goto_next, ops_cells, blocks_cells, row_place, nowhere, blocks_start, memory_start}

-- the cell is written while the program runs: it is no number that stays, and no instruction's but for the few that are written first
abbrev pub is_working : ℕ → Bool
is_working i =
    (nat_lt 2 i && nat_lt i 12) || nat_eq i load_from || nat_eq i load_next || nat_eq i store_from || nat_eq i store_to || nat_eq i store_next || nat_eq i goto_next

-- the operations of a block
abbrev pub ops_of : Eir → ℕ → List Op
ops_of p b = unwrap_or (slice_get p.blocks b) []

-- where the lines of an operation begin
abbrev pub op_place : Eir → ℕ → ℕ → ℕ
op_place p b i = blocks_start p + blocks_cells (take b p.blocks) + ops_cells (take i (ops_of p b))

-- where what an operation does begins: the first of a block is entered by the block's row
abbrev pub entry : Eir → ℕ → ℕ → ℕ
entry p b zero = row_place b
entry p b (suc i) = op_place p b (suc i) + 3

-- where the SUBLEQ program is for a place of the program
abbrev pub place_of : Eir → ℕ → ℕ → ℤ
place_of p b i = cond (nat_lt b (length p.blocks)) (pos (entry p b i)) nowhere

-- the cells have the words of the registers and of the memory, and all that is never written is as it was
pub record Holds (p : Eir) (image : List ℤ) (cells : CellMap) (regs : Regs) (memory : Memory) : Type 0 where
  pub registers : (r : Reg) → cell_at cells (register_cell r) ≡ pos (reg_of regs r)
  pub zero : cell_at cells zero_cell ≡ pos 0
  pub words : (a : ℕ) → cell_at cells (memory_start p + a) ≡ pos (word_at memory a)
  pub lines : (i : ℕ) → i < memory_start p → is_working i ≡ false → cell_at cells i ≡ unwrap_or (slice_get image i) (pos 0)

-- the same words stand at the same places, and the one is where the other is
pub record Related (p : Eir) (image : List ℤ) (c : Config) (d : SqConfig) : Type 0 where
  pub fault : d.fault ≡ None
  pub address : d.address ≡ place_of p c.block c.index
  pub holds : Holds p image d.cells c.regs c.memory
  pub words : IsWords c
  pub placed : IsPlaced p c
