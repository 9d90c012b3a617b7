-- An EIR program and the Whitespace program for it are at the same.
-- It serves the proofs alone: what an emission promises names none of it.
use Rattle.std.specs.Prelude.{◌≡◌, ℕ, zero, suc, ◌<◌, ◌≤◌, List, [], ◌++◌, length, drop, None, slice_get, unwrap_or, pos}
use Rattle.mach_core.specs.Sparse.{value_at}
use Rattle.mach_core.specs.declared.machine.Status.TheVariants.{Going, Ended}
use Rattle.eir_core.specs.declared.ops.Reg.{Reg}
use Rattle.eir_core.specs.Eir.{Eir}
use Rattle.eir_core.specs.Memory.{Memory, word_at}
use Rattle.eir_core.specs.Step.{Config, Regs, reg_of}
use Rattle.eir_core.specs.Words.{IsWords, IsPlaced}
use Rattle.ws_lang.specs.Instruction.{Instruction}
use Rattle.ws_lang.specs.Step.{Heap, Config as WsConfig}
use Rattle.ws_back.specs.Code.{address, ops_code, blocks_code, end_code}

-- the heap has the words of the registers and of the memory at their addresses
pub record Holds (heap : Heap) (regs : Regs) (memory : Memory) : Type 0 where
  pub registers : (r : Reg) → value_at (pos 0) heap (address r) ≡ pos (reg_of regs r)
  pub words : (a : ℕ) → value_at (pos 0) heap (pos a) ≡ pos (word_at memory a)

-- the code from an operation of a block on; that of the first one begins with the block's mark
abbrev pub rest_of : Eir → ℕ → ℕ → List Instruction
rest_of p b zero = blocks_code (length p.blocks) b (drop b p.blocks) ++ end_code
rest_of p b (suc i) =
    ops_code (length p.blocks) (drop (suc i) (unwrap_or (slice_get p.blocks b) [])) ++ (blocks_code (length p.blocks) (suc b) (drop (suc b) p.blocks) ++ end_code)

-- the Whitespace program is where the code of the next operation begins
pub record IsAt (p : Eir) (code : List Instruction) (c : Config) (d : WsConfig) : Type 0 where
  pub status : d.status ≡ Going
  pub rest : drop d.place code ≡ rest_of p c.block c.index

-- the same words stand at the same places, nothing else is under way, and the one is at its end where the other is
pub record Related (p : Eir) (code : List Instruction) (c : Config) (d : WsConfig) : Type 0 where
  pub words : IsWords c
  pub placed : IsPlaced p c
  pub holds : Holds d.heap c.regs c.memory
  pub stack : d.stack ≡ []
  pub returns : d.returns ≡ []
  pub reading : d.reading ≡ None
  pub going : c.block < length p.blocks → IsAt p code c d
  pub ended : length p.blocks ≤ c.block → d.status ≡ Ended
