-- Lines that stand in an image, and what an operation's lines do.
use Rattle.std.specs.Prelude.{◌≡◌, ℕ, ◌+◌, ◌^◌, ◌≤◌, ◌++◌, List, length, drop, None, Some, ℤ, pos}
use Rattle.mach_core.specs.Rule.{Moment, IsInput, applied, run_from}
use Rattle.eir_core.specs.declared.ops.Op.{Op}
use Rattle.eir_core.specs.Eir.{Eir, IsEir, size_of}
use Rattle.eir_core.specs.Step.{Config, eir_rule, op_at, onward}
use Rattle.eir_core.specs.Words.{IsWords, IsPlaced}
use Rattle.sim_trait.specs.Alike.{Alike}
use Rattle.sq_lang.specs.Step.{Config as SqConfig, sq_rule}
use Rattle.sq_back.specs.declared.line.Line.{Line}
use Rattle.sq_back.specs.Code.{rows_start, op_cells, op_lines, first_lines, cells_of, memory_start}
use Rattle.sq_back.specs.Related.{Holds, Related, place_of}

-- the cells of the lines stand in the image from an address on
abbrev pub Stands : List ℤ → ℕ → List Line → Type 0
Stands image at lines = (more : List ℤ) × (drop at image ≡ cells_of lines ++ more)

-- the SUBLEQ program is at an address, with the program's words at their places
pub record IsEntered (p : Eir) (image : List ℤ) (at : ℕ) (s : Moment Config) (t : Moment SqConfig) : Type 0 where
  pub fault : t.config.fault ≡ None
  pub address : t.config.address ≡ pos at
  pub holds : Holds p image t.config.cells s.config.regs s.config.memory
  pub words : IsWords s.config
  pub placed : IsPlaced p s.config
  pub taken : t.taken ≡ s.taken
  pub output : t.output ≡ s.output

-- where the SUBLEQ program is behind the operation of a configuration that doesn't jump
abbrev pub next_place : Eir → Config → ℤ
next_place p c = let d = onward p c c.regs c.memory in place_of p d.block d.index

-- the lines of an operation do what it does, in 31 steps at most
abbrev pub FollowsOp : Type 0
FollowsOp =
    (p : Eir) (image : List ℤ) (input : List ℕ) (s : Moment Config) (t : Moment SqConfig) (op : Op) (at : ℕ)
    → IsEir p → size_of p ≤ 2 ^ 16 → IsInput input → memory_start p ≤ 2 ^ 24
    → Stands image 0 (first_lines p)
    → op_at p s.config ≡ Some op
    → Stands image at (op_lines (length p.blocks) at (next_place p s.config) op)
    → rows_start ≤ at → at + op_cells op ≤ memory_start p
    → IsEntered p image (at + 3) s t
    → (k : ℕ) × (1 ≤ k) × (k ≤ 31) × Alike (Related p image) (applied (eir_rule p) input s) (run_from (sq_rule image) input t k)
