-- Laws of folding and trimming.
use Rattle.std.specs.Prelude.{◌≡◌, ℕ, ◌<◌, true, false, ◌↔◌, List, [], ◌∷◌, ◌++◌, Some, slice_get}
use Rattle.eir_core.specs.declared.ops.Reg.{Reg}
use Rattle.eir_core.specs.declared.ops.Op.{Op}
use Rattle.eir_core.specs.Eir.{Eir, IsEir, size_of}
use Rattle.eir_core.specs.Reach.{reach}
use Rattle.eir_opt.specs.Folding.{folded}
use Rattle.eir_opt.specs.Trimming.{trimmed, reads, overwrites, is_overwritten}
use Rattle.eir_opt.specs.Optimised.{with_blocks}
use Rattle.eir_opt.specs.Alike.{moment, RunsAlike}

-- a folded program runs step for step as the program does, whatever the input; it is as large, and reaches as far
pub record FoldingKeepsSteps : Type 0 where
  pub moments : (p : Eir) (input : List ℕ) (n : ℕ) → moment (with_blocks folded p) input n ≡ moment p input n
  pub size : (p : Eir) → size_of (with_blocks folded p) ≡ size_of p
  pub reach : (p : Eir) (input : List ℕ) (n : ℕ) → reach (with_blocks folded p) input n ≡ reach p input n

-- one of the operations overwrites the register and doesn't read it, and none that stands before that one reads it
abbrev pub IsOverwritten : List Op → Reg → Type 0
IsOverwritten ops r =
    (k : ℕ) × (op : Op) × (slice_get ops k ≡ Some op) × (overwrites op r ≡ true) × (reads op r ≡ false)
    × ((j : ℕ) (other : Op) → j < k → slice_get ops j ≡ Some other → reads other r ≡ false)

-- what trimming goes by: a register is overwritten later just where one of the kept operations does so and none reads it before
abbrev pub OverwrittenRegistersAreNotRead : Type 0
OverwrittenRegistersAreNotRead = (ops : List Op) (r : Reg) → (is_overwritten ops r ≡ true) ↔ IsOverwritten ops r

-- the last operation of a block is kept
abbrev pub LastOperationsAreKept : Type 0
LastOperationsAreKept = (front : List Op) (last : Op) → (kept : List Op) × (trimmed (front ++ last ∷ []) ≡ kept ++ last ∷ [])

-- a trimmed program runs as the program does, with steps left out
abbrev pub TrimmingLeavesStepsOut : Type 0
TrimmingLeavesStepsOut = (p : Eir) → IsEir p → RunsAlike p (with_blocks trimmed p)
