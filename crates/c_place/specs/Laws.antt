-- What holds of code that is cut behind its jumps.
use Rattle.std.specs.Prelude.{◌≡◌, ℕ, ◌+◌, ◌≤◌, ◌%◌, ◌^◌, Bool, List, [], ◌∷◌, ◌++◌, length, suc, if◌then◌else◌}
use Rattle.mach_core.specs.Rule.{applied, run_from, input_at}
use Rattle.word24.specs.declared.word.Word.{Word}
use Rattle.eir_core.specs.declared.ops.Reg.{Reg}
use Rattle.eir_core.specs.declared.ops.Cond.{Cond}
use Rattle.eir_core.specs.declared.ops.Operand.{Operand}
use Rattle.eir_core.specs.declared.ops.Op.{Op}
use Rattle.eir_core.specs.declared.ops.Op.TheVariants.{Putc, Getc, Exit, Jump, JumpIf}
use Rattle.eir_core.specs.Eir.{Eir, IsEir, size_of}
use Rattle.eir_core.specs.Step.{reg_of, with_reg, value_of, holds, eir_rule}
use Rattle.c_place.specs.Code.{jumps, IsClosed, program}
use Rattle.c_place.specs.Place.{Place, front, behind, behind_all, Has, Stands, Machine, moment, AreQuiet, made_all}

-- closed code stands whole in its program, from the first block on
abbrev pub CodeStands : Type 0
CodeStands = (ops : List Op) (words : List Word) → IsClosed ops → Stands (program ops words) (front 0) ops

-- its blocks are its jumps, and it is a program where that many, its operations and the data words are few enough
abbrev pub CutIsProgram : Type 0
CutIsProgram =
    (ops : List Op) (words : List Word) → IsClosed ops
    → (size_of (program ops words) ≡ jumps ops + length ops + length words) × (jumps ops + length ops + length words ≤ 2 ^ 21 → IsEir (program ops words))

-- quiet code is run in as many steps as it has operations, and leads behind itself
abbrev pub QuietCodeRuns : Type 0
QuietCodeRuns =
    (p : Eir) (input : List ℕ) (s : Place) (m : Machine) (taken : ℕ) (output : List ℕ) (ops : List Op) → AreQuiet ops → Stands p s ops
    → run_from (eir_rule p) input (moment s m taken output) (length ops) ≡ moment (behind_all s ops) (made_all ops m) taken output

-- what an operation does that isn't quiet
pub record OtherOperations (p : Eir) (input : List ℕ) (s : Place) (m : Machine) (taken : ℕ) (output : List ℕ) : Type 0 where
  pub put : (v : Operand) → Has p s (Putc v) → applied (eir_rule p) input (moment s m taken output) ≡ moment (behind s (Putc v)) m taken (output ++ value_of m.regs v % 2 ^ 8 ∷ [])
  pub get : (r : Reg) → Has p s (Getc r) → applied (eir_rule p) input (moment s m taken output) ≡ moment (behind s (Getc r)) (record m { regs = with_reg m.regs r (input_at input taken) }) (taken + 1) output
  pub exit : Has p s Exit → applied (eir_rule p) input (moment s m taken output) ≡ moment (front (length p.blocks)) m taken output
  pub jump : (v : Operand) → Has p s (Jump v) → applied (eir_rule p) input (moment s m taken output) ≡ moment (front (value_of m.regs v)) m taken output
  pub jump_if : (test : Cond) (v : Operand) (r : Reg) (w : Operand) (b : Bool) → holds test (reg_of m.regs r) (value_of m.regs w) ≡ b → Has p s (JumpIf test v r w)
      → applied (eir_rule p) input (moment s m taken output) ≡ moment (front (if b then value_of m.regs v else suc s.block)) m taken output

abbrev pub OperationsRun : Type 0
OperationsRun = (p : Eir) (input : List ℕ) (s : Place) (m : Machine) (taken : ℕ) (output : List ℕ) → OtherOperations p input s m taken output
