-- Blocks, folded and trimmed by the definitions.
use Rattle.std.proofs.Common.{◌≡◌, ℕ, List, [], ◌∷◌, refl}
use Rattle.eir_core.specs.declared.ops.Reg.TheVariants.{A, B}
use Rattle.eir_core.specs.declared.ops.Operand.{Operand}
use Rattle.eir_core.specs.declared.ops.Operand.TheVariants.{Reg as register, Imm}
use Rattle.eir_core.specs.declared.ops.Cond.TheVariants.{Eq, Lt}
use Rattle.eir_core.specs.declared.ops.Op.{Op}
use Rattle.eir_core.specs.declared.ops.Op.TheVariants.{Mov, Add, Sub, Load, Putc, Getc, Exit, Set, Jump, JumpIf}
use Rattle.eir_opt.specs.Folding.{wrapped, folded}
use Rattle.eir_opt.specs.Trimming.{trimmed}

abbrev number : ℕ → Operand
number n = Imm (wrapped n)

abbrev made : List Op → List Op
made ops = trimmed (folded ops)

-- a sum of constants is one, and each register that is written anew before it is read is written once
pub sums_are_folded : made (Mov A (number 2) ∷ Add A (number 3) ∷ Putc (register A) ∷ Mov A (number 7) ∷ Putc (register A) ∷ Exit ∷ [])
    ≡ Putc (number 5) ∷ Mov A (number 7) ∷ Putc (number 7) ∷ Exit ∷ []
sums_are_folded = refl

pub repeated_moves_are_dropped : made (Mov A (number 1) ∷ Mov A (number 1) ∷ Jump (number 0) ∷ []) ≡ Mov A (number 1) ∷ Jump (number 0) ∷ []
repeated_moves_are_dropped = refl

-- differences and comparisons are folded modulo 2^24 and without sign
pub differences_wrap : folded (Mov A (number 1) ∷ Sub A (number 2) ∷ Set Lt A (number 5) ∷ Exit ∷ [])
    ≡ Mov A (number 1) ∷ Mov A (number 16777215) ∷ Mov A (number 0) ∷ Exit ∷ []
differences_wrap = refl

-- a conditional jump stays one, though it is known whether it jumps
pub conditional_jumps_stay : folded (Mov A (number 1) ∷ Mov B (number 1) ∷ JumpIf Eq (register A) A (register B) ∷ [])
    ≡ Mov A (number 1) ∷ Mov B (number 1) ∷ JumpIf Eq (number 1) A (number 1) ∷ []
conditional_jumps_stay = refl

-- what is taken from the input or loaded is not known
pub taken_bytes_are_unknown : folded (Mov A (number 1) ∷ Getc A ∷ Add A (number 1) ∷ Load A (register A) ∷ Putc (register A) ∷ Exit ∷ [])
    ≡ Mov A (number 1) ∷ Getc A ∷ Add A (number 1) ∷ Load A (register A) ∷ Putc (register A) ∷ Exit ∷ []
taken_bytes_are_unknown = refl

-- a load is dropped only where its register is overwritten before it is read, and a byte is always taken
pub loads_that_are_read_stay : made (Load A (number 3) ∷ Load B (register A) ∷ Load B (number 4) ∷ Getc A ∷ Getc A ∷ Exit ∷ [])
    ≡ Load B (number 4) ∷ Getc A ∷ Getc A ∷ Exit ∷ []
loads_that_are_read_stay = refl

-- adding 0 and moving a register to itself change nothing; the last operation is kept all the same
pub nothing_is_added : made (Getc A ∷ Add A (number 0) ∷ Mov A (register A) ∷ Sub A (number 0) ∷ Putc (register A) ∷ Add A (number 0) ∷ [])
    ≡ Getc A ∷ Putc (register A) ∷ Add A (number 0) ∷ []
nothing_is_added = refl
