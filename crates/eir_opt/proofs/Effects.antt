-- What an operation does, in parts: in the registers, in memory, and where it leads.
use Rattle.std.proofs.Common.{◌≡◌, ℕ, true, false, cond, length, Option, None, Some, refl}
use Rattle.word24.specs.Word.{sum_word, difference_word}
use Rattle.eir_core.specs.declared.ops.Op.{Op}
use Rattle.eir_core.specs.declared.ops.Op.TheVariants.{Mov, Add, Sub, Load, Store, Putc, Getc, Exit, Set, Jump, JumpIf}
use Rattle.eir_core.specs.Eir.{Eir}
use Rattle.eir_core.specs.Memory.{Memory, word_at, with_word}
use Rattle.eir_core.specs.Step.{Regs, Config, reg_of, with_reg, value_of, holds, onward, going_to, after}

abbrev pub regs_after : Op → Regs → Memory → ℕ → Regs
regs_after (Mov r v) regs memory byte = with_reg regs r (value_of regs v)
regs_after (Add r v) regs memory byte = with_reg regs r (sum_word (reg_of regs r) (value_of regs v))
regs_after (Sub r v) regs memory byte = with_reg regs r (difference_word (reg_of regs r) (value_of regs v))
regs_after (Load r v) regs memory byte = with_reg regs r (word_at memory (value_of regs v))
regs_after (Getc r) regs memory byte = with_reg regs r byte
regs_after (Set test r v) regs memory byte = with_reg regs r (cond (holds test (reg_of regs r) (value_of regs v)) 1 0)
regs_after op regs memory byte = regs

abbrev pub memory_after : Op → Regs → Memory → Memory
memory_after (Store r v) regs memory = with_word memory (value_of regs v) (reg_of regs r)
memory_after op regs memory = memory

-- the block that an operation goes to, among so many, where it doesn't go on to what comes next
abbrev pub target_of : ℕ → Op → Regs → Option ℕ
target_of count Exit regs = Some count
target_of count (Jump target) regs = Some (value_of regs target)
target_of count (JumpIf test target r v) regs = cond (holds test (reg_of regs r) (value_of regs v)) (Some (value_of regs target)) None
target_of count op regs = None

abbrev pub moved : Eir → Config → Option ℕ → Regs → Memory → Config
moved p c None regs memory = onward p c regs memory
moved p c (Some k) regs memory = record { block = k; index = 0; regs = regs; memory = memory }

pub after-moved : (p : Eir) (c : Config) (op : Op) (byte : ℕ)
    → after p c (Some op) byte ≡ moved p c (target_of (length p.blocks) op c.regs) (regs_after op c.regs c.memory byte) (memory_after op c.regs c.memory)
after-moved p c (Mov r v) byte = refl
after-moved p c (Add r v) byte = refl
after-moved p c (Sub r v) byte = refl
after-moved p c (Load r v) byte = refl
after-moved p c (Store r v) byte = refl
after-moved p c (Putc v) byte = refl
after-moved p c (Getc r) byte = refl
after-moved p c Exit byte = refl
after-moved p c (Set test r v) byte = refl
after-moved p c (Jump target) byte = refl
after-moved p c (JumpIf test target r v) byte =
    elim (holds test (reg_of c.regs r) (value_of c.regs v))
    as (λ b. cond b (going_to c (value_of c.regs target)) (onward p c c.regs c.memory) ≡ moved p c (cond b (Some (value_of c.regs target)) None) c.regs c.memory)
    [ true ↦ refl | false ↦ refl ]
