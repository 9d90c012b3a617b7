-- An operation that is dropped changes no register that is read later.
use Rattle.std.proofs.Common.{◌≡◌, ◌⊎◌, inl, inr, ℕ, Bool, true, false, cond, ◌||◌, List, [], ◌∷◌, None, Some, refl, sym, ap, ◌∙◌, arith}
use Rattle.std.proofs.lemmas.Bool.{or_cases, eqb-true, both_ways}
use Rattle.word24.specs.Word.{IsWord, number_of, sum_word, difference_word}
use Rattle.eir_core.specs.declared.ops.Reg.{Reg}
use Rattle.eir_core.specs.declared.ops.Operand.{Operand}
use Rattle.eir_core.specs.declared.ops.Operand.TheVariants.{Reg as register, Imm}
use Rattle.eir_core.specs.declared.ops.Op.{Op}
use Rattle.eir_core.specs.declared.ops.Op.TheVariants.{Mov, Add, Sub, Load, Store, Putc, Getc, Exit, Set, Jump, JumpIf}
use Rattle.eir_core.specs.Memory.{Memory}
use Rattle.eir_core.specs.Step.{Regs, reg_of, with_reg, value_of, takes, bytes_of}
use Rattle.eir_opt.specs.Trimming.{is_same, is_register, is_zero, is_overwritten, changes_nothing, sets_only, is_dropped}
use Rattle.eir_opt.proofs.OneRegister.{is_same-true, reg_of-with_reg, with_reg-same}
use Rattle.eir_opt.proofs.Effects.{regs_after, memory_after, target_of}

-- the operation takes and writes nothing, leaves the memory and goes on
pub record IsInner (op : Op) : Type 0 where
  pub takes_none : takes (Some op) ≡ false
  pub writes_none : (regs : Regs) → bytes_of regs (Some op) ≡ []
  pub memory_kept : (regs : Regs) (memory : Memory) → memory_after op regs memory ≡ memory
  pub goes_on : (count : ℕ) (regs : Regs) → target_of count op regs ≡ None

pub dropped_is_inner : (test : Reg → Bool) (op : Op) → (changes_nothing op || sets_only test op) ≡ true → IsInner op
dropped_is_inner test (Mov r v) e = record { takes_none = refl; writes_none = λ regs. refl; memory_kept = λ regs memory. refl; goes_on = λ count regs. refl }
dropped_is_inner test (Add r v) e = record { takes_none = refl; writes_none = λ regs. refl; memory_kept = λ regs memory. refl; goes_on = λ count regs. refl }
dropped_is_inner test (Sub r v) e = record { takes_none = refl; writes_none = λ regs. refl; memory_kept = λ regs memory. refl; goes_on = λ count regs. refl }
dropped_is_inner test (Load r v) e = record { takes_none = refl; writes_none = λ regs. refl; memory_kept = λ regs memory. refl; goes_on = λ count regs. refl }
dropped_is_inner test (Set comparison r v) e = record { takes_none = refl; writes_none = λ regs. refl; memory_kept = λ regs memory. refl; goes_on = λ count regs. refl }
dropped_is_inner test (Store r v) e = absurd (cc)
dropped_is_inner test (Putc v) e = absurd (cc)
dropped_is_inner test (Getc r) e = absurd (cc)
dropped_is_inner test Exit e = absurd (cc)
dropped_is_inner test (Jump target) e = absurd (cc)
dropped_is_inner test (JumpIf comparison target r v) e = absurd (cc)

zero_value : (regs : Regs) (v : Operand) → is_zero v ≡ true → value_of regs v ≡ 0
zero_value regs (register r) e = absurd (cc)
zero_value regs (Imm w) e = eqb-true (number_of w) 0 e

itself : (regs : Regs) (v : Operand) (r : Reg) → is_register v r ≡ true → value_of regs v ≡ reg_of regs r
itself regs (register x) r e = ap (reg_of regs) (is_same-true x r e)
itself regs (Imm w) r e = absurd (cc)

sum_word-zero : (x y : ℕ) → IsWord x → y ≡ 0 → sum_word x y ≡ x
sum_word-zero x y word e = omega arith

difference_word-zero : (x y : ℕ) → IsWord x → y ≡ 0 → difference_word x y ≡ x
difference_word-zero x y word e = omega arith

-- an operation that changes nothing leaves the registers, which hold words
regs_kept : (op : Op) (regs : Regs) (memory : Memory) (byte : ℕ) → ((r : Reg) → IsWord (reg_of regs r)) → changes_nothing op ≡ true → regs_after op regs memory byte ≡ regs
regs_kept (Mov r v) regs memory byte words e = ap (with_reg regs r) (itself regs v r e) ∙ with_reg-same regs r
regs_kept (Add r v) regs memory byte words e = ap (with_reg regs r) (sum_word-zero (reg_of regs r) (value_of regs v) (words r) (zero_value regs v e)) ∙ with_reg-same regs r
regs_kept (Sub r v) regs memory byte words e = ap (with_reg regs r) (difference_word-zero (reg_of regs r) (value_of regs v) (words r) (zero_value regs v e)) ∙ with_reg-same regs r
regs_kept (Load r v) regs memory byte words e = absurd (cc)
regs_kept (Store r v) regs memory byte words e = absurd (cc)
regs_kept (Putc v) regs memory byte words e = absurd (cc)
regs_kept (Getc r) regs memory byte words e = absurd (cc)
regs_kept Exit regs memory byte words e = absurd (cc)
regs_kept (Set comparison r v) regs memory byte words e = absurd (cc)
regs_kept (Jump target) regs memory byte words e = absurd (cc)
regs_kept (JumpIf comparison target r v) regs memory byte words e = absurd (cc)

-- a register that is set, where the test holds, is another than one where it doesn't
other_kept : (test : Reg → Bool) (regs : Regs) (r : Reg) (n : ℕ) (x : Reg) → test r ≡ true → test x ≡ false → reg_of (with_reg regs r n) x ≡ reg_of regs x
other_kept test regs r n x set unset =
    reg_of-with_reg regs r n x
    ∙ (elim (is_same r x) as (λ b. is_same r x ≡ b → cond b n (reg_of regs x) ≡ reg_of regs x) [
      | true ↦ λ e. absurd (both_ways (test x) unset (sym (ap test (is_same-true r x e)) ∙ set))
      | false ↦ λ e. refl
    ] refl)

others_kept : (test : Reg → Bool) (op : Op) (regs : Regs) (memory : Memory) (byte : ℕ) (x : Reg) → sets_only test op ≡ true → test x ≡ false → reg_of (regs_after op regs memory byte) x ≡ reg_of regs x
others_kept test (Mov r v) regs memory byte x e unset = other_kept test regs r _ x e unset
others_kept test (Add r v) regs memory byte x e unset = other_kept test regs r _ x e unset
others_kept test (Sub r v) regs memory byte x e unset = other_kept test regs r _ x e unset
others_kept test (Load r v) regs memory byte x e unset = other_kept test regs r _ x e unset
others_kept test (Set comparison r v) regs memory byte x e unset = other_kept test regs r _ x e unset
others_kept test (Store r v) regs memory byte x e unset = refl
others_kept test (Putc v) regs memory byte x e unset = refl
others_kept test (Getc r) regs memory byte x e unset = absurd (cc)
others_kept test Exit regs memory byte x e unset = refl
others_kept test (Jump target) regs memory byte x e unset = refl
others_kept test (JumpIf comparison target r v) regs memory byte x e unset = refl

-- an operation that is dropped leaves each register that isn't overwritten later
pub dropped_leaves : (op : Op) (kept : List Op) (regs : Regs) (memory : Memory) (byte : ℕ) (x : Reg) → ((r : Reg) → IsWord (reg_of regs r))
    → is_dropped op kept ≡ true → is_overwritten kept x ≡ false → reg_of (regs_after op regs memory byte) x ≡ reg_of regs x
dropped_leaves op [] regs memory byte x words e unset = absurd (cc)
dropped_leaves op (next ∷ kept) regs memory byte x words e unset = by (or_cases (changes_nothing op) (sets_only (is_overwritten (next ∷ kept)) op) e) where
  by : (changes_nothing op ≡ true) ⊎ (sets_only (is_overwritten (next ∷ kept)) op ≡ true) → reg_of (regs_after op regs memory byte) x ≡ reg_of regs x
  by (inl nothing) = ap (λ r. reg_of r x) (regs_kept op regs memory byte words nothing)
  by (inr sets) = others_kept (is_overwritten (next ∷ kept)) op regs memory byte x sets unset

pub is_dropped-IsInner : (op : Op) (kept : List Op) → is_dropped op kept ≡ true → IsInner op
is_dropped-IsInner op [] e = absurd (cc)
is_dropped-IsInner op (next ∷ kept) e = dropped_is_inner (is_overwritten (next ∷ kept)) op e
