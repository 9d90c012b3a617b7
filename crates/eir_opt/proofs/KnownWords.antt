-- The words that are known along a block are in the registers.
use Rattle.std.proofs.Common.{◌≡◌, ℕ, zero, suc, true, false, cond, List, [], ◌∷◌, Option, None, Some, slice_get, refl, sym, ap, ◌∙◌}
use Rattle.std.specs.Option.{option_map}
use Rattle.word24.specs.declared.word.Word.{Word}
use Rattle.word24.specs.Word.{number_of}
use Rattle.eir_core.specs.declared.ops.Reg.{Reg}
use Rattle.eir_core.specs.declared.ops.Operand.{Operand}
use Rattle.eir_core.specs.declared.ops.Operand.TheVariants.{Reg as register, Imm}
use Rattle.eir_core.specs.declared.ops.Op.{Op}
use Rattle.eir_core.specs.declared.ops.Op.TheVariants.{Mov, Add, Sub, Load, Store, Putc, Getc, Exit, Set, Jump, JumpIf}
use Rattle.eir_core.specs.Memory.{Memory}
use Rattle.eir_core.specs.Step.{Regs, reg_of, with_reg, value_of}
use Rattle.eir_opt.specs.ByRegister.{at, with_at}
use Rattle.eir_opt.specs.Folding.{Known, none_known, folded_op, constant_of, known_after, folded_from}
use Rattle.eir_opt.specs.Trimming.{is_same}
use Rattle.eir_opt.proofs.OneRegister.{reg_of-with_reg, at-with_at, at-everywhere}
use Rattle.eir_opt.proofs.Effects.{regs_after}

-- each register that is known holds its word
abbrev pub Holds : Known → Regs → Type 0
Holds known regs = (r : Reg) (w : Word) → at known r ≡ Some w → reg_of regs r ≡ number_of w

pub holds-none : (regs : Regs) → Holds none_known regs
holds-none regs r w e = absurd (none (sym (at-everywhere None r) ∙ e)) where
  none : {w : Word} → None ≡ Some w → ⊥
  none e = cc

pub holds-set : (known : Known) (regs : Regs) (r : Reg) (o : Option Word) (n : ℕ) → Holds known regs → ((w : Word) → o ≡ Some w → n ≡ number_of w) → Holds (with_at known r o) (with_reg regs r n)
holds-set known regs r o n all new x w e =
    let read : cond (is_same r x) o (at known x) ≡ Some w = sym (at-with_at known r o x) ∙ e in
    reg_of-with_reg regs r n x
    ∙ (elim (is_same r x) as (λ b. cond b o (at known x) ≡ Some w → cond b n (reg_of regs x) ≡ number_of w)
    [ true ↦ λ h. new w h | false ↦ λ h. all x w h ] read)

pub constant_of-value : (regs : Regs) (v : Operand) (w : Word) → constant_of v ≡ Some w → value_of regs v ≡ number_of w
constant_of-value regs (register r) w e = absurd (cc)
constant_of-value regs (Imm u) w e = let same : u ≡ w = cc in ap number_of same

nothing : (n : ℕ) (w : Word) → None ≡ Some w → n ≡ number_of w
nothing n w e = absurd (cc)

-- an operation leaves the words that are known after it
pub holds-after : (known : Known) (op : Op) (regs : Regs) (memory : Memory) (byte : ℕ) → Holds known regs → Holds (known_after known op) (regs_after op regs memory byte)
holds-after known (Mov r v) regs memory byte h = holds-set known regs r _ _ h (constant_of-value regs v)
holds-after known (Add r v) regs memory byte h = holds-set known regs r None _ h (nothing _)
holds-after known (Sub r v) regs memory byte h = holds-set known regs r None _ h (nothing _)
holds-after known (Load r v) regs memory byte h = holds-set known regs r None _ h (nothing _)
holds-after known (Store r v) regs memory byte h = h
holds-after known (Putc v) regs memory byte h = h
holds-after known (Getc r) regs memory byte h = holds-set known regs r None _ h (nothing _)
holds-after known Exit regs memory byte h = h
holds-after known (Set test r v) regs memory byte h = holds-set known regs r None _ h (nothing _)
holds-after known (Jump target) regs memory byte h = h
holds-after known (JumpIf test target r v) regs memory byte h = h

-- what is known at a place of a block
abbrev pub known_in : Known → List Op → ℕ → Known
known_in known [] i = known
known_in known (op ∷ ops) zero = known
known_in known (op ∷ ops) (suc i) = known_in (known_after known (folded_op known op)) ops i

pub known_in-zero : (known : Known) (ops : List Op) → known_in known ops 0 ≡ known
known_in-zero known [] = refl
known_in-zero known (op ∷ ops) = refl

pub known_in-suc : (known : Known) (ops : List Op) (i : ℕ) (op : Op) → slice_get ops i ≡ Some op
    → known_in known ops (suc i) ≡ known_after (known_in known ops i) (folded_op (known_in known ops i) op)
known_in-suc known [] zero op e = absurd (cc)
known_in-suc known [] (suc i) op e = absurd (cc)
known_in-suc known (x ∷ ops) zero op e =
    let same : x ≡ op = cc in
    known_in-zero (known_after known (folded_op known x)) ops ∙ ap (λ o. known_after known (folded_op known o)) same
known_in-suc known (x ∷ ops) (suc i) op e = known_in-suc (known_after known (folded_op known x)) ops i op e

-- the folded operation at a place
pub slice_get-folded_from : (known : Known) (ops : List Op) (i : ℕ) → slice_get (folded_from known ops) i ≡ option_map (folded_op (known_in known ops i)) (slice_get ops i)
slice_get-folded_from known [] zero = refl
slice_get-folded_from known [] (suc i) = refl
slice_get-folded_from known (op ∷ ops) zero = refl
slice_get-folded_from known (op ∷ ops) (suc i) = slice_get-folded_from (known_after known (folded_op known op)) ops i
