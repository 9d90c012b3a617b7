-- A register that is set, and the others.
use Rattle.std.proofs.Common.{◌≡◌, ℕ, true, false, cond, refl, sym, ◌∙◌}
use Rattle.eir_core.specs.declared.ops.Reg.{Reg}
use Rattle.eir_core.specs.declared.ops.Reg.TheVariants.{A, B, C, D, SP, BP}
use Rattle.eir_core.specs.Step.{Regs, reg_of, with_reg}
use Rattle.eir_opt.specs.declared.by_register.ByRegister.{ByRegister}
use Rattle.eir_opt.specs.ByRegister.{at, with_at, everywhere}
use Rattle.eir_opt.specs.Trimming.{is_same}

pub is_same-self : (r : Reg) → is_same r r ≡ true
is_same-self A = refl
is_same-self B = refl
is_same-self C = refl
is_same-self D = refl
is_same-self SP = refl
is_same-self BP = refl

pub is_same-true : (r x : Reg) → is_same r x ≡ true → r ≡ x
is_same-true A A e = refl
is_same-true B B e = refl
is_same-true C C e = refl
is_same-true D D e = refl
is_same-true SP SP e = refl
is_same-true BP BP e = refl
is_same-true r x e = cc

pub reg_of-with_reg : (regs : Regs) (r : Reg) (n : ℕ) (x : Reg) → reg_of (with_reg regs r n) x ≡ cond (is_same r x) n (reg_of regs x)
reg_of-with_reg regs A n A = refl
reg_of-with_reg regs B n B = refl
reg_of-with_reg regs C n C = refl
reg_of-with_reg regs D n D = refl
reg_of-with_reg regs SP n SP = refl
reg_of-with_reg regs BP n BP = refl
reg_of-with_reg regs r n x = refl

pub at-with_at : {T : Type 0} (values : ByRegister T) (r : Reg) (v : T) (x : Reg) → at (with_at values r v) x ≡ cond (is_same r x) v (at values x)
at-with_at values A v A = refl
at-with_at values B v B = refl
at-with_at values C v C = refl
at-with_at values D v D = refl
at-with_at values SP v SP = refl
at-with_at values BP v BP = refl
at-with_at values r v x = refl

pub at-everywhere : {T : Type 0} (v : T) (x : Reg) → at (everywhere v) x ≡ v
at-everywhere v A = refl
at-everywhere v B = refl
at-everywhere v C = refl
at-everywhere v D = refl
at-everywhere v SP = refl
at-everywhere v BP = refl

-- a register that is set to what it holds is as it was
pub with_reg-same : (regs : Regs) (r : Reg) → with_reg regs r (reg_of regs r) ≡ regs
with_reg-same regs A = refl
with_reg-same regs B = refl
with_reg-same regs C = refl
with_reg-same regs D = refl
with_reg-same regs SP = refl
with_reg-same regs BP = refl

-- set alike, two sets of registers agree where they did, and at the one that is set
pub set_agrees : (x y : Regs) (r : Reg) (n m : ℕ) (z : Reg) → m ≡ n → (is_same r z ≡ false → reg_of y z ≡ reg_of x z) → reg_of (with_reg y r m) z ≡ reg_of (with_reg x r n) z
set_agrees x y r n m z values others =
    let same : cond (is_same r z) m (reg_of y z) ≡ cond (is_same r z) n (reg_of x z) =
    elim (is_same r z) as (λ b. is_same r z ≡ b → cond b m (reg_of y z) ≡ cond b n (reg_of x z)) [ true ↦ λ e. values | false ↦ λ e. others e ] refl in
    reg_of-with_reg y r m z ∙ (same ∙ sym (reg_of-with_reg x r n z))
