-- Which register is which.
use Rattle.std.proofs.Common.{◌≡◌, ℕ, true, false, refl, nat_eq}
use Rattle.eir_core.specs.declared.ops.Reg.{Reg}
use Rattle.eir_core.specs.declared.ops.Reg.TheVariants.{A, B, C, D, SP, BP}
use Rattle.eir_core.specs.Step.{Regs, reg_of, with_reg}
use Rattle.sq_back.specs.Code.{register_cell}

-- registers with one cell are one
pub same_register : (x r : Reg) → nat_eq (register_cell x) (register_cell r) ≡ true → x ≡ r
same_register A A e = refl
same_register A r e = cc
same_register B B e = refl
same_register B r e = cc
same_register C C e = refl
same_register C r e = cc
same_register D D e = refl
same_register D r e = cc
same_register SP SP e = refl
same_register SP r e = cc
same_register BP BP e = refl
same_register BP r e = cc

-- the register that is written
pub reg_of-with_reg_same : (regs : Regs) (r : Reg) (w : ℕ) → reg_of (with_reg regs r w) r ≡ w
reg_of-with_reg_same regs A w = refl
reg_of-with_reg_same regs B w = refl
reg_of-with_reg_same regs C w = refl
reg_of-with_reg_same regs D w = refl
reg_of-with_reg_same regs SP w = refl
reg_of-with_reg_same regs BP w = refl

-- any other register
pub reg_of-with_reg_other : (regs : Regs) (r x : Reg) (w : ℕ) → nat_eq (register_cell x) (register_cell r) ≡ false → reg_of (with_reg regs r w) x ≡ reg_of regs x
reg_of-with_reg_other regs A A w e = cc
reg_of-with_reg_other regs A x w e = refl
reg_of-with_reg_other regs B B w e = cc
reg_of-with_reg_other regs B x w e = refl
reg_of-with_reg_other regs C C w e = cc
reg_of-with_reg_other regs C x w e = refl
reg_of-with_reg_other regs D D w e = cc
reg_of-with_reg_other regs D x w e = refl
reg_of-with_reg_other regs SP SP w e = cc
reg_of-with_reg_other regs SP x w e = refl
reg_of-with_reg_other regs BP BP w e = cc
reg_of-with_reg_other regs BP x w e = refl

-- a register that gets the word that it has
pub with_reg-reg_of : (regs : Regs) (r : Reg) → with_reg regs r (reg_of regs r) ≡ regs
with_reg-reg_of regs A = refl
with_reg-reg_of regs B = refl
with_reg-reg_of regs C = refl
with_reg-reg_of regs D = refl
with_reg-reg_of regs SP = refl
with_reg-reg_of regs BP = refl
