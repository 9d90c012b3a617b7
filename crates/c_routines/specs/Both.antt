-- The bits that both operands have, from the highest.
use Rattle.std.specs.Prelude.{ℕ, zero, suc, ◌+◌, ◌-◌, ◌*◌, ◌^◌, List, [], ◌∷◌}
use Rattle.eir_core.specs.declared.ops.Reg.TheVariants.{A, B, C, SP}
use Rattle.eir_core.specs.declared.ops.Operand.{Operand}
use Rattle.eir_core.specs.declared.ops.Operand.TheVariants.{Reg as register}
use Rattle.eir_core.specs.declared.ops.Cond.TheVariants.{Lt, Ge}
use Rattle.eir_core.specs.declared.ops.Op.TheVariants.{Mov, Add, Sub, Jump as Go}
use Rattle.c_routines.specs.declared.item.Item.{Item}
use Rattle.c_routines.specs.declared.item.Item.TheVariants.{Does, Label, Jump, JumpIf}
use Rattle.c_routines.specs.Items.{constant, label_of}

-- the labels of a level: where B has no bit of its own, and where the bits below it begin
abbrev pub lacking : (base k : ℕ) → ℕ
lacking base k = label_of base (2 * (23 - k) + 2)

abbrev pub below : (base k : ℕ) → ℕ
below base k = label_of base (2 * (23 - k) + 3)

-- where both operands have the bit, it is taken from both, and goes to C
abbrev pub shared : Operand → (other next : ℕ) → List Item → List Item
shared bit other next rest =
    JumpIf Lt other B bit
    ∷ Does (Sub B bit)
    ∷ JumpIf Lt next A bit
    ∷ Does (Sub A bit)
    ∷ Does (Add C bit)
    ∷ Jump next
    ∷ rest

-- where B lacks it, it is taken from A
abbrev pub alone : Operand → (other next : ℕ) → List Item → List Item
alone bit other next rest =
    Label other
    ∷ JumpIf Lt next A bit
    ∷ Does (Sub A bit)
    ∷ Label next
    ∷ rest

-- the bit of level k
abbrev pub mask : (base k : ℕ) → List Item → List Item
mask base k rest = shared (constant (2 ^ k)) (lacking base k) (below base k) (alone (constant (2 ^ k)) (lacking base k) (below base k) rest)

-- all bits below level k
unfoldable pub masks : (base k : ℕ) → List Item
masks base zero = Does (Mov A (register C)) ∷ Does (Go (register SP)) ∷ []
masks base (suc k) = mask base k (masks base k)

-- two operands that are small both begin at a lower level
abbrev pub begun : ℕ → List Item → List Item
begun base rest =
    Does (Mov C (constant 0))
    ∷ JumpIf Ge (label_of base 0) A (constant (2 ^ 8))
    ∷ JumpIf Lt (below base 8) B (constant (2 ^ 8))
    ∷ Label (label_of base 0)
    ∷ JumpIf Ge (label_of base 1) A (constant (2 ^ 16))
    ∷ JumpIf Lt (below base 16) B (constant (2 ^ 16))
    ∷ Label (label_of base 1)
    ∷ rest

abbrev pub both : ℕ → List Item
both base = begun base (masks base 24)
