-- The product: the smaller operand is taken bit by bit, from the highest.
use Rattle.std.specs.Prelude.{ℕ, zero, suc, ◌-◌, ◌^◌, List, [], ◌∷◌}
use Rattle.eir_core.specs.declared.ops.Reg.TheVariants.{A, B, C, SP}
use Rattle.eir_core.specs.declared.ops.Operand.TheVariants.{Reg as register}
use Rattle.eir_core.specs.declared.ops.Cond.TheVariants.{Lt, Le}
use Rattle.eir_core.specs.declared.ops.Op.TheVariants.{Mov, Add, Sub, Jump as Go}
use Rattle.c_routines.specs.declared.item.Item.{Item}
use Rattle.c_routines.specs.declared.item.Item.TheVariants.{Does, Label, JumpIf}
use Rattle.c_routines.specs.Items.{constant, label_of}

-- the label where the bits below level k begin
abbrev pub skip : (base k : ℕ) → ℕ
skip base k = label_of base (24 - k)

-- the bit of level k, above the lowest
abbrev pub higher : (base k : ℕ) → List Item → List Item
higher base k rest =
    JumpIf Lt (skip base k) A (constant (2 ^ k))
    ∷ Does (Sub A (constant (2 ^ k)))
    ∷ Does (Add C (register B))
    ∷ Label (skip base k)
    ∷ rest

-- the bit of level k, which is the highest that A may still have; the lowest one isn't taken away
abbrev pub turn : (base k : ℕ) → List Item → List Item
turn base zero rest =
    JumpIf Lt (skip base 0) A (constant 1)
    ∷ Does (Add C (register B))
    ∷ Label (skip base 0)
    ∷ rest
turn base (suc k) rest = higher base (suc k) rest

-- all bits below level k
unfoldable pub bits : (base k : ℕ) → List Item
bits base zero = Does (Mov A (register C)) ∷ Does (Go (register SP)) ∷ []
bits base (suc k) = Does (Add C (register C)) ∷ turn base k (bits base k)

-- the smaller operand comes to A
abbrev pub exchanged : ℕ → List Item → List Item
exchanged smaller rest =
    JumpIf Le smaller A (register B)
    ∷ Does (Mov C (register A))
    ∷ Does (Mov A (register B))
    ∷ Does (Mov B (register C))
    ∷ Label smaller
    ∷ rest

-- a small operand begins at a lower level
abbrev pub begun : ℕ → List Item → List Item
begun base rest =
    Does (Mov C (constant 0))
    ∷ JumpIf Lt (skip base 6) A (constant (2 ^ 6))
    ∷ JumpIf Lt (skip base 12) A (constant (2 ^ 12))
    ∷ rest

abbrev pub ordered : ℕ → List Item → List Item
ordered base rest = exchanged (label_of base 0) (begun base rest)

abbrev pub product : ℕ → List Item
product base = ordered base (turn base 23 (bits base 23))
