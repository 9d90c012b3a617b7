-- The shift to the right without sign: the bits that stay go over to C one by one, from the highest.
use Rattle.std.specs.Prelude.{◌≡◌, ℕ, zero, suc, ◌+◌, ◌-◌, ◌*◌, ◌≤◌, ◌^◌, List, [], ◌∷◌}
use Rattle.eir_core.specs.declared.ops.Reg.TheVariants.{A, B, C, SP}
use Rattle.eir_core.specs.declared.ops.Operand.TheVariants.{Reg as register}
use Rattle.eir_core.specs.declared.ops.Cond.TheVariants.{Lt}
use Rattle.eir_core.specs.declared.ops.Op.TheVariants.{Mov, Add, Jump as Go}
use Rattle.c_routines.specs.declared.item.Item.{Item}
use Rattle.c_routines.specs.declared.item.Item.TheVariants.{Does, Label, JumpIf, MoveLabel}
use Rattle.c_routines.specs.Items.{constant, label_of}

-- the label where so many bits are left
abbrev pub bits_left : (base k : ℕ) → ℕ
bits_left base k = label_of base (24 - k)

-- a bit more, with k left
abbrev pub piece : (base k : ℕ) → List Item → List Item
piece base k rest =
    Does (Add A (register A))
    ∷ Does (Add C (register C))
    ∷ JumpIf Lt (bits_left base k) A (constant (2 ^ 23))
    ∷ Does (Add C (constant 1))
    ∷ Label (bits_left base k)
    ∷ rest

-- so many bits more, each by two blocks
unfoldable pub pieces : (base k : ℕ) → List Item
pieces base zero = Does (Mov A (register C)) ∷ Does (Go (register SP)) ∷ []
pieces base (suc k) = piece base k (pieces base k)

-- the highest bit is taken before the jump into the row
abbrev pub first_bit : ℕ → List Item → List Item
first_bit base rest =
    Does (Add B (register B))
    ∷ MoveLabel C (bits_left base 23)
    ∷ Does (Add B (register C))
    ∷ Does (Mov C (constant 0))
    ∷ JumpIf Lt (label_of base 0) A (constant (2 ^ 23))
    ∷ Does (Mov C (constant 1))
    ∷ Label (label_of base 0)
    ∷ Does (Go (register B))
    ∷ Label (bits_left base 23)
    ∷ rest

abbrev pub right : ℕ → List Item
right base = first_bit base (pieces base 23)

-- a piece has two blocks
abbrev pub HasTwoBlocks : (at : ℕ → ℕ) (base : ℕ) → Type 0
HasTwoBlocks at base = (k : ℕ) → k ≤ 23 → at (bits_left base k) + 2 * k ≡ at (bits_left base 23) + 46
