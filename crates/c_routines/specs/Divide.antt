-- The unsigned quotient and remainder: multiples of the divisor upwards, then down again.
use Rattle.std.specs.Prelude.{ℕ, zero, suc, ◌+◌, ◌-◌, ◌*◌, ◌^◌, List, [], ◌∷◌}
use Rattle.eir_core.specs.declared.ops.Reg.TheVariants.{A, B, C, SP}
use Rattle.eir_core.specs.declared.ops.Operand.TheVariants.{Reg as register}
use Rattle.eir_core.specs.declared.ops.Cond.TheVariants.{Lt, Gt, Ge}
use Rattle.eir_core.specs.declared.ops.Op.TheVariants.{Mov, Add, Sub, Load, Store, Jump as Go}
use Rattle.c_routines.specs.declared.item.Item.{Item}
use Rattle.c_routines.specs.declared.item.Item.TheVariants.{Does, Label, Jump, JumpIf}
use Rattle.c_routines.specs.Items.{constant, label_of}

-- the labels of a level: where its own multiple is in B, and where the multiples below it are to be taken away
abbrev pub tested : (base k : ℕ) → ℕ
tested base k = label_of base (2 * (23 - k))

abbrev pub down : (base k : ℕ) → ℕ
down base k = label_of base (2 * (23 - k) + 1)

-- the multiple in B, 2^k times the divisor, is taken away where it can be, and 2^k goes to the quotient
abbrev pub level : (base k : ℕ) → List Item → List Item
level base k rest =
    Label (tested base k)
    ∷ JumpIf Lt (down base k) A (register B)
    ∷ Does (Sub A (register B))
    ∷ Does (Add C (constant (2 ^ k)))
    ∷ Label (down base k)
    ∷ rest

-- all multiples of the levels below k
unfoldable pub falls : (base first k : ℕ) → List Item
falls base first zero = Does (Go (register SP)) ∷ []
falls base first (suc k) = Does (Load B (constant (first + k))) ∷ level base k (falls base first k)

-- the multiple of level k is kept, and the next one made of it where there is one
abbrev pub rise : (base first k : ℕ) → List Item → List Item
rise base first k rest =
    JumpIf Gt (down base k) B (register A)
    ∷ Does (Store B (constant (first + k)))
    ∷ JumpIf Ge (tested base k) B (constant (2 ^ 23))
    ∷ Does (Add B (register B))
    ∷ rest

-- that of the highest level is kept, and no other made of it
abbrev pub kept : (base first k : ℕ) → List Item → List Item
kept base first k rest =
    JumpIf Gt (down base k) B (register A)
    ∷ Does (Store B (constant (first + k)))
    ∷ Jump (tested base k)
    ∷ rest

-- the multiples from level k on, with so many levels above it, and then down again
unfoldable pub rises : (base first above k : ℕ) → List Item
rises base first zero k = kept base first k (level base k (falls base first k))
rises base first (suc above) k = rise base first k (rises base first above (suc k))

abbrev pub divide : (base first : ℕ) → List Item
divide base first = Does (Mov C (constant 0)) ∷ rises base first 23 0
