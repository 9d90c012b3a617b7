-- The shift to the left: a jump into a row of doublings.
use Rattle.std.specs.Prelude.{ℕ, zero, suc, ◌-◌, List, [], ◌∷◌}
use Rattle.eir_core.specs.declared.ops.Reg.TheVariants.{A, B, C, SP}
use Rattle.eir_core.specs.declared.ops.Operand.TheVariants.{Reg as register}
use Rattle.eir_core.specs.declared.ops.Op.TheVariants.{Add, Sub, Jump as Go}
use Rattle.c_routines.specs.declared.item.Item.{Item}
use Rattle.c_routines.specs.declared.item.Item.TheVariants.{Does, Label, MoveLabel}
use Rattle.c_routines.specs.Items.{label_of}

-- the label where so many doublings are left
abbrev pub left_over : (base k : ℕ) → ℕ
left_over base k = label_of base (24 - k)

-- so many doublings, each in a block of its own
unfoldable pub doublings : (base k : ℕ) → List Item
doublings base zero = Does (Go (register SP)) ∷ []
doublings base (suc k) = Does (Add A (register A)) ∷ Label (left_over base k) ∷ doublings base k

abbrev pub left : ℕ → List Item
left base =
    MoveLabel C (left_over base 0)
    ∷ Does (Sub C (register B))
    ∷ Does (Go (register C))
    ∷ Label (left_over base 24)
    ∷ doublings base 24
