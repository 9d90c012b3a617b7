-- A routine that uses another.
use Rattle.std.specs.Prelude.{ℕ, ◌+◌, List, [], ◌∷◌}
use Rattle.eir_core.specs.declared.ops.Reg.{Reg}
use Rattle.eir_core.specs.declared.ops.Reg.TheVariants.{SP}
use Rattle.eir_core.specs.declared.ops.Operand.TheVariants.{Reg as register}
use Rattle.eir_core.specs.declared.ops.Op.{Op}
use Rattle.eir_core.specs.declared.ops.Op.TheVariants.{Mov, Sub, Load, Store, Jump as Go}
use Rattle.c_routines.specs.declared.item.Item.{Item}
use Rattle.c_routines.specs.declared.item.Item.TheVariants.{Does, Label, Jump, MoveLabel}
use Rattle.c_routines.specs.Items.{constant, does}

-- a register becomes what it lacks to 0, by way of another
abbrev pub negate : Reg → Reg → List Op
negate r by = Mov by (register r) ∷ Mov r (constant 0) ∷ Sub r (register by) ∷ []

-- the other routine is entered, with the block in SP kept in the word 24
abbrev pub entered : (entry back first : ℕ) → List Item → List Item
entered entry back first rest =
    Does (Store SP (constant (first + 24)))
    ∷ MoveLabel SP back
    ∷ Jump entry
    ∷ Label back
    ∷ rest

-- the block in SP is fetched again, and the routine is left
abbrev pub left_again : ℕ → List Item → List Item
left_again first rest = Does (Load SP (constant (first + 24))) ∷ Does (Go (register SP)) ∷ rest

-- at `entry` stands the other routine
abbrev pub using : (entry back first : ℕ) → (before after : List Op) → List Item → List Item
using entry back first before after rest = does before (entered entry back first (does after (left_again first rest)))
