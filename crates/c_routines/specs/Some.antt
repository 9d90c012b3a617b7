-- The bits that at least one operand has, and those that only one has, by way of those that both have.
use Rattle.std.specs.Prelude.{ℕ, ◌+◌, List, [], ◌∷◌}
use Rattle.eir_core.specs.declared.ops.Reg.TheVariants.{A, B, C}
use Rattle.eir_core.specs.declared.ops.Operand.TheVariants.{Reg as register}
use Rattle.eir_core.specs.declared.ops.Op.{Op}
use Rattle.eir_core.specs.declared.ops.Op.TheVariants.{Mov, Add, Sub, Load, Store}
use Rattle.c_routines.specs.declared.item.Item.{Item}
use Rattle.c_routines.specs.Items.{constant, label_of}
use Rattle.c_routines.specs.Using.{using}

-- the sum waits in the word 25
abbrev pub sum_kept : ℕ → List Op
sum_kept first = Mov C (register A) ∷ Add C (register B) ∷ Store C (constant (first + 25)) ∷ []

abbrev pub sum_less : ℕ → List Op
sum_less first = Mov B (register A) ∷ Load A (constant (first + 25)) ∷ Sub A (register B) ∷ []

abbrev pub sum_less_twice : ℕ → List Op
sum_less_twice first = Mov B (register A) ∷ Load A (constant (first + 25)) ∷ Sub A (register B) ∷ Sub A (register B) ∷ []

-- at `entry` stands the routine of the bits that both have
abbrev pub some : (entry base first : ℕ) → List Item
some entry base first = using entry (label_of base 0) first (sum_kept first) (sum_less first) []

abbrev pub one : (entry base first : ℕ) → List Item
one entry base first = using entry (label_of base 0) first (sum_kept first) (sum_less_twice first) []
