-- A signed number is written: a sign, and what is left without it.
use Rattle.std.specs.Prelude.{ℕ, ◌^◌, List, [], ◌∷◌}
use Rattle.eir_core.specs.declared.ops.Reg.TheVariants.{A, B}
use Rattle.eir_core.specs.declared.ops.Cond.TheVariants.{Lt}
use Rattle.eir_core.specs.declared.ops.Op.TheVariants.{Putc}
use Rattle.c_routines.specs.declared.item.Item.{Item}
use Rattle.c_routines.specs.declared.item.Item.TheVariants.{Does, Label, Jump, JumpIf}
use Rattle.c_routines.specs.Items.{constant, label_of, does}
use Rattle.c_routines.specs.Using.{negate}

-- at `entry` stands the routine that writes a number without sign
abbrev pub decimal : (entry base : ℕ) → List Item
decimal entry base =
    JumpIf Lt (label_of base 0) A (constant (2 ^ 23))
    ∷ Does (Putc (constant 45))
    ∷ does (negate A B) (Label (label_of base 0) ∷ Jump entry ∷ [])
