-- The shift to the right with sign: a negative number is turned into what it lacks to -1, shifted, and turned back.
use Rattle.std.specs.Prelude.{ℕ, ◌-◌, ◌/◌, ◌^◌, Bool, true, false, List, [], ◌∷◌}
use Rattle.word24.specs.Word.{is_high}
use Rattle.eir_core.specs.declared.ops.Reg.TheVariants.{A, C}
use Rattle.eir_core.specs.declared.ops.Operand.TheVariants.{Reg as register}
use Rattle.eir_core.specs.declared.ops.Cond.TheVariants.{Ge}
use Rattle.eir_core.specs.declared.ops.Op.{Op}
use Rattle.eir_core.specs.declared.ops.Op.TheVariants.{Mov, Sub}
use Rattle.c_routines.specs.declared.item.Item.{Item}
use Rattle.c_routines.specs.declared.item.Item.TheVariants.{Label, Jump, JumpIf}
use Rattle.c_routines.specs.Items.{constant, label_of}
use Rattle.c_routines.specs.Using.{using}

-- A becomes what it lacks to 2^24 - 1
abbrev pub turned : List Op
turned = Mov C (constant 16777215) ∷ Sub C (register A) ∷ Mov A (register C) ∷ []

-- at `entry` stands the routine that shifts without sign
abbrev pub signed_right : (entry base first : ℕ) → List Item
signed_right entry base first =
    JumpIf Ge (label_of base 0) A (constant (2 ^ 23))
    ∷ Jump entry
    ∷ Label (label_of base 0)
    ∷ using entry (label_of base 1) first turned turned []

-- the number by 2^y, rounded down: of a negative one what it lacks to -1 is divided
abbrev pub shifted_with_sign : Bool → (x y : ℕ) → ℕ
shifted_with_sign true x y = 2 ^ 24 - 1 - (2 ^ 24 - 1 - x) / 2 ^ y
shifted_with_sign false x y = x / 2 ^ y

abbrev pub signed_shift : (x y : ℕ) → ℕ
signed_shift x y = shifted_with_sign (is_high x) x y
