-- What the operands of the code are.
use Rattle.std.specs.Prelude.{◌≡◌, Result, Ok, Err}
use Rattle.c_types.specs.declared.fault.TypeFault.{TypeFault}
use Rattle.c_types.specs.Refusals.{Judged}
use Rattle.c_types.specs.Operands as plain
use Rattle.c_types.specs.Operands.{value_type, is_null_constant}
use Rattle.c_types.specs.Table.{Table, HasType}
use Rattle.c_types.specs.Seen.{constant_of}
use Rattle.c_operands.specs.declared.operand.Sort.{Sort}
use Rattle.c_operands.specs.declared.operand.Sort.TheVariants.{Place, Designator, Zero, Other}
use Rattle.c_operands.specs.declared.operand.Operand.{Operand}
use Rattle.c_operands.specs.declared.operand.Value.{Value}
use Rattle.c_operands.specs.Classes.{class_of}

abbrev pub sort_of : Sort → plain.Sort
sort_of Place = plain.Place
sort_of Designator = plain.Designator
sort_of Zero = plain.Zero
sort_of Other = plain.Other

-- an operand of the code is one of the definitions
pub record IsOperand (table : Table) (x : Operand) (a : plain.Operand) : Type 0 where
  pub at : x.at ≡ a.pos
  pub ty : HasType table x.ty a.ty
  pub sort : sort_of x.sort ≡ a.sort
  pub constant : constant_of x.constant ≡ a.constant

-- a value is that of an operand
pub record IsValue (table : Table) (v : Value) (a : plain.Operand) : Type 0 where
  pub ty : HasType table v.ty (value_type a)
  pub class : v.class ≡ class_of (value_type a)
  pub null : v.null ≡ is_null_constant a

-- what the code finds something to be, or why it refuses it, is what the definitions say
abbrev pub IsJudged : {A B : Type 0} → (A → B → Type 0) → Result A TypeFault → Judged B → Type 0
IsJudged Is (Ok a) (Ok b) = Is a b
IsJudged Is (Err d) (Err e) = d ≡ e
IsJudged Is _ _ = ⊥
