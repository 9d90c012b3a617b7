-- Arguments and what is called, as the definitions have them.
use Rattle.std.specs.Prelude.{◌≡◌, ℕ, Bool, false, List, [], ◌∷◌, Option, Some, None, slice_get}
use Rattle.std.specs.Option.{option_map_or}
use Rattle.c_types.specs.declared.fault.TypeFault.{TypeFault}
use Rattle.c_types.specs.Types.{CTypes}
use Rattle.c_types.specs.Refusals.{least_of}
use Rattle.c_types.specs.Operands as plain
use Rattle.c_types.specs.Operands.{are_printed, conversions_behind}
use Rattle.c_types.specs.declared.shape.Shape.{Shape}
use Rattle.c_types.specs.declared.shape.Shape.TheVariants as shape
use Rattle.c_types.specs.Known.{TypeList}
use Rattle.c_types.specs.Table.{Table, known, HasType}
use Rattle.c_operands.specs.Seen.{IsValue}
use Rattle.c_operands.specs.declared.arguments.Argument.{Argument}
use Rattle.c_operands.specs.declared.arguments.Callee.{Callee}
use Rattle.c_operands.specs.declared.arguments.Callee.TheVariants.{Direct, Format, Through}

-- a number is that of a list of types
abbrev pub HasList : Table → ℕ → CTypes → Type 0
HasList table n ts = slice_get (known table) n ≡ Some (TypeList ts)

abbrev pub IsList : Table → ℕ → Type 0
IsList table n = (ts : CTypes) × HasList table n ts

-- an argument of the code is one of the definitions
pub record IsArgument (table : Table) (a : Argument) (x : plain.Operand) : Type 0 where
  pub at : a.at ≡ x.pos
  pub value : IsValue table a.value x

abbrev pub AreArguments : Table → List Argument → List plain.Operand → Type 0
AreArguments table [] [] = Unit {0}
AreArguments table (a ∷ arguments) (x ∷ xs) = IsArgument table a x × AreArguments table arguments xs
AreArguments table _ _ = ⊥

-- what is called is what the definitions call
abbrev pub IsCallee : Table → Callee → plain.Callee → Type 0
IsCallee table (Direct n defined) (plain.Direct t known) = HasType table n t × (defined ≡ known)
IsCallee table Format plain.Format = Unit {0}
IsCallee table (Through n) (plain.Through t) = HasType table n t
IsCallee table _ _ = ⊥

abbrev pub function_parts : Shape → Option (ℕ × ℕ)
function_parts (shape.Function t ts) = Some (t, ts)
function_parts _ = None

-- the first type of a list, and the list behind it
abbrev pub first_type : Shape → Option (ℕ × ℕ)
first_type (shape.MoreType t ts) = Some (t, ts)
first_type _ = None

-- the refusal of two that is told, if there is one
abbrev pub merged : Option TypeFault → Option TypeFault → Option TypeFault
merged None o = o
merged (Some e) o = Some (least_of e o)

-- the arguments are those of what is left of a format, perhaps behind a percent
abbrev pub printed : Bool → List ℕ → List plain.Operand → Bool
printed behind format xs = option_map_or (λ letters. are_printed letters xs) (conversions_behind behind format) false
