-- What classes of types decide of code.
use Rattle.std.specs.Prelude.{ℕ, Option, Some, None}
use Rattle.c_types.specs.Types as types
use Rattle.c_types.specs.Types.{CType}
use Rattle.c_types.specs.declared.shape.Shape.{Shape}
use Rattle.c_types.specs.declared.shape.Shape.TheVariants as shape
use Rattle.c_types.specs.Table.{Table, HasType}
use Rattle.c_operands.specs.declared.class.Class.{Class}
use Rattle.c_operands.specs.declared.class.Class.TheVariants.{Struct, Array}
use Rattle.c_operands.specs.Classes.{class_of}
use Rattle.c_lowered.specs.Locations.{Location, Direct, Stored, address_of}

-- what a place is worth
abbrev pub held_by : Class → Location → Option Direct
held_by Array l = Some (address_of l)
held_by Struct l = None
held_by c l = Some (Stored l)

-- the class of what a pointer points to
abbrev pub target_of : CType → Option Class
target_of (types.Pointer t) = Some (class_of t)
target_of t = None

-- what a pointer of a shape points to; an array is used as a pointer to its first element
abbrev pub aim : Shape → Option ℕ
aim (shape.Pointer n) = Some n
aim (shape.Array n count) = Some n
aim _ = None

-- a number is that of the type to which a pointer points, and there is one if it is a pointer
abbrev pub AimsAt : Table → Option ℕ → CType → Type 0
AimsAt table (Some n) (types.Pointer t) = HasType table n t
AimsAt table None (types.Pointer t) = ⊥
AimsAt table (Some n) t = ⊥
AimsAt table None t = Unit {0}
