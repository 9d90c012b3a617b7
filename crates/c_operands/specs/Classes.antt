-- Classes of types, and what converts as they see it.
use Rattle.std.specs.Prelude.{ℕ, Bool, true, false, ◌&&◌, ◌||◌, Option, Some, None, if◌then◌else◌}
use Rattle.c_types.specs.Types as types
use Rattle.c_types.specs.Types.{CType}
use Rattle.c_types.specs.declared.shape.Shape.{Shape}
use Rattle.c_types.specs.declared.shape.Shape.TheVariants as shape
use Rattle.c_operands.specs.declared.class.Class.{Class}
use Rattle.c_operands.specs.declared.class.Class.TheVariants.{Signed, Unsigned, Void, Null, Struct, Array, Function, VoidPointer, FunctionPointer, ObjectPointer}

-- the class of a shape, whatever a pointer points to
abbrev pub plain_class : Shape → Class
plain_class shape.Int = Signed
plain_class shape.Char = Signed
plain_class shape.Unsigned = Unsigned
plain_class shape.UChar = Unsigned
plain_class shape.Null = Null
plain_class (shape.Struct n) = Struct
plain_class (shape.Pointer t) = ObjectPointer
plain_class (shape.Array t n) = Array
plain_class (shape.Function t ts) = Function
plain_class _ = Void

-- that of a type
abbrev pub type_class : CType → Class
type_class types.Void = Void
type_class types.Int = Signed
type_class types.Unsigned = Unsigned
type_class types.Char = Signed
type_class types.UChar = Unsigned
type_class types.Null = Null
type_class (types.Struct tag) = Struct
type_class (types.Pointer t) = ObjectPointer
type_class (types.Array t n) = Array
type_class (types.Function t ts) = Function

abbrev pub pointer_class : Class → Class
pointer_class Void = VoidPointer
pointer_class Function = FunctionPointer
pointer_class _ = ObjectPointer

abbrev pub class_of : CType → Class
class_of (types.Pointer t) = pointer_class (type_class t)
class_of t = type_class t

abbrev pub pointee : Shape → Option ℕ
pointee (shape.Pointer t) = Some t
pointee _ = None

abbrev pub element : Shape → Option ℕ
element (shape.Array t n) = Some t
element _ = None

abbrev pub number : Class → Bool
number Signed = true
number Unsigned = true
number _ = false

abbrev pub pointer : Class → Bool
pointer VoidPointer = true
pointer FunctionPointer = true
pointer ObjectPointer = true
pointer _ = false

abbrev pub object_pointer : Class → Bool
object_pointer VoidPointer = true
object_pointer ObjectPointer = true
object_pointer _ = false

abbrev pub scalar : Class → Bool
scalar c = number c || pointer c

abbrev pub void_pointer : Class → Bool
void_pointer VoidPointer = true
void_pointer _ = false

abbrev pub function_pointer : Class → Bool
function_pointer FunctionPointer = true
function_pointer _ = false

abbrev pub void : Class → Bool
void Void = true
void _ = false

abbrev pub unsigned : Class → Bool
unsigned Unsigned = true
unsigned _ = false

abbrev pub structure : Class → Bool
structure Struct = true
structure _ = false

abbrev pub array : Class → Bool
array Array = true
array _ = false

abbrev pub null_type : Class → Bool
null_type Null = true
null_type _ = false

-- a value of a class converts to a class: whether it is a null constant, and the types are equal
abbrev pub classes_convert : Class → Bool → Class → Bool → Bool
classes_convert from null to same =
    (number from && number to) || (pointer to && (same || null)) || (void_pointer from && object_pointer to) || (object_pointer from && void_pointer to)

abbrev pub classes_cast : Class → Class → Bool → Bool
classes_cast from to same = void to || (number from && number to) || (object_pointer from && object_pointer to) || (function_pointer from && same)

abbrev pub classes_equal : Class → Bool → Class → Bool → Bool → Bool
classes_equal a a_null b b_null same =
    (number a && number b) || (pointer a && classes_convert b b_null a same) || (pointer b && classes_convert a a_null b same) || (a_null && b_null)

abbrev pub classes_order : Class → Class → Bool → Bool
classes_order a b same = (number a && number b) || (object_pointer a && same)

-- the shape of the type that a number counts as
abbrev pub promoted_shape : Class → Shape
promoted_shape c = if unsigned c then shape.Unsigned else shape.Int
