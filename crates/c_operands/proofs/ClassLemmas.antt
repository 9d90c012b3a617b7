-- What the class of a type says of it.
use Rattle.std.proofs.Common.{◌≡◌, ℕ, ◌<◌, Bool, true, false, ◌&&◌, ◌||◌, List, Option, Some, None, length, refl, sym, ap, ◌∙◌, subst}
use Rattle.std.specs.Prelude.{slice_get}
use Rattle.c_types.specs.Types as types
use Rattle.c_types.specs.Types.{CType, CTypes, is_arithmetic, is_pointer, is_object_pointer, is_function_pointer, is_void_pointer, is_void, is_null, is_scalar, is_unsigned, is_struct, decayed}
use Rattle.c_types.specs.Operands.{is_array}
use Rattle.c_types.specs.declared.shape.Shape.{Shape}
use Rattle.c_types.specs.declared.shape.Shape.TheVariants as shape
use Rattle.c_types.specs.Known.{Known, OneType, TypeList, of_tag, of_type, with_list, of_both, says}
use Rattle.c_types.specs.Table.{PartsBelow}
use Rattle.c_operands.specs.declared.class.Class.{Class}
use Rattle.c_operands.specs.declared.class.Class.TheVariants.{Signed, Unsigned, Void, Null, Struct, Array, Function, VoidPointer, FunctionPointer, ObjectPointer}
use Rattle.c_operands.specs.Classes.{plain_class, type_class, pointer_class, class_of, pointee, element, number, pointer, object_pointer, void_pointer, function_pointer, void, null_type, scalar, unsigned, structure, array}

pub record ClassSays (t : CType) : Type 0 where
  pub number : is_arithmetic t ≡ number (class_of t)
  pub pointer : is_pointer t ≡ pointer (class_of t)
  pub object_pointer : is_object_pointer t ≡ object_pointer (class_of t)
  pub function_pointer : is_function_pointer t ≡ function_pointer (class_of t)
  pub void_pointer : is_void_pointer t ≡ void_pointer (class_of t)
  pub void : is_void t ≡ void (class_of t)
  pub null : is_null t ≡ null_type (class_of t)
  pub scalar : is_scalar t ≡ scalar (class_of t)
  pub unsigned : is_unsigned t ≡ unsigned (class_of t)
  pub structure : is_struct t ≡ structure (class_of t)
  pub array : is_array t ≡ array (class_of t)

pub class_says : (t : CType) → ClassSays t
class_says types.Void = record { number = refl; pointer = refl; object_pointer = refl; function_pointer = refl; void_pointer = refl; void = refl; null = refl; scalar = refl; unsigned = refl; structure = refl; array = refl }
class_says types.Int = record { number = refl; pointer = refl; object_pointer = refl; function_pointer = refl; void_pointer = refl; void = refl; null = refl; scalar = refl; unsigned = refl; structure = refl; array = refl }
class_says types.Unsigned = record { number = refl; pointer = refl; object_pointer = refl; function_pointer = refl; void_pointer = refl; void = refl; null = refl; scalar = refl; unsigned = refl; structure = refl; array = refl }
class_says types.Char = record { number = refl; pointer = refl; object_pointer = refl; function_pointer = refl; void_pointer = refl; void = refl; null = refl; scalar = refl; unsigned = refl; structure = refl; array = refl }
class_says types.UChar = record { number = refl; pointer = refl; object_pointer = refl; function_pointer = refl; void_pointer = refl; void = refl; null = refl; scalar = refl; unsigned = refl; structure = refl; array = refl }
class_says types.Null = record { number = refl; pointer = refl; object_pointer = refl; function_pointer = refl; void_pointer = refl; void = refl; null = refl; scalar = refl; unsigned = refl; structure = refl; array = refl }
class_says (types.Struct tag) = record { number = refl; pointer = refl; object_pointer = refl; function_pointer = refl; void_pointer = refl; void = refl; null = refl; scalar = refl; unsigned = refl; structure = refl; array = refl }
class_says (types.Array t n) = record { number = refl; pointer = refl; object_pointer = refl; function_pointer = refl; void_pointer = refl; void = refl; null = refl; scalar = refl; unsigned = refl; structure = refl; array = refl }
class_says (types.Function t ts) = record { number = refl; pointer = refl; object_pointer = refl; function_pointer = refl; void_pointer = refl; void = refl; null = refl; scalar = refl; unsigned = refl; structure = refl; array = refl }
class_says (types.Pointer types.Void) = record { number = refl; pointer = refl; object_pointer = refl; function_pointer = refl; void_pointer = refl; void = refl; null = refl; scalar = refl; unsigned = refl; structure = refl; array = refl }
class_says (types.Pointer types.Int) = record { number = refl; pointer = refl; object_pointer = refl; function_pointer = refl; void_pointer = refl; void = refl; null = refl; scalar = refl; unsigned = refl; structure = refl; array = refl }
class_says (types.Pointer types.Unsigned) = record { number = refl; pointer = refl; object_pointer = refl; function_pointer = refl; void_pointer = refl; void = refl; null = refl; scalar = refl; unsigned = refl; structure = refl; array = refl }
class_says (types.Pointer types.Char) = record { number = refl; pointer = refl; object_pointer = refl; function_pointer = refl; void_pointer = refl; void = refl; null = refl; scalar = refl; unsigned = refl; structure = refl; array = refl }
class_says (types.Pointer types.UChar) = record { number = refl; pointer = refl; object_pointer = refl; function_pointer = refl; void_pointer = refl; void = refl; null = refl; scalar = refl; unsigned = refl; structure = refl; array = refl }
class_says (types.Pointer types.Null) = record { number = refl; pointer = refl; object_pointer = refl; function_pointer = refl; void_pointer = refl; void = refl; null = refl; scalar = refl; unsigned = refl; structure = refl; array = refl }
class_says (types.Pointer (types.Struct tag)) = record { number = refl; pointer = refl; object_pointer = refl; function_pointer = refl; void_pointer = refl; void = refl; null = refl; scalar = refl; unsigned = refl; structure = refl; array = refl }
class_says (types.Pointer (types.Array t n)) = record { number = refl; pointer = refl; object_pointer = refl; function_pointer = refl; void_pointer = refl; void = refl; null = refl; scalar = refl; unsigned = refl; structure = refl; array = refl }
class_says (types.Pointer (types.Function t ts)) = record { number = refl; pointer = refl; object_pointer = refl; function_pointer = refl; void_pointer = refl; void = refl; null = refl; scalar = refl; unsigned = refl; structure = refl; array = refl }
class_says (types.Pointer (types.Pointer t)) = record { number = refl; pointer = refl; object_pointer = refl; function_pointer = refl; void_pointer = refl; void = refl; null = refl; scalar = refl; unsigned = refl; structure = refl; array = refl }

some_type : (t u : CType) → Some (OneType t) ≡ Some (OneType u) → t ≡ u
some_type t u e = cc

struct_class : (o : Option (List ℕ)) (t : CType) → of_tag o ≡ Some (OneType t) → Struct ≡ type_class t
struct_class None t h = cc
struct_class (Some tag) t h = ap type_class (some_type (types.Struct tag) t h)

pointer_to : (o : Option Known) (t : CType) → of_type o (λ u. types.Pointer u) ≡ Some (OneType t) → (u : CType) × (t ≡ types.Pointer u) × (o ≡ Some (OneType u))
pointer_to (Some (OneType u)) t h = (u, sym (some_type (types.Pointer u) t h), refl)
pointer_to (Some (TypeList us)) t h = cc
pointer_to None t h = cc

array_class : (o : Option Known) (n : ℕ) (t : CType) → of_type o (λ u. types.Array u n) ≡ Some (OneType t) → (u : CType) × (t ≡ types.Array u n) × (o ≡ Some (OneType u))
array_class (Some (OneType u)) n t h = (u, sym (some_type (types.Array u n) t h), refl)
array_class (Some (TypeList us)) n t h = cc
array_class None n t h = cc

function_class : (o p : Option Known) (t : CType) → of_both o p (λ u us. OneType (types.Function u us)) ≡ Some (OneType t) → Function ≡ type_class t
function_class (Some (OneType u)) (Some (TypeList us)) t h = ap type_class (some_type (types.Function u us) t h)
function_class (Some (OneType u)) (Some (OneType v)) t h = cc
function_class (Some (OneType u)) None t h = cc
function_class (Some (TypeList us)) p t h = cc
function_class None p t h = cc

no_list : (o p : Option Known) (t : CType) → of_both o p (λ u us. TypeList (types.MoreType u us)) ≡ Some (OneType t) → ⊥
no_list (Some (OneType u)) (Some (TypeList us)) t h = cc
no_list (Some (OneType u)) (Some (OneType v)) t h = cc
no_list (Some (OneType u)) None t h = cc
no_list (Some (TypeList us)) p t h = cc
no_list None p t h = cc

-- a shape has its type's class
pub shape_class : (tags : List (List ℕ)) (known : List Known) (s : Shape) (t : CType) → says tags known s ≡ Some (OneType t) → plain_class s ≡ type_class t
shape_class tags known shape.Void t h = ap type_class (some_type types.Void t h)
shape_class tags known shape.Int t h = ap type_class (some_type types.Int t h)
shape_class tags known shape.Unsigned t h = ap type_class (some_type types.Unsigned t h)
shape_class tags known shape.Char t h = ap type_class (some_type types.Char t h)
shape_class tags known shape.UChar t h = ap type_class (some_type types.UChar t h)
shape_class tags known shape.Null t h = ap type_class (some_type types.Null t h)
shape_class tags known (shape.Struct n) t h = struct_class (slice_get tags n) t h
shape_class tags known (shape.Pointer n) t h = let p = pointer_to (slice_get known n) t h in sym (ap type_class p.1)
shape_class tags known (shape.Array n k) t h = let p = array_class (slice_get known n) k t h in sym (ap type_class p.1)
shape_class tags known (shape.Function a b) t h = function_class (slice_get known a) (slice_get known b) t h
shape_class tags known shape.NoType t h = cc
shape_class tags known (shape.MoreType a b) t h = absurd (no_list (slice_get known a) (slice_get known b) t h)

-- what is no pointer has its plain class
pub no_pointer : (tags : List (List ℕ)) (known : List Known) (s : Shape) (t : CType) → pointee s ≡ None → says tags known s ≡ Some (OneType t) → plain_class s ≡ class_of t
no_pointer tags known shape.Void t e h = ap class_of (some_type types.Void t h)
no_pointer tags known shape.Int t e h = ap class_of (some_type types.Int t h)
no_pointer tags known shape.Unsigned t e h = ap class_of (some_type types.Unsigned t h)
no_pointer tags known shape.Char t e h = ap class_of (some_type types.Char t h)
no_pointer tags known shape.UChar t e h = ap class_of (some_type types.UChar t h)
no_pointer tags known shape.Null t e h = ap class_of (some_type types.Null t h)
no_pointer tags known (shape.Struct n) t e h = struct_of (slice_get tags n) t h where
  struct_of : (o : Option (List ℕ)) (t : CType) → of_tag o ≡ Some (OneType t) → Struct ≡ class_of t
  struct_of None t h = cc
  struct_of (Some tag) t h = ap class_of (some_type (types.Struct tag) t h)
no_pointer tags known (shape.Pointer n) t e h = cc
no_pointer tags known (shape.Array n k) t e h = let p = array_class (slice_get known n) k t h in sym (ap class_of p.1)
no_pointer tags known (shape.Function a b) t e h = function_of (slice_get known a) (slice_get known b) t h where
  function_of : (o p : Option Known) (t : CType) → of_both o p (λ u us. OneType (types.Function u us)) ≡ Some (OneType t) → Function ≡ class_of t
  function_of (Some (OneType u)) (Some (TypeList us)) t h = ap class_of (some_type (types.Function u us) t h)
  function_of (Some (OneType u)) (Some (OneType v)) t h = cc
  function_of (Some (OneType u)) None t h = cc
  function_of (Some (TypeList us)) p t h = cc
  function_of None p t h = cc
no_pointer tags known shape.NoType t e h = cc
no_pointer tags known (shape.MoreType a b) t e h = absurd (no_list (slice_get known a) (slice_get known b) t h)

-- what a pointer points to, by its number
pub points_to : (tags : List (List ℕ)) (known : List Known) (s : Shape) (n : ℕ) (t : CType) → pointee s ≡ Some n → says tags known s ≡ Some (OneType t) → (u : CType) × (t ≡ types.Pointer u) × (slice_get known n ≡ Some (OneType u))
points_to tags known (shape.Pointer m) n t e h =
    let p = pointer_to (slice_get known m) t h in
    let same : m ≡ n = cc in
    (p.0, p.1, ap (slice_get known) (sym same) ∙ p.2)
points_to tags known shape.Void n t e h = cc
points_to tags known _ n t e h = cc

-- an array's elements, by their number
pub elements_of : (tags : List (List ℕ)) (known : List Known) (s : Shape) (n : ℕ) (t : CType) → element s ≡ Some n → says tags known s ≡ Some (OneType t) → (u : CType) × (decayed t ≡ types.Pointer u) × (slice_get known n ≡ Some (OneType u))
elements_of tags known (shape.Array m k) n t e h =
    let p = array_class (slice_get known m) k t h in
    let same : m ≡ n = cc in
    (p.0, ap decayed p.1, ap (slice_get known) (sym same) ∙ p.2)
elements_of tags known shape.Void n t e h = cc
elements_of tags known _ n t e h = cc
