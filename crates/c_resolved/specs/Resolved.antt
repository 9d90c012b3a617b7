-- What instructions have to know of types: kinds of cells, numbers of words, and which operator is meant.
use Rattle.std.specs.Prelude.{◌<◌, Bool, true, false, ◌||◌, ◌&&◌, if◌then◌else◌}
use Rattle.c_syntax.specs.declared.tree.BinOp.{BinOp}
use Rattle.c_syntax.specs.declared.tree.BinOp.TheVariants as binary
use Rattle.c_types.specs.Types as types
use Rattle.c_types.specs.Types.{CType, is_pointer, is_null, is_unsigned, is_function_pointer, Tags}
use Rattle.c_eval.specs.Operators.{element_words}
use Rattle.c_store.specs.declared.kind.Kind.{Kind}
use Rattle.c_store.specs.declared.kind.Kind.TheVariants.{Number, ObjectPointer, FunctionPointer}
use Rattle.c_plain.specs.declared.instruction.Fetch.{Fetch}
use Rattle.c_plain.specs.declared.instruction.Fetch.TheVariants as fetch
use Rattle.c_plain.specs.declared.instruction.Operation.{Operation}
use Rattle.c_plain.specs.declared.instruction.Operation.TheVariants as operation

-- the kind of the values of a type of one word
abbrev pub kind_of : CType → Kind
kind_of t = if is_function_pointer t then FunctionPointer else if is_pointer t || is_null t then ObjectPointer else Number

-- what a place of a type is worth: an array is a pointer to its first element, a struct has no value of its own
abbrev pub fetch_of : CType → Fetch
fetch_of (types.Array t n) = fetch.Place
fetch_of (types.Struct tag) = fetch.Nothing
fetch_of t = fetch.Cell (kind_of t)

-- what a pointer of a type points to; a function pointer gives itself
abbrev pub follow_of : CType → Fetch
follow_of (types.Pointer (types.Function t ts)) = fetch.Place
follow_of (types.Pointer t) = fetch_of t
follow_of t = fetch.Refused

-- an operator on two words of these types
abbrev pub words_operation : BinOp → CType → CType → Operation
words_operation op t u = operation.Words op (is_unsigned t) (is_unsigned t || is_unsigned u)

-- a sum is one of a pointer and a number, in either order, or of numbers
abbrev pub sum_operation : Tags → CType → CType → Operation
sum_operation tags t u =
    if is_pointer t then operation.PointerPlus (is_unsigned u) (element_words tags t)
    else if is_pointer u then operation.PlusPointer (is_unsigned t) (element_words tags u)
    else words_operation binary.Add t u

-- a difference is one of pointers, of a pointer and a number, or of numbers
abbrev pub difference_operation : Tags → CType → CType → Operation
difference_operation tags t u =
    if is_pointer t && is_pointer u then operation.Difference (element_words tags t)
    else if is_pointer t then operation.PointerLess (is_unsigned u) (element_words tags t)
    else words_operation binary.Sub t u

-- the kind of pointers that are compared: of null constants alone no type tells one, and each serves
abbrev pub compared_kind : CType → CType → Kind
compared_kind t u = if is_pointer t then kind_of t else if is_pointer u then kind_of u else ObjectPointer

-- `==` and `!=` compare pointers or words
abbrev pub equality_operation : BinOp → CType → CType → (negated : Bool) → Operation
equality_operation op t u negated = if is_pointer t || is_pointer u || is_null t || is_null u then operation.Equal (compared_kind t u) negated else words_operation op t u

-- `<` and its kin do too
abbrev pub order_operation : BinOp → CType → CType → (swapped negated : Bool) → Operation
order_operation op t u swapped negated = if is_pointer t then operation.Before swapped negated else words_operation op t u

-- a binary operator other than `&&` and `||`
abbrev pub operation_of : Tags → BinOp → CType → CType → Operation
operation_of tags binary.Add t u = sum_operation tags t u
operation_of tags binary.Sub t u = difference_operation tags t u
operation_of tags binary.Eq t u = equality_operation binary.Eq t u false
operation_of tags binary.Ne t u = equality_operation binary.Ne t u true
operation_of tags binary.Lt t u = order_operation binary.Lt t u false false
operation_of tags binary.Gt t u = order_operation binary.Gt t u true false
operation_of tags binary.Le t u = order_operation binary.Le t u true true
operation_of tags binary.Ge t u = order_operation binary.Ge t u false true
operation_of tags op t u = words_operation op t u

-- where elements are counted each has at least one word
abbrev pub HasElements : Tags → BinOp → CType → Type 0
HasElements tags binary.Sub t = 0 < element_words tags t
HasElements tags _ t = Unit {0}
