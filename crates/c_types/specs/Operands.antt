-- What an expression is, and what its operators take and give.
use Rattle.std.specs.Prelude.{ℕ, ◌+◌, ◌%◌, ◌^◌, Bool, true, false, not, ◌&&◌, ◌||◌, ◌==◌, List, [], ◌∷◌, length, Option, Some, None, Ok, Err, is_some, if◌then◌else◌, codes}
use Rattle.std.specs.Option.{option_map_or, option_map}
use Rattle.std.specs.List.{list_any}
use Rattle.c_syntax.specs.declared.tree.UnOp.{UnOp}
use Rattle.c_syntax.specs.declared.tree.BinOp.{BinOp}
use Rattle.c_syntax.specs.declared.tree.UnOp.TheVariants as unary
use Rattle.c_syntax.specs.declared.tree.BinOp.TheVariants as binary
use Rattle.c_syntax.specs.Words.{meaning}
use Rattle.c_types.specs.declared.fault.TypeFault.TheVariants as fault
use Rattle.c_types.specs.Types.{CType, CTypes, Void, Int, Unsigned, Char, Null, Struct, Pointer, Array, Function, NoType, MoreType, same_type, is_arithmetic, is_unsigned, is_pointer, is_function_pointer, is_void_pointer, is_object_pointer, is_void, is_null, is_struct, is_scalar, decayed, promoted, common_type, Layout, Members, Tags, words_of, is_object_type}
use Rattle.c_types.specs.Refusals.{Judged, Rule, keeping}
use Rattle.c_types.specs.Constants.{Constant, NotConstant, Value, on_two, choice_constant, unary_constant, binary_constant}

pub data Sort : Type 0 where
  -- a place: an object, what a pointer points to, an element or a member
  Place : Sort
  -- the name of a function
  Designator : Sort
  -- a literal 0
  Zero : Sort
  Other : Sort

-- what an expression is: its place in the text, its type, its sort and its value as a constant
pub record Operand : Type 0 where
  pub pos : ℕ
  pub ty : CType
  pub sort : Sort
  pub constant : Constant

abbrev pub operand : ℕ → CType → Sort → Constant → Operand
operand at t sort constant = record { pos = at; ty = t; sort = sort; constant = constant }

-- a value that isn't known before the program runs
abbrev pub value_at : ℕ → CType → Operand
value_at at t = operand at t Other NotConstant

abbrev pub place_at : ℕ → CType → Operand
place_at at t = operand at t Place NotConstant

-- the type with which an operand is used as a value
abbrev pub value_type : Operand → CType
value_type a = decayed a.ty

abbrev pub is_place : Sort → Bool
is_place Place = true
is_place _ = false

abbrev pub is_designator : Sort → Bool
is_designator Designator = true
is_designator _ = false

abbrev pub is_zero : Sort → Bool
is_zero Zero = true
is_zero _ = false

abbrev pub is_array : CType → Bool
is_array (Array t n) = true
is_array _ = false

-- a place of one word
abbrev pub is_word_place : Operand → Bool
is_word_place a = is_place a.sort && is_scalar a.ty

-- NULL or a literal 0
abbrev pub is_null_constant : Operand → Bool
is_null_constant a = is_zero a.sort || is_null a.ty

-- a value converts without a cast among arithmetic types, between equal pointer types, between `void *` and each pointer type that is no function pointer, and from NULL and a literal 0 to each pointer type
abbrev pub converts : Operand → CType → Bool
converts a t =
    (is_arithmetic (value_type a) && is_arithmetic t)
    || (is_pointer t && same_type (value_type a) t)
    || (is_void_pointer (value_type a) && is_object_pointer t)
    || (is_object_pointer (value_type a) && is_void_pointer t)
    || (is_null_constant a && is_pointer t)

-- a cast converts among arithmetic types, among pointer types that are no function pointers, from a function pointer to an equal type, and to void
abbrev pub can_cast : CType → CType → Bool
can_cast t u =
    is_void u
    || (is_arithmetic t && is_arithmetic u)
    || (is_object_pointer t && is_object_pointer u)
    || (is_function_pointer t && same_type t u)

-- what conditions, `!`, `&&` and `||` take: a number or a pointer
abbrev pub is_condition : Operand → Bool
is_condition a = is_scalar (value_type a) || is_null a.ty

-- what `==` and `!=` take: numbers, or pointers of which one converts to the other's type
abbrev pub can_equal : Operand → Operand → Bool
can_equal a b =
    (is_arithmetic (value_type a) && is_arithmetic (value_type b))
    || (is_pointer (value_type a) && converts b (value_type a))
    || (is_pointer (value_type b) && converts a (value_type b))
    || (is_null_constant a && is_null_constant b)

-- what an order takes: numbers, or object pointers of equal types
abbrev pub can_order : CType → CType → Bool
can_order t u = (is_arithmetic t && is_arithmetic u) || (is_object_pointer t && same_type t u)

-- a pointer to elements of an object
abbrev pub is_element_pointer : Tags → CType → Bool
is_element_pointer tags (Pointer t) = is_object_type tags t
is_element_pointer tags _ = false

abbrev pub when : Bool → CType → Option CType
when b t = if b then Some t else None

abbrev pub or_else : Option CType → Option CType → Option CType
or_else None o = o
or_else (Some t) o = Some t

-- a sum is one of numbers, or of a pointer and a number in either order
abbrev pub sum_type : Tags → CType → CType → Option CType
sum_type tags t u =
    or_else (when (is_arithmetic t && is_arithmetic u) (common_type t u))
    (or_else (when (is_element_pointer tags t && is_arithmetic u) t)
    (when (is_arithmetic t && is_element_pointer tags u) u))

-- a difference is one of numbers, of a pointer and a number, or of pointers of equal types, which is an int
abbrev pub difference_type : Tags → CType → CType → Option CType
difference_type tags t u =
    or_else (when (is_arithmetic t && is_arithmetic u) (common_type t u))
    (or_else (when (is_element_pointer tags t && is_arithmetic u) t)
    (when (is_element_pointer tags t && same_type t u) Int))

abbrev pub number_type : CType → CType → CType → Option CType
number_type t u result = when (is_arithmetic t && is_arithmetic u) result

-- what a binary operator gives; nothing where its operands break its rule
abbrev pub binary_type : Tags → BinOp → Operand → Operand → Option CType
binary_type tags binary.Or a b = when (is_condition a && is_condition b) Int
binary_type tags binary.And a b = when (is_condition a && is_condition b) Int
binary_type tags binary.Eq a b = when (can_equal a b) Int
binary_type tags binary.Ne a b = when (can_equal a b) Int
binary_type tags binary.Lt a b = when (can_order (value_type a) (value_type b)) Int
binary_type tags binary.Gt a b = when (can_order (value_type a) (value_type b)) Int
binary_type tags binary.Le a b = when (can_order (value_type a) (value_type b)) Int
binary_type tags binary.Ge a b = when (can_order (value_type a) (value_type b)) Int
binary_type tags binary.Shl a b = number_type (value_type a) (value_type b) (value_type a)
binary_type tags binary.Shr a b = number_type (value_type a) (value_type b) (value_type a)
binary_type tags binary.Add a b = sum_type tags (value_type a) (value_type b)
binary_type tags binary.Sub a b = difference_type tags (value_type a) (value_type b)
binary_type tags op a b = number_type (value_type a) (value_type b) (common_type (value_type a) (value_type b))

-- the tree, or Mismatch at its operator where there is no such type
abbrev pub typed_or : ℕ → Option Operand → Judged Operand
typed_or at None = Err (fault.Mismatch at)
typed_or at (Some a) = Ok a

abbrev pub either_unsigned : Operand → Operand → Bool
either_unsigned a b = is_unsigned (value_type a) || is_unsigned (value_type b)

abbrev pub binary_operand : Tags → ℕ → BinOp → Operand → Operand → Judged Operand
binary_operand tags at op a b =
    let constant = binary_constant at op (is_unsigned (value_type a)) (either_unsigned a b) a.constant b.constant in
    typed_or at (option_map (λ t. operand at t Other constant) (binary_type tags op a b))

-- `&` needs a place, an array or a function's name, which gives a pointer to the function already
abbrev pub address_operand : ℕ → Operand → Judged Operand
address_operand at a =
    if is_designator a.sort then Ok (value_at at a.ty)
    else keeping ((is_place a.sort || is_array a.ty, fault.NotLvalue a.pos) ∷ []) (value_at at (Pointer a.ty))

-- what a pointer of a type points to: a function pointer gives itself
abbrev pub pointed_operand : Tags → ℕ → CType → Judged Operand
pointed_operand tags at (Pointer (Function t ts)) = Ok (value_at at (Pointer (Function t ts)))
pointed_operand tags at (Pointer t) = keeping ((is_object_type tags t, fault.Mismatch at) ∷ []) (place_at at t)
pointed_operand tags at _ = Err (fault.Mismatch at)

abbrev pub number_operand : ℕ → UnOp → Operand → Judged Operand
number_operand at op a = keeping ((is_arithmetic (value_type a), fault.Mismatch at) ∷ []) (operand at (promoted (value_type a)) Other (unary_constant op a.constant))

abbrev pub unary_operand : Tags → ℕ → UnOp → Operand → Judged Operand
unary_operand tags at unary.Address a = address_operand at a
unary_operand tags at unary.Deref a = pointed_operand tags at (value_type a)
unary_operand tags at unary.Not a = keeping ((is_condition a, fault.Mismatch at) ∷ []) (operand at Int Other (unary_constant unary.Not a.constant))
unary_operand tags at op a = number_operand at op a

-- a step needs a place of one word, and takes what a sum with a number takes
abbrev pub step_operand : Tags → ℕ → Operand → Judged Operand
step_operand tags at a =
    keeping ((is_word_place a, fault.NotLvalue a.pos) ∷ (is_some (sum_type tags (value_type a) Int), fault.Mismatch at) ∷ []) (value_at at (value_type a))

-- the value of a type that may be missing converts
abbrev pub result_converts : ℕ → Option CType → CType → Bool
result_converts at result t = option_map_or (λ r. converts (value_at at r) t) result false

-- an assignment needs a place of one word, and a value that converts to its type
abbrev pub assign_operand : Tags → ℕ → Option BinOp → Operand → Operand → Judged Operand
assign_operand tags at None a b =
    keeping ((is_word_place a, fault.NotLvalue a.pos) ∷ (converts b a.ty, fault.Mismatch at) ∷ []) (value_at at a.ty)
assign_operand tags at (Some op) a b =
    keeping ((is_word_place a, fault.NotLvalue a.pos) ∷ (result_converts at (binary_type tags op a b) a.ty, fault.Mismatch at) ∷ []) (value_at at a.ty)

-- the branches of `?:` are numbers, void, or pointers of which one converts to the other's type; no structs
abbrev pub choice_type : Operand → Operand → Option CType
choice_type a b =
    let t = value_type a in
    let u = value_type b in
    or_else (number_type t u (common_type t u))
    (or_else (when (is_void t && is_void u) Void)
    (or_else (when (is_pointer t && (same_type t u || is_null_constant b)) t)
    (or_else (when (is_pointer u && is_null_constant a) u)
    (or_else (when ((is_void_pointer t && is_object_pointer u) || (is_object_pointer t && is_void_pointer u)) (Pointer Void))
    (when (is_null_constant a && is_null_constant b) Null)))))

abbrev pub choice_operand : ℕ → Operand → Operand → Operand → Judged Operand
choice_operand at a b c =
    keeping ((is_condition a, fault.Mismatch a.pos) ∷ (is_some (choice_type b c), fault.Mismatch at) ∷ [])
    (operand at (option_map_or (λ t. t) (choice_type b c) Void) Other (choice_constant a.constant b.constant c.constant))

-- the right side of a comma is a value, so no struct
abbrev pub comma_operand : ℕ → Operand → Operand → Judged Operand
comma_operand at a b =
    keeping ((not (is_struct b.ty), fault.Mismatch at) ∷ []) (operand at (value_type b) Other (on_two a.constant b.constant (λ x y. Value y)))

abbrev pub cast_operand : ℕ → CType → Operand → Judged Operand
cast_operand at t a =
    keeping ((can_cast (value_type a) t, fault.Mismatch at) ∷ []) (operand at t Other (if is_arithmetic t then a.constant else NotConstant))

-- `sizeof` gives unsigned, in words, of a type that an object can have
abbrev pub size_operand : Tags → ℕ → CType → Judged Operand
size_operand tags at t =
    keeping ((is_object_type tags t || is_null t, fault.Mismatch at) ∷ []) (operand at Unsigned Other (Value (words_of tags t % 2 ^ 24)))

-- an element is what the sum of a pointer and a number points to
abbrev pub index_operand : Tags → ℕ → Operand → Operand → Judged Operand
index_operand tags at a b = option_map_or (λ t. pointed_operand tags at t) (sum_type tags (value_type a) (value_type b)) (Err (fault.Mismatch at))

-- a member of a struct whose members are closed
abbrev pub member_in : ℕ → List ℕ → Option Layout → Judged Operand
member_in at name (Some (Members members words)) = option_map_or (λ t. Ok (place_at at t)) (meaning members name) (Err (fault.Unknown at))
member_in at name _ = Err (fault.Mismatch at)

abbrev pub member_operand : Tags → ℕ → List ℕ → CType → Judged Operand
member_operand tags at name (Struct tag) = member_in at name (meaning tags tag)
member_operand tags at name _ = Err (fault.Mismatch at)

abbrev pub arrow_operand : Tags → ℕ → List ℕ → CType → Judged Operand
arrow_operand tags at name (Pointer t) = member_operand tags at name t
arrow_operand tags at name _ = Err (fault.Mismatch at)

-- the conversions of a format, by their letters; nothing where another byte or none follows a percent
abbrev pub conversions_behind : Bool → List ℕ → Option (List ℕ)
conversions_behind false [] = Some []
conversions_behind true [] = None
conversions_behind false (b ∷ format) = conversions_behind (b == 37) format
conversions_behind true (b ∷ format) =
    if b == 37 then conversions_behind false format
    else if list_any (λ c. b == c) (codes "duxcs") then option_map (λ letters. b ∷ letters) (conversions_behind false format)
    else None

abbrev pub conversions_of : List ℕ → Option (List ℕ)
conversions_of format = conversions_behind false format

-- one argument for each conversion: a number, or exactly a `char *` for `%s`
abbrev pub are_printed : List ℕ → List Operand → Bool
are_printed [] [] = true
are_printed (b ∷ letters) (a ∷ arguments) =
    (if b == 115 then same_type (value_type a) (Pointer Char) else is_arithmetic (value_type a)) && are_printed letters arguments
are_printed _ _ = false

-- the arguments behind a format
abbrev pub is_print_form : Option (List ℕ) → List Operand → Bool
is_print_form (Some format) (a ∷ arguments) = option_map_or (λ letters. are_printed letters arguments) (conversions_of format) false
is_print_form _ _ = false

-- what is called
pub data Callee : Type 0 where
  -- a function, and whether it has a definition
  Direct : (t : CType) → (defined : Bool) → Callee
  Format : Callee
  -- the value of an expression
  Through : (t : CType) → Callee

-- each argument converts to its parameter's type
abbrev pub argument_rules : CTypes → List Operand → List Rule
argument_rules (MoreType t ts) (a ∷ arguments) = (converts a t, fault.Mismatch a.pos) ∷ argument_rules ts arguments
argument_rules _ _ = []

abbrev pub count_of : CTypes → ℕ
count_of NoType = 0
count_of (MoreType t ts) = 1 + count_of ts

-- a call of a function of a type, whether it has a definition
abbrev pub function_call : ℕ → Bool → CType → List Operand → Judged Operand
function_call at defined (Function result params) arguments =
    keeping ((defined && count_of params == length arguments, fault.BadCall at) ∷ argument_rules params arguments) (value_at at result)
function_call at defined _ arguments = Err (fault.BadCall at)

-- a call through a pointer to a function
abbrev pub pointer_call : ℕ → CType → List Operand → Judged Operand
pointer_call at (Pointer t) arguments = function_call at true t arguments
pointer_call at _ arguments = Err (fault.BadCall at)

-- a call, with the format where its first argument is a string
abbrev pub call_operand : ℕ → Callee → Option (List ℕ) → List Operand → Judged Operand
call_operand at (Direct t defined) format arguments = function_call at defined t arguments
call_operand at (Through t) format arguments = pointer_call at t arguments
call_operand at Format format arguments = keeping ((is_print_form format arguments, fault.BadCall at) ∷ []) (value_at at Void)
