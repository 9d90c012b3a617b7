-- Laws of types and refusals, in the words of the rules.
use Rattle.std.specs.Prelude.{◌≡◌, ℕ, ◌^◌, ◌<◌, ◌≤◌, ◌⊎◌, Bool, true, false, List, [], ◌∷◌, None, Ok, Err}
use Rattle.std.specs.Bool.{Decides}
use Rattle.std.specs.List.{list_any}
use Rattle.c_syntax.specs.Plain.{CUnit}
use Rattle.c_types.specs.declared.fault.TypeFault.{TypeFault}
use Rattle.c_types.specs.declared.fault.TypeFault.TheVariants as fault
use Rattle.c_types.specs.Types.{CType, CTypes, Void, Pointer, Function, NoType, MoreType, Tags, same_type, is_arithmetic, is_scalar}
use Rattle.c_types.specs.Refusals.{place_of, number_of, least}
use Rattle.c_types.specs.Operands.{Operand, value_type, value_at, is_place, is_null_constant, converts, can_cast, assign_operand, function_call}
use Rattle.c_types.specs.Units.{is_main}
use Rattle.c_types.specs.Limits.{IsTyped, is_small, weight_of, answer_to}
use Rattle.c_types.specs.Room.{room_of}

-- types are found equal just where they are
abbrev pub EqualTypesAreOne : Type 0
EqualTypesAreOne = (t u : CType) → Decides (same_type t u) (t ≡ u)

abbrev pub IsNoFunction : CType → Type 0
IsNoFunction t = (result : CType) (params : CTypes) → t ≡ Function result params → ⊥

-- what converts without a cast
pub data Converts (a : Operand) (t : CType) : Type 0 where
  -- among arithmetic types
  Number : is_arithmetic (value_type a) ≡ true → is_arithmetic t ≡ true → Converts a t
  -- between equal pointer types
  EqualPointer : (e : CType) → value_type a ≡ Pointer e → t ≡ Pointer e → Converts a t
  -- between `void *` and each pointer type that is no function pointer
  FromVoid : (e : CType) → IsNoFunction e → value_type a ≡ Pointer Void → t ≡ Pointer e → Converts a t
  ToVoid : (e : CType) → IsNoFunction e → value_type a ≡ Pointer e → t ≡ Pointer Void → Converts a t
  -- from NULL and a literal 0 to each pointer type
  FromNull : (e : CType) → is_null_constant a ≡ true → t ≡ Pointer e → Converts a t

abbrev pub ConvertsByTheRule : Type 0
ConvertsByTheRule = (a : Operand) (t : CType) → Decides (converts a t) (Converts a t)

-- what a cast converts
pub data Casts (t u : CType) : Type 0 where
  -- to void
  ToNothing : u ≡ Void → Casts t u
  -- among arithmetic types
  Numbers : is_arithmetic t ≡ true → is_arithmetic u ≡ true → Casts t u
  -- among pointer types that are no function pointers
  ObjectPointers : (d e : CType) → IsNoFunction d → IsNoFunction e → t ≡ Pointer d → u ≡ Pointer e → Casts t u
  -- from a function pointer to an equal type
  EqualFunctionPointers : (result : CType) (params : CTypes) → t ≡ Pointer (Function result params) → u ≡ Pointer (Function result params) → Casts t u

abbrev pub CastsByTheRule : Type 0
CastsByTheRule = (t u : CType) → Decides (can_cast t u) (Casts t u)

-- an assignment that is typed has a place of one word on its left, and a value that converts to its type
abbrev pub AssignmentsKeepTheRule : Type 0
AssignmentsKeepTheRule =
    (tags : Tags) (at : ℕ) (a b r : Operand) → assign_operand tags at None a b ≡ Ok r →
    (is_place a.sort ≡ true) × (is_scalar a.ty ≡ true) × Converts b a.ty × (r ≡ value_at at a.ty)

-- as many arguments as parameters, each of which converts to its parameter's type
abbrev pub ArgumentsConvert : CTypes → List Operand → Type 0
ArgumentsConvert NoType [] = Unit {0}
ArgumentsConvert (MoreType t ts) (a ∷ arguments) = Converts a t × ArgumentsConvert ts arguments
ArgumentsConvert _ _ = ⊥

-- a call that is typed is one of a function with a definition, with such arguments, and gives the function's result
abbrev pub CallsKeepTheRule : Type 0
CallsKeepTheRule =
    (at : ℕ) (defined : Bool) (result : CType) (params : CTypes) (arguments : List Operand) (r : Operand) →
    function_call at defined (Function result params) arguments ≡ Ok r →
    (defined ≡ true) × ArgumentsConvert params arguments × (r ≡ value_at at result)

-- at a lower place, or at the same place with a number that is no higher
abbrev pub ComesFirst : TypeFault → TypeFault → Type 0
ComesFirst d e = (place_of d < place_of e) ⊎ ((place_of d ≡ place_of e) × (number_of d ≤ number_of e))

-- the least of two refusals is one of them, and comes before both
pub record IsLeast (d e f : TypeFault) : Type 0 where
  pub one : (f ≡ d) ⊎ (f ≡ e)
  pub first : ComesFirst f d
  pub second : ComesFirst f e

abbrev pub LeastIsFirst : Type 0
LeastIsFirst = (d e : TypeFault) → IsLeast d e (least d e)

-- what the judgement of a text and the answer to it say
pub record AnswersSay (u : CUnit) : Type 0 where
  -- a typed text has a `main`
  pub main : IsTyped u → list_any is_main u.items ≡ true
  -- a text is accepted, with its weight, just where it is typed and within the limits
  pub accepted : (weight : ℕ) → answer_to u ≡ Ok weight → IsTyped u × (is_small u ≡ true) × (weight ≡ weight_of u)
  pub accepts : IsTyped u → is_small u ≡ true → answer_to u ≡ Ok (weight_of u)
  -- a typed text above the limits is too large
  pub large : IsTyped u → is_small u ≡ false → answer_to u ≡ Err fault.TooLarge

-- a text within the limits has a room below 2^21
abbrev pub RoomIsSmall : Type 0
RoomIsSmall = (u : CUnit) → is_small u ≡ true → room_of u < 2 ^ 21
