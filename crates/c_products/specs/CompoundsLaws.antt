-- Helper functions of compound assignments are the assignments for which they stand.
use Rattle.std.specs.Prelude.{◌≡◌, ℕ, ◌^◌, ◌<◌, ◌≤◌, Bool, false, true, ◌||◌, List, [], ◌∷◌, ◌++◌, Some, codes}
use Rattle.c_syntax.specs.Words.{meaning}
use Rattle.c_syntax.specs.declared.tree.BinOp.TheVariants as binary
use Rattle.c_types.specs.Types.{CType, Int, Unsigned, Void, Pointer, Function, types, is_pointer, is_null, Tags}
use Rattle.c_types.specs.Room.{Kind, Multiply, Divide, Remainder, BitAnd, BitOr, BitXor, ShiftLeft, ShiftRight}
use Rattle.c_types.specs.Scope.{Names, Object, Routine}
use Rattle.c_eval.specs.State.{Value, Word, Holds, State}
use Rattle.c_eval.specs.Memory.{cell_at}
use Rattle.c_eval.specs.Text.{Definition, Text, function_named}
use Rattle.c_eval.specs.Helpers.{Helpers, helps_to}
use Rattle.c_helpers.specs.Functions.{Helper, p, b, compound, product, unsigned_quotient, int_quotient, unsigned_remainder, int_remainder, bits_and, bits_or, bits_xor, shift_left, unsigned_shift_right, int_shift_right}
use Rattle.c_helpers.specs.Meanings.{Action, compound as action}
use Rattle.c_products.specs.Found.{IsWordValue, Stands, Knows}
use Rattle.c_products.specs.BitsLaws.{Shifts, KnowsShift}

-- the function of an assignment by an operator, where these tags, names and functions stand before its body
abbrev pub compound_definition : Helper → Tags → Names → List (List ℕ) → Definition
compound_definition helper tags names defined =
    record { name = helper.name; result = Int; params = p ∷ b ∷ []; scope = record { tags = tags; block = (b, Object Int) ∷ (p, Object (Pointer Void)) ∷ []; outer = names; defined = defined }; body = helper.body }

-- a text has such a function for an operator, whose own function its scope knows
pub record Compounds (h : Helpers) (t : Text) (sign : List ℕ) (kind : Kind) : Type 0 where
  pub tags : Tags
  pub names : Names
  pub defined : List (List ℕ)
  pub found : function_named t (sign ++ codes "=") ≡ Some (compound_definition (compound sign kind) tags names defined)
  pub charge : h.charge (sign ++ codes "=") ≤ 16
  pub result : CType
  pub first : CType
  pub second : CType
  pub begun : Bool
  pub known : meaning names sign ≡ Some (Routine (Function result (types (first ∷ second ∷ []))) begun)
  -- its parameters are no pointers
  pub first_number : (is_pointer first || is_null first) ≡ false
  pub second_number : (is_pointer second || is_null second) ≡ false

-- the word to which a value points is below 2^24
abbrev pub PointsToWord : State → Value → Type 0
PointsToWord st v = (x : ℕ) → cell_at st.objects v ≡ Some (Holds (Word x)) → x < 2 ^ 24

-- ---- the laws: on all values whose words are below 2^24, at 512 units for a use and more

abbrev pub IsAssignment : Helpers → Text → List ℕ → Action → Type 0
IsAssignment h t name action = (input : List ℕ) (place y : Value) (st : State) → IsWordValue y → PointsToWord st place → helps_to h t input name action (place ∷ y ∷ []) st ≡ action (place ∷ y ∷ []) st

abbrev pub ProductsAreAssigned : Type 0
ProductsAreAssigned = (h : Helpers) (t : Text) → 2 ^ 9 ≤ h.ration → Stands h t Int product
    → Compounds h t (codes "*") Multiply → IsAssignment h t (codes "*=") (action binary.Mul false)

abbrev pub UnsignedQuotientsAreAssigned : Type 0
UnsignedQuotientsAreAssigned = (h : Helpers) (t : Text) → 2 ^ 9 ≤ h.ration → Stands h t Unsigned unsigned_quotient
    → Compounds h t (codes "unsigned /") Divide → IsAssignment h t (codes "unsigned /=") (action binary.Div true)

abbrev pub IntQuotientsAreAssigned : Type 0
IntQuotientsAreAssigned = (h : Helpers) (t : Text) → 2 ^ 9 ≤ h.ration → Stands h t Unsigned unsigned_quotient → (own : Stands h t Int int_quotient) → Knows own.names Unsigned unsigned_quotient
    → Compounds h t (codes "int /") Divide → IsAssignment h t (codes "int /=") (action binary.Div false)

abbrev pub UnsignedRemaindersAreAssigned : Type 0
UnsignedRemaindersAreAssigned = (h : Helpers) (t : Text) → 2 ^ 9 ≤ h.ration → Stands h t Int product → Stands h t Unsigned unsigned_quotient → (own : Stands h t Unsigned unsigned_remainder) → Knows own.names Unsigned unsigned_quotient → Knows own.names Int product
    → Compounds h t (codes "unsigned %") Remainder → IsAssignment h t (codes "unsigned %=") (action binary.Mod true)

abbrev pub IntRemaindersAreAssigned : Type 0
IntRemaindersAreAssigned = (h : Helpers) (t : Text) → 2 ^ 9 ≤ h.ration → Stands h t Int product → Stands h t Unsigned unsigned_quotient → (d : Stands h t Int int_quotient) → Knows d.names Unsigned unsigned_quotient → (own : Stands h t Int int_remainder) → Knows own.names Int int_quotient → Knows own.names Int product
    → Compounds h t (codes "int %") Remainder → IsAssignment h t (codes "int %=") (action binary.Mod false)

abbrev pub BitsAndIsAssigned : Type 0
BitsAndIsAssigned = (h : Helpers) (t : Text) → 2 ^ 9 ≤ h.ration → Stands h t Int bits_and
    → Compounds h t (codes "&") BitAnd → IsAssignment h t (codes "&=") (action binary.BitAnd false)

abbrev pub BitsOrIsAssigned : Type 0
BitsOrIsAssigned = (h : Helpers) (t : Text) → 2 ^ 9 ≤ h.ration → Stands h t Int bits_or
    → Compounds h t (codes "|") BitOr → IsAssignment h t (codes "|=") (action binary.BitOr false)

abbrev pub BitsXorIsAssigned : Type 0
BitsXorIsAssigned = (h : Helpers) (t : Text) → 2 ^ 9 ≤ h.ration → Stands h t Int bits_xor
    → Compounds h t (codes "^") BitXor → IsAssignment h t (codes "^=") (action binary.BitXor false)

abbrev pub ShiftsLeftAreAssigned : Type 0
ShiftsLeftAreAssigned = (h : Helpers) (t : Text) → 2 ^ 9 ≤ h.ration → Shifts h t Int shift_left
    → Compounds h t (codes "<<") ShiftLeft → IsAssignment h t (codes "<<=") (action binary.Shl false)

abbrev pub UnsignedShiftsRightAreAssigned : Type 0
UnsignedShiftsRightAreAssigned = (h : Helpers) (t : Text) → 2 ^ 9 ≤ h.ration → Shifts h t Int shift_left → Stands h t Unsigned unsigned_quotient → (own : Shifts h t Unsigned unsigned_shift_right) → Knows own.names Int shift_left → Knows own.names Unsigned unsigned_quotient
    → Compounds h t (codes "unsigned >>") ShiftRight → IsAssignment h t (codes "unsigned >>=") (action binary.Shr true)

abbrev pub IntShiftsRightAreAssigned : Type 0
IntShiftsRightAreAssigned = (h : Helpers) (t : Text) → 2 ^ 9 ≤ h.ration → Shifts h t Int shift_left → Stands h t Unsigned unsigned_quotient → (d : Shifts h t Unsigned unsigned_shift_right) → Knows d.names Int shift_left → Knows d.names Unsigned unsigned_quotient → (own : Shifts h t Int int_shift_right) → KnowsShift own.names Unsigned unsigned_shift_right
    → Compounds h t (codes "int >>") ShiftRight → IsAssignment h t (codes "int >>=") (action binary.Shr false)
