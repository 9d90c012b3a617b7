-- Helper functions of bits and shifts are the operators for which they stand.
use Rattle.std.specs.Prelude.{◌≡◌, ℕ, ◌^◌, ◌≤◌, Bool, true, false, List, [], ◌∷◌, Some, None}
use Rattle.c_syntax.specs.Words.{meaning}
use Rattle.c_syntax.specs.declared.tree.UnOp.TheVariants as unary
use Rattle.c_syntax.specs.declared.tree.BinOp.TheVariants as binary
use Rattle.c_types.specs.Types.{CType, Int, Unsigned, Function, types, Tags}
use Rattle.c_types.specs.Scope.{Names, Entity, Object, Routine}
use Rattle.c_eval.specs.Operators.{on_word}
use Rattle.c_eval.specs.Text.{Definition, Text, function_named}
use Rattle.c_eval.specs.Helpers.{Helpers}
use Rattle.c_helpers.specs.Functions.{Helper, a, n, bits_and, bits_or, bits_xor, shift_left, unsigned_quotient, unsigned_shift_right, int_shift_right, complement}
use Rattle.c_helpers.specs.Meanings.{operator, of_one}
use Rattle.c_products.specs.Found.{Stands, Knows}
use Rattle.c_products.specs.Laws.{IsAction}

abbrev pub BitsAndIsComputed : Type 0
BitsAndIsComputed = (h : Helpers) (t : Text) → 2 ^ 9 ≤ h.ration → Stands h t Int bits_and → IsAction h t bits_and.name (operator binary.BitAnd false)

abbrev pub BitsOrIsComputed : Type 0
BitsOrIsComputed = (h : Helpers) (t : Text) → 2 ^ 9 ≤ h.ration → Stands h t Int bits_or → IsAction h t bits_or.name (operator binary.BitOr false)

abbrev pub BitsXorIsComputed : Type 0
BitsXorIsComputed = (h : Helpers) (t : Text) → 2 ^ 9 ≤ h.ration → Stands h t Int bits_xor → IsAction h t bits_xor.name (operator binary.BitXor false)

-- ---- shifts

-- a helper function of a number of a type and a count, where these tags, names and functions stand before its body
abbrev pub shift_definition : CType → Helper → Tags → Names → List (List ℕ) → Definition
shift_definition t helper tags names defined =
    record { name = helper.name; result = t; params = a ∷ n ∷ []; scope = record { tags = tags; block = (n, Object Int) ∷ (a, Object t) ∷ []; outer = names; defined = defined }; body = helper.body }

-- a text has such a function, whose calls are charged a few words
pub record Shifts (h : Helpers) (t : Text) (u : CType) (helper : Helper) : Type 0 where
  pub tags : Tags
  pub names : Names
  pub defined : List (List ℕ)
  pub found : function_named t helper.name ≡ Some (shift_definition u helper tags names defined)
  pub unknown : h.known helper.name ≡ None
  pub charge : h.charge helper.name ≤ 16

abbrev pub ShiftsLeftAreComputed : Type 0
ShiftsLeftAreComputed = (h : Helpers) (t : Text) → 2 ^ 9 ≤ h.ration → Shifts h t Int shift_left → IsAction h t shift_left.name (operator binary.Shl false)

abbrev pub UnsignedShiftsRightAreComputed : Type 0
UnsignedShiftsRightAreComputed =
    (h : Helpers) (t : Text) → 2 ^ 9 ≤ h.ration → Shifts h t Int shift_left → Stands h t Unsigned unsigned_quotient
    → (own : Shifts h t Unsigned unsigned_shift_right) → Knows own.names Int shift_left → Knows own.names Unsigned unsigned_quotient
    → IsAction h t unsigned_shift_right.name (operator binary.Shr true)

-- what the name of such a function stands for
abbrev pub shift_entity : CType → Bool → Entity
shift_entity t begun = Routine (Function t (types (t ∷ Int ∷ []))) begun

abbrev pub KnowsShift : Names → CType → Helper → Type 0
KnowsShift names u helper = (begun : Bool) × (meaning names helper.name ≡ Some (shift_entity u begun))

abbrev pub IntShiftsRightAreComputed : Type 0
IntShiftsRightAreComputed =
    (h : Helpers) (t : Text) → 2 ^ 9 ≤ h.ration → Shifts h t Int shift_left → Stands h t Unsigned unsigned_quotient
    → (d : Shifts h t Unsigned unsigned_shift_right) → Knows d.names Int shift_left → Knows d.names Unsigned unsigned_quotient
    → (own : Shifts h t Int int_shift_right) → KnowsShift own.names Unsigned unsigned_shift_right
    → IsAction h t int_shift_right.name (operator binary.Shr false)

-- ---- complements

abbrev pub complement_definition : Tags → Names → List (List ℕ) → Definition
complement_definition tags names defined =
    record { name = complement.name; result = Int; params = a ∷ []; scope = record { tags = tags; block = (a, Object Int) ∷ []; outer = names; defined = defined }; body = complement.body }

pub record Complements (h : Helpers) (t : Text) : Type 0 where
  pub tags : Tags
  pub names : Names
  pub defined : List (List ℕ)
  pub found : function_named t complement.name ≡ Some (complement_definition tags names defined)
  pub charge : h.charge complement.name ≤ 16

abbrev pub ComplementsAreComputed : Type 0
ComplementsAreComputed = (h : Helpers) (t : Text) → 2 ^ 9 ≤ h.ration → Complements h t → IsAction h t complement.name (of_one (on_word unary.Invert))
