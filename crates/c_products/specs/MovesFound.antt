-- Helper functions of pointers, as a text has them.
use Rattle.std.specs.Prelude.{◌≡◌, ℕ, ◌≤◌, Bool, true, false, List, [], ◌∷◌, map, Some, None, codes}
use Rattle.c_syntax.specs.Plain as plain
use Rattle.c_syntax.specs.Words.{meaning}
use Rattle.c_types.specs.Types.{CType, Void, Int, Unsigned, Pointer, Function, types, Tags}
use Rattle.c_types.specs.Scope.{Names, Object, Routine}
use Rattle.c_eval.specs.Text.{Definition, Text, function_named}
use Rattle.c_eval.specs.Helpers.{Helpers}
use Rattle.c_helpers.specs.Functions.{Helper, p, q, n, k, pointer_sum, swapped_sum, moving_sum}

-- a parameter's name and type
abbrev pub Parameter : Type 0
Parameter = List ℕ × CType

-- the names of parameters, the last one first
abbrev pub declared_in : List Parameter → Names → Names
declared_in [] names = names
declared_in (x ∷ xs) names = declared_in xs ((x.0, Object x.1) ∷ names)

-- a helper function with a result and parameters, where these tags, names and functions stand before its body
abbrev pub definition : CType → List Parameter → Helper → Tags → Names → List (List ℕ) → Definition
definition result params helper tags names defined = record {
  name = helper.name;
  result = result;
  params = map (λ x. x.0) params;
  scope = record { tags = tags; block = declared_in params []; outer = names; defined = defined };
  body = helper.body;
}

-- a text has such a function, whose calls are charged a few words
pub record Has (h : Helpers) (t : Text) (result : CType) (params : List Parameter) (helper : Helper) : Type 0 where
  pub tags : Tags
  pub names : Names
  pub defined : List (List ℕ)
  pub found : function_named t helper.name ≡ Some (definition result params helper tags names defined)
  pub unknown : h.known helper.name ≡ None
  pub charge : h.charge helper.name ≤ 16

-- names among which it has its meaning
abbrev pub KnowsOf : Names → CType → List Parameter → Helper → Type 0
KnowsOf names result params helper = (begun : Bool) × (meaning names helper.name ≡ Some (Routine (Function result (types (map (λ x. x.1) params))) begun))

-- ---- those that move pointers, by whether the number counts as unsigned

abbrev pub kind_tree : Bool → plain.CTy
kind_tree false = plain.Int
kind_tree true = plain.Unsigned

abbrev pub number_type : Bool → CType
number_type false = Int
number_type true = Unsigned

abbrev pub sum_name : Bool → List ℕ
sum_name false = codes "pointer + int"
sum_name true = codes "pointer + unsigned"

abbrev pub sum_function : Bool → Helper
sum_function unsigned = pointer_sum (kind_tree unsigned) (sum_name unsigned)

abbrev pub sum_parameters : Bool → List Parameter
sum_parameters unsigned = (p, Pointer Void) ∷ (n, number_type unsigned) ∷ (k, Int) ∷ []

abbrev pub swapped_name : Bool → List ℕ
swapped_name false = codes "int + pointer"
swapped_name true = codes "unsigned + pointer"

abbrev pub swapped_function : Bool → Helper
swapped_function unsigned = swapped_sum (kind_tree unsigned) (swapped_name unsigned) (sum_name unsigned)

abbrev pub swapped_parameters : Bool → List Parameter
swapped_parameters unsigned = (n, number_type unsigned) ∷ (p, Pointer Void) ∷ (k, Int) ∷ []

abbrev pub moving_name : Bool → List ℕ
moving_name false = codes "pointer += int"
moving_name true = codes "pointer += unsigned"

abbrev pub moving_function : Bool → Helper
moving_function unsigned = moving_sum (kind_tree unsigned) (moving_name unsigned) (sum_name unsigned)

-- ---- that of a step, and of a difference

abbrev pub step_parameters : List Parameter
step_parameters = (p, Pointer Void) ∷ (k, Int) ∷ []

abbrev pub difference_parameters : List Parameter
difference_parameters = (p, Pointer Void) ∷ (q, Pointer Void) ∷ (k, Int) ∷ []
