-- Helper functions of two numbers, as a text has them.
use Rattle.std.specs.Prelude.{◌≡◌, ℕ, ◌^◌, ◌<◌, ◌≤◌, Bool, List, [], ◌∷◌, Some, None}
use Rattle.c_syntax.specs.Words.{meaning}
use Rattle.c_types.specs.Types.{CType, Function, types, Tags}
use Rattle.c_types.specs.Scope.{Scope, Names, Entity, Object, Routine}
use Rattle.c_eval.specs.State.{Value, Word}
use Rattle.c_eval.specs.Text.{Definition, Text, function_named}
use Rattle.c_eval.specs.Helpers.{Helpers}
use Rattle.c_helpers.specs.Functions.{Helper, a, b}

-- the scope of a body, before which these tags, names and functions stand
abbrev pub two_scope : CType → Tags → Names → List (List ℕ) → Scope
two_scope t tags names defined = record { tags = tags; block = (b, Object t) ∷ (a, Object t) ∷ []; outer = names; defined = defined }

-- a helper function of two numbers of a type, which gives one
abbrev pub binary_definition : CType → Helper → Tags → Names → List (List ℕ) → Definition
binary_definition t helper tags names defined = record { name = helper.name; result = t; params = a ∷ b ∷ []; scope = two_scope t tags names defined; body = helper.body }

-- what its name stands for
abbrev pub binary_entity : CType → Bool → Entity
binary_entity t begun = Routine (Function t (types (t ∷ t ∷ []))) begun

-- a text has such a function, whose calls are charged a few words
pub record Stands (h : Helpers) (t : Text) (u : CType) (helper : Helper) : Type 0 where
  pub tags : Tags
  pub names : Names
  pub defined : List (List ℕ)
  pub found : function_named t helper.name ≡ Some (binary_definition u helper tags names defined)
  pub unknown : h.known helper.name ≡ None
  pub charge : h.charge helper.name ≤ 16

-- names among which another one has its meaning
abbrev pub Knows : Names → CType → Helper → Type 0
Knows names u helper = (begun : Bool) × (meaning names helper.name ≡ Some (binary_entity u begun))

-- each word among values is below 2^24
abbrev pub IsWordValue : Value → Type 0
IsWordValue (Word n) = n < 2 ^ 24
IsWordValue v = Unit {0}

abbrev pub AreWords : List Value → Type 0
AreWords [] = Unit {0}
AreWords (v ∷ vs) = IsWordValue v × AreWords vs
