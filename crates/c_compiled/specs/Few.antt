-- What is left of the operators of expressions where operators became calls.
use Rattle.std.specs.Prelude.{◌≡◌, ℕ, ◌≤◌, Bool, true, List, Some, Ok}
use Rattle.c_syntax.specs.Plain.{CExpr}
use Rattle.c_syntax.specs.Words.{meaning}
use Rattle.c_types.specs.Types.{CType, is_object_type, Members, Tags, words_of}
use Rattle.c_types.specs.Operands.{Operand}
use Rattle.c_types.specs.Scope.{Scope, Routine, entity_of, contains}
use Rattle.c_types.specs.Expressions.{judged}
use Rattle.c_alike.specs.Alike.{EachName}
use Rattle.c_fewer_types.specs.Written.{ScopeCanBeWritten, StringsAreShort}
use Rattle.c_helpers.specs.Fewer.{fewer}
use Rattle.c_fewer_types.specs.Stands.{ExprStands}
use Rattle.c_fewer_types.specs.Laws.{KnowsBuiltIns}
use Rattle.c_landing.specs.Few.{IsFew}
use Rattle.c_fewer_reached.specs.Updates.{UpdatesAre}

-- what an object can have has a word, and the members of structs are such
pub record TagsHaveObjects (tags : Tags) : Type 0 where
  pub words : (t : CType) → is_object_type tags t ≡ true → 1 ≤ words_of tags t
  pub members : (tag name : List ℕ) (members : List (List ℕ × CType)) (words : ℕ) (t : CType) → meaning tags tag ≡ Some (Members members words) → meaning members name ≡ Some t → is_object_type tags t ≡ true

-- a name that stands for a function of the text is one to which pointers point
pub record NameServes (valued : List ℕ → Bool) (s : Scope) (name : List ℕ) : Type 0 where
  pub points : (t : CType) (begun : Bool) → entity_of s name ≡ Some (Routine t begun) → contains s.defined name ≡ true → valued name ≡ true

-- the operators of a typed expression are few where operators became calls, in a scope in which its names have their meaning
abbrev pub OperatorsAreFew : Type 0
OperatorsAreFew =
    (valued : List ℕ → Bool) (s s' : Scope) (e : CExpr) (x : Operand) → s.tags ≡ s'.tags → ScopeCanBeWritten s → KnowsBuiltIns s → TagsHaveObjects s.tags → StringsAreShort e → UpdatesAre e → ExprStands s s' e
    → EachName (NameServes valued s) (fewer s e) → judged s e ≡ Ok x → IsFew (fewer s e) valued s'
