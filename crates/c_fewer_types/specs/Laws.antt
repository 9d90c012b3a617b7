-- Types of expressions with fewer operators.
use Rattle.std.specs.Prelude.{◌≡◌, ℕ, List, Some}
use Rattle.c_syntax.specs.Plain.{CExpr}
use Rattle.c_syntax.specs.Words.{meaning}
use Rattle.c_types.specs.Types.{CType}
use Rattle.c_types.specs.Scope.{Scope, BuiltIn, entity_of, built_ins}
use Rattle.c_types.specs.Expressions.{judged}
use Rattle.c_fewer_types.specs.AsGood.{JudgedAsGood}
use Rattle.c_fewer_types.specs.Written.{ScopeCanBeWritten, StringsAreShort}
use Rattle.c_helpers.specs.Fewer.{fewer}
use Rattle.c_fewer_types.specs.Stands.{ExprStands}

-- a name that stands for a built-in function is that function's
abbrev pub KnowsBuiltIns : Scope → Type 0
KnowsBuiltIns s = (name : List ℕ) (t : CType) → entity_of s name ≡ Some (BuiltIn t) → meaning built_ins name ≡ Some (BuiltIn t)

-- an expression of a type that is made into one with fewer operators becomes one that is as good: of the same type, and a place where it was one
abbrev pub TypesAreKept : Type 0
TypesAreKept =
    (s s' : Scope) (e : CExpr) → s.tags ≡ s'.tags → ScopeCanBeWritten s → KnowsBuiltIns s → StringsAreShort e → ExprStands s s' e → JudgedAsGood (judged s e) (judged s' (fewer s e))
