-- Types of C and their trees.
use Rattle.std.specs.Prelude.{◌≡◌, ℕ, IfOk, Ok}
use Rattle.c_syntax.specs.Plain.{CExpr, CTy}
use Rattle.c_types.specs.Types.{CType}
use Rattle.c_types.specs.Scope.{Scope}
use Rattle.c_types.specs.Expressions.{judged, written}
use Rattle.c_helpers.specs.Fewer.{type_tree, fewer_in_type}
use Rattle.c_fewer_types.specs.Written.{CanBeWritten, ScopeCanBeWritten, OperandCanBeWritten, StringsAreShort}

-- the tree of a type that can be written says that type
abbrev pub TypesAreWrittenBack : Type 0
TypesAreWrittenBack = (s : Scope) (at : ℕ) (t : CType) → CanBeWritten s.tags t → written s at (type_tree t) ≡ Ok t

-- a type that is written can be written again
abbrev pub TypesCanBeWritten : Type 0
TypesCanBeWritten = (s : Scope) (at : ℕ) (t : CTy) → IfOk (written s at t) (CanBeWritten s.tags)

-- so can the type of an expression, where the types of names and members can
abbrev pub OperandsCanBeWritten : Type 0
OperandsCanBeWritten = (s : Scope) (e : CExpr) → ScopeCanBeWritten s → StringsAreShort e → IfOk (judged s e) (OperandCanBeWritten s.tags)

-- a type whose lengths became numbers is the one that it was, wherever the same tags are declared
abbrev pub FewerTypesAreTheSame : Type 0
FewerTypesAreTheSame = (s s' : Scope) (at : ℕ) (t : CTy) (u : CType) → s.tags ≡ s'.tags → written s at t ≡ Ok u → written s' at (fewer_in_type s t) ≡ Ok u
