-- The names of trees with fewer operators.
use Rattle.std.specs.Prelude.{◌≡◌, ℕ, Bool, true, List, Some}
use Rattle.c_syntax.specs.Plain.{CStmt}
use Rattle.c_types.specs.Types.{CType}
use Rattle.c_types.specs.Scope.{Scope, BuiltIn, Printf, entity_of}
use Rattle.c_alike.specs.Alike.{EachName}
use Rattle.c_fewer_types.specs.Written.{StringsAreShort}
use Rattle.c_helpers.specs.Names.{stmt_names}
use Rattle.c_helpers.specs.Fewer.{fewer_in_body}
use Rattle.c_fewer_types.specs.Standing.{StmtHas, IsDeclaration, AnyDeclaration}
use Rattle.c_worlds.specs.Named.{Each}

-- it holds of the names of functions that are always known
pub record HoldsOfKnown (P : List ℕ → Type 0) (s : Scope) : Type 0 where
  pub built_in : (name : List ℕ) (t : CType) → entity_of s name ≡ Some (BuiltIn t) → P name
  pub format : (name : List ℕ) → entity_of s name ≡ Some Printf → P name

-- where the names that a body with fewer operators evaluates pass a test, all that it has pass it: its types have numbers as lengths
abbrev pub EvaluatedNamesAreAll : Type 0
EvaluatedNamesAreAll =
    (test : List ℕ → Bool) (s : Scope) (body : CStmt) → StmtHas StringsAreShort IsDeclaration body → Each (λ name. test name ≡ true) (stmt_names (fewer_in_body s body)) → StmtHas (EachName (λ name. test name ≡ true)) AnyDeclaration (fewer_in_body s body)

-- the body as it was names no others, but functions that are always known
abbrev pub NamesComeFromBefore : Type 0
NamesComeFromBefore = (test : List ℕ → Bool) (s : Scope) (body : CStmt) → HoldsOfKnown (λ name. test name ≡ true) s → Each (λ name. test name ≡ true) (stmt_names (fewer_in_body s body)) → Each (λ name. test name ≡ true) (stmt_names body)
