-- A text with fewer operators is typed where the text is.
use Rattle.std.specs.Prelude.{◌≡◌, ℕ, Bool, true, List, Ok}
use Rattle.c_syntax.specs.Plain.{CStmt}
use Rattle.c_types.specs.Scope.{Scope}
use Rattle.c_types.specs.Statements.{Around, stated}
use Rattle.c_alike.specs.Alike.{EachName}
use Rattle.c_fewer_types.specs.Written.{StringsAreShort}
use Rattle.c_helpers.specs.Fewer.{fewer_in}
use Rattle.c_fewer_types.specs.Standing.{ScopesStand, StmtHas, IsDeclaration, AnyDeclaration}

-- a typed statement is typed with fewer operators, in a scope that stands for its own for the names that it then has; and behind it scopes stand so
abbrev pub StatementsStayTyped : Type 0
StatementsStayTyped =
    (test : List ℕ → Bool) (s s' : Scope) (w : Around) (t : CStmt) (r : Scope) → ScopesStand (λ name. test name ≡ true) s s' → StmtHas StringsAreShort IsDeclaration t → StmtHas (EachName (λ name. test name ≡ true)) AnyDeclaration (fewer_in s t)
    → stated s w t ≡ Ok r → (r' : Scope) × (stated s' w (fewer_in s t) ≡ Ok r') × ScopesStand (λ name. test name ≡ true) r r'
