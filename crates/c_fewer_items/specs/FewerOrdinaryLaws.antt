-- Where elements are small.
use Rattle.c_syntax.specs.Plain.{CExpr, CStmt}
use Rattle.c_types.specs.Scope.{Scope}
use Rattle.c_limited.specs.Narrow.{ScopeIsNarrow, WritesNarrow}
use Rattle.c_fewer_meaning.specs.Ordinary.{IsOrdinary}
use Rattle.c_fewer_meaning.specs.FewerStatementsOrdinary.{StmtIsOrdinary}
use Rattle.c_fewer_items.specs.Writes.{StmtWritesNarrow}

-- in a scope of narrow types an expression that writes such types alone has elements of fewer words than the least int below zero counts
abbrev pub ExpressionsAreOrdinary : Type 0
ExpressionsAreOrdinary = (s : Scope) (e : CExpr) → ScopeIsNarrow s → WritesNarrow s e → IsOrdinary s e

-- so has a statement
abbrev pub StatementsAreOrdinary : Type 0
StatementsAreOrdinary = (s : Scope) (t : CStmt) → ScopeIsNarrow s → StmtWritesNarrow s t → StmtIsOrdinary s t
