-- Where `break` and `continue` stand in typed texts.
use Rattle.std.specs.Prelude.{◌≡◌, Ok}
use Rattle.c_syntax.specs.Plain.{CStmt, CStmts}
use Rattle.c_types.specs.Scope.{Scope}
use Rattle.c_types.specs.Statements.{Around, stated, all_stated}
use Rattle.c_followed.specs.Breaks.{BreaksAreIn, AllBreaksAreIn}

-- in a typed statement each `break` and each `continue` stands in what it leaves, or what stands around the statement has something to leave; so none leads out of a function's body
abbrev pub TypedTextsBreakInside : Type 0
TypedTextsBreakInside = (s : Scope) (w : Around) (t : CStmt) (r : Scope) → stated s w t ≡ Ok r → BreaksAreIn w.breaks w.continues t

-- so it is with the statements of a body, which share its scope with the parameters
abbrev pub TypedBodiesBreakInside : Type 0
TypedBodiesBreakInside = (s : Scope) (w : Around) (ts : CStmts) (r : Scope) → all_stated s w ts ≡ Ok r → AllBreaksAreIn w.breaks w.continues ts
