-- The names in typed bodies.
use Rattle.std.specs.Prelude.{◌≡◌, Some, Ok}
use Rattle.c_syntax.specs.Plain.{CStmt}
use Rattle.c_types.specs.Scope.{Scope}
use Rattle.c_types.specs.Statements.{Around}
use Rattle.c_types.specs.Units.{body_judged}
use Rattle.c_fewer_types.specs.Written.{StringsAreShort}
use Rattle.c_helpers.specs.Names.{stmt_names}
use Rattle.c_fewer_types.specs.Standing.{IsTextName, StmtHas, IsDeclaration}
use Rattle.c_worlds.specs.Named.{Each}
use Rattle.c_fewer_names.specs.FewerKnownLaws.{NamesAreOfText}

-- where what is declared has names of letters, digits and `_`, a typed body evaluates no others
abbrev pub TypedBodiesNameText : Type 0
TypedBodiesNameText = (s : Scope) (w : Around) (body : CStmt) (r : Scope) → NamesAreOfText s → StmtHas StringsAreShort IsDeclaration body → body_judged s w (Some body) ≡ Ok r → Each IsTextName (stmt_names body)
