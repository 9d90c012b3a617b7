-- Where declarations stand, once operators became calls.
use Rattle.c_syntax.specs.Plain.{CStmt, CUnit}
use Rattle.c_types.specs.Scope.{Scope}
use Rattle.c_fitting.specs.Blocks.{DeclaresInBlocks, UnitDeclaresInBlocks}
use Rattle.c_helpers.specs.Fewer.{fewer_in}
use Rattle.c_helpers.specs.Simple.{desugared}

-- a statement in which they stand in blocks stays such a one
abbrev pub StatementsStayInBlocks : Type 0
StatementsStayInBlocks = (s : Scope) (t : CStmt) → DeclaresInBlocks t → DeclaresInBlocks (fewer_in s t)

-- a text too, and its helper functions are such
abbrev pub TextsStayInBlocks : Type 0
TextsStayInBlocks = (u : CUnit) → UnitDeclaresInBlocks u → UnitDeclaresInBlocks (desugared u)
