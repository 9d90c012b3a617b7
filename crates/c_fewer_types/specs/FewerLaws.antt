-- What a tree with fewer operators keeps.
use Rattle.std.specs.Prelude.{◌≡◌}
use Rattle.c_syntax.specs.Plain.{CExpr}
use Rattle.c_types.specs.Scope.{Scope}
use Rattle.c_eval.specs.LiteralsIn.{literals_in}
use Rattle.c_helpers.specs.Fewer.{fewer}
use Rattle.c_fewer_types.specs.Stands.{ExprStands}

-- an expression with fewer operators has the string literals that it had, so each has the number that it had
abbrev pub LiteralsAreKept : Type 0
LiteralsAreKept = (s s' : Scope) (e : CExpr) → ExprStands s s' e → literals_in s' (fewer s e) ≡ literals_in s e
