-- How expressions of the grammar assign.
use Rattle.std.specs.Prelude.{◌≡◌}
use Rattle.c_syntax.specs.Plain.{CExpr}
use Rattle.c_grammar.specs.Spelling.{Spelling}
use Rattle.c_grammar.specs.Tree.{Expression, meaning}
use Rattle.c_fewer_reached.specs.Updates.{UpdatesAre}

-- an expression that tokens spell assigns by these operators alone
abbrev pub ExpressionsUpdate : Type 0
ExpressionsUpdate = (x : Spelling) (e : CExpr) → meaning x ≡ Expression e → UpdatesAre e
