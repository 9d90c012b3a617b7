-- Statements with fewer operators do what they did.
use Rattle.std.specs.Prelude.{◌≡◌, ℕ, Bool, true, false, List, Ok}
use Rattle.c_syntax.specs.Plain.{CStmt}
use Rattle.c_types.specs.Scope.{Scope}
use Rattle.c_types.specs.Statements.{Around, stated}
use Rattle.c_eval.specs.State.{State}
use Rattle.c_eval.specs.Environment.{Environment}
use Rattle.c_eval.specs.Eval.{World, does}
use Rattle.c_valid.specs.Valid.{StateIsValid}
use Rattle.c_valid.specs.Limited.{StmtIsLimited}
use Rattle.c_alike.specs.Alike.{EachName}
use Rattle.c_fewer_types.specs.Written.{StringsAreShort}
use Rattle.c_helpers.specs.Fewer.{fewer_in}
use Rattle.c_fewer_types.specs.Standing.{ScopesStand, StmtHas, IsDeclaration, AnyDeclaration}
use Rattle.c_fewer_values.specs.Helping.{Helps}
use Rattle.c_fewer_meaning.specs.Ordinary.{StaysValid}
use Rattle.c_fewer_meaning.specs.Laws.{elsewhere}
use Rattle.c_fewer_meaning.specs.FewerStatementsOrdinary.{StmtIsOrdinary}

-- in a world whose calls of helper functions do what the operators do, from each valid state and to each depth a typed statement with fewer operators, in a scope that stands for its own, does what it did
abbrev pub StatementsAreKept : Type 0
StatementsAreKept =
    (test : List ℕ → Bool) (w : World) (here : Environment) (s' : Scope) (around : Around) (t : CStmt) (r : Scope) (deep : ℕ) (st : State)
    → ScopesStand (λ name. test name ≡ true) here.scope s' → ((name : List ℕ) → test name ≡ true → Helps w s' name) → w.inner ≡ false → StaysValid w
    → StmtHas StringsAreShort IsDeclaration t → StmtIsLimited here.scope t → StmtIsOrdinary here.scope t → StmtHas (EachName (λ name. test name ≡ true)) AnyDeclaration (fewer_in here.scope t) → stated here.scope around t ≡ Ok r → StateIsValid st
    → does (fewer_in here.scope t) deep w (elsewhere s' here) st ≡ does t deep w here st
