-- Functions with fewer operators do what they did.
use Rattle.std.specs.Prelude.{◌≡◌, ℕ, Bool, true, false, List, Option, Some, Ok}
use Rattle.c_syntax.specs.Plain.{CStmt}
use Rattle.c_types.specs.Scope.{Scope}
use Rattle.c_types.specs.Statements.{Around, stated}
use Rattle.c_types.specs.Units.{body_judged}
use Rattle.c_eval.specs.State.{Value, State}
use Rattle.c_eval.specs.Eval.{World}
use Rattle.c_eval.specs.Text.{Definition}
use Rattle.c_eval.specs.Meaning.{runs}
use Rattle.c_valid.specs.Valid.{AreValid, StateIsValid}
use Rattle.c_valid.specs.Limited.{StmtIsLimited}
use Rattle.c_alike.specs.Alike.{EachName}
use Rattle.c_fewer_types.specs.Written.{StringsAreShort}
use Rattle.c_helpers.specs.Fewer.{fewer_in, fewer_in_body}
use Rattle.c_fewer_types.specs.Standing.{ScopesStand, StmtHas, IsDeclaration, AnyDeclaration}
use Rattle.c_fewer_values.specs.Helping.{Helps}
use Rattle.c_fewer_meaning.specs.Ordinary.{StaysValid}
use Rattle.c_fewer_meaning.specs.FewerStatementsOrdinary.{StmtIsOrdinary}
use Rattle.c_fewer_meaning.specs.Seeing.{SeesAll}

-- a statement that is typed in the first scope is so in the second, with the same tree with fewer operators, and the scopes behind it see the same names
abbrev pub TreesAreTheSame : Type 0
TreesAreTheSame =
    (s z : Scope) (w : Around) (t : CStmt) (r : Scope) → SeesAll s z → StmtHas StringsAreShort IsDeclaration t → stated s w t ≡ Ok r
    → (other : Scope) × (stated z w t ≡ Ok other) × SeesAll r other × (fewer_in z t ≡ fewer_in s t)

-- the definition with fewer operators, in a scope that stands for its own
abbrev pub fewer_in_definition : Definition → Scope → Definition
fewer_in_definition f s' = record f { scope = s'; body = fewer_in_body f.scope f.body }

-- in a world whose calls of helper functions do what the operators do, from each valid state and with valid arguments a run of it does what a run of the function does
abbrev pub BodiesAreKept : Type 0
BodiesAreKept =
    (test : List ℕ → Bool) (w : World) (f : Definition) (s' : Scope) (names : List (List ℕ × Option ℕ)) (around : Around) (r : Scope) (deep : ℕ) (vs : List Value) (st : State)
    → ScopesStand (λ name. test name ≡ true) f.scope s' → ((name : List ℕ) → test name ≡ true → Helps w s' name) → w.inner ≡ false → StaysValid w
    → StmtHas StringsAreShort IsDeclaration f.body → StmtIsLimited f.scope f.body → StmtIsOrdinary f.scope f.body → StmtHas (EachName (λ name. test name ≡ true)) AnyDeclaration (fewer_in_body f.scope f.body)
    → body_judged f.scope around (Some f.body) ≡ Ok r → AreValid vs → StateIsValid st
    → runs (fewer_in_definition f s') names deep w vs st ≡ runs f names deep w vs st
