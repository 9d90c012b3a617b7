-- Expressions with fewer operators do what they did.
use Rattle.std.specs.Prelude.{◌≡◌, ℕ, Bool, true, false, List, Ok}
use Rattle.c_syntax.specs.Plain.{CExpr}
use Rattle.c_types.specs.Scope.{Scope}
use Rattle.c_types.specs.Operands.{Operand}
use Rattle.c_types.specs.Expressions.{judged}
use Rattle.c_eval.specs.State.{State}
use Rattle.c_eval.specs.Environment.{Environment}
use Rattle.c_eval.specs.Eval.{World, value_of, place_of}
use Rattle.c_valid.specs.Valid.{StateIsValid}
use Rattle.c_valid.specs.Limited.{ExprIsLimited}
use Rattle.c_alike.specs.Alike.{EachName}
use Rattle.c_fewer_types.specs.Written.{StringsAreShort}
use Rattle.c_helpers.specs.Fewer.{fewer}
use Rattle.c_fewer_types.specs.Standing.{ScopesStand}
use Rattle.c_fewer_values.specs.Helping.{Helps}
use Rattle.c_fewer_meaning.specs.Ordinary.{StaysValid, IsOrdinary}

-- the same place of the text, in another scope
abbrev pub elsewhere : Scope → Environment → Environment
elsewhere s' here = record here { scope = s' }

-- in a world whose calls of helper functions do what the operators do, from each valid state a typed expression with fewer operators, in a scope that stands for its own, does what it did: as a value, and as a place
abbrev pub ExpressionsAreKept : Type 0
ExpressionsAreKept =
    (test : List ℕ → Bool) (w : World) (here : Environment) (s' : Scope) (e : CExpr) (x : Operand) (st : State)
    → ScopesStand (λ name. test name ≡ true) here.scope s' → ((name : List ℕ) → test name ≡ true → Helps w s' name) → w.inner ≡ false → StaysValid w
    → StringsAreShort e → ExprIsLimited e → IsOrdinary here.scope e → EachName (λ name. test name ≡ true) (fewer here.scope e) → judged here.scope e ≡ Ok x → StateIsValid st
    → (value_of (fewer here.scope e) w (elsewhere s' here) st ≡ value_of e w here st) × (place_of (fewer here.scope e) w (elsewhere s' here) st ≡ place_of e w here st)
