-- What trees do in two worlds.
use Rattle.std.specs.Prelude.{◌≡◌, ℕ, Bool, true, List, Option}
use Rattle.c_syntax.specs.Plain.{CStmt}
use Rattle.c_eval.specs.State.{Value, State, Run}
use Rattle.c_eval.specs.Environment.{Environment}
use Rattle.c_eval.specs.Eval.{World, does}
use Rattle.c_eval.specs.Text.{Definition}
use Rattle.c_eval.specs.Meaning.{runs}
use Rattle.c_valid.specs.Valid as valid
use Rattle.c_valid.specs.Valid.{AreBytes, IsValid, AreValid, StateIsValid}
use Rattle.c_valid.specs.Limited.{StmtIsLimited}
use Rattle.c_helpers.specs.Names.{stmt_names}
use Rattle.c_worlds.specs.Named.{Each, IsNamed, AreNamed, StateIsNamed, FlowIsNamed, IsKept, CallsGoAlike}

-- the world with other calls
abbrev pub with_calls : World → (List ℕ → List Value → Run Value) → World
with_calls w other = record w { calls = other }

-- in two worlds whose calls of the functions that pass a test go alike, a statement within the limits that names only such functions does the same, from each valid state whose pointers to functions are to such; and no pointer to another comes up
abbrev pub StatementsGoAlike : Type 0
StatementsGoAlike =
    (test : List ℕ → Bool) (limit : ℕ) (w : World) (other : List ℕ → List Value → Run Value) (t : CStmt) (deep : ℕ) (here : Environment) (st : State)
    → AreBytes w.input → CallsGoAlike (λ name. test name ≡ true) limit w.calls other → Each (λ name. test name ≡ true) (stmt_names t) → StmtIsLimited here.scope t → StateIsNamed (λ name. test name ≡ true) limit st → StateIsValid st
    → (does t deep (with_calls w other) here st ≡ does t deep w here st) × IsKept (λ name. test name ≡ true) limit (FlowIsNamed (λ name. test name ≡ true)) (does t deep w here st)

-- so does a run of a function whose body names only such, which keeps values valid too
abbrev pub RunsGoAlike : Type 0
RunsGoAlike =
    (test : List ℕ → Bool) (limit : ℕ) (w : World) (other : List ℕ → List Value → Run Value) (f : Definition) (names : List (List ℕ × Option ℕ)) (deep : ℕ) (vs : List Value) (st : State)
    → AreBytes w.input → CallsGoAlike (λ name. test name ≡ true) limit w.calls other → Each (λ name. test name ≡ true) (stmt_names f.body) → StmtIsLimited f.scope f.body
    → AreNamed (λ name. test name ≡ true) vs → AreValid vs → StateIsNamed (λ name. test name ≡ true) limit st → StateIsValid st
    → (runs f names deep (with_calls w other) vs st ≡ runs f names deep w vs st) × IsKept (λ name. test name ≡ true) limit (IsNamed (λ name. test name ≡ true)) (runs f names deep w vs st) × valid.IsKept IsValid (runs f names deep w vs st)
