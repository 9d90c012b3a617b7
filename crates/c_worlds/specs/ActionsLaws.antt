-- What helper functions stand for, and their uses, keep values valid.
use Rattle.std.specs.Prelude.{◌≡◌, ℕ, List, Some}
use Rattle.c_eval.specs.State.{Value, State}
use Rattle.c_eval.specs.Text.{Text}
use Rattle.c_eval.specs.Helpers.{Helpers, helps_to}
use Rattle.c_valid.specs.Valid.{AreBytes, IsValid, AreValid, StateIsValid, IsKept}
use Rattle.c_valid.specs.Laws.{FunctionsAreLimited}
use Rattle.c_helpers.specs.Meanings.{Action, stands_for, known_to_helpers}

-- from each valid state and with valid values the action of a helper function's name leads to a valid state, and gives a valid value
abbrev pub ActionsStayValid : Type 0
ActionsStayValid = (name : List ℕ) (action : Action) (vs : List Value) (st : State) → stands_for name ≡ Some action → AreValid vs → StateIsValid st → IsKept IsValid (action vs st)

-- so does a use of the helper function, in a text whose functions are within the limits
abbrev pub UsesStayValid : Type 0
UsesStayValid =
    (h : Helpers) (t : Text) (input : List ℕ) (name : List ℕ) (action : Action) (vs : List Value) (st : State)
    → AreBytes input → FunctionsAreLimited t.functions → ((other : List ℕ) → h.known other ≡ known_to_helpers h.ration other) → stands_for name ≡ Some action → AreValid vs → StateIsValid st → IsKept IsValid (helps_to h t input name action vs st)
