-- A text with fewer operators that stands for a text.
use Rattle.std.specs.Prelude.{◌≡◌, ℕ, zero, ◌<◌, ◌^◌, Bool, true, false, List, [], ◌∷◌, Option, Some, None, Ok}
use Rattle.std.specs.Str.{bytes_eq}
use Rattle.c_types.specs.Scope.{Scope}
use Rattle.c_types.specs.Statements.{Around}
use Rattle.c_types.specs.Units.{body_judged}
use Rattle.c_eval.specs.State.{Value, Word, State, Run}
use Rattle.c_eval.specs.Text.{Definition, Text, function_named}
use Rattle.c_eval.specs.Meaning.{Rules}
use Rattle.c_valid.specs.Valid.{IsValid, AreValid, StateIsValid, IsKept}
use Rattle.c_valid.specs.Limited.{StmtIsLimited}
use Rattle.c_valid.specs.Laws.{FunctionsAreLimited}
use Rattle.c_alike.specs.Alike.{EachName}
use Rattle.c_fewer_types.specs.Written.{StringsAreShort}
use Rattle.c_helpers.specs.Fewer.{fewer_in_body}
use Rattle.c_helpers.specs.Meanings.{Action, of_three, elements_between, stands_for}
use Rattle.c_helpers.specs.Names.{stmt_names}
use Rattle.c_fewer_types.specs.Standing.{ScopesStand, StmtHas, IsDeclaration, AnyDeclaration}
use Rattle.c_fewer_values.specs.Helping.{difference_name}
use Rattle.c_fewer_meaning.specs.FewerStatementsOrdinary.{StmtIsOrdinary}
use Rattle.c_fewer_meaning.specs.FewerBodiesLaws.{fewer_in_definition}
use Rattle.c_worlds.specs.Named.{Each}

-- the rules of a text without helper functions
abbrev pub plain_rules : (List ℕ → ℕ) → Rules
plain_rules charge = record { charge = charge; helps = λ name. None }

-- a function and the one that stands for it: its typed body within the limits, with fewer operators, in a scope that stands for its own
pub record FunctionStands (test reached : List ℕ → Bool) (f g : Definition) : Type 0 where
  pub scope : Scope
  pub is : g ≡ fewer_in_definition f scope
  pub stand : ScopesStand (λ name. test name ≡ true) f.scope scope
  pub short : StmtHas StringsAreShort IsDeclaration f.body
  pub limited : StmtIsLimited f.scope f.body
  pub ordinary : StmtIsOrdinary f.scope f.body
  pub names : StmtHas (EachName (λ name. test name ≡ true)) AnyDeclaration (fewer_in_body f.scope f.body)
  pub around : Around
  pub behind : Scope
  pub typed : body_judged f.scope around (Some f.body) ≡ Ok behind
  -- the names in it are reached
  pub reaches : Each (λ name. reached name ≡ true) (stmt_names f.body)

-- a name that is no function's in the one text is none in the other
abbrev pub MaybeStands : (List ℕ → Bool) → (List ℕ → Bool) → Option Definition → Option Definition → Type 0
MaybeStands test reached None None = Unit {0}
MaybeStands test reached (Some f) (Some g) = FunctionStands test reached f g
MaybeStands test reached _ _ = ⊥

-- a helper function does what the operator does, from valid states and with valid values; a difference of pointers where an element has a number of words that counts as above zero
pub record HelpDoes (rules : Rules) (name : List ℕ) : Type 0 where
  pub does : (action : Action) → stands_for name ≡ Some action → bytes_eq name difference_name ≡ false
      → (help : List Value → Run Value) × (rules.helps name ≡ Some help) × ((vs : List Value) (st : State) → AreValid vs → StateIsValid st → help vs st ≡ action vs st)
  pub differs : name ≡ difference_name
      → (help : List Value → Run Value) × (rules.helps name ≡ Some help) × ((p q : Value) (words : ℕ) (st : State) → AreValid (p ∷ q ∷ []) → 0 < words → words < 2 ^ 23 → StateIsValid st
      → help (p ∷ q ∷ Word words ∷ []) st ≡ of_three elements_between (p ∷ q ∷ Word words ∷ []) st)

-- what helper functions do keeps values valid
abbrev pub HelpStays : Option (List Value → Run Value) → Type 0
HelpStays None = Unit {0}
HelpStays (Some help) = (vs : List Value) (st : State) → AreValid vs → StateIsValid st → IsKept IsValid (help vs st)

-- the second text, with its rules, stands for the first with these charges, for the functions that are reached
pub record TextStands (test reached : List ℕ → Bool) (charge : List ℕ → ℕ) (rules : Rules) (t t' : Text) : Type 0 where
  pub objects : t'.names ≡ t.names
  pub own : (name : List ℕ) → reached name ≡ true → rules.helps name ≡ None
  pub charges : (name : List ℕ) → reached name ≡ true → rules.charge name ≡ charge name
  pub functions : (name : List ℕ) → reached name ≡ true → MaybeStands test reached (function_named t name) (function_named t' name)
  pub limited : FunctionsAreLimited t'.functions
  pub does : (name : List ℕ) → test name ≡ true → HelpDoes rules name
  pub stays : (name : List ℕ) → HelpStays (rules.helps name)
