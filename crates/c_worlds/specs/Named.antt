-- Values and states whose pointers to functions are pointers to some functions alone, with a limit of the fuel that is left.
use Rattle.std.specs.Prelude.{◌≡◌, ℕ, ◌≤◌, List, [], ◌∷◌}
use Rattle.c_eval.specs.State.{Value, Function, Cell, Unset, Holds, Object, State, Outcome, Gives, Ended, Going, Undefined, Run}
use Rattle.c_eval.specs.Eval.{Flow, Returned}
use Rattle.c_valid.specs.Valid as valid
use Rattle.c_valid.specs.Valid.{IsValid, AreValid, StateIsValid}

-- of each name of a list it holds
abbrev pub Each : (List ℕ → Type 0) → List (List ℕ) → Type 0
Each P [] = Unit {0}
Each P (name ∷ names) = P name × Each P names

abbrev pub IsNamed : (List ℕ → Type 0) → Value → Type 0
IsNamed P (Function name) = P name
IsNamed P v = Unit {0}

abbrev pub AreNamed : (List ℕ → Type 0) → List Value → Type 0
AreNamed P [] = Unit {0}
AreNamed P (v ∷ vs) = IsNamed P v × AreNamed P vs

abbrev pub CellIsNamed : (List ℕ → Type 0) → Cell → Type 0
CellIsNamed P Unset = Unit {0}
CellIsNamed P (Holds v) = IsNamed P v

abbrev pub CellsAreNamed : (List ℕ → Type 0) → List Cell → Type 0
CellsAreNamed P [] = Unit {0}
CellsAreNamed P (c ∷ cs) = CellIsNamed P c × CellsAreNamed P cs

abbrev pub ObjectsAreNamed : (List ℕ → Type 0) → List Object → Type 0
ObjectsAreNamed P [] = Unit {0}
ObjectsAreNamed P (x ∷ xs) = CellsAreNamed P x.cells × ObjectsAreNamed P xs

-- with so many units of fuel at most
abbrev pub StateIsNamed : (List ℕ → Type 0) → ℕ → State → Type 0
StateIsNamed P limit st = ObjectsAreNamed P st.objects × (st.left ≤ limit)

-- a value that is returned
abbrev pub FlowIsNamed : (List ℕ → Type 0) → Flow → Type 0
FlowIsNamed P (Returned v) = IsNamed P v
FlowIsNamed P flow = Unit {0}

-- however a part of a run ends, its state is such, and so is what it gives
abbrev pub IsKept : (List ℕ → Type 0) → ℕ → {A : Type 0} → (A → Type 0) → Outcome A → Type 0
IsKept P limit G (Gives a st) = G a × StateIsNamed P limit st
IsKept P limit G (Ended st) = StateIsNamed P limit st
IsKept P limit G (Going st) = StateIsNamed P limit st
IsKept P limit G (Undefined act st) = StateIsNamed P limit st

-- from such states that are valid, and with such valid values, calls of these functions do the same, and lead to such states
abbrev pub CallsGoAlike : (List ℕ → Type 0) → ℕ → (List ℕ → List Value → Run Value) → (List ℕ → List Value → Run Value) → Type 0
CallsGoAlike P limit calls other =
    (name : List ℕ) (vs : List Value) (st : State) → P name → AreNamed P vs → AreValid vs → StateIsNamed P limit st → StateIsValid st
    → (other name vs st ≡ calls name vs st) × IsKept P limit (IsNamed P) (calls name vs st) × valid.IsKept IsValid (calls name vs st)
