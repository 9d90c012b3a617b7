-- What a machine that runs plain code has at a moment, and what a step comes to.
use Rattle.std.specs.Prelude.{ℕ, zero, suc, List, [], ◌∷◌, Result, Ok, Err}
use Rattle.c_store.specs.declared.act.Act.{Act}
use Rattle.c_store.specs.declared.act.Act.TheVariants.{HelperLimit}
use Rattle.c_store.specs.declared.kind.Kind.{Kind}
use Rattle.c_store.specs.Acts.{number_of_act}
use Rattle.c_store.specs.Values.{Value, Stack}

-- what is open, the innermost first
pub data Open : Type 0 where
  -- a block: its first object, and how many slots its function had before it
  Block : (first slots : ℕ) → Open
  -- a loop: where a `continue` goes, and where a `break` does
  Loop : (again past : ℕ) → Open
  Switch : (past : ℕ) → Open
  -- a call: where the caller goes on, how many values and slots stood below the caller's own, the kind of the result, the first object of the call, and the charge before it
  Call : (back values slots : ℕ) → (result : Kind) → (first charge : ℕ) → Open

-- values of the function that runs, and those of its callers
pub record Piled : Type 0 where
  pub mine : List Value
  pub below : List Value

pub record Machine : Type 0 where
  -- the number of the next instruction
  pub at : ℕ
  -- the values, the last one first
  pub values : Piled
  -- the pointer to the object in each slot, the first one first; a slot without an object has no value
  pub slots : Piled
  pub opened : List Open
  pub memory : Stack
  -- the units of fuel that are left
  pub left : ℕ
  -- the charges of the live calls
  pub charge : ℕ

pub data Config : Type 0 where
  At : (m : Machine) → Config
  AtEnd : Config
  AtFault : (code : ℕ) → Config

-- what a step comes to, and the bytes that it writes
pub record Step : Type 0 where
  pub config : Config
  pub written : List ℕ

-- ---- ends of steps

abbrev pub quiet : Machine → Step
quiet m = record { config = At m; written = [] }

abbrev pub wrote : Machine → List ℕ → Step
wrote m bytes = record { config = At m; written = bytes }

-- the run ends
abbrev pub ended : Step
ended = record { config = AtEnd; written = [] }

-- a unit is wanted, and none is left
abbrev pub exhausted : Step
exhausted = record { config = AtFault 0; written = [] }

abbrev pub fault : Act → Step
fault act = record { config = AtFault (number_of_act act); written = [] }

-- what follows a result, unless an act came in its place
abbrev pub unless_act : {A : Type 0} → Result A Act → (A → Step) → Step
unless_act (Ok a) f = f a
unless_act (Err act) f = fault act

-- ---- parts of a machine

abbrev pub onward : Machine → Machine
onward m = record m { at = suc m.at }

-- its function has these values
abbrev pub with_values : Machine → List Value → Machine
with_values m vs = record m { values = record m.values { mine = vs } }

-- a value comes on top of these
abbrev pub pushed : Machine → List Value → Value → Machine
pushed m vs v = record m { at = suc m.at; values = record m.values { mine = v ∷ vs } }

-- the value on top, and the others
abbrev pub on_top : List Value → (Value → List Value → Step) → Step
on_top [] f = fault HelperLimit
on_top (v ∷ vs) f = f v vs

-- the two on top, and the others
abbrev pub on_two : List Value → (Value → Value → List Value → Step) → Step
on_two (y ∷ x ∷ vs) f = f x y vs
on_two _ f = fault HelperLimit

-- a unit is spent, if there is one
abbrev pub spend : ℕ → Machine → (Machine → Step) → Step
spend zero m f = exhausted
spend (suc n) m f = f (record m { left = n })

abbrev pub paid : Machine → (Machine → Step) → Step
paid m f = spend m.left m f
