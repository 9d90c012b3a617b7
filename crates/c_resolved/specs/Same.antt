-- What the live memory shows of a run's memory, in which dead objects stay.
use Rattle.std.specs.Prelude.{◌≡◌, ℕ, suc, List, [], ◌∷◌, length, map, Option, Some, None, Result, Ok, Err, slice_get}
use Rattle.c_eval.specs.State as run
use Rattle.c_eval.specs.State.{State, Outcome, Gives, Undefined}
use Rattle.c_eval.specs.Memory as memory
use Rattle.c_store.specs.declared.act.Act.{Act}
use Rattle.c_store.specs.declared.act.Act.TheVariants as act
use Rattle.c_store.specs.declared.kind.Kind.{Kind}
use Rattle.c_store.specs.declared.kind.Kind.TheVariants as kind
use Rattle.c_store.specs.Values.{Value, Word, Null, Point, Letter, Function, Missing, Cell, Unset, Holds, Literal, Stack}
use Rattle.c_store.specs.Words.{cells_in, object_of}

-- the act that is meant
abbrev pub act_of : Act → run.Act
act_of act.ZeroDivisor = run.ZeroDivisor
act_of act.OutsideObject = run.OutsideObject
act_of act.OtherKind = run.OtherKind
act_of act.UnsetCell = run.UnsetCell
act_of act.LiteralWrite = run.LiteralWrite
act_of act.PointerArithmetic = run.PointerArithmetic
act_of act.PointerOrder = run.PointerOrder
act_of act.PointerEquality = run.PointerEquality
act_of act.ShiftCount = run.ShiftCount
act_of act.NoResult = run.NoResult
act_of act.ChargeLimit = run.ChargeLimit
act_of act.NullCall = run.NullCall
act_of act.HelperLimit = run.HelperLimit

-- the kind that is meant
abbrev pub kind_in : Kind → memory.Kind
kind_in kind.Number = memory.Number
kind_in kind.ObjectPointer = memory.ObjectPointer
kind_in kind.FunctionPointer = memory.FunctionPointer

-- the names of the functions and the literals of a program, by number
pub record Tables : Type 0 where
  pub names : List (List ℕ)
  pub literals : List Literal

-- the owner of a literal, by the number of its name
pub data IsOwner (names : List (List ℕ)) : Option (List ℕ) → ℕ → Type 0 where
  at_file : IsOwner names None 0
  in_function : (f : ℕ) → (name : List ℕ) → slice_get names f ≡ Some name → IsOwner names (Some name) (suc f)

-- no two functions have one name
abbrev pub AreApart : List (List ℕ) → Type 0
AreApart names = (f g : ℕ) (name : List ℕ) → slice_get names f ≡ Some name → slice_get names g ≡ Some name → f ≡ g

-- a value and what shows it, the objects having so many cells each
pub data Same (t : Tables) (lengths : List ℕ) : run.Value → Value → Type 0 where
  word : (n : ℕ) → Same t lengths (run.Word n) (Word n)
  null : Same t lengths run.Null Null
  point : (o n k : ℕ) → slice_get lengths o ≡ Some n → Same t lengths (run.Point o k) (Point o n k)
  letter : (owner : Option (List ℕ)) → (l : ℕ) → (x : Literal) → (k : ℕ) → slice_get t.literals l ≡ Some x → IsOwner t.names owner x.owner → Same t lengths (run.Letter owner x.number x.text k) (Letter l k)
  function : (f : ℕ) → (name : List ℕ) → slice_get t.names f ≡ Some name → Same t lengths (run.Function name) (Function f)
  missing : Same t lengths run.Missing Missing

pub data SameCell (t : Tables) (lengths : List ℕ) : run.Cell → Cell → Type 0 where
  unset : SameCell t lengths run.Unset Unset
  holds : {v : run.Value} → {w : Value} → Same t lengths v w → SameCell t lengths (run.Holds v) (Holds w)

pub data SameCells (t : Tables) (lengths : List ℕ) : List run.Cell → List Cell → Type 0 where
  no_cell : SameCells t lengths [] []
  more_cells : {c : run.Cell} → {d : Cell} → {cs : List run.Cell} → {ds : List Cell} → SameCell t lengths c d → SameCells t lengths cs ds → SameCells t lengths (c ∷ cs) (d ∷ ds)

-- the cells of an object that lives, or no object does
pub data SameObject (t : Tables) (lengths : List ℕ) : Option (List run.Cell) → Option (List Cell) → Type 0 where
  no_object : SameObject t lengths None None
  an_object : {cs : List run.Cell} → {ds : List Cell} → SameCells t lengths cs ds → SameObject t lengths (Some cs) (Some ds)

-- how many cells each object has, dead or live
abbrev pub lengths_of : List run.Object → List ℕ
lengths_of os = map (λ o. length o.cells) os

-- the live memory shows objects, where all that there will be have so many cells
pub record ShowsAmong (t : Tables) (lengths : List ℕ) (os : List run.Object) (s : Stack) : Type 0 where
  pub next : s.next ≡ length os
  pub objects : (o : ℕ) → SameObject t lengths (memory.live_cells (slice_get os o)) (cells_in (object_of o s.live))

-- the live memory shows the objects
abbrev pub Shows : Tables → List run.Object → Stack → Type 0
Shows t os s = ShowsAmong t (lengths_of os) os s

-- values, one for one
pub data SameValues (t : Tables) (lengths : List ℕ) : List run.Value → List Value → Type 0 where
  no_value : SameValues t lengths [] []
  more_values : {v : run.Value} → {w : Value} → {vs : List run.Value} → {ws : List Value} → Same t lengths v w → SameValues t lengths vs ws → SameValues t lengths (v ∷ vs) (w ∷ ws)

-- the cells of new objects
pub data SameBlock (t : Tables) (lengths : List ℕ) : List (List run.Cell) → List (List Cell) → Type 0 where
  no_block : SameBlock t lengths [] []
  more_block : {c : List run.Cell} → {d : List Cell} → {cs : List (List run.Cell)} → {ds : List (List Cell)} → SameCells t lengths c d → SameBlock t lengths cs ds → SameBlock t lengths (c ∷ cs) (d ∷ ds)

-- a part of a run that changes nothing, and what the live memory answers: related values, or the same act
pub data Agree {A B : Type 0} (R : A → B → Type 0) (st : State) : Outcome A → Result B Act → Type 0 where
  gives : {a : A} → {b : B} → R a b → Agree R st (Gives a st) (Ok b)
  acts : (act : Act) → Agree R st (Undefined (act_of act) st) (Err act)

-- a write, and what the live memory answers: a value is given, and the new live memory shows the new objects, whose lengths are as before
pub data Writes (t : Tables) (st : State) (v : run.Value) : Outcome run.Value → Result Stack Act → Type 0 where
  writes : (os : List run.Object) → (s : Stack) → Shows t os s → lengths_of os ≡ lengths_of st.objects → Writes t st v (Gives v (record st { objects = os })) (Ok s)
  fails : (act : Act) → Writes t st v (Undefined (act_of act) st) (Err act)
