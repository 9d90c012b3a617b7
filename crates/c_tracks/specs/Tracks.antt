-- How a machine of plain code stands beside one of C's code.
use Rattle.std.specs.Prelude.{◌≡◌, ◌≤◌, ◌^◌, min, ℕ, List, [], ◌∷◌, ◌++◌, length, take, Option, Some, None, slice_get, true}
use Rattle.std.specs.List.{AllByRecursion}
use Rattle.c_syntax.specs.Words.{meaning}
use Rattle.c_eval.specs.State.{State, Outcome, Gives, Ended, Going, Undefined}
use Rattle.c_code.specs.Machine as code
use Rattle.c_code.specs.Machine.{Control}
use Rattle.c_rule.specs.Stepping as rule
use Rattle.c_rule.specs.Stepping.{FlatCode, Store, store_of, is_single}
use Rattle.c_store.specs.declared.act.Act.{Act}
use Rattle.c_store.specs.Values.{Value, Point, Missing}
use Rattle.c_resolved.specs.Same.{act_of, Tables, SameValues, Shows, lengths_of, AreApart}
use Rattle.c_plain.specs.declared.code.Entry.{Entry}
use Rattle.c_plain.specs.Machine as plain
use Rattle.c_plain.specs.Machine.{Machine, Step, ended, exhausted, fault}
use Rattle.c_plain.specs.Program.{Program}
use Rattle.c_plain.specs.Rule.{entry_of}
use Rattle.c_resolved.specs.Resolved.{kind_of}
use Rattle.c_resolved.specs.Means.{MeansAll}

-- ---- slots

-- the object in a slot, and the pointer that the plain slot holds
pub data SameSlot (lengths : List ℕ) : Option ℕ → Value → Type 0 where
  without : SameSlot lengths None Missing
  pointing : (o n : ℕ) → slice_get lengths o ≡ Some n → SameSlot lengths (Some o) (Point o n 0)

pub data SameSlots (lengths : List ℕ) : List (Option ℕ) → List Value → Type 0 where
  no_slot : SameSlots lengths [] []
  more_slots : {s : Option ℕ} → {v : Value} → {ss : List (Option ℕ)} → {vs : List Value} → SameSlot lengths s v → SameSlots lengths ss vs → SameSlots lengths (s ∷ ss) (v ∷ vs)

-- ---- what is open

-- what is open in the function that runs, which has these slots, and in its callers; what the plain machine holds of the callers lies below
pub data Stands (t : Tables) (lengths : List ℕ) : List (Option ℕ) → List code.Open → List code.Frame → (values slots : List Value) → List plain.Open → Type 0 where
  alone : {slots : List (Option ℕ)} → Stands t lengths slots [] [] [] [] []
  in_block : {slots before : List (Option ℕ)} → {opened : List code.Open} → {frames : List code.Frame} → {values below : List Value} → {os : List plain.Open} → (n k : ℕ)
      → before ≡ take k slots → k ≤ length slots → Stands t lengths before opened frames values below os → Stands t lengths slots (code.Block n before ∷ opened) frames values below (plain.Block n k ∷ os)
  in_loop : {slots : List (Option ℕ)} → {opened : List code.Open} → {frames : List code.Frame} → {values below : List Value} → {os : List plain.Open} → (again past : ℕ)
      → Stands t lengths slots opened frames values below os → Stands t lengths slots (code.Handler (Some again) past ∷ opened) frames values below (plain.Loop again past ∷ os)
  in_switch : {slots : List (Option ℕ)} → {opened : List code.Open} → {frames : List code.Frame} → {values below : List Value} → {os : List plain.Open} → (past : ℕ)
      → Stands t lengths slots opened frames values below os → Stands t lengths slots (code.Handler None past ∷ opened) frames values below (plain.Switch past ∷ os)
  in_call : {slots : List (Option ℕ)} → {frames : List code.Frame} → {values below : List Value} → {os : List plain.Open} → (f : code.Frame) → (rest mine : List Value)
      → SameValues t lengths f.stack rest → SameSlots lengths f.slots mine → Stands t lengths f.slots f.opened frames values below os
      → Stands t lengths slots [] (f ∷ frames) (rest ++ values) (below ++ mine) (plain.Call f.back (length values) (length below) (kind_of f.result) f.first f.charge ∷ os)

-- ---- the whole

-- the first numbers of cells stay
pub record Keeps (base lengths : List ℕ) : Type 0 where
  pub first : (o n : ℕ) → slice_get base o ≡ Some n → slice_get lengths o ≡ Some n

pub record TracksAt (base : List ℕ) (t : Tables) (c : Control) (s : Store) (m : Machine) : Type 0 where
  pub at : m.at ≡ c.at
  pub values : SameValues t (lengths_of s.objects) c.stack m.values.mine
  pub slots : SameSlots (lengths_of s.objects) c.slots m.slots.mine
  pub opened : Stands t (lengths_of s.objects) c.slots c.opened c.frames m.values.below m.slots.below m.opened
  pub memory : Shows t s.objects m.memory
  -- the objects that there were at first have as many cells as then
  pub files : Keeps base (lengths_of s.objects)
  pub left : m.left ≡ s.left
  pub charge : m.charge ≡ s.charge

-- two configurations: both are going, have ended or are at one fault
pub data Tracks (base : List ℕ) (t : Tables) : rule.Config → plain.Config → Type 0 where
  going : {c : Control} → {s : Store} → {m : Machine} → TracksAt base t c s m → Tracks base t (rule.At c s) (plain.At m)
  over : Tracks base t rule.AtEnd plain.AtEnd
  stopped : (n : ℕ) → Tracks base t (rule.AtFault n) (plain.AtFault n)

-- ---- programs

-- what an entry tells of a charge: one that no call can have beside the limit is told as 2^22, which none can have either
abbrev pub told_charge : ℕ → ℕ
told_charge charge = min charge (2 ^ 22)

-- the entry of a function, and that of its name
pub data SameEntry : Option code.Entry → Option Entry → Type 0 where
  no_entry : SameEntry None None
  an_entry : (e : code.Entry) → (g : Entry) → g.at ≡ e.at → g.params ≡ length e.params → g.result ≡ kind_of e.result → g.charge ≡ told_charge e.charge → e.more ≡ 0 → SameEntry (Some e) (Some g)

-- a plain program is C's code, the functions having these names by number
pub record IsCode (names : List (List ℕ)) (p : Program) (f : FlatCode) : Type 0 where
  pub instructions : MeansAll names p f.instructions p.instructions
  pub single : AllByRecursion (λ i. is_single i ≡ true) f.instructions
  pub apart : AreApart names
  pub entries : (name : List ℕ) (g : ℕ) → slice_get names g ≡ Some name → SameEntry (meaning f.entries name) (entry_of p g)

-- what an instruction of C's code comes to, and a plain step
pub data Follows (base : List ℕ) (t : Tables) : Outcome Control → Step → Type 0 where
  goes : {c : Control} → {st : State} → {m : Machine} → {bytes : List ℕ} → TracksAt base t c (store_of st) m → st.output ≡ bytes → Follows base t (Gives c st) (record { config = plain.At m; written = bytes })
  ends : {st : State} → st.output ≡ [] → Follows base t (Ended st) ended
  wants : {st : State} → st.output ≡ [] → Follows base t (Going st) exhausted
  stops : (a : Act) → {st : State} → st.output ≡ [] → Follows base t (Undefined (act_of a) st) (fault a)
