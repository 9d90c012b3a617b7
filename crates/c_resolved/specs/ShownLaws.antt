-- The words of the live memory show those of a run's memory.
use Rattle.std.specs.Prelude.{◌≡◌, ℕ, List, ◌++◌, take, drop, map, ℤ}
use Rattle.c_eval.specs.State as run
use Rattle.c_eval.specs.State.{State}
use Rattle.c_eval.specs.Memory as memory
use Rattle.c_eval.specs.Operators as operators
use Rattle.c_store.specs.declared.kind.Kind.{Kind}
use Rattle.c_store.specs.Values.{Value, Cell, Stack}
use Rattle.c_store.specs.Words.{load, stored, moved, member_at, pointer_before, pointer_difference, equal_pointers, entered, left, is_true, as_pointer, used, is_of}
use Rattle.c_resolved.specs.Same.{kind_in, Tables, AreApart, Same, Shows, lengths_of, SameBlock, Agree, Writes}

-- what is the same stays so when there are more objects
abbrev pub SameStays : Type 0
SameStays = (t : Tables) (lengths more : List ℕ) (v : run.Value) (w : Value) → Same t lengths v w → Same t (lengths ++ more) v w

abbrev pub ReadsShow : Type 0
ReadsShow =
    (t : Tables) (st : State) (s : Stack) (kind : Kind) (v : run.Value) (w : Value) → Shows t st.objects s → Same t (lengths_of st.objects) v w
    → Agree (Same t (lengths_of st.objects)) st (memory.load (kind_in kind) v st) (load t.literals s kind w)

abbrev pub WritesShow : Type 0
WritesShow =
    (t : Tables) (st : State) (s : Stack) (kind : Kind) (p v : run.Value) (q w : Value) → Shows t st.objects s → Same t (lengths_of st.objects) p q → Same t (lengths_of st.objects) v w
    → Writes t st v (memory.store (kind_in kind) p v st) (stored t.literals s kind q w)

-- new objects, whose cells may point to themselves
abbrev pub BlocksShow : Type 0
BlocksShow =
    (t : Tables) (os : List run.Object) (s : Stack) (new : List (List run.Cell)) (cells : List (List Cell)) → Shows t os s → SameBlock t (lengths_of (os ++ map memory.live_object new)) new cells
    → Shows t (os ++ map memory.live_object new) (entered cells s)

abbrev pub LeavingShows : Type 0
LeavingShows = (t : Tables) (os : List run.Object) (s : Stack) (n : ℕ) → Shows t os s → Shows t (take n os ++ map memory.dead (drop n os)) (left n s)

-- and each object has as many cells as before
abbrev pub LeavingKeepsLengths : Type 0
LeavingKeepsLengths = (os : List run.Object) (n : ℕ) → lengths_of (take n os ++ map memory.dead (drop n os)) ≡ lengths_of os

abbrev pub MovesShow : Type 0
MovesShow =
    (t : Tables) (st : State) (v : run.Value) (w : Value) (cells : ℤ) → Same t (lengths_of st.objects) v w → Agree (Same t (lengths_of st.objects)) st (memory.moved v cells st) (moved t.literals w cells)

abbrev pub MembersShow : Type 0
MembersShow =
    (t : Tables) (st : State) (v : run.Value) (w : Value) (n : ℕ) → Same t (lengths_of st.objects) v w → Agree (Same t (lengths_of st.objects)) st (memory.member_at n v st) (member_at t.literals n w)

abbrev pub OrdersShow : Type 0
OrdersShow =
    (t : Tables) (st : State) (p q : run.Value) (v w : Value) → AreApart t.names → Same t (lengths_of st.objects) p v → Same t (lengths_of st.objects) q w
    → Agree (λ a b. a ≡ b) st (memory.pointer_before p q st) (pointer_before t.literals v w)

abbrev pub DifferencesShow : Type 0
DifferencesShow =
    (t : Tables) (st : State) (cells : ℕ) (p q : run.Value) (v w : Value) → AreApart t.names → Same t (lengths_of st.objects) p v → Same t (lengths_of st.objects) q w
    → Agree (λ a b. a ≡ b) st (memory.pointer_difference cells p q st) (pointer_difference t.literals cells v w)

abbrev pub EqualityShows : Type 0
EqualityShows =
    (t : Tables) (st : State) (s : Stack) (kind : Kind) (p q : run.Value) (v w : Value) → AreApart t.names → Shows t st.objects s → Same t (lengths_of st.objects) p v → Same t (lengths_of st.objects) q w
    → Agree (λ a b. a ≡ b) st (memory.equal_pointers (kind_in kind) p q st) (equal_pointers t.literals s kind v w)

abbrev pub UsesShow : Type 0
UsesShow =
    (t : Tables) (st : State) (v : run.Value) (w : Value) → Same t (lengths_of st.objects) v w → Agree (Same t (lengths_of st.objects)) st (operators.used v st) (used w)

abbrev pub TruthShows : Type 0
TruthShows = (t : Tables) (lengths : List ℕ) (v : run.Value) (w : Value) → Same t lengths v w → operators.is_true v ≡ is_true w

abbrev pub PointersShow : Type 0
PointersShow = (t : Tables) (lengths : List ℕ) (v : run.Value) (w : Value) → Same t lengths v w → Same t lengths (operators.as_pointer v) (as_pointer w)

abbrev pub KindsShow : Type 0
KindsShow = (t : Tables) (lengths : List ℕ) (kind : Kind) (v : run.Value) (w : Value) → Same t lengths v w → memory.is_of (kind_in kind) v ≡ is_of kind w
