-- What shows a value is like it.
use Rattle.std.proofs.Common.{◌≡◌, ℕ, zero, suc, Bool, true, false, List, [], ◌∷◌, ◌++◌, Some, length, refl, sym, ap, ◌∙◌, if◌then◌else◌}
use Rattle.std.specs.Prelude.{slice_get, ◌==◌}
use Rattle.std.proofs.lemmas.Option.{slice_get-map}
use Rattle.c_eval.specs.State as run
use Rattle.c_eval.specs.State.{State}
use Rattle.c_eval.specs.Memory as memory
use Rattle.c_eval.specs.Operators as operators
use Rattle.c_eval.specs.Run as words
use Rattle.c_store.specs.declared.kind.Kind.{Kind}
use Rattle.c_store.specs.declared.kind.Kind.TheVariants as kind
use Rattle.c_store.specs.declared.act.Act.TheVariants as act
use Rattle.c_store.specs.Values.{Value, Word, Null, Cell}
use Rattle.c_store.specs.Words.{is_of, is_true, as_pointer, used, offset_of, at_offset, length_of, letter_count}
use Rattle.c_resolved.specs.Same.{kind_in, Tables, Same, word, null, point, letter, function, missing, SameCell, unset, holds, SameCells, no_cell, more_cells, lengths_of, Agree, gives, acts}

pub get_front : {X : Type 0} → (xs ys : List X) (k : ℕ) (x : X) → slice_get xs k ≡ Some x → slice_get (xs ++ ys) k ≡ Some x
get_front [] ys k x e = cc
get_front (y ∷ xs) ys zero x e = e
get_front (y ∷ xs) ys (suc k) x e = get_front xs ys k x e

module _ (t : Tables) (lengths : List ℕ) where
  pub stays : (more : List ℕ) → {v : run.Value} → {w : Value} → Same t lengths v w → Same t (lengths ++ more) v w
  stays more (word n) = word n
  stays more null = null
  stays more (point o n k e) = point o n k (get_front lengths more o n e)
  stays more (letter owner l x k e own) = letter owner l x k e own
  stays more (function f name e) = function f name e
  stays more missing = missing

  pub stays_cell : (more : List ℕ) → {c : run.Cell} → {d : Cell} → SameCell t lengths c d → SameCell t (lengths ++ more) c d
  stays_cell more unset = unset
  stays_cell more (holds s) = holds (stays more s)

  pub stays_cells : (more : List ℕ) → {cs : List run.Cell} → {ds : List Cell} → SameCells t lengths cs ds → SameCells t (lengths ++ more) cs ds
  stays_cells more no_cell = no_cell
  stays_cells more (more_cells s rest) = more_cells (stays_cell more s) (stays_cells more rest)

  pub kinds : (k : Kind) → {v : run.Value} → {w : Value} → Same t lengths v w → memory.is_of (kind_in k) v ≡ is_of k w
  kinds kind.Number (word n) = refl
  kinds kind.Number null = refl
  kinds kind.Number (point o n k e) = refl
  kinds kind.Number (letter owner l x k e own) = refl
  kinds kind.Number (function f name e) = refl
  kinds kind.Number missing = refl
  kinds kind.ObjectPointer (word n) = refl
  kinds kind.ObjectPointer null = refl
  kinds kind.ObjectPointer (point o n k e) = refl
  kinds kind.ObjectPointer (letter owner l x k e own) = refl
  kinds kind.ObjectPointer (function f name e) = refl
  kinds kind.ObjectPointer missing = refl
  kinds kind.FunctionPointer (word n) = refl
  kinds kind.FunctionPointer null = refl
  kinds kind.FunctionPointer (point o n k e) = refl
  kinds kind.FunctionPointer (letter owner l x k e own) = refl
  kinds kind.FunctionPointer (function f name e) = refl
  kinds kind.FunctionPointer missing = refl

  pub truths : {v : run.Value} → {w : Value} → Same t lengths v w → operators.is_true v ≡ is_true w
  truths (word n) = refl
  truths null = refl
  truths (point o n k e) = refl
  truths (letter owner l x k e own) = refl
  truths (function f name e) = refl
  truths missing = refl

  pub pointers : {v : run.Value} → {w : Value} → Same t lengths v w → Same t lengths (operators.as_pointer v) (as_pointer w)
  pointers (word n) = by (n == 0) where
    by : (b : Bool) → Same t lengths (if b then run.Null else run.Word n) (if b then Null else Word n)
    by true = null
    by false = word n
  pointers null = null
  pointers (point o n k e) = point o n k e
  pointers (letter owner l x k e own) = letter owner l x k e own
  pointers (function f name e) = function f name e
  pointers missing = missing

  pub uses : (st : State) → {v : run.Value} → {w : Value} → Same t lengths v w → Agree (Same t lengths) st (operators.used v st) (used w)
  unfolding operators.used words.undefined words.give
  uses st (word n) = gives (word n)
  uses st null = gives null
  uses st (point o n k e) = gives (point o n k e)
  uses st (letter owner l x k e own) = gives (letter owner l x k e own)
  uses st (function f name e) = gives (function f name e)
  uses st missing = acts act.NoResult

  pub offsets : {v : run.Value} → {w : Value} → Same t lengths v w → memory.offset_of v ≡ offset_of w
  offsets (word n) = refl
  offsets null = refl
  offsets (point o n k e) = refl
  offsets (letter owner l x k e own) = refl
  offsets (function f name e) = refl
  offsets missing = refl

  pub at_offsets : (m : ℕ) → {v : run.Value} → {w : Value} → Same t lengths v w → Same t lengths (memory.at_offset v m) (at_offset w m)
  at_offsets m (word n) = word n
  at_offsets m null = null
  at_offsets m (point o n k e) = point o n m e
  at_offsets m (letter owner l x k e own) = letter owner l x m e own
  at_offsets m (function f name e) = function f name e
  at_offsets m missing = missing

-- how many cells an object has
pub extents : (t : Tables) (os : List run.Object) → {v : run.Value} → {w : Value} → Same t (lengths_of os) v w → memory.extent_of os v ≡ length_of t.literals w
extents t os (word n) = refl
extents t os null = refl
extents t os (point o n k e) = sym (slice_get-map (λ (x : run.Object). length x.cells) os o) ∙ e
extents t os (letter owner l x k e own) = sym (ap letter_count e)
extents t os (function f name e) = refl
extents t os missing = refl
