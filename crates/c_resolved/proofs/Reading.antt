-- Reads.
use Rattle.std.proofs.Common.{◌≡◌, ℕ, zero, suc, Bool, true, false, List, [], ◌∷◌, ◌++◌, Option, Some, None, Ok, map, sym, subst}
use Rattle.std.specs.Prelude.{slice_get}
use Rattle.c_eval.specs.State as run
use Rattle.c_eval.specs.State.{State}
use Rattle.c_eval.specs.Memory as memory
use Rattle.c_eval.specs.Run as words
use Rattle.c_eval.specs.Run.{◌>>=◌}
use Rattle.c_store.specs.declared.kind.Kind.{Kind}
use Rattle.c_store.specs.declared.act.Act.TheVariants as act
use Rattle.c_store.specs.Values.{Value, Word, Cell, Holds, Literal, Stack}
use Rattle.c_store.specs.Words.{is_of, offset_of, unless, cells_at, cell_in, cell_at, letters, read_cell, load}
use Rattle.c_resolved.specs.Same.{kind_in, Tables, Same, word, null, point, letter, function, missing, SameCell, unset, holds, SameCells, no_cell, more_cells, SameObject, no_object, an_object, lengths_of, ShowsAmong, Shows, Agree, gives, acts}
use Rattle.c_resolved.proofs.Likeness.{kinds, offsets}

-- a cell, or none
pub data SameCellMaybe (t : Tables) (lengths : List ℕ) : Option run.Cell → Option Cell → Type 0 where
  nowhere : SameCellMaybe t lengths None None
  there : {c : run.Cell} → {d : Cell} → SameCell t lengths c d → SameCellMaybe t lengths (Some c) (Some d)

module _ (t : Tables) (lengths : List ℕ) where
  get_same : (k : ℕ) → {cs : List run.Cell} → {ds : List Cell} → SameCells t lengths cs ds → SameCellMaybe t lengths (slice_get cs k) (slice_get ds k)
  get_same k no_cell = nowhere
  get_same zero (more_cells s rest) = there s
  get_same (suc k) (more_cells s rest) = get_same k rest

  in_same : (k : ℕ) → {c : Option (List run.Cell)} → {d : Option (List Cell)} → SameObject t lengths c d → SameCellMaybe t lengths (memory.cell_in c k) (cell_in d k)
  in_same k no_object = nowhere
  in_same k (an_object s) = get_same k s

  letters_same : (text : List ℕ) → SameCells t lengths (map (λ c. run.Holds (run.Word c)) text) (map (λ c. Holds (Word c)) text)
  letters_same [] = no_cell
  letters_same (c ∷ cs) = more_cells (holds (word c)) (letters_same cs)

  pub cells_same : (os : List run.Object) (s : Stack) → ShowsAmong t lengths os s → {v : run.Value} → {w : Value} → Same t lengths v w → SameObject t lengths (memory.cells_at os v) (cells_at t.literals s w)
  cells_same os s shows (word n) = no_object
  cells_same os s shows null = no_object
  cells_same os s shows (point o n k e) = shows.objects o
  cells_same os s shows (letter owner l x k e own) = subst (λ (o : Option Literal). SameObject t lengths (Some (memory.letters x.text)) (letters o)) (sym e) (an_object (letters_same (x.text ++ 0 ∷ [])))
  cells_same os s shows (function f name e) = no_object
  cells_same os s shows missing = no_object

  pub cell_same : (os : List run.Object) (s : Stack) → ShowsAmong t lengths os s → {v : run.Value} → {w : Value} → Same t lengths v w → SameCellMaybe t lengths (memory.cell_at os v) (cell_at t.literals s w)
  cell_same os s shows {v} {w} same =
      subst (λ (k : ℕ). SameCellMaybe t lengths (memory.cell_in (memory.cells_at os v) k) (cell_at t.literals s w)) (sym (offsets t lengths same)) (in_same (offset_of w) (cells_same os s shows same))

  by_kind : (st : State) (b c : Bool) → b ≡ c → {v : run.Value} → {w : Value} → Same t lengths v w → Agree (Same t lengths) st (words.unless b run.OtherKind (words.give v) st) (unless c act.OtherKind (Ok w))
  unfolding words.unless words.give words.undefined
  by_kind st true true e same = gives same
  by_kind st false false e same = acts act.OtherKind
  by_kind st true false e same = cc
  by_kind st false true e same = cc

  pub read_same : (st : State) (k : Kind) → {c : Option run.Cell} → {d : Option Cell} → SameCellMaybe t lengths c d → Agree (Same t lengths) st (memory.read_cell (kind_in k) c st) (read_cell k d)
  unfolding memory.read_cell words.undefined
  read_same st k nowhere = acts act.OutsideObject
  read_same st k (there unset) = acts act.UnsetCell
  read_same st k (there (holds {v} {w} same)) = by_kind st (memory.is_of (kind_in k) v) (is_of k w) (kinds t lengths k same) same

pub reads : (t : Tables) (st : State) (s : Stack) (k : Kind) (v : run.Value) (w : Value) → Shows t st.objects s → Same t (lengths_of st.objects) v w
    → Agree (Same t (lengths_of st.objects)) st (memory.load (kind_in k) v st) (load t.literals s k w)
unfolding memory.load words.objects_now ◌>>=◌ words.after
reads t st s k v w shows same = read_same t (lengths_of st.objects) st k (cell_same t (lengths_of st.objects) st.objects s shows same)
