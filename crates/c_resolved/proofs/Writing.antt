-- Writes.
use Rattle.std.proofs.Common.{◌≡◌, ◌≢◌, ℕ, zero, suc, ◌⊎◌, inl, inr, Bool, true, false, List, [], ◌∷◌, Option, Some, None, length, map, refl, sym, ap, ◌∙◌, subst, cond, if◌then◌else◌, arith}
use Rattle.std.specs.Prelude.{slice_get, slice_set, ◌==◌}
use Rattle.std.specs.Option.{option_map}
use Rattle.std.proofs.lemmas.Bool.Decides.{nat_tests}
use Rattle.std.proofs.lemmas.Bool.{cases_eq}
use Rattle.std.proofs.lemmas.List.{length-set}
use Rattle.c_eval.specs.State as run
use Rattle.c_eval.specs.State.{State}
use Rattle.c_eval.specs.Memory as memory
use Rattle.c_eval.specs.Run as words
use Rattle.c_eval.specs.Run.{◌>>=◌}
use Rattle.c_store.specs.declared.kind.Kind.{Kind}
use Rattle.c_store.specs.declared.act.Act.TheVariants as act
use Rattle.c_store.specs.Values.{Value, Cell, Holds, Object, Stack}
use Rattle.c_store.specs.Words.{unless, object_of, cells_in, with_cell, put_cell, holds_no_other, write_cell, stored}
use Rattle.c_resolved.specs.Same.{kind_in, Tables, Same, word, null, point, letter, function, missing, SameCell, unset, holds, SameCells, no_cell, more_cells, SameObject, no_object, an_object, lengths_of, ShowsAmong, Shows, Writes, writes, fails}
use Rattle.c_resolved.proofs.Likeness.{kinds}
use Rattle.c_resolved.proofs.Reading.{SameCellMaybe, nowhere, there, cell_same}

-- ---- objects of a run

abbrev set_cells : ℕ → run.Value → Option (List run.Cell) → Option (List run.Cell)
set_cells k v c = option_map (λ cs. slice_set cs k (run.Holds v)) c

lengths_set : (os : List run.Object) (o k : ℕ) (v : run.Value) → lengths_of (slice_set os o (memory.with_cell (slice_get os o) k v)) ≡ lengths_of os
lengths_set [] o k v = refl
lengths_set (x ∷ os) zero k v = ap (λ (n : ℕ). n ∷ lengths_of os) (length-set x.cells k (run.Holds v))
lengths_set (x ∷ os) (suc o) k v = ap (λ (ns : List ℕ). length x.cells ∷ ns) (lengths_set os o k v)

length_set : (os : List run.Object) (o : ℕ) (x : run.Object) → length (slice_set os o x) ≡ length os
length_set os o x = length-set os o x

set_here : (os : List run.Object) (o k : ℕ) (v : run.Value) → memory.live_cells (slice_get (slice_set os o (memory.with_cell (slice_get os o) k v)) o) ≡ set_cells k v (memory.live_cells (slice_get os o))
set_here [] o k v = refl
set_here (x ∷ os) zero k v = by x.live where
  by : (b : Bool) → (if b then Some (slice_set x.cells k (run.Holds v)) else None) ≡ set_cells k v (if b then Some x.cells else None)
  by true = refl
  by false = refl
set_here (x ∷ os) (suc o) k v = set_here os o k v

set_elsewhere : (os : List run.Object) (o m : ℕ) (x : run.Object) → m ≢ o → slice_get (slice_set os o x) m ≡ slice_get os m
set_elsewhere [] o m x h = refl
set_elsewhere (y ∷ os) zero zero x h = absurd (h refl)
set_elsewhere (y ∷ os) zero (suc m) x h = refl
set_elsewhere (y ∷ os) (suc o) zero x h = refl
set_elsewhere (y ∷ os) (suc o) (suc m) x h = set_elsewhere os o m x (λ e. h (ap suc e))

-- ---- live objects

abbrev set_live : ℕ → Value → Option (List Cell) → Option (List Cell)
set_live k w c = option_map (λ cs. slice_set cs k (Holds w)) c

live_here : (live : List Object) (o k : ℕ) (w : Value) → cells_in (object_of o (map (with_cell o k w) live)) ≡ set_live k w (cells_in (object_of o live))
live_here [] o k w = refl
live_here (x ∷ live) o k w = by (x.number == o) refl (live_here live o k w) where
  by : (b : Bool) → (x.number == o) ≡ b → cells_in (object_of o (map (with_cell o k w) live)) ≡ set_live k w (cells_in (object_of o live))
      → cells_in (cond ((if b then record x { cells = slice_set x.cells k (Holds w) } else x).number == o) (Some (if b then record x { cells = slice_set x.cells k (Holds w) } else x)) (object_of o (map (with_cell o k w) live)))
      ≡ set_live k w (cells_in (cond b (Some x) (object_of o live)))
  by true t rest = ap (λ (a : Bool). cells_in (cond a (Some (record x { cells = slice_set x.cells k (Holds w) })) (object_of o (map (with_cell o k w) live)))) t
  by false t rest = ap (λ (a : Bool). cells_in (cond a (Some x) (object_of o (map (with_cell o k w) live)))) t ∙ rest

live_elsewhere : (live : List Object) (o m k : ℕ) (w : Value) → m ≢ o → cells_in (object_of m (map (with_cell o k w) live)) ≡ cells_in (object_of m live)
live_elsewhere [] o m k w h = refl
live_elsewhere (x ∷ live) o m k w h = by (x.number == o) refl (x.number == m) refl (live_elsewhere live o m k w h) where
  by : (b : Bool) → (x.number == o) ≡ b → (c : Bool) → (x.number == m) ≡ c → cells_in (object_of m (map (with_cell o k w) live)) ≡ cells_in (object_of m live)
      → cells_in (cond ((if b then record x { cells = slice_set x.cells k (Holds w) } else x).number == m) (Some (if b then record x { cells = slice_set x.cells k (Holds w) } else x)) (object_of m (map (with_cell o k w) live)))
      ≡ cells_in (cond c (Some x) (object_of m live))
  by true t true u rest = let first : x.number ≡ o = grind (arith, nat_tests) in let second : x.number ≡ m = grind (arith, nat_tests) in absurd (h (sym second ∙ first))
  by true t false u rest = ap (λ (a : Bool). cells_in (cond a (Some (record x { cells = slice_set x.cells k (Holds w) })) (object_of m (map (with_cell o k w) live)))) u ∙ rest
  by false t c u rest = ap (λ (a : Bool). cells_in (cond a (Some x) (object_of m (map (with_cell o k w) live)))) u ∙ same c where
    same : (a : Bool) → cells_in (cond a (Some x) (object_of m (map (with_cell o k w) live))) ≡ cells_in (cond a (Some x) (object_of m live))
    same true = refl
    same false = rest

-- ---- both

module _ (t : Tables) (lengths : List ℕ) where
  set_same : (k : ℕ) → {v : run.Value} → {w : Value} → Same t lengths v w → {cs : List run.Cell} → {ds : List Cell} → SameCells t lengths cs ds → SameCells t lengths (slice_set cs k (run.Holds v)) (slice_set ds k (Holds w))
  set_same k same no_cell = no_cell
  set_same zero same (more_cells s rest) = more_cells (holds same) rest
  set_same (suc k) same (more_cells s rest) = more_cells s (set_same k same rest)

  set_object : (k : ℕ) → {v : run.Value} → {w : Value} → Same t lengths v w → {c : Option (List run.Cell)} → {d : Option (List Cell)} → SameObject t lengths c d → SameObject t lengths (set_cells k v c) (set_live k w d)
  set_object k same no_object = no_object
  set_object k same (an_object s) = an_object (set_same k same s)

  object_along : {c e : Option (List run.Cell)} → {d f : Option (List Cell)} → c ≡ e → d ≡ f → SameObject t lengths e f → SameObject t lengths c d
  object_along {c} {e} {d} {f} p q s = subst (λ (z : Option (List run.Cell)). SameObject t lengths z d) (sym p) (subst (λ (z : Option (List Cell)). SameObject t lengths e z) (sym q) s)

  shows_set : (os : List run.Object) (s : Stack) (o k : ℕ) → {v : run.Value} → {w : Value} → Same t lengths v w → ShowsAmong t lengths os s
      → ShowsAmong t lengths (slice_set os o (memory.with_cell (slice_get os o) k v)) (record s { live = map (with_cell o k w) s.live })
  shows_set os s o k {v} {w} same shows = record {
    next = shows.next ∙ sym (length_set os o (memory.with_cell (slice_get os o) k v));
    objects = λ m. at m (cases_eq m o);
  } where
    at : (m : ℕ) → (m ≡ o) ⊎ (m ≢ o) → SameObject t lengths (memory.live_cells (slice_get (slice_set os o (memory.with_cell (slice_get os o) k v)) m)) (cells_in (object_of m (map (with_cell o k w) s.live)))
    at m (inl e) =
        subst (λ (n : ℕ). SameObject t lengths (memory.live_cells (slice_get (slice_set os o (memory.with_cell (slice_get os o) k v)) n)) (cells_in (object_of n (map (with_cell o k w) s.live)))) (sym e)
        (object_along (set_here os o k v) (live_here s.live o k w) (set_object k same (shows.objects o)))
    at m (inr h) =
        object_along (ap memory.live_cells (set_elsewhere os o m (memory.with_cell (slice_get os o) k v) h)) (live_elsewhere s.live o m k w h) (shows.objects m)

  holds_alike : (k : Kind) → {c : run.Cell} → {d : Cell} → SameCell t lengths c d → memory.holds_no_other (kind_in k) c ≡ holds_no_other k d
  holds_alike k unset = refl
  holds_alike k (holds same) = kinds t lengths k same

module _ (t : Tables) (st : State) (s : Stack) (shows : Shows t st.objects s) where
  put : {p v : run.Value} → {q w : Value} → Same t (lengths_of st.objects) p q → Same t (lengths_of st.objects) v w → Writes t st v (memory.put_cell st.objects p v st) (put_cell s q w)
  unfolding memory.put_cell words.with_objects words.give words.undefined ◌>>=◌ words.after
  put (word n) same = fails act.OutsideObject
  put null same = fails act.OutsideObject
  put {v = v} {w = w} (point o n k e) same =
      writes (slice_set st.objects o (memory.with_cell (slice_get st.objects o) k v)) (record s { live = map (with_cell o k w) s.live })
      (subst (λ (ns : List ℕ). ShowsAmong t ns (slice_set st.objects o (memory.with_cell (slice_get st.objects o) k v)) (record s { live = map (with_cell o k w) s.live })) (sym (lengths_set st.objects o k v)) (shows_set t (lengths_of st.objects) st.objects s o k same shows))
      (lengths_set st.objects o k v)
  put (letter owner l x k e own) same = fails act.LiteralWrite
  put (function f name e) same = fails act.OutsideObject
  put missing same = fails act.OutsideObject

  by_test : (b c : Bool) → b ≡ c → {p v : run.Value} → {q w : Value} → Same t (lengths_of st.objects) p q → Same t (lengths_of st.objects) v w
      → Writes t st v (words.unless b run.OtherKind (memory.put_cell st.objects p v) st) (unless c act.OtherKind (put_cell s q w))
  unfolding words.unless words.undefined
  by_test true true e at same = put at same
  by_test false false e at same = fails act.OtherKind
  by_test true false e at same = cc
  by_test false true e at same = cc

  write : (k : Kind) → {c : Option run.Cell} → {d : Option Cell} → SameCellMaybe t (lengths_of st.objects) c d → {p v : run.Value} → {q w : Value} → Same t (lengths_of st.objects) p q → Same t (lengths_of st.objects) v w
      → Writes t st v (memory.write_cell (kind_in k) c st.objects p v st) (write_cell k d s q w)
  unfolding memory.write_cell words.undefined
  write k nowhere at same = fails act.OutsideObject
  write k (there {c} {d} alike) at same = by_test (memory.holds_no_other (kind_in k) c) (holds_no_other k d) (holds_alike t (lengths_of st.objects) k alike) at same

pub writes_show : (t : Tables) (st : State) (s : Stack) (k : Kind) (p v : run.Value) (q w : Value) → Shows t st.objects s → Same t (lengths_of st.objects) p q → Same t (lengths_of st.objects) v w
    → Writes t st v (memory.store (kind_in k) p v st) (stored t.literals s k q w)
unfolding memory.store words.objects_now ◌>>=◌ words.after
writes_show t st s k p v q w shows at same = write t st s shows k (cell_same t (lengths_of st.objects) st.objects s shows at) at same
