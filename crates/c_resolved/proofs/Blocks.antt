-- Objects that are made, and objects that die.
use Rattle.std.proofs.Common.{◌≡◌, ◌≢◌, ℕ, zero, suc, ◌<◌, ◌≤◌, ◌⊎◌, inl, inr, Bool, true, false, List, [], ◌∷◌, ◌++◌, Option, Some, None, length, map, take, drop, refl, sym, ap, ◌∙◌, subst, cond, append_assoc, arith}
use Rattle.std.specs.Prelude.{slice_get, filter, nat_lt, ◌==◌}
use Rattle.std.proofs.lemmas.Bool.Decides.{nat_tests}
use Rattle.std.proofs.lemmas.Bool.{cases_eq, cases_lt}
use Rattle.std.proofs.lemmas.List.{map-append}
use Rattle.c_eval.specs.State as run
use Rattle.c_eval.specs.Memory as memory
use Rattle.c_store.specs.Values.{Cell, Object, Stack}
use Rattle.c_store.specs.Words.{object_of, cells_in, entered, left}
use Rattle.c_resolved.specs.Same.{Tables, SameCells, SameObject, no_object, an_object, lengths_of, ShowsAmong, Shows, SameBlock, no_block, more_block}
use Rattle.c_resolved.proofs.Likeness.{stays_cells}

object_of_both : (t : Tables) (lengths : List ℕ) → {c e : Option (List run.Cell)} → {d f : Option (List Cell)} → c ≡ e → d ≡ f → SameObject t lengths e f → SameObject t lengths c d
object_of_both t lengths {c} {e} {d} {f} p q s =
    subst (λ (z : Option (List run.Cell)). SameObject t lengths z d) (sym p) (subst (λ (z : Option (List Cell)). SameObject t lengths e z) (sym q) s)

stays_object : (t : Tables) (lengths more : List ℕ) → {c : Option (List run.Cell)} → {d : Option (List Cell)} → SameObject t lengths c d → SameObject t (lengths ++ more) c d
stays_object t lengths more no_object = no_object
stays_object t lengths more (an_object s) = an_object (stays_cells t lengths more s)

-- ---- a new object

get_last : (os : List run.Object) (x : run.Object) → slice_get (os ++ x ∷ []) (length os) ≡ Some x
get_last [] x = refl
get_last (y ∷ os) x = get_last os x

get_other : (os : List run.Object) (x : run.Object) (m : ℕ) → m ≢ length os → slice_get (os ++ x ∷ []) m ≡ slice_get os m
get_other [] x zero h = absurd (h refl)
get_other [] x (suc m) h = refl
get_other (y ∷ os) x zero h = refl
get_other (y ∷ os) x (suc m) h = get_other os x m (λ e. h (ap suc e))

get_past : (os : List run.Object) → slice_get os (length os) ≡ None
get_past [] = refl
get_past (y ∷ os) = get_past os

found_other : (live : List Object) (y : Object) (m : ℕ) → m ≢ y.number → object_of m (live ++ y ∷ []) ≡ object_of m live
found_other [] y m h = by (y.number == m) refl where
  by : (b : Bool) → (y.number == m) ≡ b → cond b (Some y) None ≡ (let none : Option Object = None in none)
  by true t = let same : y.number ≡ m = grind (arith, nat_tests) in absurd (h (sym same))
  by false t = refl
found_other (x ∷ live) y m h = ap (λ (o : Option Object). cond (x.number == m) (Some x) o) (found_other live y m h)

found_last : (live : List Object) (y : Object) → object_of y.number live ≡ None → object_of y.number (live ++ y ∷ []) ≡ Some y
found_last [] y e = by (y.number == y.number) (let t : (y.number == y.number) ≡ true = grind (arith, nat_tests) in t) where
  by : (b : Bool) → b ≡ true → cond b (Some y) None ≡ Some y
  by true t = refl
  by false t = cc
found_last (x ∷ live) y e = by (x.number == y.number) e (found_last live y) where
  by : (b : Bool) → cond b (Some x) (object_of y.number live) ≡ None → (object_of y.number live ≡ None → object_of y.number (live ++ y ∷ []) ≡ Some y) → cond b (Some x) (object_of y.number (live ++ y ∷ [])) ≡ Some y
  by true f rest = cc
  by false f rest = rest f

nothing_there : (t : Tables) (lengths : List ℕ) (o : Option Object) → SameObject t lengths None (cells_in o) → o ≡ None
nothing_there t lengths None s = refl
nothing_there t lengths (Some x) s = absurd (no s) where
  no : {cells : List Cell} → SameObject t lengths None (Some cells) → ⊥
  no s = elim s [ ]

one_more : (t : Tables) (lengths : List ℕ) (os : List run.Object) (s : Stack) → ShowsAmong t lengths os s → (c : List run.Cell) (d : List Cell) → SameCells t lengths c d → ShowsAmong t lengths (os ++ memory.live_object c ∷ []) (entered (d ∷ []) s)
one_more t lengths os s shows c d same = record {
  next = ap suc shows.next ∙ sym (length_push os (memory.live_object c));
  objects = λ m. at m (cases_eq m (length os));
} where
  length_push : (ps : List run.Object) (x : run.Object) → length (ps ++ x ∷ []) ≡ suc (length ps)
  length_push [] x = refl
  length_push (p ∷ ps) x = ap suc (length_push ps x)

  at : (m : ℕ) → (m ≡ length os) ⊎ (m ≢ length os) → SameObject t lengths (memory.live_cells (slice_get (os ++ memory.live_object c ∷ []) m)) (cells_in (object_of m (s.live ++ record { number = s.next; cells = d } ∷ [])))
  at m (inr h) =
      object_of_both t lengths (ap memory.live_cells (get_other os (memory.live_object c) m h)) (ap cells_in (found_other s.live (record { number = s.next; cells = d }) m (λ e. h (e ∙ shows.next)))) (shows.objects m)
  at m (inl e) =
      let gone : object_of s.next s.live ≡ None =
      nothing_there t lengths (object_of s.next s.live)
      (subst (λ (o : Option run.Object). SameObject t lengths (memory.live_cells o) (cells_in (object_of s.next s.live))) (ap (slice_get os) shows.next ∙ get_past os) (shows.objects s.next))
      in
      let found : object_of m (s.live ++ record { number = s.next; cells = d } ∷ []) ≡ Some (record { number = s.next; cells = d }) =
      ap (λ (n : ℕ). object_of n (s.live ++ record { number = s.next; cells = d } ∷ [])) (e ∙ sym shows.next) ∙ found_last s.live (record { number = s.next; cells = d }) gone
      in
      object_of_both t lengths (ap memory.live_cells (ap (slice_get (os ++ memory.live_object c ∷ [])) e ∙ get_last os (memory.live_object c))) (ap cells_in found) (an_object same)

many_more : (t : Tables) (lengths : List ℕ) → {new : List (List run.Cell)} → {cells : List (List Cell)} → SameBlock t lengths new cells → (os : List run.Object) (s : Stack) → ShowsAmong t lengths os s
    → ShowsAmong t lengths (os ++ map memory.live_object new) (entered cells s)
many_more t lengths no_block os s shows = subst (λ (ps : List run.Object). ShowsAmong t lengths ps s) (sym (append_nil os)) shows where
  append_nil : (ps : List run.Object) → ps ++ [] ≡ ps
  append_nil [] = refl
  append_nil (p ∷ ps) = ap (λ (rest : List run.Object). p ∷ rest) (append_nil ps)
many_more t lengths (more_block {c} {d} {cs} {ds} same rest) os s shows =
    subst (λ (ps : List run.Object). ShowsAmong t lengths ps (entered ds (entered (d ∷ []) s))) (append_assoc os (memory.live_object c ∷ []) (map memory.live_object cs))
    (many_more t lengths rest (os ++ memory.live_object c ∷ []) (entered (d ∷ []) s) (one_more t lengths os s shows c d same))

pub blocks_show : (t : Tables) (os : List run.Object) (s : Stack) (new : List (List run.Cell)) (cells : List (List Cell)) → Shows t os s → SameBlock t (lengths_of (os ++ map memory.live_object new)) new cells
    → Shows t (os ++ map memory.live_object new) (entered cells s)
blocks_show t os s new cells shows same =
    many_more t (lengths_of (os ++ map memory.live_object new)) same os s
    (subst (λ (ns : List ℕ). ShowsAmong t ns os s) (sym (map-append (λ (o : run.Object). length o.cells) os (map memory.live_object new)))
    (record { next = shows.next; objects = λ m. stays_object t (lengths_of os) (lengths_of (map memory.live_object new)) (shows.objects m) }))

-- ---- objects that die

dead_lengths : (os : List run.Object) → lengths_of (map memory.dead os) ≡ lengths_of os
dead_lengths [] = refl
dead_lengths (x ∷ os) = ap (λ (ns : List ℕ). length x.cells ∷ ns) (dead_lengths os)

pub leaving_keeps_lengths : (os : List run.Object) (n : ℕ) → lengths_of (take n os ++ map memory.dead (drop n os)) ≡ lengths_of os
leaving_keeps_lengths os zero = dead_lengths os
leaving_keeps_lengths [] (suc n) = refl
leaving_keeps_lengths (x ∷ os) (suc n) = ap (λ (ns : List ℕ). length x.cells ∷ ns) (leaving_keeps_lengths os n)

length_dead : (os : List run.Object) → length (map memory.dead os) ≡ length os
length_dead [] = refl
length_dead (x ∷ os) = ap suc (length_dead os)

length_leaving : (os : List run.Object) (n : ℕ) → length (take n os ++ map memory.dead (drop n os)) ≡ length os
length_leaving os zero = length_dead os
length_leaving [] (suc n) = refl
length_leaving (x ∷ os) (suc n) = ap suc (length_leaving os n)

dead_at : (os : List run.Object) (m : ℕ) → memory.live_cells (slice_get (map memory.dead os) m) ≡ None
dead_at [] m = refl
dead_at (x ∷ os) zero = refl
dead_at (x ∷ os) (suc m) = dead_at os m

stays_at : (os : List run.Object) (n m : ℕ) → m < n → slice_get (take n os ++ map memory.dead (drop n os)) m ≡ slice_get os m
stays_at os zero m h = absurd (omega arith)
stays_at [] (suc n) m h = refl
stays_at (x ∷ os) (suc n) zero h = refl
stays_at (x ∷ os) (suc n) (suc m) h = stays_at os n m (omega arith)

dies_at : (os : List run.Object) (n m : ℕ) → n ≤ m → memory.live_cells (slice_get (take n os ++ map memory.dead (drop n os)) m) ≡ None
dies_at os zero m h = dead_at os m
dies_at [] (suc n) m h = refl
dies_at (x ∷ os) (suc n) zero h = absurd (omega arith)
dies_at (x ∷ os) (suc n) (suc m) h = dies_at os n m (omega arith)

kept_live : (live : List Object) (n m : ℕ) → m < n → object_of m (filter (λ x. nat_lt x.number n) live) ≡ object_of m live
kept_live [] n m h = refl
kept_live (x ∷ live) n m h = by (nat_lt x.number n) refl (x.number == m) refl (kept_live live n m h) where
  by : (b : Bool) → nat_lt x.number n ≡ b → (c : Bool) → (x.number == m) ≡ c → object_of m (filter (λ x. nat_lt x.number n) live) ≡ object_of m live
      → object_of m (cond b (x ∷ filter (λ x. nat_lt x.number n) live) (filter (λ x. nat_lt x.number n) live)) ≡ cond c (Some x) (object_of m live)
  by true t c u rest = ap (λ (a : Bool). cond a (Some x) (object_of m (filter (λ x. nat_lt x.number n) live))) u ∙ ap (λ (o : Option Object). cond c (Some x) o) rest
  by false t true u rest = let same : x.number ≡ m = grind (arith, nat_tests) in let large : n ≤ x.number = grind (arith, nat_tests) in absurd (omega arith)
  by false t false u rest = rest

gone_live : (live : List Object) (n m : ℕ) → n ≤ m → object_of m (filter (λ x. nat_lt x.number n) live) ≡ None
gone_live [] n m h = refl
gone_live (x ∷ live) n m h = by (nat_lt x.number n) refl (x.number == m) refl (gone_live live n m h) where
  by : (b : Bool) → nat_lt x.number n ≡ b → (c : Bool) → (x.number == m) ≡ c → object_of m (filter (λ x. nat_lt x.number n) live) ≡ None
      → object_of m (cond b (x ∷ filter (λ x. nat_lt x.number n) live) (filter (λ x. nat_lt x.number n) live)) ≡ None
  by true t true u rest = let same : x.number ≡ m = grind (arith, nat_tests) in let small : x.number < n = grind (arith, nat_tests) in absurd (omega arith)
  by true t false u rest = ap (λ (a : Bool). cond a (Some x) (object_of m (filter (λ x. nat_lt x.number n) live))) u ∙ rest
  by false t c u rest = rest

pub leaving_shows : (t : Tables) (os : List run.Object) (s : Stack) (n : ℕ) → Shows t os s → Shows t (take n os ++ map memory.dead (drop n os)) (left n s)
leaving_shows t os s n shows =
    subst (λ (ns : List ℕ). ShowsAmong t ns (take n os ++ map memory.dead (drop n os)) (left n s)) (sym (leaving_keeps_lengths os n))
    (record { next = shows.next ∙ sym (length_leaving os n); objects = λ m. at m (cases_lt m n) })
  where
    at : (m : ℕ) → (m < n) ⊎ (n ≤ m) → SameObject t (lengths_of os) (memory.live_cells (slice_get (take n os ++ map memory.dead (drop n os)) m)) (cells_in (object_of m (filter (λ x. nat_lt x.number n) s.live)))
    at m (inl h) = object_of_both t (lengths_of os) (ap memory.live_cells (stays_at os n m h)) (ap cells_in (kept_live s.live n m h)) (shows.objects m)
    at m (inr h) = object_of_both t (lengths_of os) (dies_at os n m h) (ap cells_in (gone_live s.live n m h)) no_object
