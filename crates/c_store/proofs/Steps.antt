-- What each call leaves.
use Rattle.std.proofs.Common.{◌≡◌, ℕ, zero, suc, ◌+◌, ◌-◌, ◌<◌, ◌≤◌, Bool, true, false, not, List, [], ◌∷◌, ◌++◌, Option, Some, None, Result, Ok, Err, length, map, take, drop, replicate, refl, sym, ap, ◌∙◌, subst, cond, All, OnOk, OnErr, arith}
use Rattle.std.specs.Prelude.{slice_get, slice_set, find, filter, nat_lt, ◌==◌, is_some}
use Rattle.std.specs.List.{AllByRecursion}
use Rattle.std.proofs.lemmas.Bool.Decides.{nat_tests}
use Rattle.std.proofs.lemmas.List.{length-take-le, map-append, map-set, length-map}
use Rattle.std.proofs.lemmas.List.Elements.{All-head, All-tail}
use Rattle.std.proofs.lemmas.Option.{slice_get-map, slice_get-get_or}
use Rattle.std.specs.Option.{option_map}
use Rattle.std.proofs.Common.{length-append}
use Rattle.std.proofs.Math.ListN.{get_or}
use Rattle.c_store.specs.declared.live.Live.{Live}
use Rattle.c_store.specs.declared.kind.Kind.{Kind}
use Rattle.c_store.specs.declared.act.Act.TheVariants.{OutsideObject, OtherKind}
use Rattle.c_store.specs.declared.value.Pointer.{Pointer}
use Rattle.c_store.specs.declared.value.Value as rust
use Rattle.c_store.specs.declared.value.Value.TheVariants as value
use Rattle.c_store.specs.declared.value.Cell as rust_cell
use Rattle.c_store.specs.declared.value.Cell.TheVariants as cell
use Rattle.c_store.specs.Values.{Value, Cell, Unset, Point, Object, Stack}
use Rattle.c_store.specs.Words.{holds_no_other, cell_at, write_cell, put_cell, stored, with_cell, entered, left, is_dead, unless}
use Rattle.c_store.specs.Shown.{value_of, cell_of}
use Rattle.c_store.specs.Live.{index_of, Ascending, InRow, NumbersBelow, IsHeld, OldestBelow, IsAdded}
use Rattle.c_store.specs.Inside.{objects_of}
use Rattle.c_store.proofs.Rows.{picked, read, is_held, index_within, written, appended, row_push, ascending_push, below_push, cut, row_cut, ascending_cut, below_cut, first_within, oldest_kept, length_objects}

abbrev pub StackOf : ℕ → List Live → List rust_cell.Cell → Stack
StackOf next xs cells = record { next = next; live = objects_of xs (map cell_of cells) }

abbrev stack : ℕ → List Object → Stack
stack n os = record { next = n; live = os }

stacks : (m n : ℕ) (os ps : List Object) → m ≡ n → os ≡ ps → stack m os ≡ stack n ps
stacks m n os ps e f = cc

object_is : (m n : ℕ) (c d : List Cell) → m ≡ n → c ≡ d → (let o : Object = record { number = m; cells = c } in o) ≡ record { number = n; cells = d }
object_is m n c d e f = cc

-- ---- lists

take_long : {X : Type 0} → (xs : List X) (n : ℕ) → length xs ≤ n → take n xs ≡ xs
take_long [] zero h = refl
take_long [] (suc n) h = refl
take_long (x ∷ xs) zero h = absurd (omega arith)
take_long (x ∷ xs) (suc n) h = ap (λ ys. x ∷ ys) (take_long xs n (omega arith))

take_front : {X : Type 0} → (xs ys : List X) → take (length xs) (xs ++ ys) ≡ xs
take_front [] ys = refl
take_front (x ∷ xs) ys = ap (λ zs. x ∷ zs) (take_front xs ys)

map_take : {X Y : Type 0} → (f : X → Y) → (n : ℕ) (xs : List X) → map f (take n xs) ≡ take n (map f xs)
map_take f zero xs = refl
map_take f (suc n) [] = refl
map_take f (suc n) (x ∷ xs) = ap (λ ys. f x ∷ ys) (map_take f n xs)

pub map_unset : (n : ℕ) → map cell_of (replicate n cell.Unset) ≡ replicate n Unset
map_unset zero = refl
map_unset (suc n) = ap (λ cs. Unset ∷ cs) (map_unset n)

pub length_unset : (n : ℕ) → length (replicate n cell.Unset) ≡ n
length_unset zero = refl
length_unset (suc n) = ap suc (length_unset n)

pub grown_unset : (cells whole : List rust_cell.Cell) (end n size : ℕ) → whole ≡ take end cells ++ replicate (end - size) cell.Unset → end ≡ length cells + n → size ≡ length cells → whole ≡ cells ++ replicate n cell.Unset
grown_unset cells whole end n size e f g =
    let long : length cells ≤ end = omega arith in
    let count : end - size ≡ n = omega arith in
    e ∙ (ap (λ front. front ++ replicate (end - size) cell.Unset) (take_long cells end long) ∙ ap (λ (m : ℕ). cells ++ replicate m cell.Unset) count)

-- ---- a new object

-- one object more, or none, of cells that were put behind the others
module _ (xs ys : List Live) (cells more whole new : List rust_cell.Cell) (next later first n : ℕ) (held : IsHeld xs (length cells) next) (grown : whole ≡ cells ++ more) (count : length more ≡ n) (place : first ≡ length cells) where
  pub held_more : {T E : Type 0} → (r : Result T E) → OnOk r (IsAdded xs ys next first n) → OnOk r (later ≡ next + 1) → OnOk r (new ≡ whole) → OnErr r (ys ≡ xs) → OnErr r (later ≡ next) → OnErr r (new ≡ take first whole) → IsHeld ys (length new) later
  held_more (Ok t) added counts same e f g =
      let last : Live = added.last in
      let least : next ≤ last.number = omega (arith, added.number_is) in
      let below : last.number < later = omega (arith, added.number_is) in
      let more_is : next ≤ later = omega arith in
      let size : length cells + last.length ≡ length new = omega (arith, added.length_is, ap length same, ap length grown, length-append cells more) in
      record {
        ascending = subst (λ zs. Ascending zs 0) (sym added.behind) (ascending_push xs last 0 next held.ascending held.below (omega arith) least);
        row = subst (λ (zs : List Live). InRow zs 0 (length new)) (sym added.behind) (subst (λ (m : ℕ). InRow (xs ++ last ∷ []) 0 m) size (row_push xs last 0 (length cells) held.row (added.first_is ∙ place)));
        below = subst (λ zs. NumbersBelow zs later) (sym added.behind) (below_push xs last next later held.below more_is below);
      }
  held_more (Err x) a b d e f g =
      let size : length cells ≡ length new = sym (ap length (g ∙ (ap (λ (m : ℕ). take m whole) place ∙ (ap (take (length cells)) grown ∙ take_front cells more)))) in
      record {
        ascending = subst (λ zs. Ascending zs 0) (sym e) held.ascending;
        row = subst (λ zs. InRow zs 0 (length new)) (sym e) (subst (λ (m : ℕ). InRow xs 0 m) size held.row);
        below = subst (λ zs. NumbersBelow zs later) (sym e) (subst (λ (m : ℕ). NumbersBelow xs m) (sym f) held.below);
      }

  pub shown_more : {T E : Type 0} → (plain : List Cell) (s : Stack) → map cell_of more ≡ plain → StackOf next xs cells ≡ s → (r : Result T E) → OnOk r (IsAdded xs ys next first n) → OnOk r (later ≡ next + 1) → OnOk r (new ≡ whole)
      → OnOk r (StackOf later ys new ≡ entered (plain ∷ []) s)
  shown_more plain s e v (Err x) a b d = tt
  shown_more plain s e v (Ok t) added counts same =
      let last : Live = added.last in
      let row : InRow xs 0 (length (map cell_of cells)) = subst (λ (m : ℕ). InRow xs 0 m) (sym (length-map cells cell_of)) held.row in
      let size : last.length ≡ length (map cell_of more) = added.length_is ∙ (sym count ∙ sym (length-map more cell_of)) in
      let all : map cell_of new ≡ map cell_of cells ++ map cell_of more = ap (map cell_of) (same ∙ grown) ∙ map-append cell_of cells more in
      let live : objects_of ys (map cell_of new) ≡ objects_of xs (map cell_of cells) ++ record { number = next; cells = plain } ∷ [] =
      ap (λ zs. objects_of zs (map cell_of new)) added.behind
      ∙ (ap (objects_of (xs ++ last ∷ [])) all
      ∙ (appended (map cell_of cells) (map cell_of more) last xs 0 row size
      ∙ ap (λ (o : Object). objects_of xs (map cell_of cells) ++ o ∷ []) (object_is last.number next (map cell_of more) plain added.number_is e)))
      in
      let number : later ≡ suc next = omega arith in
      stacks later (suc next) (objects_of ys (map cell_of new)) (objects_of xs (map cell_of cells) ++ record { number = next; cells = plain } ∷ []) number live
      ∙ ap (λ (z : Stack). entered (plain ∷ []) z) v

-- ---- objects that go

module _ (xs ys : List Live) (cells new : List rust_cell.Cell) (next n : ℕ) (x : Live) (held : IsHeld xs (length cells) next) (there : slice_get xs n ≡ Some x) (oldest : ys ≡ take n xs) (short : new ≡ take x.first cells) where
  pub held_less : IsHeld ys (length new) next
  held_less =
      let within : x.first ≤ length cells = first_within xs 0 (length cells) n x held.row there in
      let size : x.first ≡ length new = sym (ap length short ∙ length-take-le x.first cells within) in
      record {
        ascending = subst (λ zs. Ascending zs 0) (sym oldest) (ascending_cut xs 0 n held.ascending);
        row = subst (λ zs. InRow zs 0 (length new)) (sym oldest) (subst (λ (m : ℕ). InRow (take n xs) 0 m) size (row_cut xs 0 (length cells) n x held.row there));
        below = subst (λ zs. NumbersBelow zs next) (sym oldest) (below_cut xs next n held.below);
      }

  pub shown_less : (number : ℕ) (s : Stack) → OldestBelow xs number n → StackOf next xs cells ≡ s → StackOf next ys new ≡ left number s
  shown_less number s o v =
      let live : objects_of ys (map cell_of new) ≡ filter (λ o. nat_lt o.number number) (objects_of xs (map cell_of cells)) =
      ap (λ zs. objects_of zs (map cell_of new)) oldest
      ∙ (ap (λ zs. objects_of (take n xs) (map cell_of zs)) short
      ∙ (ap (objects_of (take n xs)) (map_take cell_of x.first cells)
      ∙ (cut (map cell_of cells) xs 0 (length cells) n x held.row there ∙ sym (oldest_kept xs (map cell_of cells) number n held.ascending o))))
      in
      stacks next next (objects_of ys (map cell_of new)) (filter (λ o. nat_lt o.number number) (objects_of xs (map cell_of cells))) refl live ∙ ap (left number) v

-- nothing goes
pub shown_all : (xs : List Live) (cells : List rust_cell.Cell) (next n number : ℕ) (s : Stack) → IsHeld xs (length cells) next → length xs ≤ n → OldestBelow xs number n → StackOf next xs cells ≡ s → s ≡ left number s
shown_all xs cells next n number s held all o v =
    let size : length (objects_of xs (map cell_of cells)) ≤ n = subst (λ (m : ℕ). m ≤ n) (sym (length_objects xs (map cell_of cells))) all in
    let live : objects_of xs (map cell_of cells) ≡ filter (λ o. nat_lt o.number number) (objects_of xs (map cell_of cells)) =
    sym (oldest_kept xs (map cell_of cells) number n held.ascending o ∙ take_long (objects_of xs (map cell_of cells)) n size)
    in
    sym v ∙ (stacks next next (objects_of xs (map cell_of cells)) (filter (λ o. nat_lt o.number number) (objects_of xs (map cell_of cells))) refl live ∙ ap (left number) v)

filter_numbers : (os : List Object) (number : ℕ) → AllByRecursion (λ o. o.number < number) (filter (λ o. nat_lt o.number number) os)
filter_numbers [] number = tt
filter_numbers (o ∷ os) number = by (nat_lt o.number number) refl (filter_numbers os number) where
  by : (b : Bool) → nat_lt o.number number ≡ b → AllByRecursion (λ o. o.number < number) (filter (λ o. nat_lt o.number number) os) → AllByRecursion (λ o. o.number < number) (cond b (o ∷ filter (λ o. nat_lt o.number number) os) (filter (λ o. nat_lt o.number number) os))
  by true t rest = (grind (arith, nat_tests), rest)
  by false t rest = rest

numbers_of : (xs : List Live) (cells : List Cell) (number : ℕ) → AllByRecursion (λ o. o.number < number) (objects_of xs cells) → NumbersBelow xs number
numbers_of [] cells number h = tt
numbers_of (x ∷ xs) cells number h = (h.0, numbers_of xs (drop x.length cells) number h.1)

-- the number from which objects went is free
pub held_before : (xs : List Live) (cells : List rust_cell.Cell) (next number : ℕ) (s t : Stack) → IsHeld xs (length cells) next → StackOf next xs cells ≡ t → t ≡ left number s → IsHeld xs (length cells) number
held_before xs cells next number s t held v gone =
    let live : objects_of xs (map cell_of cells) ≡ filter (λ o. nat_lt o.number number) s.live = ap (λ (z : Stack). z.live) (v ∙ gone) in
    record {
      ascending = held.ascending;
      row = held.row;
      below = numbers_of xs (map cell_of cells) number (subst (λ os. AllByRecursion (λ o. o.number < number) os) (sym live) (filter_numbers s.live number));
    }

pub filter_below : (os : List Object) (n : ℕ) → All (λ o. o.number < n) os → filter (λ o. nat_lt o.number n) os ≡ os
filter_below [] n h = refl
filter_below (o ∷ os) n h =
    let below : o.number < n = All-head (λ (p : Object). p.number < n) o os h in
    by (nat_lt o.number n) (let t : nat_lt o.number n ≡ true = grind (arith, nat_tests) in t) (filter_below os n (All-tail (λ (p : Object). p.number < n) o os h))
  where
    by : (b : Bool) → b ≡ true → filter (λ o. nat_lt o.number n) os ≡ os → cond b (o ∷ filter (λ o. nat_lt o.number n) os) (filter (λ o. nat_lt o.number n) os) ≡ o ∷ os
    by true t rest = ap (λ ps. o ∷ ps) rest
    by false t rest = cc

-- an object from a number on goes again
pub filter_above : (os : List Object) (o : Object) (n : ℕ) → n ≤ o.number → filter (λ o. nat_lt o.number n) (os ++ o ∷ []) ≡ filter (λ o. nat_lt o.number n) os
filter_above [] o n h = by (nat_lt o.number n) (let t : nat_lt o.number n ≡ false = grind (arith, nat_tests) in t) where
  by : (b : Bool) → b ≡ false → cond b (o ∷ []) [] ≡ (let none : List Object = [] in none)
  by true t = cc
  by false t = refl
filter_above (p ∷ os) o n h = ap (λ rest. cond (nat_lt p.number n) (p ∷ rest) rest) (filter_above os o n h)

-- what was made goes again
pub forgotten : (new s t u : Stack) (number : ℕ) → new ≡ record (left number s) { next = number } → s ≡ t → filter (λ x. nat_lt x.number number) t.live ≡ u.live → number ≡ u.next → new ≡ u
forgotten new s t u number e f g h =
    e ∙ stacks number u.next (filter (λ x. nat_lt x.number number) s.live) u.live h (ap (λ (z : Stack). filter (λ x. nat_lt x.number number) z.live) f ∙ g)

-- ---- accesses

-- the cell to which a pointer points
module _ (xs : List Live) (cells : List rust_cell.Cell) (next : ℕ) (s : Stack) (p : Pointer) (held : IsHeld xs (length cells) next) (v : StackOf next xs cells ≡ s) where
  picked_at : cell_at [] s (Point p.object p.length p.offset) ≡ picked (map cell_of cells) (index_of p.offset (find (λ x. x.number == p.object) xs))
  picked_at =
      ap (λ (z : Stack). cell_at [] z (Point p.object p.length p.offset)) (sym v)
      ∙ read (map cell_of cells) xs 0 (length cells) p.object p.offset held.row

  pub none_at : (r : Option ℕ) → r ≡ index_of p.offset (find (λ x. x.number == p.object) xs) → r ≡ None → cell_at [] s (Point p.object p.length p.offset) ≡ None
  none_at r e f = picked_at ∙ ap (picked (map cell_of cells)) (sym e ∙ f)

  pub some_at : (r : Option ℕ) (i : ℕ) (c : rust_cell.Cell) → r ≡ index_of p.offset (find (λ x. x.number == p.object) xs) → r ≡ Some i → c ≡ get_or cells i c → i < length cells → cell_at [] s (Point p.object p.length p.offset) ≡ Some (cell_of c)
  some_at r i c e f is within =
      let there : slice_get cells i ≡ Some c = slice_get-get_or cells i c within ∙ ap Some (sym is) in
      picked_at ∙ (ap (picked (map cell_of cells)) (sym e ∙ f) ∙ (slice_get-map cell_of cells i ∙ ap (option_map cell_of) there))

  pub is_within : (r : Option ℕ) (i : ℕ) → r ≡ index_of p.offset (find (λ x. x.number == p.object) xs) → r ≡ Some i → i < length cells
  is_within r i e f = index_within xs 0 (length cells) p.object p.offset i held.row (sym e ∙ f)

  pub put_outside : (kind : Kind) (w : Value) (r : Option ℕ) → r ≡ index_of p.offset (find (λ x. x.number == p.object) xs) → r ≡ None → stored [] s kind (Point p.object p.length p.offset) w ≡ Err OutsideObject
  put_outside kind w r e f = ap (λ (m : Option Cell). write_cell kind m s (Point p.object p.length p.offset) w) (none_at r e f)

  pub put_other : (kind : Kind) (w : Value) (c : Cell) → cell_at [] s (Point p.object p.length p.offset) ≡ Some c → holds_no_other kind c ≡ false → stored [] s kind (Point p.object p.length p.offset) w ≡ Err OtherKind
  put_other kind w c e f =
      ap (λ (m : Option Cell). write_cell kind m s (Point p.object p.length p.offset) w) e
      ∙ ap (λ (b : Bool). unless b OtherKind (put_cell s (Point p.object p.length p.offset) w)) f

  pub put_there : (kind : Kind) (w : rust.Value) (c : Cell) (r : Option ℕ) (i : ℕ) (new : List rust_cell.Cell) → cell_at [] s (Point p.object p.length p.offset) ≡ Some c → holds_no_other kind c ≡ true
      → r ≡ index_of p.offset (find (λ x. x.number == p.object) xs) → r ≡ Some i → new ≡ slice_set cells i (cell.Holds w) → stored [] s kind (Point p.object p.length p.offset) (value_of w) ≡ Ok (StackOf next xs new)
  put_there kind w c r i new e t index some write =
      let live : objects_of xs (map cell_of new) ≡ map (with_cell p.object p.offset (value_of w)) (objects_of xs (map cell_of cells)) =
      ap (λ zs. objects_of xs (map cell_of zs)) write
      ∙ (ap (objects_of xs) (map-set cell_of cells i (cell.Holds w))
      ∙ written (map cell_of cells) (value_of w) xs 0 0 (length cells) p.object p.offset i held.ascending held.row (sym index ∙ some))
      in
      ap (λ (m : Option Cell). write_cell kind m s (Point p.object p.length p.offset) (value_of w)) e
      ∙ (ap (λ (b : Bool). unless b OtherKind (put_cell s (Point p.object p.length p.offset) (value_of w))) t
      ∙ (ap (λ (z : Stack). put_cell z (Point p.object p.length p.offset) (value_of w)) (sym v)
      ∙ ap Ok (stacks next next (map (with_cell p.object p.offset (value_of w)) (objects_of xs (map cell_of cells))) (objects_of xs (map cell_of new)) refl (sym live))))

  -- whether a pointer points to a dead object
  pub dead_is : (w : rust.Value) (o : Option Live) (b : Bool) → w ≡ value.Point p → o ≡ find (λ x. x.number == p.object) xs → is_some o ≡ not b → b ≡ is_dead s (value_of w)
  dead_is w o b e f g =
      twice b ∙ (sym (ap not g) ∙ (ap (λ (m : Option Live). not (is_some m)) f ∙ (sym (ap not (is_held xs (map cell_of cells) p.object))
      ∙ (ap (λ (z : Stack). is_dead z (Point p.object p.length p.offset)) v ∙ ap (λ (z : rust.Value). is_dead s (value_of z)) (sym e)))))
    where
      twice : (a : Bool) → a ≡ not (not a)
      twice true = refl
      twice false = refl
