-- Objects whose cells stand in a row.
use Rattle.std.proofs.Common.{◌≡◌, ℕ, zero, suc, ◌+◌, ◌-◌, ◌<◌, ◌≤◌, Bool, true, false, List, [], ◌∷◌, ◌++◌, Option, Some, None, length, map, take, drop, refl, sym, ap, ◌∙◌, cond, if◌then◌else◌, arith}
use Rattle.std.specs.Prelude.{slice_get, slice_set, find, filter, nat_lt, ◌==◌, is_some}
use Rattle.std.specs.List.{AllByRecursion}
use Rattle.std.proofs.lemmas.Bool.Decides.{nat_tests}
use Rattle.std.proofs.lemmas.Option.{slice_get_past}
use Rattle.std.proofs.lemmas.List.{length-take, take-set-le, drop-set-lt, drop-set-add, take-append-le, drop-append-le, drop-take}
use Rattle.std.proofs.Common.{length-drop}
use Rattle.std.proofs.Math.Seq.{drop-drop, take-take, take-set-lt, drop-append_seam, take-length}
use Rattle.c_store.specs.declared.live.Live.{Live}
use Rattle.c_store.specs.Values.{Value, Cell, Holds, Object}
use Rattle.c_store.specs.Words.{cells_in, cell_in, with_cell}
use Rattle.c_store.specs.Live.{index_of, Ascending, InRow, NumbersBelow, OldestBelow}
use Rattle.c_store.specs.Inside.{objects_of}

-- ---- lists

pub get_take : (l : List Cell) (n k : ℕ) → k < n → slice_get (take n l) k ≡ slice_get l k
get_take l zero k h = absurd (omega arith)
get_take [] (suc n) k h = refl
get_take (x ∷ l) (suc n) zero h = refl
get_take (x ∷ l) (suc n) (suc k) h = get_take l n k (omega arith)

get_take_past : (l : List Cell) (n k : ℕ) → n ≤ k → slice_get (take n l) k ≡ None
get_take_past l n k h = let short : length (take n l) ≤ k = omega (arith, length-take n l) in slice_get_past (take n l) k short

get_drop : (l : List Cell) (n k : ℕ) → slice_get (drop n l) k ≡ slice_get l (n + k)
get_drop l zero k = ap (λ (m : ℕ). slice_get l m) (omega arith)
get_drop [] (suc n) k = refl
get_drop (x ∷ l) (suc n) k = get_drop l n k ∙ ap (λ (m : ℕ). slice_get (x ∷ l) m) (let e : suc (n + k) ≡ suc n + k = omega arith in e)

-- ---- indices

-- an index in an object's own cells
own : (x : Live) (at k i : ℕ) → x.first ≡ at → index_of k (Some x) ≡ Some i → (i ≡ at + k) × (k < x.length)
own x at k i first h = by (nat_lt k x.length) refl h where
  by : (b : Bool) → nat_lt k x.length ≡ b → (if b then Some (x.first + k) else None) ≡ Some i → (i ≡ at + k) × (k < x.length)
  by true t e =
      let same : x.first + k ≡ i = cc in
      let below : k < x.length = grind (arith, nat_tests) in (omega arith, below)
  by false t e = cc

pub row_end : (xs : List Live) (at end : ℕ) → InRow xs at end → at ≤ end
row_end [] at end row = omega arith
row_end (x ∷ xs) at end row = let rest : at + x.length ≤ end = row_end xs (at + x.length) end row.1 in omega arith

at_least : (xs : List Live) (at end n k i : ℕ) → InRow xs at end → index_of k (find (λ x. x.number == n) xs) ≡ Some i → at ≤ i
at_least [] at end n k i row h = cc
at_least (x ∷ xs) at end n k i row h = by (x.number == n) h (at_least xs (at + x.length) end n k i row.1) where
  by : (b : Bool) → index_of k (cond b (Some x) (find (λ y. y.number == n) xs)) ≡ Some i → (index_of k (find (λ y. y.number == n) xs) ≡ Some i → at + x.length ≤ i) → at ≤ i
  by true e rest = let o : (i ≡ at + k) × (k < x.length) = own x at k i row.0 e in omega (arith, o.0)
  by false e rest = let more : at + x.length ≤ i = rest e in omega arith

-- the index of a cell is one of the cells
pub index_within : (xs : List Live) (at end n k i : ℕ) → InRow xs at end → index_of k (find (λ x. x.number == n) xs) ≡ Some i → i < end
index_within [] at end n k i row h = cc
index_within (x ∷ xs) at end n k i row h = by (x.number == n) h (index_within xs (at + x.length) end n k i row.1) where
  by : (b : Bool) → index_of k (cond b (Some x) (find (λ y. y.number == n) xs)) ≡ Some i → (index_of k (find (λ y. y.number == n) xs) ≡ Some i → i < end) → i < end
  by true e rest =
      let o : (i ≡ at + k) × (k < x.length) = own x at k i row.0 e in
      let last : at + x.length ≤ end = row_end xs (at + x.length) end row.1 in omega (arith, o.0, o.1)
  by false e rest = rest e

-- ---- reads

abbrev pub picked : List Cell → Option ℕ → Option Cell
picked whole None = None
picked whole (Some i) = slice_get whole i

own_read : (whole : List Cell) (x : Live) (at k : ℕ) → x.first ≡ at → slice_get (take x.length (drop at whole)) k ≡ picked whole (index_of k (Some x))
own_read whole x at k first = by (nat_lt k x.length) refl where
  by : (b : Bool) → nat_lt k x.length ≡ b → slice_get (take x.length (drop at whole)) k ≡ picked whole (if b then Some (x.first + k) else None)
  by true t =
      let below : k < x.length = grind (arith, nat_tests) in
      get_take (drop at whole) x.length k below ∙ (get_drop whole at k ∙ ap (λ (m : ℕ). slice_get whole (m + k)) (sym first))
  by false t = let past : x.length ≤ k = grind (arith, nat_tests) in get_take_past (drop at whole) x.length k past

-- a cell of an object is the one at its index
pub read : (whole : List Cell) (xs : List Live) (at end n k : ℕ) → InRow xs at end → cell_in (cells_in (find (λ o. o.number == n) (objects_of xs (drop at whole)))) k ≡ picked whole (index_of k (find (λ x. x.number == n) xs))
read whole [] at end n k row = refl
read whole (x ∷ xs) at end n k row =
    by (x.number == n) (ap (λ (l : List Cell). cell_in (cells_in (find (λ o. o.number == n) (objects_of xs l))) k) (drop-drop x.length at whole) ∙ read whole xs (at + x.length) end n k row.1)
  where
    by : (b : Bool) → cell_in (cells_in (find (λ o. o.number == n) (objects_of xs (drop x.length (drop at whole))))) k ≡ picked whole (index_of k (find (λ y. y.number == n) xs))
        → cell_in (cells_in (cond b (Some (record { number = x.number; cells = take x.length (drop at whole) })) (find (λ o. o.number == n) (objects_of xs (drop x.length (drop at whole)))))) k
        ≡ picked whole (index_of k (cond b (Some x) (find (λ y. y.number == n) xs)))
    by true rest = own_read whole x at k row.0
    by false rest = rest

-- an object is there where it is held
pub is_held : (xs : List Live) (cells : List Cell) (n : ℕ) → is_some (find (λ o. o.number == n) (objects_of xs cells)) ≡ is_some (find (λ x. x.number == n) xs)
is_held [] cells n = refl
is_held (x ∷ xs) cells n = by (x.number == n) (is_held xs (drop x.length cells) n) where
  by : (b : Bool) → is_some (find (λ o. o.number == n) (objects_of xs (drop x.length cells))) ≡ is_some (find (λ y. y.number == n) xs)
      → is_some (cond b (Some (record { number = x.number; cells = take x.length cells })) (find (λ o. o.number == n) (objects_of xs (drop x.length cells)))) ≡ is_some (cond b (Some x) (find (λ y. y.number == n) xs))
  by true rest = refl
  by false rest = rest

-- ---- writes

apart : (a n : ℕ) → n < a → (a == n) ≡ false
apart a n h = grind (arith, nat_tests)

-- objects of larger numbers stay
others : (xs : List Live) (cells : List Cell) (low n k : ℕ) (v : Value) → Ascending xs low → n < low → map (with_cell n k v) (objects_of xs cells) ≡ objects_of xs cells
others [] cells low n k v up h = refl
others (x ∷ xs) cells low n k v up h =
    let larger : n < x.number = omega (arith, up.0) in
    by (x.number == n) (apart x.number n larger) (others xs (drop x.length cells) (suc x.number) n k v up.1 (omega arith))
  where
    by : (b : Bool) → b ≡ false → map (with_cell n k v) (objects_of xs (drop x.length cells)) ≡ objects_of xs (drop x.length cells)
        → (if b then record { number = x.number; cells = slice_set (take x.length cells) k (Holds v) } else record { number = x.number; cells = take x.length cells }) ∷ map (with_cell n k v) (objects_of xs (drop x.length cells))
        ≡ record { number = x.number; cells = take x.length cells } ∷ objects_of xs (drop x.length cells)
    by true f rest = cc
    by false f rest = ap (λ (os : List Object). record { number = x.number; cells = take x.length cells } ∷ os) rest

abbrev ObjectAnd : ℕ → List Cell → List Object → List Object
ObjectAnd number cells os = record { number = number; cells = cells } ∷ os

both : (number : ℕ) (c d : List Cell) (os ps : List Object) → c ≡ d → os ≡ ps → ObjectAnd number c os ≡ ObjectAnd number d ps
both number c d os ps e f = cc

-- a write behind so many cells leaves them
before : (whole : List Cell) (at len i : ℕ) (c : Cell) → at + len ≤ i → take len (drop at (slice_set whole i c)) ≡ take len (drop at whole)
before whole at len i c h =
    let there : i ≡ at + (i - at) = omega arith in
    let behind : len ≤ i - at = omega arith in
    ap (λ (j : ℕ). take len (drop at (slice_set whole j c))) there ∙ (ap (take len) (drop-set-add at whole (i - at) c) ∙ take-set-le len (drop at whole) (i - at) c behind)

-- a write to a cell of an object
pub written : (whole : List Cell) (v : Value) (xs : List Live) (at low end n k i : ℕ) → Ascending xs low → InRow xs at end → index_of k (find (λ x. x.number == n) xs) ≡ Some i
    → objects_of xs (drop at (slice_set whole i (Holds v))) ≡ map (with_cell n k v) (objects_of xs (drop at whole))
written whole v [] at low end n k i up row h = cc
written whole v (x ∷ xs) at low end n k i up row h =
    by (x.number == n) refl h (written whole v xs (at + x.length) (suc x.number) end n k i up.1 row.1)
  where
    by : (b : Bool) → (x.number == n) ≡ b → index_of k (cond b (Some x) (find (λ y. y.number == n) xs)) ≡ Some i
        → (index_of k (find (λ y. y.number == n) xs) ≡ Some i → objects_of xs (drop (at + x.length) (slice_set whole i (Holds v))) ≡ map (with_cell n k v) (objects_of xs (drop (at + x.length) whole)))
        → ObjectAnd x.number (take x.length (drop at (slice_set whole i (Holds v)))) (objects_of xs (drop x.length (drop at (slice_set whole i (Holds v)))))
        ≡ (if b then record { number = x.number; cells = slice_set (take x.length (drop at whole)) k (Holds v) } else record { number = x.number; cells = take x.length (drop at whole) }) ∷ map (with_cell n k v) (objects_of xs (drop x.length (drop at whole)))
    by true t e rest =
        let o : (i ≡ at + k) × (k < x.length) = own x at k i row.0 e in
        let same : x.number ≡ n = grind (arith, nat_tests) in
        let here : drop at (slice_set whole i (Holds v)) ≡ slice_set (drop at whole) k (Holds v) = ap (λ (j : ℕ). drop at (slice_set whole j (Holds v))) o.0 ∙ drop-set-add at whole k (Holds v) in
        let front : take x.length (drop at (slice_set whole i (Holds v))) ≡ slice_set (take x.length (drop at whole)) k (Holds v) = ap (take x.length) here ∙ take-set-lt x.length (drop at whole) k (Holds v) o.1 in
        let back : drop x.length (drop at (slice_set whole i (Holds v))) ≡ drop x.length (drop at whole) = ap (drop x.length) here ∙ drop-set-lt x.length (drop at whole) k (Holds v) o.1 in
        both x.number (take x.length (drop at (slice_set whole i (Holds v)))) (slice_set (take x.length (drop at whole)) k (Holds v)) (objects_of xs (drop x.length (drop at (slice_set whole i (Holds v))))) (map (with_cell n k v) (objects_of xs (drop x.length (drop at whole)))) front
        (ap (objects_of xs) back ∙ sym (others xs (drop x.length (drop at whole)) (suc x.number) n k v up.1 (omega arith)))
    by false t e rest =
        let behind : at + x.length ≤ i = at_least xs (at + x.length) end n k i row.1 e in
        both x.number (take x.length (drop at (slice_set whole i (Holds v)))) (take x.length (drop at whole)) (objects_of xs (drop x.length (drop at (slice_set whole i (Holds v))))) (map (with_cell n k v) (objects_of xs (drop x.length (drop at whole))))
        (before whole at x.length i (Holds v) behind)
        (ap (objects_of xs) (drop-drop x.length at (slice_set whole i (Holds v))) ∙ (rest e ∙ ap (λ (l : List Cell). map (with_cell n k v) (objects_of xs l)) (sym (drop-drop x.length at whole))))

-- ---- a new object

pub appended : (whole new : List Cell) (x : Live) (xs : List Live) (at : ℕ) → InRow xs at (length whole) → x.length ≡ length new
    → objects_of (xs ++ x ∷ []) (drop at (whole ++ new)) ≡ objects_of xs (drop at whole) ++ record { number = x.number; cells = new } ∷ []
appended whole new x [] at row e =
    let rest : drop at (whole ++ new) ≡ new = ap (λ (n : ℕ). drop n (whole ++ new)) row ∙ drop-append_seam whole new in
    let all : take x.length (drop at (whole ++ new)) ≡ new = ap (take x.length) rest ∙ (ap (λ (n : ℕ). take n new) e ∙ take-length new) in
    both x.number (take x.length (drop at (whole ++ new))) new [] [] all refl
appended whole new x (y ∷ ys) at row e =
    let last : at + y.length ≤ length whole = row_end ys (at + y.length) (length whole) row.1 in
    let near : at ≤ length whole = omega arith in
    let room : y.length ≤ length (drop at whole) = omega (arith, length-drop at whole) in
    let front : take y.length (drop at (whole ++ new)) ≡ take y.length (drop at whole) = ap (take y.length) (drop-append-le at whole new near) ∙ take-append-le y.length (drop at whole) new room in
    both y.number (take y.length (drop at (whole ++ new))) (take y.length (drop at whole)) (objects_of (ys ++ x ∷ []) (drop y.length (drop at (whole ++ new)))) (objects_of ys (drop y.length (drop at whole)) ++ record { number = x.number; cells = new } ∷ []) front
    (ap (objects_of (ys ++ x ∷ [])) (drop-drop y.length at (whole ++ new))
    ∙ (appended whole new x ys (at + y.length) row.1 e ∙ ap (λ (l : List Cell). objects_of ys l ++ record { number = x.number; cells = new } ∷ []) (sym (drop-drop y.length at whole))))

pub row_push : (xs : List Live) (x : Live) (at end : ℕ) → InRow xs at end → x.first ≡ end → InRow (xs ++ x ∷ []) at (end + x.length)
row_push [] x at end row first = (first ∙ sym row, ap (λ (n : ℕ). n + x.length) row)
row_push (y ∷ ys) x at end row first = (row.0, row_push ys x (at + y.length) end row.1 first)

pub ascending_push : (xs : List Live) (x : Live) (low next : ℕ) → Ascending xs low → NumbersBelow xs next → low ≤ x.number → next ≤ x.number → Ascending (xs ++ x ∷ []) low
ascending_push [] x low next up below least more = (least, tt)
ascending_push (y ∷ ys) x low next up below least more = (up.0, ascending_push ys x (suc y.number) next up.1 below.1 (omega (arith, below.0)) more)

pub below_push : (xs : List Live) (x : Live) (next more : ℕ) → NumbersBelow xs next → next ≤ more → x.number < more → NumbersBelow (xs ++ x ∷ []) more
below_push [] x next more below h last = (last, tt)
below_push (y ∷ ys) x next more below h last = (omega (arith, below.0), below_push ys x next more below.1 h last)

-- ---- objects that go

first_from : (xs : List Live) (at end n : ℕ) (x : Live) → InRow xs at end → slice_get xs n ≡ Some x → at ≤ x.first
first_from [] at end n x row h = cc
first_from (y ∷ ys) at end zero x row h = let same : y ≡ x = cc in let first : y.first ≡ x.first = ap (λ (z : Live). z.first) same in omega (arith, row.0)
first_from (y ∷ ys) at end (suc n) x row h = let more : at + y.length ≤ x.first = first_from ys (at + y.length) end n x row.1 h in omega arith

pub first_within : (xs : List Live) (at end n : ℕ) (x : Live) → InRow xs at end → slice_get xs n ≡ Some x → x.first ≤ end
first_within [] at end n x row h = cc
first_within (y ∷ ys) at end zero x row h =
    let same : y ≡ x = cc in
    let first : y.first ≡ x.first = ap (λ (z : Live). z.first) same in
    let last : at + y.length ≤ end = row_end ys (at + y.length) end row.1 in omega (arith, row.0)
first_within (y ∷ ys) at end (suc n) x row h = first_within ys (at + y.length) end n x row.1 h

-- the cells from the first of an object on go with it and those behind it
pub cut : (whole : List Cell) (xs : List Live) (at end n : ℕ) (x : Live) → InRow xs at end → slice_get xs n ≡ Some x → objects_of (take n xs) (drop at (take x.first whole)) ≡ take n (objects_of xs (drop at whole))
cut whole xs at end zero x row h = refl
cut whole [] at end (suc n) x row h = cc
cut whole (y ∷ ys) at end (suc n) x row h =
    let more : at + y.length ≤ x.first = first_from ys (at + y.length) end n x row.1 h in
    let there : x.first ≡ at + (x.first - at) = omega arith in
    let near : y.length ≤ x.first - at = omega arith in
    let short : drop at (take x.first whole) ≡ take (x.first - at) (drop at whole) = ap (λ (m : ℕ). drop at (take m whole)) there ∙ drop-take at (x.first - at) whole in
    let front : take y.length (drop at (take x.first whole)) ≡ take y.length (drop at whole) = ap (take y.length) short ∙ take-take y.length (x.first - at) (drop at whole) near in
    both y.number (take y.length (drop at (take x.first whole))) (take y.length (drop at whole)) (objects_of (take n ys) (drop y.length (drop at (take x.first whole)))) (take n (objects_of ys (drop y.length (drop at whole)))) front
    (ap (objects_of (take n ys)) (drop-drop y.length at (take x.first whole))
    ∙ (cut whole ys (at + y.length) end n x row.1 h ∙ ap (λ (l : List Cell). take n (objects_of ys l)) (sym (drop-drop y.length at whole))))

pub row_cut : (xs : List Live) (at end n : ℕ) (x : Live) → InRow xs at end → slice_get xs n ≡ Some x → InRow (take n xs) at x.first
row_cut [] at end n x row h = cc
row_cut (y ∷ ys) at end zero x row h = let same : y ≡ x = cc in sym row.0 ∙ ap (λ (z : Live). z.first) same
row_cut (y ∷ ys) at end (suc n) x row h = (row.0, row_cut ys (at + y.length) end n x row.1 h)

pub ascending_cut : (xs : List Live) (low n : ℕ) → Ascending xs low → Ascending (take n xs) low
ascending_cut xs low zero up = tt
ascending_cut [] low (suc n) up = tt
ascending_cut (y ∷ ys) low (suc n) up = (up.0, ascending_cut ys (suc y.number) n up.1)

pub below_cut : (xs : List Live) (next n : ℕ) → NumbersBelow xs next → NumbersBelow (take n xs) next
below_cut xs next zero below = tt
below_cut [] next (suc n) below = tt
below_cut (y ∷ ys) next (suc n) below = (below.0, below_cut ys next n below.1)

-- ---- which objects go

least : (xs : List Live) (low k : ℕ) (x : Live) → Ascending xs low → slice_get xs k ≡ Some x → low ≤ x.number
least [] low k x up h = cc
least (y ∷ ys) low zero x up h = let same : y.number ≡ x.number = ap (λ (z : Live). z.number) (let e : y ≡ x = cc in e) in omega (arith, up.0)
least (y ∷ ys) low (suc k) x up h = let more : suc y.number ≤ x.number = least ys (suc y.number) k x up.1 h in omega (arith, up.0)

-- of the oldest objects each has a number below, where the last of them has
lower : (xs : List Live) (low number n : ℕ) → Ascending xs low → n < length xs → ((x : Live) → slice_get xs n ≡ Some x → x.number < number) → (k : ℕ) (x : Live) → k ≤ n → slice_get xs k ≡ Some x → x.number < number
lower [] low number n up h last k x le e = cc
lower (y ∷ ys) low number zero up h last zero x le e = last x e
lower (y ∷ ys) low number zero up h last (suc k) x le e = absurd (omega arith)
lower (y ∷ ys) low number (suc n) up h last zero x le e = first ys n up.1 (omega arith) last where
  first : (zs : List Live) (m : ℕ) → Ascending zs (suc y.number) → m < length zs → ((z : Live) → slice_get zs m ≡ Some z → z.number < number) → x.number < number
  first [] m more within at = absurd (omega arith)
  first (z ∷ zs) zero more within at =
      let below : z.number < number = at z refl in
      let same : y.number ≡ x.number = ap (λ (w : Live). w.number) (let q : y ≡ x = cc in q) in omega (arith, more.0)
  first (z ∷ zs) (suc m) more within at = first zs m (weaker zs (suc z.number) more.1 (omega (arith, more.0))) (omega arith) at where
    weaker : (ws : List Live) (high : ℕ) → Ascending ws high → suc y.number ≤ high → Ascending ws (suc y.number)
    weaker [] high a le = tt
    weaker (w ∷ ws) high a le = (omega (arith, a.0), a.1)
lower (y ∷ ys) low number (suc n) up h last (suc k) x le e = lower ys (suc y.number) number n up.1 (omega arith) last k x (omega arith) e

none_kept : (xs : List Live) (cells : List Cell) (number : ℕ) → ((k : ℕ) (x : Live) → slice_get xs k ≡ Some x → number ≤ x.number) → filter (λ o. nat_lt o.number number) (objects_of xs cells) ≡ []
none_kept [] cells number above = refl
none_kept (x ∷ xs) cells number above =
    let large : number ≤ x.number = above 0 x refl in
    by (nat_lt x.number number) (let t : nat_lt x.number number ≡ false = grind (arith, nat_tests) in t) (none_kept xs (drop x.length cells) number (λ k y e. above (suc k) y e))
  where
    by : (b : Bool) → b ≡ false → filter (λ o. nat_lt o.number number) (objects_of xs (drop x.length cells)) ≡ []
        → cond b (ObjectAnd x.number (take x.length cells) (filter (λ o. nat_lt o.number number) (objects_of xs (drop x.length cells)))) (filter (λ o. nat_lt o.number number) (objects_of xs (drop x.length cells))) ≡ []
    by true f rest = cc
    by false f rest = rest

-- so many of the oldest objects are those with numbers below
kept : (xs : List Live) (cells : List Cell) (number n : ℕ) → ((k : ℕ) (x : Live) → k < n → slice_get xs k ≡ Some x → x.number < number) → ((k : ℕ) (x : Live) → n ≤ k → slice_get xs k ≡ Some x → number ≤ x.number)
    → filter (λ o. nat_lt o.number number) (objects_of xs cells) ≡ take n (objects_of xs cells)
kept xs cells number zero small large = none_kept xs cells number (λ k x e. large k x (omega arith) e)
kept [] cells number (suc n) small large = refl
kept (x ∷ xs) cells number (suc n) small large =
    let below : x.number < number = small 0 x (omega arith) refl in
    by (nat_lt x.number number) (let t : nat_lt x.number number ≡ true = grind (arith, nat_tests) in t)
    (kept xs (drop x.length cells) number n (λ k y h e. small (suc k) y (omega arith) e) (λ k y h e. large (suc k) y (omega arith) e))
  where
    by : (b : Bool) → b ≡ true → filter (λ o. nat_lt o.number number) (objects_of xs (drop x.length cells)) ≡ take n (objects_of xs (drop x.length cells))
        → cond b (ObjectAnd x.number (take x.length cells) (filter (λ o. nat_lt o.number number) (objects_of xs (drop x.length cells)))) (filter (λ o. nat_lt o.number number) (objects_of xs (drop x.length cells)))
        ≡ ObjectAnd x.number (take x.length cells) (take n (objects_of xs (drop x.length cells)))
    by true f rest = ap (ObjectAnd x.number (take x.length cells)) rest
    by false f rest = cc

pub oldest_kept : (xs : List Live) (cells : List Cell) (number n : ℕ) → Ascending xs 0 → OldestBelow xs number n → filter (λ o. nat_lt o.number number) (objects_of xs cells) ≡ take n (objects_of xs cells)
oldest_kept xs cells number n up oldest = kept xs cells number n (small n oldest.within oldest.last) oldest.above where
  small : (m : ℕ) → m ≤ length xs → ((x : Live) → 0 < m → slice_get xs (m - 1) ≡ Some x → x.number < number) → (k : ℕ) (x : Live) → k < m → slice_get xs k ≡ Some x → x.number < number
  small m within last k x h e = lower xs 0 number (m - 1) up (omega arith) (λ y q. last y (omega arith) q) k x (omega arith) e

pub length_objects : (xs : List Live) (cells : List Cell) → length (objects_of xs cells) ≡ length xs
length_objects [] cells = refl
length_objects (x ∷ xs) cells = ap suc (length_objects xs (drop x.length cells))

pub objects_below : (xs : List Live) (cells : List Cell) (next : ℕ) → NumbersBelow xs next → AllByRecursion (λ o. o.number < next) (objects_of xs cells)
objects_below [] cells next below = tt
objects_below (x ∷ xs) cells next below = (below.0, objects_below xs (drop x.length cells) next below.1)

-- an object at a place is the one of its number
pub at_place : (xs : List Live) (low n k : ℕ) (x : Live) → Ascending xs low → slice_get xs k ≡ Some x → (x.number == n) ≡ true → find (λ y. y.number == n) xs ≡ Some x
at_place [] low n k x up h t = cc
at_place (y ∷ ys) low n zero x up h t = ap (λ (z : Live). cond (z.number == n) (Some y) (find (λ y. y.number == n) ys)) (let e : y ≡ x = cc in e) ∙ (ap (λ (b : Bool). cond b (Some y) (find (λ y. y.number == n) ys)) t ∙ h)
at_place (y ∷ ys) low n (suc k) x up h t =
    let more : suc y.number ≤ x.number = least ys (suc y.number) k x up.1 h in
    let same : x.number ≡ n = grind (arith, nat_tests) in
    let other : (y.number == n) ≡ false = grind (arith, nat_tests) in
    ap (λ (b : Bool). cond b (Some y) (find (λ y. y.number == n) ys)) other ∙ at_place ys (suc y.number) n k x up.1 h t
