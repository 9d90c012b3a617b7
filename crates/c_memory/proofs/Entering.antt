-- Objects that come and go.
use Rattle.std.proofs.Common.{◌≡◌, ◌⊎◌, inl, inr, ⊎_elim, ℕ, zero, suc, ◌+◌, ◌^◌, ◌<◌, ◌≤◌, true, false, List, [], ◌∷◌, ◌++◌, length, map, Some, refl, sym, ap, ◌∙◌, subst, arith, slice_get, length-append, append_assoc, append-nil, add-zero}
use Rattle.std.specs.Prelude.{take, drop}
use Rattle.std.proofs.lemmas.List.{length-take, length-map, length-drop}
use Rattle.std.proofs.lemmas.Option.{slice_get_within}
use Rattle.eir_core.specs.Memory.{Memory, word_at}
use Rattle.c_eval.specs.State.{Value, Word, Null, Point, Letter, Function, Missing, Cell, Unset, Holds, Object}
use Rattle.c_eval.specs.Memory.{live_cells, cell_in, live_object, dead}
use Rattle.c_memory.specs.Lies.{Extent, extent, base, words_at, Reach, Whole, Before, reached, Ground, Means, MeansCell, cell_of, Lies, IsFree, Post, bases_from, words_of_all, with_new, left_from, NewMean}
use Rattle.c_memory.proofs.Lying.{reached_grows, means_more, holder, cell_object}

pub base_old : (bs more : List Extent) (o : ℕ) → o < length bs → extent (bs ++ more) o ≡ extent bs o
base_old [] more o lt = absurd (omega (arith, lt))
base_old (b ∷ bs) more zero lt = refl
base_old (b ∷ bs) more (suc o) lt = base_old bs more o (omega (arith, lt))

base_new : (bs : List Extent) (t : Extent) → extent (bs ++ t ∷ []) (length bs) ≡ t
base_new [] t = refl
base_new (b ∷ bs) t = base_new bs t

slice_last : (xs : List Object) (y x : Object) (o : ℕ) → slice_get (xs ++ y ∷ []) o ≡ Some x → ((o < length xs) × (slice_get xs o ≡ Some x)) ⊎ ((o ≡ length xs) × (x ≡ y))
slice_last [] y x zero e = inr (refl, cc e)
slice_last [] y x (suc o) e = absurd (cc e)
slice_last (z ∷ xs) y x zero e = inl (omega arith, e)
slice_last (z ∷ xs) y x (suc o) e = ⊎_elim (λ q. inl (omega (arith, q.0), q.1)) (λ q. inr (ap suc q.0, q.1)) (slice_last xs y x o e)

entered_cell : (os : List Object) (cells : List Cell) (o k : ℕ) (c : Cell) → cell_of (os ++ live_object cells ∷ []) o k ≡ Some c → ((o < length os) × (cell_of os o k ≡ Some c)) ⊎ ((o ≡ length os) × (slice_get cells k ≡ Some c))
entered_cell os cells o k c e =
    let h = holder (os ++ live_object cells ∷ []) o k c e in
    ⊎_elim (λ q. inl (q.0, ap (λ z. cell_in (live_cells z) k) (q.1 ∙ sym h.is) ∙ e)) (λ q. inr (q.0, ap (λ (z : Object). slice_get z.cells k) (sym q.1) ∙ h.cell)) (slice_last os (live_object cells) h.object o h.is)

-- a new object at the top
enter_one : (g : Ground) (bs : List Extent) (os : List Object) (mem : Memory) (top : ℕ) (cells : List Cell) → Lies g bs os mem top → 1 ≤ top → top + length cells < 2 ^ 24 → 1 ≤ length cells → ((k : ℕ) (c : Cell) → slice_get cells k ≡ Some c → MeansCell g bs c (word_at mem (top + k)))
    → Lies g (bs ++ record { at = top; words = length cells } ∷ []) (os ++ live_object cells ∷ []) mem (top + length cells)
enter_one g bs os mem top cells l pos lt one mean = record { count = count; seen = seen; each = each; full = full; cells = cell; below = under; apart = apart }
  where
    new_extent : Extent
    new_extent = record { at = top; words = length cells }

    more : length (bs ++ new_extent ∷ []) ≡ length bs + 1
    more = length-append bs (new_extent ∷ [])

    count : length (bs ++ new_extent ∷ []) ≡ length (os ++ live_object cells ∷ [])
    count = omega (arith, length-append bs (new_extent ∷ []), length-append os (live_object cells ∷ []), l.count)

    seen_by : (r : Reach) → reached r bs ≤ length bs → reached r (bs ++ new_extent ∷ []) ≤ length (bs ++ new_extent ∷ [])
    seen_by Whole h = omega arith
    seen_by (Before n) h = omega (arith, h, length-append bs (new_extent ∷ []))

    seen : reached g.reach (bs ++ new_extent ∷ []) ≤ length (bs ++ new_extent ∷ [])
    seen = seen_by g.reach l.seen

    old_extent : (o : ℕ) → o < length os → extent (bs ++ new_extent ∷ []) o ≡ extent bs o
    old_extent o h = base_old bs (new_extent ∷ []) o (omega (arith, h, l.count))

    there : (o : ℕ) → o ≡ length os → extent (bs ++ new_extent ∷ []) o ≡ new_extent
    there o h = ap (extent (bs ++ new_extent ∷ [])) (h ∙ sym l.count) ∙ base_new bs new_extent

    old : (o : ℕ) → o < length os → base (bs ++ new_extent ∷ []) o ≡ base bs o
    old o h = ap (λ (z : Extent). z.at) (old_extent o h)

    new : (o : ℕ) → o ≡ length os → base (bs ++ new_extent ∷ []) o ≡ top
    new o h = ap (λ (z : Extent). z.at) (there o h)

    each : (o : ℕ) (x : Object) → slice_get (os ++ live_object cells ∷ []) o ≡ Some x → (1 ≤ base (bs ++ new_extent ∷ []) o) × (base (bs ++ new_extent ∷ []) o + length x.cells < 2 ^ 24)
    each o x e =
        ⊎_elim (λ q. let b = l.each o x q.1 in let h = old o q.0 in (omega (arith, b.0, h), omega (arith, b.1, h)))
        (λ q. let h = new o q.0 in let n : length x.cells ≡ length cells = ap (λ (z : Object). length z.cells) q.1 in (omega (arith, pos, h), omega (arith, lt, h, n))) (slice_last os (live_object cells) x o e)

    full : (o : ℕ) (x : Object) → slice_get (os ++ live_object cells ∷ []) o ≡ Some x → (1 ≤ length x.cells) × (words_at (bs ++ new_extent ∷ []) o ≡ length x.cells)
    full o x e =
        ⊎_elim (λ q. let b = l.full o x q.1 in (b.0, ap (λ (z : Extent). z.words) (old_extent o q.0) ∙ b.1))
        (λ q. let n : length x.cells ≡ length cells = ap (λ (z : Object). length z.cells) q.1 in (omega (arith, one, n), ap (λ (z : Extent). z.words) (there o q.0) ∙ sym n)) (slice_last os (live_object cells) x o e)

    later_cell : (c : Cell) (w : ℕ) → MeansCell g bs c w → MeansCell g (bs ++ new_extent ∷ []) c w
    later_cell Unset w h = tt
    later_cell (Holds v) w h = means_more g bs (bs ++ new_extent ∷ []) v w l.seen (omega (arith, length-append bs (new_extent ∷ []))) (λ o lt. base_old bs (new_extent ∷ []) o lt) h

    cell : (o k : ℕ) (c : Cell) → cell_of (os ++ live_object cells ∷ []) o k ≡ Some c → MeansCell g (bs ++ new_extent ∷ []) c (word_at mem (base (bs ++ new_extent ∷ []) o + k))
    cell o k c e =
        ⊎_elim (λ q. let P : ℕ → Type 0 = λ z. MeansCell g (bs ++ new_extent ∷ []) c (word_at mem (z + k)) in subst P (sym (old o q.0)) (later_cell c _ (l.cells o k c q.1)))
        (λ q. let P : ℕ → Type 0 = λ z. MeansCell g (bs ++ new_extent ∷ []) c (word_at mem (z + k)) in subst P (sym (new o q.0)) (later_cell c _ (mean k c q.1))) (entered_cell os cells o k c e)

    under : (o k : ℕ) (c : Cell) → cell_of (os ++ live_object cells ∷ []) o k ≡ Some c → base (bs ++ new_extent ∷ []) o + k < top + length cells
    under o k c e = ⊎_elim (λ q. omega (arith, old o q.0, l.below o k c q.1)) (λ q. omega (arith, new o q.0, slice_get_within cells k c q.1)) (entered_cell os cells o k c e)

    apart : (o k r j : ℕ) (c d : Cell) → cell_of (os ++ live_object cells ∷ []) o k ≡ Some c → cell_of (os ++ live_object cells ∷ []) r j ≡ Some d → base (bs ++ new_extent ∷ []) o + k ≡ base (bs ++ new_extent ∷ []) r + j → (o ≡ r) × (k ≡ j)
    apart o k r j c d e f h =
        ⊎_elim (λ q. ⊎_elim (λ s. l.apart o k r j c d q.1 s.1 (omega (arith, h, old o q.0, old r s.0))) (λ s. absurd (omega (arith, h, old o q.0, new r s.0, l.below o k c q.1))) (entered_cell os cells r j d f))
        (λ q. ⊎_elim (λ s. absurd (omega (arith, h, new o q.0, old r s.0, l.below r j d s.1))) (λ s. let i : o ≡ r = q.0 ∙ sym s.0 in (i, omega (arith, h, new o q.0, new r s.0))) (entered_cell os cells r j d f)) (entered_cell os cells o k c e)

-- what new cells mean doesn't depend on further objects
new_later : (g : Ground) (bs : List Extent) (t : Extent) (mem : Memory) (a : ℕ) (new : List (List Cell)) → reached g.reach bs ≤ length bs → NewMean g bs mem a new → NewMean g (bs ++ t ∷ []) mem a new
new_later g bs t mem a [] seen h = tt
new_later g bs t mem a (cells ∷ more) seen h = (h.0, λ k c e. later c (word_at mem (a + k)) (h.1 k c e), new_later g bs t mem (a + length cells) more seen h.2)
  where
    later : (c : Cell) (w : ℕ) → MeansCell g bs c w → MeansCell g (bs ++ t ∷ []) c w
    later Unset w h = tt
    later (Holds v) w h = means_more g bs (bs ++ t ∷ []) v w seen (omega (arith, length-append bs (t ∷ []))) (λ o lt. base_old bs (t ∷ []) o lt) h

-- the objects of a block come at the top
pub enter_lies : (g : Ground) (bs : List Extent) (os : List Object) (mem : Memory) (top : ℕ) (new : List (List Cell)) → Lies g bs os mem top → 1 ≤ top → top + words_of_all new < 2 ^ 24 → NewMean g bs mem top new
    → Lies g (bs ++ bases_from top new) (with_new os new) mem (top + words_of_all new)
enter_lies g bs os mem top [] l pos lt mean = rw (append-nil bs, append-nil os, add-zero top) l
enter_lies g bs os mem top (cells ∷ more) l pos lt mean =
    let t : Extent = record { at = top; words = length cells } in
    let one = enter_one g bs os mem top cells l pos (omega (arith, lt)) mean.0 mean.1 in
    let rest = enter_lies g (bs ++ t ∷ []) (os ++ live_object cells ∷ []) mem (top + length cells) more one (omega (arith, pos)) (omega (arith, lt)) (new_later g bs t mem (top + length cells) more l.seen mean.2) in
    let sums : top + length cells + words_of_all more ≡ top + words_of_all (cells ∷ more) = omega arith in
    subst (λ z. Lies g (bs ++ bases_from top (cells ∷ more)) (with_new os (cells ∷ more)) mem z) sums
    (subst (λ z. Lies g (bs ++ bases_from top (cells ∷ more)) z mem (top + length cells + words_of_all more)) (append_assoc os (live_object cells ∷ []) (map live_object more))
    (subst (λ z. Lies g z ((os ++ live_object cells ∷ []) ++ map live_object more) mem (top + length cells + words_of_all more)) (append_assoc bs (t ∷ []) (bases_from (top + length cells) more)) rest))

-- ---- the end of a block

-- a live cell of what is left is a live cell of an object that was there before
taken_item : (xs : List Object) (n o : ℕ) (x : Object) → slice_get (take n xs) o ≡ Some x → (o < n) × (slice_get xs o ≡ Some x)
taken_item xs zero o x e = absurd (none xs o e)
  where
    none : (xs : List Object) (o : ℕ) → slice_get (take 0 xs) o ≡ Some x → ⊥
    none [] o e = cc e
    none (y ∷ xs) o e = cc e
taken_item [] (suc n) o x e = absurd (cc e)
taken_item (y ∷ xs) (suc n) zero x e = (omega arith, e)
taken_item (y ∷ xs) (suc n) (suc o) x e = let r = taken_item xs n o x e in (omega (arith, r.0), r.1)

-- an item of what is left
record LeftItem (n : ℕ) (xs : List Object) (o : ℕ) (x : Object) : Type 0 where
  old : Object
  is : slice_get xs o ≡ Some old
  cells : x.cells ≡ old.cells
  kept : x.live ≡ true → (o < n) × (x ≡ old)

left_item : (n : ℕ) (xs : List Object) (o : ℕ) (x : Object) → slice_get (left_from n xs) o ≡ Some x → LeftItem n xs o x
left_item zero [] o x e = absurd (cc e)
left_item zero (y ∷ xs) zero x e =
    let same : x ≡ dead y = cc (sym e) in
    record { old = y; is = refl; cells = ap (λ (z : Object). z.cells) same; kept = λ l. (let f : false ≡ true = sym (ap (λ (z : Object). z.live) same) ∙ l in absurd (cc f)) }
left_item zero (y ∷ xs) (suc o) x e = let r = left_item zero xs o x (all_dead xs o x e) in record { old = r.old; is = r.is; cells = r.cells; kept = λ l. (let k = r.kept l in absurd (omega (arith, k.0))) }
  where
    all_dead : (xs : List Object) (o : ℕ) (x : Object) → slice_get (map dead xs) o ≡ Some x → slice_get (left_from 0 xs) o ≡ Some x
    all_dead [] o x e = e
    all_dead (z ∷ xs) o x e = e
left_item (suc n) [] o x e = absurd (cc e)
left_item (suc n) (y ∷ xs) zero x e =
    let same : x ≡ y = cc (sym e) in
    record { old = y; is = refl; cells = ap (λ (z : Object). z.cells) same; kept = λ l. (omega arith, same) }
left_item (suc n) (y ∷ xs) (suc o) x e = let r = left_item n xs o x e in record { old = r.old; is = r.is; cells = r.cells; kept = λ l. (let k = r.kept l in (omega (arith, k.0), k.1)) }

left_cell : (n : ℕ) (os : List Object) (o k : ℕ) (c : Cell) → cell_of (left_from n os) o k ≡ Some c → (o < n) × (cell_of os o k ≡ Some c)
left_cell n os o k c e =
    let h = holder (left_from n os) o k c e in
    let i = left_item n os o h.object h.is in
    let s = i.kept h.live in
    (s.0, ap (λ z. cell_in (live_cells z) k) (i.is ∙ ap Some (sym s.1) ∙ sym h.is) ∙ e)

left_length : (n : ℕ) (os : List Object) → length (left_from n os) ≡ length os
left_length n os = omega (arith, length-append (take n os) (map dead (drop n os)), length-map (drop n os) dead, length-take n os, length-drop n os)

-- what stands in front of new objects
slice_front : (xs ys : List Object) (o : ℕ) → o < length xs → slice_get (xs ++ ys) o ≡ slice_get xs o
slice_front [] ys o lt = absurd (omega (arith, lt))
slice_front (x ∷ xs) ys zero lt = refl
slice_front (x ∷ xs) ys (suc o) lt = slice_front xs ys o (omega (arith, lt))

was : (os : List Object) (new : List (List Cell)) (o k : ℕ) (c : Cell) → cell_of (with_new os new) o k ≡ Some c → o < length os → cell_of os o k ≡ Some c
was os new o k c e lt = ap (λ z. cell_in (live_cells z) k) (sym (slice_front os (map live_object new) o lt)) ∙ e

base_behind : (bs more : List Extent) (j : ℕ) → extent (bs ++ more) (length bs + j) ≡ extent more j
base_behind [] more j = ap (extent more) (omega arith)
base_behind (b ∷ bs) more j = let e : length (b ∷ bs) + j ≡ suc (length bs + j) = omega arith in ap (extent (b ∷ (bs ++ more))) e ∙ base_behind bs more j

bases_above : (a : ℕ) (new : List (List Cell)) (j : ℕ) → j < length new → a ≤ base (bases_from a new) j
bases_above a [] j lt = absurd (omega (arith, lt))
bases_above a (cells ∷ more) zero lt = omega arith
bases_above a (cells ∷ more) (suc j) lt = omega (arith, bases_above (a + length cells) more j (omega (arith, lt)))

from_there : (o n : ℕ) → (o < n) ⊎ ((j : ℕ) × (o ≡ n + j))
from_there o zero = inr (o, omega arith)
from_there zero (suc n) = inl (omega arith)
from_there (suc o) (suc n) = ⊎_elim (λ lt. inl (omega (arith, lt))) (λ r. inr (r.0, omega (arith, r.1))) (from_there o n)

pub free_there : (bs : List Extent) (os : List Object) (top : ℕ) (new : List (List Cell)) (a : ℕ) → length bs ≡ length os → a < top → IsFree bs os a → IsFree (bs ++ bases_from top new) (with_new os new) a
free_there bs os top new a count lt free o k c e h =
    ⊎_elim (λ in_front. free o k c (was os new o k c e in_front) (ap (λ (z : Extent). z.at + k) (sym (base_old bs (bases_from top new) o (omega (arith, in_front, count)))) ∙ h))
    (λ r.
    let at : o ≡ length bs + r.0 = omega (arith, r.1, count) in
    let there = cell_object (with_new os new) o k c e in
    let inside : r.0 < length new = omega (arith, there, r.1, length-append os (map live_object new), length-map new live_object) in
    let is : base (bs ++ bases_from top new) o ≡ base (bases_from top new) r.0 = ap (base (bs ++ bases_from top new)) at ∙ ap (λ (z : Extent). z.at) (base_behind bs (bases_from top new) r.0) in
    absurd (omega (arith, lt, h, is, bases_above top new r.0 inside))) (from_there o (length os))

-- the objects of a block go: what was there before lies as before
pub leave_lies : (g : Ground) (bs : List Extent) (os : List Object) (mem : Memory) (top : ℕ) (new : List (List Cell)) (bs2 : List Extent) (os2 : List Object) (mem2 : Memory) (top1 top2 : ℕ) → Lies g bs os mem top → top ≤ top1 → Lies g bs2 os2 mem2 top2
    → Post top1 (bs ++ bases_from top new) (with_new os new) mem bs2 os2 mem2 → Lies g bs2 (left_from (length os) os2) mem2 top × Post top bs os mem bs2 (left_from (length os) os2) mem2
leave_lies g bs os mem top new bs2 os2 mem2 top1 top2 l le l2 p = (
  record {
    count = l2.count ∙ sym (left_length (length os) os2);
    seen = l2.seen;
    each = λ o x e. (let i = left_item (length os) os2 o x e in let b = l2.each o i.old i.is in let n : length x.cells ≡ length i.old.cells = ap length i.cells in (b.0, omega (arith, b.1, n)));
    full = λ o x e. (let i = left_item (length os) os2 o x e in let b = l2.full o i.old i.is in let n : length x.cells ≡ length i.old.cells = ap length i.cells in (omega (arith, b.0, n), b.1 ∙ sym n));
    cells = λ o k c e. l2.cells o k c (left_cell (length os) os2 o k c e).1;
    below = λ o k c e. (let d = held o k c e in omega (arith, l.below o k d.0 d.1, d.2));
    apart = λ o k r j c d e f h. l2.apart o k r j c d (left_cell (length os) os2 o k c e).1 (left_cell (length os) os2 r j d f).1 h;
  },
  record {
    longer = omega (arith, p.longer, length-append bs (bases_from top new));
    grown = λ o lt. p.grown o (omega (arith, lt, length-append bs (bases_from top new))) ∙ base_old bs (bases_from top new) o lt;
    held = held;
    keeps = λ a lt free. p.keeps a (omega (arith, lt, le)) (free_there bs os top new a l.count lt free);
  },
)
  where
    held : (o k : ℕ) (c : Cell) → cell_of (left_from (length os) os2) o k ≡ Some c → (d : Cell) × (cell_of os o k ≡ Some d) × (base bs2 o ≡ base bs o)
    held o k c e =
        let a = left_cell (length os) os2 o k c e in
        let d = p.held o k c a.1 in
        (d.0, was os new o k d.0 d.1 a.0, d.2 ∙ ap (λ (z : Extent). z.at) (base_old bs (bases_from top new) o (omega (arith, a.0, l.count))))

-- ---- helper functions, whose objects go away

taken_base : (bs : List Extent) (n o : ℕ) → o < n → extent (take n bs) o ≡ extent bs o
taken_base bs zero o lt = absurd (omega (arith, lt))
taken_base [] (suc n) o lt = refl
taken_base (b ∷ bs) (suc n) zero lt = refl
taken_base (b ∷ bs) (suc n) (suc o) lt = taken_base bs n o (omega (arith, lt))

cut_cell : (os : List Object) (n o k : ℕ) (c : Cell) → cell_of (take n os) o k ≡ Some c → (o < n) × (cell_of os o k ≡ Some c)
cut_cell os n o k c e = let h = holder (take n os) o k c e in let t = taken_item os n o h.object h.is in (t.0, ap (λ z. cell_in (live_cells z) k) (t.1 ∙ sym h.is) ∙ e)

-- pointers of a helper function reach the objects that were there before it
pub into_helper : (g : Ground) (bs : List Extent) (os : List Object) (mem : Memory) (top : ℕ) → g.reach ≡ Whole → Lies g bs os mem top → Lies (record g { reach = Before (length bs) }) bs os mem top
into_helper g bs os mem top whole l = record { count = l.count; seen = omega arith; each = l.each; full = l.full; cells = λ o k c e. same c (word_at mem (base bs o + k)) (l.cells o k c e); below = l.below; apart = l.apart }
  where
    same : (c : Cell) (w : ℕ) → MeansCell g bs c w → MeansCell (record g { reach = Before (length bs) }) bs c w
    same Unset w h = tt
    same (Holds (Word n)) w h = h
    same (Holds Null) w h = h
    same (Holds (Point o k)) w h = (omega (arith, h.0, ap (λ r. reached r bs) whole), h.1, h.2)
    same (Holds (Letter f i text k)) w h = h
    same (Holds (Function name)) w h = h
    same (Holds Missing) w h = tt

-- and mean the same outside, where pointers reach as far
pub means_out : (g : Ground) (seen n : ℕ) (bs : List Extent) (v : Value) (w : ℕ) → seen ≤ n → seen ≤ reached g.reach (take n bs) → Means (record g { reach = Before seen }) bs v w → Means g (take n bs) v w
means_out g seen n bs (Word i) w le far h = h
means_out g seen n bs Null w le far h = h
means_out g seen n bs (Point o k) w le far h =
    let t = taken_base bs n o (omega (arith, h.0, le)) in
    (omega (arith, h.0, far), subst (λ (z : Extent). k ≤ z.words) (sym t) h.1, h.2 ∙ ap (λ (z : Extent). z.at + k) (sym t))
means_out g seen n bs (Letter f i text k) w le far h = h
means_out g seen n bs (Function name) w le far h = h
means_out g seen n bs Missing w le far h = tt

seen_out : (r : Reach) (bs bs1 : List Extent) → reached r bs ≤ length bs → length bs ≤ length bs1 → reached r bs1 ≤ length bs1
seen_out Whole bs bs1 h le = omega arith
seen_out (Before n) bs bs1 h le = omega (arith, h, le)

-- the objects of a helper function go away: pointers reached the first of those that are left
pub out_of_helper : (g : Ground) (bs : List Extent) (os : List Object) (mem : Memory) (top : ℕ) (bs2 : List Extent) (os2 : List Object) (mem2 : Memory) (top2 first : ℕ) → length bs ≡ length os → reached g.reach bs ≤ length bs → first ≤ reached g.reach bs
    → Lies (record g { reach = Before first }) bs2 os2 mem2 top2 → Post top bs os mem bs2 os2 mem2
    → Lies g (take (length bs) bs2) (take (length bs) os2) mem2 top2 × Post top bs os mem (take (length bs) bs2) (take (length bs) os2) mem2
out_of_helper g bs os mem top bs2 os2 mem2 top2 first is within inside l p = (
  record {
    count = omega (arith, length-take n bs2, length-take n os2, l.count);
    seen = seen_out g.reach bs (take n bs2) within more;
    each = λ o x e. (let t = taken_item os2 n o x e in let b = l.each o x t.1 in let s = at o t.0 in (omega (arith, b.0, s), omega (arith, b.1, s)));
    full = λ o x e. (let t = taken_item os2 n o x e in let b = l.full o x t.1 in (b.0, ap (λ (z : Extent). z.words) (taken_base bs2 n o t.0) ∙ b.1));
    cells = cells;
    below = λ o k c e. (let d = cut_cell os2 n o k c e in let b = at o d.0 in omega (arith, b, l.below o k c d.1));
    apart = λ o k r j c d e f h. (let x = cut_cell os2 n o k c e in let y = cut_cell os2 n r j d f in let bx = at o x.0 in let by = at r y.0 in l.apart o k r j c d x.1 y.1 (omega (arith, h, bx, by)));
  },
  record { longer = omega (arith, length-take n bs2, p.longer); grown = λ o lt. taken_base bs2 n o lt ∙ p.grown o lt; held = λ o k c e. (let x = cut_cell os2 n o k c e in let d = p.held o k c x.1 in (d.0, d.1, at o x.0 ∙ d.2)); keeps = p.keeps },
)
  where
    n : ℕ
    n = length bs

    at : (o : ℕ) → o < n → base (take n bs2) o ≡ base bs2 o
    at o lt = ap (λ (z : Extent). z.at) (taken_base bs2 n o lt)

    more : length bs ≤ length (take (length bs) bs2)
    more = omega (arith, length-take (length bs) bs2, p.longer)

    out : (c : Cell) (w : ℕ) → MeansCell (record g { reach = Before first }) bs2 c w → MeansCell g (take (length bs) bs2) c w
    out Unset w h = tt
    out (Holds v) w h = means_out g first (length bs) bs2 v w (omega (arith, inside, within)) (omega (arith, inside, reached_grows g.reach bs (take (length bs) bs2) more)) h

    cells : (o k : ℕ) (c : Cell) → cell_of (take (length bs) os2) o k ≡ Some c → MeansCell g (take (length bs) bs2) c (word_at mem2 (base (take (length bs) bs2) o + k))
    cells o k c e = let d = cut_cell os2 (length bs) o k c e in let P : ℕ → Type 0 = λ z. MeansCell g (take (length bs) bs2) c (word_at mem2 (z + k)) in subst P (sym (at o d.0)) (out c _ (l.cells o k c d.1))
