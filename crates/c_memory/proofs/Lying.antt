-- How objects lie, when a word is written or a cell is set.
use Rattle.std.proofs.Common.{◌≡◌, ◌⊎◌, inl, inr, ⊎_elim, ℕ, ◌+◌, ◌^◌, ◌<◌, ◌≤◌, Bool, true, false, List, length, Option, Some, None, refl, sym, ap, ◌∙◌, subst, arith, nat_lt, nat_eq, slice_get, if◌then◌else◌, length-set}
use Rattle.std.specs.Prelude.{slice_set}
use Rattle.std.proofs.lemmas.Option.{slice_get_within, slice_get_past, slice_get-get_or}
use Rattle.std.proofs.lemmas.List.{get_or-set_same, get_or-set_other}
use Rattle.eir_core.specs.Memory.{Memory, word_at, with_word}
use Rattle.eir_core.proofs.WordAt.{word_at-with_word_same, word_at-with_word_other}
use Rattle.c_eval.specs.State.{Value, Word, Null, Point, Letter, Function, Missing, Cell, Holds, Object}
use Rattle.c_eval.specs.Memory.{live_cells, cell_in, with_cell}
use Rattle.c_memory.specs.Lies.{Extent, base, extent, words_at, Reach, Whole, Before, reached, Ground, Means, MeansCell, cell_of, with_stored, Lies, IsFree, Post}

pub reached_grows : (r : Reach) (bs bs1 : List Extent) → length bs ≤ length bs1 → reached r bs ≤ reached r bs1
reached_grows Whole bs bs1 le = le
reached_grows (Before n) bs bs1 le = omega arith

pub post_here : (top : ℕ) (bs : List Extent) (os : List Object) (mem : Memory) → Post top bs os mem bs os mem
post_here top bs os mem = record { longer = omega arith; grown = λ o lt. refl; held = λ o k c e. (c, e, refl); keeps = λ a lt free. refl }

pub still_free : (top : ℕ) (bs : List Extent) (os : List Object) (mem : Memory) (bs1 : List Extent) (os1 : List Object) (mem1 : Memory) (a : ℕ) → Post top bs os mem bs1 os1 mem1 → IsFree bs os a → IsFree bs1 os1 a
still_free top bs os mem bs1 os1 mem1 a p f o k c e h = let d = p.held o k c e in f o k d.0 d.1 (ap (λ z. z + k) (sym d.2) ∙ h)

-- one part after the other
pub post_then : {top0 top1 top : ℕ} {bs bs1 bs2 : List Extent} {os os1 os2 : List Object} {mem mem1 mem2 : Memory} → top ≤ top0 → top ≤ top1 → Post top0 bs os mem bs1 os1 mem1 → Post top1 bs1 os1 mem1 bs2 os2 mem2 → Post top bs os mem bs2 os2 mem2
post_then {top0} {top1} {top} {bs} {bs1} {bs2} {os} {os1} {os2} {mem} {mem1} {mem2} le0 le1 p q = record {
  longer = omega (arith, p.longer, q.longer);
  grown = λ o lt. q.grown o (omega (arith, lt, p.longer)) ∙ p.grown o lt;
  held = λ o k c e. let d = q.held o k c e in let d0 = p.held o k d.0 d.1 in (d0.0, d0.1, d.2 ∙ d0.2);
  keeps = λ a lt free. q.keeps a (omega (arith, lt, le1)) (still_free top0 bs os mem bs1 os1 mem1 a p free) ∙ p.keeps a (omega (arith, lt, le0)) free;
}

pub post_lower : {bs bs1 : List Extent} {os os1 : List Object} {mem mem1 : Memory} (top0 top : ℕ) → top ≤ top0 → Post top0 bs os mem bs1 os1 mem1 → Post top bs os mem bs1 os1 mem1
post_lower top0 top le q = record { longer = q.longer; grown = q.grown; held = q.held; keeps = λ a lt free. q.keeps a (omega (arith, lt, le)) free }

-- a word means the same where objects stay and more may come
pub means_more : (g : Ground) (bs bs1 : List Extent) (v : Value) (w : ℕ) → reached g.reach bs ≤ length bs → length bs ≤ length bs1 → ((o : ℕ) → o < length bs → extent bs1 o ≡ extent bs o) → Means g bs v w → Means g bs1 v w
means_more g bs bs1 (Word n) w seen le grown h = h
means_more g bs bs1 Null w seen le grown h = h
means_more g bs bs1 (Point o k) w seen le grown h =
    let more = reached_grows g.reach bs bs1 le in
    let same = grown o (omega (arith, h.0, seen)) in
    (omega (arith, h.0, more), subst (λ (z : Extent). k ≤ z.words) (sym same) h.1, h.2 ∙ ap (λ (z : Extent). z.at + k) (sym same))
means_more g bs bs1 (Letter f i text k) w seen le grown h = h
means_more g bs bs1 (Function name) w seen le grown h = h
means_more g bs bs1 Missing w seen le grown h = tt

pub means_later : (g : Ground) {top : ℕ} {bs bs1 : List Extent} {os os1 : List Object} {mem mem1 : Memory} (v : Value) (w : ℕ) → reached g.reach bs ≤ length bs → Post top bs os mem bs1 os1 mem1 → Means g bs v w → Means g bs1 v w
means_later g {bs = bs} {bs1 = bs1} v w seen p h = means_more g bs bs1 v w seen p.longer p.grown h

-- a word above all objects is written
pub lies_over : {g : Ground} {bs : List Extent} {os : List Object} {mem : Memory} {top : ℕ} (a v top1 : ℕ) → Lies g bs os mem top → top ≤ a → top ≤ top1 → Lies g bs os (with_word mem a v) top1
lies_over {g} {bs} {os} {mem} {top} a v top1 l le le1 = record {
  count = l.count;
  seen = l.seen;
  each = l.each;
  full = l.full;
  cells = λ o k c e. let P : ℕ → Type 0 = λ w. MeansCell g bs c w in subst P (sym (word_at-with_word_other mem a v (base bs o + k) (λ h. absurd (omega (arith, h, l.below o k c e, le))))) (l.cells o k c e);
  below = λ o k c e. omega (arith, l.below o k c e, le1);
  apart = l.apart;
}

pub post_over : {top : ℕ} (bs : List Extent) (os : List Object) (mem : Memory) (a v : ℕ) → top ≤ a → Post top bs os mem bs os (with_word mem a v)
post_over {top} bs os mem a v le = record { longer = omega arith; grown = λ o lt. refl; held = λ o k c e. (c, e, refl); keeps = λ b lt free. word_at-with_word_other mem a v b (λ h. absurd (omega (arith, h, lt, le))) }

pub lies_up : {g : Ground} {bs : List Extent} {os : List Object} {mem : Memory} {top : ℕ} (top1 : ℕ) → Lies g bs os mem top → top ≤ top1 → Lies g bs os mem top1
lies_up top1 l le = record { count = l.count; seen = l.seen; each = l.each; full = l.full; cells = l.cells; below = λ o k c e. omega (arith, l.below o k c e, le); apart = l.apart }

-- live cells lie below a lower bound, where those before did
pub lies_down : {g g1 : Ground} {bs bs1 : List Extent} {os os1 : List Object} {mem mem1 : Memory} {top0 top1 top : ℕ} → Lies g bs os mem top → Post top0 bs os mem bs1 os1 mem1 → Lies g1 bs1 os1 mem1 top1 → Lies g1 bs1 os1 mem1 top
lies_down l p l1 = record { count = l1.count; seen = l1.seen; each = l1.each; full = l1.full; cells = l1.cells; below = λ o k c e. (let d = p.held o k c e in omega (arith, l.below o k d.0 d.1, d.2)); apart = l1.apart }

-- ---- elements of a changed list

pub got_same : {A : Type 0} (xs : List A) (i : ℕ) (y : A) → i < length xs → slice_get (slice_set xs i y) i ≡ Some y
got_same xs i y lt =
    slice_get-get_or (slice_set xs i y) i y (rw (length-set xs i y) lt) ∙ ap Some (get_or-set_same xs i y y lt)

pub eq_or : (m n : ℕ) → (m ≡ n) ⊎ (m ≡ n → ⊥)
eq_or m n = go (nat_eq m n) refl
  where
    go : (b : Bool) → nat_eq m n ≡ b → (m ≡ n) ⊎ (m ≡ n → ⊥)
    go true h = inl (grind (arith, h))
    go false h = inr (λ e. grind (arith, h, e))

under : (n m : ℕ) → nat_lt n m ≡ true → n < m
under n m h = grind (arith, h)

above : (n m : ℕ) → nat_lt n m ≡ false → m ≤ n
above n m h = grind (arith, h)

pub got_other : {A : Type 0} (xs : List A) (i j : ℕ) (y : A) → (j ≡ i → ⊥) → slice_get (slice_set xs i y) j ≡ slice_get xs j
got_other xs i j y ne = go (nat_lt j (length xs)) refl
  where
    go : (b : Bool) → nat_lt j (length xs) ≡ b → slice_get (slice_set xs i y) j ≡ slice_get xs j
    go true h =
        let lt = under j (length xs) h in
        slice_get-get_or (slice_set xs i y) j y (rw (length-set xs i y) lt) ∙ ap Some (get_or-set_other xs i j y y ne) ∙ sym (slice_get-get_or xs j y lt)
    go false h =
        let le = above j (length xs) h in
        slice_get_past (slice_set xs i y) j (rw (length-set xs i y) le) ∙ sym (slice_get_past xs j le)

-- ---- live cells

-- the object of a live cell
pub record Holder (os : List Object) (o k : ℕ) (c : Cell) : Type 0 where
  pub object : Object
  pub is : slice_get os o ≡ Some object
  pub live : object.live ≡ true
  pub cell : slice_get object.cells k ≡ Some c

pub holder : (os : List Object) (o k : ℕ) (c : Cell) → cell_of os o k ≡ Some c → Holder os o k c
holder os o k c e = go (slice_get os o) refl
  where
    alive : (x : Object) (b : Bool) → slice_get os o ≡ Some x → x.live ≡ b → cell_in (if b then Some x.cells else None) k ≡ Some c → Holder os o k c
    alive x true h l f = record { object = x; is = h; live = l; cell = f }
    alive x false h l f = absurd (cc f)

    go : (x : Option Object) → slice_get os o ≡ x → Holder os o k c
    go None h = let f : None ≡ Some c = sym (ap (λ z. cell_in (live_cells z) k) h) ∙ e in absurd (cc f)
    go (Some x) h = alive x x.live h refl (sym (ap (λ z. cell_in (live_cells z) k) h) ∙ e)

pub cell_object : (os : List Object) (o k : ℕ) (c : Cell) → cell_of os o k ≡ Some c → o < length os
cell_object os o k c e = let h = holder os o k c e in slice_get_within os o h.object h.is

-- ---- a cell is set

module _ (os : List Object) (o0 k0 : ℕ) (c0 : Cell) (y : Value) (t : Holder os o0 k0 c0) where
  new : Object
  new = record t.object { cells = slice_set t.object.cells k0 (Holds y) }

  new_is : with_cell (slice_get os o0) k0 y ≡ new
  unfolding new
  new_is = ap (λ z. with_cell z k0 y) t.is

  new_length : length new.cells ≡ length t.object.cells
  unfolding new
  new_length = length-set t.object.cells k0 (Holds y)

  there : o0 < length os
  there = slice_get_within os o0 t.object t.is

  inside : k0 < length t.object.cells
  inside = slice_get_within t.object.cells k0 c0 t.cell

  at_target : slice_get (with_stored os o0 k0 y) o0 ≡ Some new
  at_target = ap (λ z. slice_get (slice_set os o0 z) o0) new_is ∙ got_same os o0 new there

  new_cells : live_cells (Some new) ≡ Some (slice_set t.object.cells k0 (Holds y))
  unfolding new
  new_cells = ap (λ (b : Bool). if b then Some (slice_set t.object.cells k0 (Holds y)) else None) t.live

  old_cells : live_cells (slice_get os o0) ≡ Some t.object.cells
  old_cells = ap live_cells t.is ∙ ap (λ (b : Bool). if b then Some t.object.cells else None) t.live

  here : live_cells (slice_get (with_stored os o0 k0 y) o0) ≡ Some (slice_set t.object.cells k0 (Holds y))
  here = ap live_cells at_target ∙ new_cells

  target_cell : cell_of os o0 k0 ≡ Some c0
  target_cell = ap (λ z. cell_in z k0) old_cells ∙ t.cell

  stored_cell : (o k : ℕ) (c : Cell) → cell_of (with_stored os o0 k0 y) o k ≡ Some c
      → ((o ≡ o0) × (k ≡ k0) × (c ≡ Holds y)) ⊎ (((o ≡ o0) × (k ≡ k0) → ⊥) × (cell_of os o k ≡ Some c))
  stored_cell o k c h = at_object (eq_or o o0)
    where
      moved_to : o ≡ o0 → live_cells (slice_get (with_stored os o0 k0 y) o) ≡ Some (slice_set t.object.cells k0 (Holds y))
      moved_to e = ap (λ z. live_cells (slice_get (with_stored os o0 k0 y) z)) e ∙ here

      at_cell : o ≡ o0 → (k ≡ k0) ⊎ (k ≡ k0 → ⊥) → ((o ≡ o0) × (k ≡ k0) × (c ≡ Holds y)) ⊎ (((o ≡ o0) × (k ≡ k0) → ⊥) × (cell_of os o k ≡ Some c))
      at_cell e (inl f) =
          let g : Some c ≡ Some (Holds y) = sym h ∙ ap (λ z. cell_in z k) (moved_to e) ∙ ap (λ z. slice_get (slice_set t.object.cells k0 (Holds y)) z) f ∙ got_same t.object.cells k0 (Holds y) inside in
          inl (e, f, cc g)
      at_cell e (inr f) =
          let g : cell_of os o k ≡ Some c = ap (λ z. cell_in (live_cells (slice_get os z)) k) e ∙ ap (λ z. cell_in z k) old_cells ∙ sym (got_other t.object.cells k0 k (Holds y) f) ∙ sym (ap (λ z. cell_in z k) (moved_to e)) ∙ h in
          inr (λ z. f z.1, g)

      at_object : (o ≡ o0) ⊎ (o ≡ o0 → ⊥) → ((o ≡ o0) × (k ≡ k0) × (c ≡ Holds y)) ⊎ (((o ≡ o0) × (k ≡ k0) → ⊥) × (cell_of os o k ≡ Some c))
      at_object (inl e) = at_cell e (eq_or k k0)
      at_object (inr e) = inr (λ z. e z.0, ap (λ z. cell_in (live_cells z) k) (sym (got_other os o0 o (with_cell (slice_get os o0) k0 y) e)) ∙ h)

  old : (o k : ℕ) (c : Cell) → cell_of (with_stored os o0 k0 y) o k ≡ Some c → (d : Cell) × (cell_of os o k ≡ Some d)
  old o k c h = ⊎_elim (λ z. (c0, ap (λ x. cell_of os x k) z.0 ∙ ap (λ x. cell_of os o0 x) z.1 ∙ target_cell)) (λ z. (c, z.1)) (stored_cell o k c h)

  pub store_lies : (g : Ground) (bs : List Extent) (mem : Memory) (top w : ℕ) → Lies g bs os mem top → Means g bs y w
      → Lies g bs (with_stored os o0 k0 y) (with_word mem (base bs o0 + k0) w) top × Post top bs os mem bs (with_stored os o0 k0 y) (with_word mem (base bs o0 + k0) w)
  store_lies g bs mem top w l s = (
    record {
      count = l.count ∙ sym (length-set os o0 (with_cell (slice_get os o0) k0 y));
      seen = l.seen;
      each = each;
      full = full;
      cells = cells;
      below = λ o k c h. (let d = old o k c h in l.below o k d.0 d.1);
      apart = λ o k r j c d h i f. (let x = old o k c h in let z = old r j d i in l.apart o k r j x.0 z.0 x.1 z.1 f);
    },
    record {
      longer = omega arith;
      grown = λ o lt. refl;
      held = λ o k c h. (let d = old o k c h in (d.0, d.1, refl));
      keeps = λ a lt free. word_at-with_word_other mem (base bs o0 + k0) w a (λ e. free o0 k0 c0 target_cell (sym e));
    },
  )
    where
      each : (o : ℕ) (x : Object) → slice_get (with_stored os o0 k0 y) o ≡ Some x → (1 ≤ base bs o) × (base bs o + length x.cells < 2 ^ 24)
      each o x h = ⊎_elim (λ e.
          let b0 = l.each o0 t.object t.is in
          let f : Some x ≡ Some new = sym h ∙ (ap (slice_get (with_stored os o0 k0 y)) e ∙ at_target) in
          let same_object : x ≡ new = cc f in
          let n : length x.cells ≡ length new.cells = ap (λ (z : Object). length z.cells) same_object in
          let same : base bs o ≡ base bs o0 = ap (base bs) e in
          (omega (arith, b0.0, same), omega (arith, b0.1, n, new_length, same))) (λ e. l.each o x (sym (got_other os o0 o (with_cell (slice_get os o0) k0 y) e) ∙ h)) (eq_or o o0)

      full : (o : ℕ) (x : Object) → slice_get (with_stored os o0 k0 y) o ≡ Some x → (1 ≤ length x.cells) × (words_at bs o ≡ length x.cells)
      full o x h = ⊎_elim (λ e.
          let b0 = l.full o0 t.object t.is in
          let f : Some x ≡ Some new = sym h ∙ (ap (slice_get (with_stored os o0 k0 y)) e ∙ at_target) in
          let same_object : x ≡ new = cc f in
          let n : length x.cells ≡ length new.cells = ap (λ (z : Object). length z.cells) same_object in
          let same : words_at bs o ≡ words_at bs o0 = ap (words_at bs) e in
          (omega (arith, b0.0, n, new_length), omega (arith, b0.1, n, new_length, same))) (λ e. l.full o x (sym (got_other os o0 o (with_cell (slice_get os o0) k0 y) e) ∙ h)) (eq_or o o0)

      cells : (o k : ℕ) (c : Cell) → cell_of (with_stored os o0 k0 y) o k ≡ Some c → MeansCell g bs c (word_at (with_word mem (base bs o0 + k0) w) (base bs o + k))
      cells o k c h = ⊎_elim (λ z.
          let e : word_at (with_word mem (base bs o0 + k0) w) (base bs o + k) ≡ w =
          ap (λ x. word_at (with_word mem (base bs o0 + k0) w) (base bs x + k)) z.0 ∙ ap (λ x. word_at (with_word mem (base bs o0 + k0) w) (base bs o0 + x)) z.1 ∙ word_at-with_word_same mem (base bs o0 + k0) w in
          let P : Cell → Type 0 = λ x. MeansCell g bs x (word_at (with_word mem (base bs o0 + k0) w) (base bs o + k)) in
          let Q : ℕ → Type 0 = λ x. Means g bs y x in
          subst P (sym z.2) (subst Q (sym e) s)) (λ z.
          let Q : ℕ → Type 0 = λ x. MeansCell g bs c x in
          subst Q (sym (word_at-with_word_other mem (base bs o0 + k0) w (base bs o + k) (λ f. z.0 (l.apart o k o0 k0 c c0 z.1 target_cell f)))) (l.cells o k c z.1)) (stored_cell o k c h)
