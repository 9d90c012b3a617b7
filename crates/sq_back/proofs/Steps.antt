-- Lines that stand in an image, and what each of them does.
use Rattle.std.proofs.Common.{◌≡◌, ℕ, suc, ◌+◌, ◌*◌, ◌^◌, ◌<◌, ◌≤◌, Bool, true, false, List, [], ◌∷◌, ◌++◌, length, drop, get_or, refl, sym, ap, subst, ◌∙◌, arith, add-zero, append_assoc}
use Rattle.std.specs.Prelude.{ℤ, pos, ◌-ℤ◌, int_le, if◌then◌else◌}
use Rattle.std.proofs.lemmas.Int.{ints}
use Rattle.std.proofs.lemmas.List.{get_or-drop}
use Rattle.std.proofs.lemmas.Option.{unwrap_or-slice_get}
use Rattle.mach_core.specs.Rule.{Moment, run_from}
use Rattle.mach_core.proofs.Lists.{after_head}
use Rattle.mach_core.proofs.Runs.{run_from-add}
use Rattle.eir_core.specs.Memory.{Memory, word_at, with_word}
use Rattle.sq_lang.specs.Step.{CellMap, Config, cell_at, with_cell, sq_rule}
use Rattle.sq_back.specs.declared.line.Line.{Line}
use Rattle.sq_back.specs.Code.{cells_of}
use Rattle.sq_back.specs.Related.{is_working}
use Rattle.sq_back.proofs.CellLemmas.{Small, at, one_difference}
use Rattle.sq_back.proofs.Sizes.{cells_of-append}
use Rattle.sq_back.proofs.Bank.{Slot, Bank, Frame, Fits, cell_of, get, put, number_at, fits-zero, fits-slot, fits-word}

-- where a run is: its address, the number in the zero cell, the bank, and the memory
pub record State : Type 0 where
  pub address : ℤ
  pub zero : ℤ
  pub bank : Bank
  pub memory : Memory

abbrev pub state : ℤ → ℤ → Bank → Memory → State
state i z b m = record { address = i; zero = z; bank = b; memory = m }

-- lines stand in the image from an address on, before the memory
pub record Code (f : Frame) (i : ℕ) (lines : List Line) : Type 0 where
  pub more : List ℤ
  pub stands : drop i f.image ≡ cells_of lines ++ more
  pub within : i + 3 * length lines ≤ f.start

-- a line stands in the image at an address
pub record There (f : Frame) (i : ℕ) (line : Line) : Type 0 where
  pub within : i + 3 ≤ f.start
  pub from : number_at f.image i ≡ line.from
  pub to : number_at f.image (i + 1) ≡ line.to
  pub next : number_at f.image (i + 2) ≡ line.next

number_is : (image : List ℤ) (i j : ℕ) (xs : List ℤ) → drop i image ≡ xs → number_at image (i + j) ≡ get_or xs j (pos 0)
number_is image i j xs e = unwrap_or-slice_get image (i + j) (pos 0) ∙ (sym (get_or-drop i image j (pos 0)) ∙ ap (λ l. get_or l j (pos 0)) e)

pub head_line : {f : Frame} {i : ℕ} {line : Line} {lines : List Line} → Code f i (line ∷ lines) → There f i line
head_line {f = f} {i = i} {line = line} {lines = lines} c = record {
  within = omega (arith, c.within);
  from = ap (number_at f.image) (sym (add-zero i)) ∙ number_is f.image i 0 (cells_of (line ∷ lines) ++ c.more) c.stands;
  to = number_is f.image i 1 (cells_of (line ∷ lines) ++ c.more) c.stands;
  next = number_is f.image i 2 (cells_of (line ∷ lines) ++ c.more) c.stands;
}

pub tail_lines : {f : Frame} {i : ℕ} {line : Line} {lines : List Line} → Code f i (line ∷ lines) → Code f (i + 3) lines
tail_lines {f = f} {i = i} {line = line} {lines = lines} c =
    let rest = cells_of lines ++ c.more in
    let one = after_head f.image i line.from (line.to ∷ line.next ∷ rest) c.stands in
    let two = after_head f.image (suc i) line.to (line.next ∷ rest) one in
    let three = after_head f.image (suc (suc i)) line.next rest two in
    let far : i + 3 ≡ suc (suc (suc i)) = omega arith in
    record {
      more = c.more;
      stands = ap (λ k. drop k f.image) far ∙ three;
      within = omega (arith, c.within);
    }

pub front_lines : {f : Frame} {i : ℕ} (xs ys : List Line) → Code f i (xs ++ ys) → Code f i xs
front_lines {f = f} {i = i} xs ys c = record {
  more = cells_of ys ++ c.more;
  stands = c.stands ∙ (ap (λ l. l ++ c.more) (cells_of-append xs ys) ∙ append_assoc (cells_of xs) (cells_of ys) c.more);
  within = shorter xs ys i f.start c.within;
}
  where
    shorter : (xs ys : List Line) (i n : ℕ) → i + 3 * length (xs ++ ys) ≤ n → i + 3 * length xs ≤ n
    shorter [] ys i n h = omega arith
    shorter (x ∷ xs) ys i n h = omega (arith, shorter xs ys (i + 3) n (omega arith))

pub back_lines : {f : Frame} (xs ys : List Line) {i : ℕ} → Code f i (xs ++ ys) → Code f (i + 3 * length xs) ys
back_lines {f = f} [] ys {i = i} c = let none : i + 3 * 0 ≡ i = omega arith in rw none c
back_lines {f = f} (x ∷ xs) ys {i = i} c =
    let far : i + 3 * length (x ∷ xs) ≡ i + 3 + 3 * length xs = omega arith in
    subst (λ k. Code f k ys) (sym far) (back_lines xs ys {i = i + 3} (tail_lines c))

-- the same, where the address is called otherwise
pub lines_as : {f : Frame} {lines : List Line} (i j : ℕ) → i ≡ j → Code f i lines → Code f j lines
lines_as {f = f} {lines = lines} i j e c = subst (λ k. Code f k lines) e c

-- a cell has a number, wherever the rest is so
abbrev pub Has : Frame → ℤ → Bank → Memory → ℕ → ℤ → Type 0
Has f z b m a v = (cells : CellMap) → Fits f z b m cells → cell_at cells a ≡ v

-- the three numbers of an instruction
pub record Row (f : Frame) (z : ℤ) (b : Bank) (m : Memory) (i : ℕ) (x y g : ℤ) : Type 0 where
  pub near : i ≤ 2 ^ 24
  pub from : Has f z b m i x
  pub to : Has f z b m (i + 1) y
  pub next : Has f z b m (i + 2) g

-- the target comes to an address in so many steps, and the cells are then so
pub record Arrives (f : Frame) (from : Moment Config) (n k : ℕ) (o : List ℕ) (d : State) : Type 0 where
  pub cells : CellMap
  pub fits : Fits f d.zero d.bank d.memory cells
  pub runs : run_from (sq_rule f.image) f.input from n ≡ at cells k o d.address

-- from wherever the one is so it comes to where the other is so, in so many steps, and takes and writes nothing
pub record Goes (f : Frame) (c d : State) (n : ℕ) : Type 0 where
  pub goes : (cells : CellMap) (k : ℕ) (o : List ℕ) → Fits f c.zero c.bank c.memory cells → Arrives f (at cells k o c.address) n k o d

pub arrives_then : {f : Frame} {from : Moment Config} {n k l : ℕ} {o : List ℕ} {c d : State} → Arrives f from n k o c → Goes f c d l → Arrives f from (n + l) k o d
arrives_then {f = f} {from = from} {n = n} {k = k} {l = l} {o = o} p q =
    let r = q.goes p.cells k o p.fits in
    record {
      cells = r.cells;
      fits = r.fits;
      runs = run_from-add (sq_rule f.image) f.input from n l ∙ (ap (λ x. run_from (sq_rule f.image) f.input x l) p.runs ∙ r.runs);
    }

pub goes_then : {f : Frame} {c d e : State} {n l : ℕ} → Goes f c d n → Goes f d e l → Goes f c e (n + l)
goes_then p q = record { goes = λ cells k o fits. arrives_then (p.goes cells k o fits) q }

-- a way of one step or more, and so many at most
pub record Comes (f : Frame) (c d : State) (most : ℕ) : Type 0 where
  pub count : ℕ
  pub some : 1 ≤ count
  pub few : count ≤ most
  pub goes : Goes f c d count

-- the same, where the state is called otherwise
pub goes_as : {f : Frame} {c : State} {n : ℕ} (d e : State) → Goes f c d n → d ≡ e → Goes f c e n
goes_as {f = f} {c = c} {n = n} d e p is = subst (λ x. Goes f c x n) is p

module _ (f : Frame) where
  -- what is never written has the image's number
  pub fixed : (z : ℤ) (b : Bank) (m : Memory) (i : ℕ) (v : ℤ) → i < f.start → is_working i ≡ false → number_at f.image i ≡ v → Has f z b m i v
  fixed z b m i v low e is = λ cells h. h.lines i low e ∙ is

  pub slot_has : (z : ℤ) (b : Bank) (m : Memory) (s : Slot) → Has f z b m (cell_of f.hand s) (get b s)
  slot_has z b m s = λ cells h. h.slots s

  pub zero_has : (z : ℤ) (b : Bank) (m : Memory) → Has f z b m 3 z
  zero_has z b m = λ cells h. h.zero

  pub word_has : (z : ℤ) (b : Bank) (m : Memory) (q : ℕ) → Has f z b m (f.start + q) (pos (word_at m q))
  word_has z b m q = λ cells h. h.words q

  -- a line that is never written
  pub row : (z : ℤ) (b : Bank) (m : Memory) (i : ℕ) (line : Line) → There f i line → is_working i ≡ false → is_working (i + 1) ≡ false → is_working (i + 2) ≡ false → Row f z b m i line.from line.to line.next
  row z b m i line t e g h = record {
    near = omega (arith, t.within, f.near);
    from = fixed z b m i line.from (omega (arith, t.within)) e t.from;
    to = fixed z b m (i + 1) line.to (omega (arith, t.within)) g t.to;
    next = fixed z b m (i + 2) line.next (omega (arith, t.within)) h t.next;
  }

  unworked : (i : ℕ) → 132 ≤ i → is_working i ≡ false
  unworked i h = grind arith

  -- a line behind the first ones
  pub high_row : (z : ℤ) (b : Bank) (m : Memory) (i : ℕ) (line : Line) → There f i line → 132 ≤ i → Row f z b m i line.from line.to line.next
  high_row z b m i line t h = row z b m i line t (unworked i h) (unworked (i + 1) (omega arith)) (unworked (i + 2) (omega arith))

  -- a difference of cells
  differs : (z z' : ℤ) (b b' : Bank) (m m' : Memory) (i a c : ℕ) (g u w v : ℤ) → Row f z b m i (pos a) (pos c) g → Has f z b m a u → Has f z b m c w → w -ℤ u ≡ v → Small v
      → ((cells : CellMap) → Fits f z b m cells → Fits f z' b' m' (with_cell cells c v)) → Goes f (state (pos i) z b m) (state (if int_le v (pos 0) then g else pos (i + 3)) z' b' m') 1
  differs z z' b b' m m' i a c g u w v r from to is small keeps = record {
    goes = λ cells k o h. record {
      cells = with_cell cells c v;
      fits = keeps cells h;
      runs = one_difference f.image f.input cells k o i a c g u w v r.near (r.from cells h) (r.to cells h) (r.next cells h) (from cells h) (to cells h) is small;
    };
  }

  -- either way to the same place
  either : (t : Bool) (x : ℤ) → (if t then x else x) ≡ x
  either true x = refl
  either false x = refl

  nothing_left : (z : ℤ) → z -ℤ z ≡ pos 0
  nothing_left z = omega (arith, ints)

  small_zero : Small (pos 0)
  small_zero = record { low = omega (arith, ints); high = omega (arith, ints) }

  -- a difference in the zero cell, and on
  pub zero_on : (z : ℤ) (b : Bank) (m : Memory) (i a : ℕ) (u v : ℤ) → Row f z b m i (pos a) (pos 3) (pos (i + 3)) → Has f z b m a u → z -ℤ u ≡ v → Small v → Goes f (state (pos i) z b m) (state (pos (i + 3)) v b m) 1
  zero_on z b m i a u v r from is small =
      goes_as _ (state (pos (i + 3)) v b m) (differs z v b b m m i a 3 (pos (i + 3)) u z v r from (zero_has z b m) is small (λ cells h. fits-zero f z b m cells v h))
      (ap (λ x. state x v b m) (either (int_le v (pos 0)) (pos (i + 3))))

  -- a difference in a slot, and to a place
  pub slot_to : (z : ℤ) (b : Bank) (m : Memory) (i a : ℕ) (s : Slot) (g u v place : ℤ) → Row f z b m i (pos a) (pos (cell_of f.hand s)) g → Has f z b m a u → get b s -ℤ u ≡ v → Small v → (if int_le v (pos 0) then g else pos (i + 3)) ≡ place
      → Goes f (state (pos i) z b m) (state place z (put b s v) m) 1
  slot_to z b m i a s g u v place r from is small to =
      goes_as _ (state place z (put b s v) m) (differs z z b (put b s v) m m i a (cell_of f.hand s) g u (get b s) v r from (slot_has z b m s) is small (λ cells h. fits-slot f z b m cells s v h))
      (ap (λ x. state x z (put b s v) m) to)

  -- a difference in a slot, and on
  pub slot_on : (z : ℤ) (b : Bank) (m : Memory) (i a : ℕ) (s : Slot) (u v : ℤ) → Row f z b m i (pos a) (pos (cell_of f.hand s)) (pos (i + 3)) → Has f z b m a u → get b s -ℤ u ≡ v → Small v → Goes f (state (pos i) z b m) (state (pos (i + 3)) z (put b s v) m) 1
  slot_on z b m i a s u v r from is small = slot_to z b m i a s (pos (i + 3)) u v (pos (i + 3)) r from is small (either (int_le v (pos 0)) (pos (i + 3)))

  -- a word of the memory less a number is another word
  pub word_on : (z : ℤ) (b : Bank) (m : Memory) (i a q : ℕ) (u : ℤ) (w : ℕ) → Row f z b m i (pos a) (pos (f.start + q)) (pos (i + 3)) → Has f z b m a u → pos (word_at m q) -ℤ u ≡ pos w → Small (pos w) → Goes f (state (pos i) z b m) (state (pos (i + 3)) z b (with_word m q w)) 1
  word_on z b m i a q u w r from is small =
      goes_as _ (state (pos (i + 3)) z b (with_word m q w)) (differs z z b b m (with_word m q w) i a (f.start + q) (pos (i + 3)) u (pos (word_at m q)) (pos w) r from (word_has z b m q) is small (λ cells h. fits-word f z b m cells q w h))
      (ap (λ x. state x z b (with_word m q w)) (either (int_le (pos w) (pos 0)) (pos (i + 3))))

  -- a slot less itself is 0
  pub slot_clear : (z : ℤ) (b : Bank) (m : Memory) (i : ℕ) (s : Slot) → Row f z b m i (pos (cell_of f.hand s)) (pos (cell_of f.hand s)) (pos (i + 3)) → Goes f (state (pos i) z b m) (state (pos (i + 3)) z (put b s (pos 0)) m) 1
  slot_clear z b m i s r = slot_on z b m i (cell_of f.hand s) s (get b s) (pos 0) r (slot_has z b m s) (nothing_left (get b s)) small_zero

  -- the zero cell less itself is 0
  pub zero_clear : (z : ℤ) (b : Bank) (m : Memory) (i : ℕ) → Row f z b m i (pos 3) (pos 3) (pos (i + 3)) → Goes f (state (pos i) z b m) (state (pos (i + 3)) (pos 0) b m) 1
  zero_clear z b m i r = zero_on z b m i 3 z (pos 0) r (zero_has z b m) (nothing_left z) small_zero

  -- the same, and to a place
  pub zero_go : (z : ℤ) (b : Bank) (m : Memory) (i : ℕ) (g : ℤ) → Row f z b m i (pos 3) (pos 3) g → Goes f (state (pos i) z b m) (state g (pos 0) b m) 1
  zero_go z b m i g r = differs z (pos 0) b b m m i 3 3 g z z (pos 0) r (zero_has z b m) (zero_has z b m) (nothing_left z) small_zero (λ cells h. fits-zero f z b m cells (pos 0) h)

  -- a difference in a slot, and on to the next line, whose address is called otherwise
  pub slot_next : (z : ℤ) (b : Bank) (m : Memory) (i j a : ℕ) (s : Slot) (u v : ℤ) → Row f z b m i (pos a) (pos (cell_of f.hand s)) (pos j) → Has f z b m a u → get b s -ℤ u ≡ v → Small v → i + 3 ≡ j → Goes f (state (pos i) z b m) (state (pos j) z (put b s v) m) 1
  slot_next z b m i j a s u v r from is small e =
      slot_to z b m i a s (pos j) u v (pos j) r from is small (ap (λ k. if int_le v (pos 0) then pos j else pos k) e ∙ either (int_le v (pos 0)) (pos j))

  -- a difference that is at most 0
  pub slot_jump : (z : ℤ) (b : Bank) (m : Memory) (i a : ℕ) (s : Slot) (g u v : ℤ) → Row f z b m i (pos a) (pos (cell_of f.hand s)) g → Has f z b m a u → get b s -ℤ u ≡ v → Small v → int_le v (pos 0) ≡ true → Goes f (state (pos i) z b m) (state g z (put b s v) m) 1
  slot_jump z b m i a s g u v r from is small e = slot_to z b m i a s g u v g r from is small (ap (λ t. if t then g else pos (i + 3)) e)

  -- a difference above 0
  pub slot_fall : (z : ℤ) (b : Bank) (m : Memory) (i a : ℕ) (s : Slot) (g u v : ℤ) → Row f z b m i (pos a) (pos (cell_of f.hand s)) g → Has f z b m a u → get b s -ℤ u ≡ v → Small v → int_le v (pos 0) ≡ false → Goes f (state (pos i) z b m) (state (pos (i + 3)) z (put b s v) m) 1
  slot_fall z b m i a s g u v r from is small e = slot_to z b m i a s g u v (pos (i + 3)) r from is small (ap (λ t. if t then g else pos (i + 3)) e)
