-- The cells that are written while a program runs, with their numbers.
use Rattle.std.proofs.Common.{◌≡◌, ℕ, ◌+◌, ◌^◌, ◌<◌, ◌≤◌, Bool, true, false, cond, ◌||◌, List, slice_get, unwrap_or, refl, sym, ap, ◌∙◌, nat_eq, nat_lt, eq-eqb, arith}
use Rattle.std.specs.Prelude.{ℤ, pos}
use Rattle.std.proofs.lemmas.Bool.{eqb-true}
use Rattle.eir_core.specs.declared.ops.Reg.{Reg}
use Rattle.eir_core.specs.declared.ops.Reg.TheVariants.{A, B, C, D, SP, BP}
use Rattle.eir_core.specs.Memory.{Memory, word_at, with_word}
use Rattle.eir_core.specs.Step.{Regs, reg_of}
use Rattle.eir_core.proofs.WordAt.{word_at-with_word}
use Rattle.sq_lang.specs.Step.{CellMap, cell_at, with_cell}
use Rattle.sq_back.specs.Code.{register_cell, zero_cell, work_cell, other_cell, load_from, load_next, store_from, store_to, store_next, goto_next}
use Rattle.sq_back.specs.Related.{is_working}
use Rattle.sq_lang.proofs.CellsAtStart.{cell_at-with_cell}
use Rattle.sq_back.proofs.CellLemmas.{written, kept}

-- the cells that are written, but for the zero cell: of the registers' the one of the register in hand
pub data Slot : Type 0 where
  Work : Slot
  Other : Slot
  Hand : Slot
  LoadFrom : Slot
  LoadNext : Slot
  StoreFrom : Slot
  StoreTo : Slot
  StoreNext : Slot
  GotoNext : Slot

-- their numbers
pub record Bank : Type 0 where
  pub work : ℤ
  pub other : ℤ
  pub hand : ℤ
  pub load_from : ℤ
  pub load_next : ℤ
  pub store_from : ℤ
  pub store_to : ℤ
  pub store_next : ℤ
  pub goto_next : ℤ

abbrev pub cell_of : Reg → Slot → ℕ
cell_of r Work = work_cell
cell_of r Other = other_cell
cell_of r Hand = register_cell r
cell_of r LoadFrom = load_from
cell_of r LoadNext = load_next
cell_of r StoreFrom = store_from
cell_of r StoreTo = store_to
cell_of r StoreNext = store_next
cell_of r GotoNext = goto_next

abbrev pub get : Bank → Slot → ℤ
get b Work = b.work
get b Other = b.other
get b Hand = b.hand
get b LoadFrom = b.load_from
get b LoadNext = b.load_next
get b StoreFrom = b.store_from
get b StoreTo = b.store_to
get b StoreNext = b.store_next
get b GotoNext = b.goto_next

abbrev pub put : Bank → Slot → ℤ → Bank
put b Work v = record b { work = v }
put b Other v = record b { other = v }
put b Hand v = record b { hand = v }
put b LoadFrom v = record b { load_from = v }
put b LoadNext v = record b { load_next = v }
put b StoreFrom v = record b { store_from = v }
put b StoreTo v = record b { store_to = v }
put b StoreNext v = record b { store_next = v }
put b GotoNext v = record b { goto_next = v }

pub get-put : (b : Bank) (s : Slot) (v : ℤ) → get (put b s v) s ≡ v
get-put b Work v = refl
get-put b Other v = refl
get-put b Hand v = refl
get-put b LoadFrom v = refl
get-put b LoadNext v = refl
get-put b StoreFrom v = refl
get-put b StoreTo v = refl
get-put b StoreNext v = refl
get-put b GotoNext v = refl

pub put-put : (b : Bank) (s : Slot) (u v : ℤ) → put (put b s u) s v ≡ put b s v
put-put b Work u v = refl
put-put b Other u v = refl
put-put b Hand u v = refl
put-put b LoadFrom u v = refl
put-put b LoadNext u v = refl
put-put b StoreFrom u v = refl
put-put b StoreTo u v = refl
put-put b StoreNext u v = refl
put-put b GotoNext u v = refl

-- no register's cell is below 6 or above 11
pub register_apart : (r : Reg) (n : ℕ) → (nat_lt n 6 || nat_lt 11 n) ≡ true → (nat_eq n (register_cell r) ≡ false) × (nat_eq (register_cell r) n ≡ false)
register_apart A n h = (grind arith, grind arith)
register_apart B n h = (grind arith, grind arith)
register_apart C n h = (grind arith, grind arith)
register_apart D n h = (grind arith, grind arith)
register_apart SP n h = (grind arith, grind arith)
register_apart BP n h = (grind arith, grind arith)

-- what a slot has after a write
slot-put : (r : Reg) (b : Bank) (v : ℤ) (s t : Slot) → cond (nat_eq (cell_of r t) (cell_of r s)) v (get b t) ≡ get (put b s v) t
slot-put r b v Work Hand = ap (λ c. cond c v b.hand) (register_apart r 4 refl).1
slot-put r b v Work Work = refl
slot-put r b v Work t = refl
slot-put r b v Other Hand = ap (λ c. cond c v b.hand) (register_apart r 5 refl).1
slot-put r b v Other Work = refl
slot-put r b v Other t = refl
slot-put r b v LoadFrom Hand = ap (λ c. cond c v b.hand) (register_apart r 39 refl).1
slot-put r b v LoadFrom Work = refl
slot-put r b v LoadFrom t = refl
slot-put r b v LoadNext Hand = ap (λ c. cond c v b.hand) (register_apart r 47 refl).1
slot-put r b v LoadNext Work = refl
slot-put r b v LoadNext t = refl
slot-put r b v StoreFrom Hand = ap (λ c. cond c v b.hand) (register_apart r 72 refl).1
slot-put r b v StoreFrom Work = refl
slot-put r b v StoreFrom t = refl
slot-put r b v StoreTo Hand = ap (λ c. cond c v b.hand) (register_apart r 85 refl).1
slot-put r b v StoreTo Work = refl
slot-put r b v StoreTo t = refl
slot-put r b v StoreNext Hand = ap (λ c. cond c v b.hand) (register_apart r 89 refl).1
slot-put r b v StoreNext Work = refl
slot-put r b v StoreNext t = refl
slot-put r b v GotoNext Hand = ap (λ c. cond c v b.hand) (register_apart r 131 refl).1
slot-put r b v GotoNext Work = refl
slot-put r b v GotoNext t = refl
slot-put r b v Hand Hand = ap (λ c. cond c v b.hand) (eq-eqb (register_cell r) (register_cell r) refl)
slot-put r b v Hand Work = ap (λ c. cond c v b.work) (register_apart r 4 refl).0
slot-put r b v Hand Other = ap (λ c. cond c v b.other) (register_apart r 5 refl).0
slot-put r b v Hand LoadFrom = ap (λ c. cond c v b.load_from) (register_apart r 39 refl).0
slot-put r b v Hand LoadNext = ap (λ c. cond c v b.load_next) (register_apart r 47 refl).0
slot-put r b v Hand StoreFrom = ap (λ c. cond c v b.store_from) (register_apart r 72 refl).0
slot-put r b v Hand StoreTo = ap (λ c. cond c v b.store_to) (register_apart r 85 refl).0
slot-put r b v Hand StoreNext = ap (λ c. cond c v b.store_next) (register_apart r 89 refl).0
slot-put r b v Hand GotoNext = ap (λ c. cond c v b.goto_next) (register_apart r 131 refl).0

register_low : (r : Reg) → (register_cell r < 12) × (5 < register_cell r)
register_low A = omega arith
register_low B = omega arith
register_low C = omega arith
register_low D = omega arith
register_low SP = omega arith
register_low BP = omega arith

-- a slot lies below the rows, and isn't the zero cell
slot_low : (r : Reg) (s : Slot) → (cell_of r s < 132) × (3 < cell_of r s)
slot_low r Hand = omega (arith, register_low r)
slot_low r Work = omega arith
slot_low r s = omega arith

register_working : (r : Reg) → is_working (register_cell r) ≡ true
register_working A = refl
register_working B = refl
register_working C = refl
register_working D = refl
register_working SP = refl
register_working BP = refl

slot_working : (r : Reg) (s : Slot) → is_working (cell_of r s) ≡ true
slot_working r Hand = register_working r
slot_working r Work = refl
slot_working r s = refl

-- the cell of a register that isn't in hand is no slot
register_kept : (r x : Reg) (s : Slot) → nat_eq (register_cell x) (register_cell r) ≡ false → nat_eq (register_cell x) (cell_of r s) ≡ false
register_kept r x Hand e = e
register_kept r x Work e = (register_apart x 4 refl).1
register_kept r x Other e = (register_apart x 5 refl).1
register_kept r x LoadFrom e = (register_apart x 39 refl).1
register_kept r x LoadNext e = (register_apart x 47 refl).1
register_kept r x StoreFrom e = (register_apart x 72 refl).1
register_kept r x StoreTo e = (register_apart x 85 refl).1
register_kept r x StoreNext e = (register_apart x 89 refl).1
register_kept r x GotoNext e = (register_apart x 131 refl).1

-- where memory begins, the image, the input, the register in hand, and the registers' words
pub record Frame : Type 0 where
  pub start : ℕ
  pub image : List ℤ
  pub input : List ℕ
  pub hand : Reg
  pub regs : Regs
  pub high : 132 ≤ start
  pub near : start ≤ 2 ^ 24

-- the number that stands in an image
abbrev pub number_at : List ℤ → ℕ → ℤ
number_at image i = unwrap_or (slice_get image i) (pos 0)

-- the zero cell has a number, the slots have the bank's, the other registers and the memory have their words, and all that is never written is as it was
pub record Fits (f : Frame) (z : ℤ) (b : Bank) (m : Memory) (cells : CellMap) : Type 0 where
  pub zero : cell_at cells zero_cell ≡ z
  pub slots : (s : Slot) → cell_at cells (cell_of f.hand s) ≡ get b s
  pub others : (x : Reg) → nat_eq (register_cell x) (register_cell f.hand) ≡ false → cell_at cells (register_cell x) ≡ pos (reg_of f.regs x)
  pub words : (q : ℕ) → cell_at cells (f.start + q) ≡ pos (word_at m q)
  pub lines : (i : ℕ) → i < f.start → is_working i ≡ false → cell_at cells i ≡ number_at f.image i

apart : (n m : ℕ) → n < m → (nat_eq n m ≡ false) × (nat_eq m n ≡ false)
apart n m h = (grind arith, grind arith)

-- what isn't written while the program runs is at another address than what is
not_working : (i n : ℕ) → is_working i ≡ false → is_working n ≡ true → nat_eq i n ≡ false
not_working i n e h = elim (nat_eq i n) as (λ t. nat_eq i n ≡ t → t ≡ false) [
  | true ↦ λ same. let is : i ≡ n = eqb-true i n same in let clash : true ≡ false = sym h ∙ (ap is_working (sym is) ∙ e) in cc
  | false ↦ λ other. refl
] refl

module _ (f : Frame) where
  -- the zero cell is written
  pub fits-zero : (z : ℤ) (b : Bank) (m : Memory) (cells : CellMap) (v : ℤ) → Fits f z b m cells → Fits f v b m (with_cell cells zero_cell v)
  fits-zero z b m cells v h = record {
    zero = written cells 3 v 3 refl;
    slots = λ s. kept cells 3 v (cell_of f.hand s) (get b s) (apart 3 (cell_of f.hand s) (slot_low f.hand s).1).1 (h.slots s);
    others = λ x e. kept cells 3 v (register_cell x) (pos (reg_of f.regs x)) (register_apart x 3 refl).1 (h.others x e);
    words = λ q. let far : 3 < f.start + q = omega (arith, f.high) in kept cells 3 v (f.start + q) (pos (word_at m q)) (apart 3 (f.start + q) far).1 (h.words q);
    lines = λ i low e. kept cells 3 v i (number_at f.image i) (not_working i 3 e refl) (h.lines i low e);
  }

  -- a slot is written
  pub fits-slot : (z : ℤ) (b : Bank) (m : Memory) (cells : CellMap) (s : Slot) (v : ℤ) → Fits f z b m cells → Fits f z (put b s v) m (with_cell cells (cell_of f.hand s) v)
  fits-slot z b m cells s v h =
      let a = cell_of f.hand s in
      record {
        zero = kept cells a v 3 z (apart 3 a (slot_low f.hand s).1).0 h.zero;
        slots = λ t. slot t;
        others = λ x e. kept cells a v (register_cell x) (pos (reg_of f.regs x)) (register_kept f.hand x s e) (h.others x e);
        words = λ q. let far : a < f.start + q = omega (arith, f.high, slot_low f.hand s) in kept cells a v (f.start + q) (pos (word_at m q)) (apart a (f.start + q) far).1 (h.words q);
        lines = λ i low e. kept cells a v i (number_at f.image i) (not_working i a e (slot_working f.hand s)) (h.lines i low e);
      }
    where
      slot : (t : Slot) → cell_at (with_cell cells (cell_of f.hand s) v) (cell_of f.hand t) ≡ get (put b s v) t
      slot t =
          cell_at-with_cell cells (cell_of f.hand s) v (cell_of f.hand t)
          ∙ (ap (λ u. cond (nat_eq (cell_of f.hand t) (cell_of f.hand s)) v u) (h.slots t) ∙ slot-put f.hand b v s t)

  -- a word of the memory is written
  pub fits-word : (z : ℤ) (b : Bank) (m : Memory) (cells : CellMap) (q w : ℕ) → Fits f z b m cells → Fits f z b (with_word m q w) (with_cell cells (f.start + q) (pos w))
  fits-word z b m cells q w h =
      let a = f.start + q in
      record {
        zero = let far : 3 < f.start + q = omega (arith, f.high) in kept cells a (pos w) 3 z (apart 3 a far).0 h.zero;
        slots = λ s. let far : cell_of f.hand s < f.start + q = omega (arith, f.high, slot_low f.hand s) in kept cells a (pos w) (cell_of f.hand s) (get b s) (apart (cell_of f.hand s) a far).0 (h.slots s);
        others = λ x e. let far : register_cell x < f.start + q = omega (arith, f.high, register_low x) in kept cells a (pos w) (register_cell x) (pos (reg_of f.regs x)) (apart (register_cell x) a far).0 (h.others x e);
        words = λ k. word k;
        lines = λ i low e. let far : i < f.start + q = omega arith in kept cells a (pos w) i (number_at f.image i) (apart i a far).0 (h.lines i low e);
      }
    where
      same : (k : ℕ) → nat_eq (f.start + k) (f.start + q) ≡ nat_eq k q
      same k = grind arith

      pulled : (t : Bool) (x y : ℕ) → cond t (pos x) (pos y) ≡ pos (cond t x y)
      pulled true x y = refl
      pulled false x y = refl

      word : (k : ℕ) → cell_at (with_cell cells (f.start + q) (pos w)) (f.start + k) ≡ pos (word_at (with_word m q w) k)
      word k =
          cell_at-with_cell cells (f.start + q) (pos w) (f.start + k)
          ∙ (ap (λ u. cond (nat_eq (f.start + k) (f.start + q)) (pos w) u) (h.words k)
          ∙ (ap (λ t. cond t (pos w) (pos (word_at m k))) (same k)
          ∙ (pulled (nat_eq k q) w (word_at m k) ∙ ap pos (sym (word_at-with_word m q w k)))))
