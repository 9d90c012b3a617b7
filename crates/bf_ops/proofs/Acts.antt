-- What the operations add.
use Rattle.std.proofs.Common.{◌≡◌, ℕ, ◌+◌, ◌-◌, ◌*◌, ◌%◌, ◌^◌, ◌<◌, ◌≤◌, inl, inr, true, false, nat_lt, cond, List, [], ◌∷◌, ◌++◌, Result, Ok, Err, OnOk, refl, sym, ap, subst, ◌∙◌, arith, append-nil}
use Rattle.std.proofs.lemmas.Bool.{ltb-true, ltb-false}
use Rattle.mach_core.specs.Rule.{input_at}
use Rattle.mach_core.proofs.Inputs.{input_at_byte}
use Rattle.word24.specs.Word.{number_of}
use Rattle.word24.specs.declared.word.Word.{Word}
use Rattle.eir_core.specs.declared.ops.Reg.{Reg}
use Rattle.eir_core.specs.declared.ops.Reg.TheVariants.{A, B, C, D, SP, BP}
use Rattle.eir_core.specs.declared.ops.Operand.{Operand}
use Rattle.eir_core.specs.declared.ops.Operand.TheVariants.{Reg as register, Imm}
use Rattle.bf_tape.specs.Tape.{Tape, get, put}
use Rattle.bf_tape.specs.Does.{Does}
use Rattle.bf_tape.specs.Piece.{Piece, joined, Adds, any, taken_in, written_out}
use Rattle.bf_tape.proofs.Moves.{does_none, does_within}
use Rattle.bf_tape.proofs.Turning.{get_put, get_other, put_same}
use Rattle.bf_tape.proofs.Slotted.{put_held}
use Rattle.bf_word.specs.Word.{low_byte, mid_byte, high_byte, word_in, with_word, lifted_by, lowered_by, IsCounter, AreDistinct, IsOutside}
use Rattle.bf_word.specs.WordCode.{dup_word_code}
use Rattle.bf_word.proofs.Words.{put_put, cells_of, cells_apart, three, with_word_is, cell_kept, word_kept, word_set, set_again, set_same, bytes_of}
use Rattle.bf_word.proofs.Chain.{adds_then, adds_as}
use Rattle.bf_word.proofs.Scratch.{clear_word_in}
use Rattle.bf_memory.specs.Row.{Loads, Stores}
use Rattle.bf_memory.proofs.Bodies.{Link}
use Rattle.bf_ops.specs.Frame.{cell_of, before, value_in, bring_most, read_into, written, IsFrame, IsAside, IsVacant, lowered}
use Rattle.bf_ops.specs.Ask.{flag_of, asking}
use Rattle.bf_ops.specs.Ask.Ask.{Loading, Storing}
use Rattle.bf_ops.specs.OpsCode.{bring_code, bring_cell}
use Rattle.bf_ops.proofs.Dups.{dup_word_soon}
use Rattle.bf_ops.proofs.Kept.{stands, value_below}

-- nothing
pub none_adds : (p : Piece) (K : Tape → Type 0) (M L : ℕ) → Adds p p K (λ input s. s) M L
none_adds p K M L = record { added = []; commands = sym (append-nil p.commands); short = omega arith; balanced = refl; does = λ input s is k. does_within M (does_none input p.cell s) (omega arith) }

pub same_adds : {p q : Piece} (K : Tape → Type 0) (E : List ℕ → Tape → Tape) (M L : ℕ) {m l : ℕ} → Adds p q any E m l → m ≤ M → l ≤ L → Adds p q K E M L
same_adds K E M L a few short = adds_as E M L a (λ input s bytes k. (tt, refl)) few short

-- an operand brought to cells to work in
pub bring_adds : {p q : Piece} (reg : Reg) (cell to : ℕ) → cell ≡ cell_of reg → Adds p q (λ s. (word_in s to ≡ 0) × (get s (cell + 3) ≡ 0)) (λ input s. with_word s to (word_in s cell)) (3 * 2 ^ 20) (3 * 2 ^ 11)
    → Adds p q (IsVacant to) (λ input s. with_word s to (value_in s (register reg))) (3 * 2 ^ 20) (3 * 2 ^ 11)
bring_adds reg cell to is a =
    adds_as (λ input s. with_word s to (value_in s (register reg))) (3 * 2 ^ 20) (3 * 2 ^ 11) a
    (λ input s bytes k. ((k.word, ap (λ c. get s (c + 3)) is ∙ k.counters reg (cell_of reg + 3) (omega arith) (omega arith)), ap (λ c. with_word s to (word_in s c)) is)) (omega arith) (omega arith)

vacant : (s : Tape) (to : ℕ) → 110 ≤ to → to < 172 → IsFrame s → IsVacant to s
vacant s to lo hi k = record { counters = k.counters; word = clear_word_in s k.clear to lo hi }

bring_few : (v : Operand) → bring_most v ≤ 3 * 2 ^ 20
bring_few (register q) = omega arith
bring_few (Imm w) = omega arith

pub brought : {p q : Piece} {E : List ℕ → Tape → Tape} {l : ℕ} (v : Operand) (to : ℕ) → 110 ≤ to → to < 172 → Adds p q (IsVacant to) E (bring_most v) l → Adds p q IsFrame E (3 * 2 ^ 20) l
brought {E = E} {l = l} v to lo hi a = adds_as E (3 * 2 ^ 20) l a (λ input s bytes k. (vacant s to lo hi k, refl)) (bring_few v) (omega arith)

-- three cells beside all registers
pub aside_beyond : (to : ℕ) → 104 ≤ to → IsAside to
aside_beyond to lo q = let at' = stands q in (inl (omega (arith, at'.at, at'.few)), inl (omega (arith, at'.at, at'.few)))

pub aside_before : (x : Reg) → IsAside (before x)
aside_before x q =
    let a = stands q in
    let b = stands x in
    elim (nat_lt a.number b.number) as (λ t. nat_lt a.number b.number ≡ t → AreDistinct (cell_of q) (before x) × IsOutside (cell_of q + 3) (before x)) [
      | true ↦ λ t. let lt : a.number < b.number = ltb-true a.number b.number t in (inl (omega (arith, a.at, b.at)), inl (omega (arith, a.at, b.at)))
      | false ↦ λ t. let le : b.number ≤ a.number = ltb-false a.number b.number t in (inr (omega (arith, a.at, b.at)), inr (omega (arith, a.at, b.at)))
    ] refl

pub before_free : (s : Tape) (x : Reg) (c : ℕ) → IsFrame s → before x ≤ c → c < cell_of x → get s c ≡ 0
before_free s A c k lo hi = k.counters B c (omega arith) (omega arith)
before_free s B c k lo hi = k.counters C c (omega arith) (omega arith)
before_free s C c k lo hi = k.counters D c (omega arith) (omega arith)
before_free s D c k lo hi = k.counters SP c (omega arith) (omega arith)
before_free s SP c k lo hi = k.counters BP c (omega arith) (omega arith)
before_free s BP c k lo hi = k.own c (omega arith) (omega arith)

-- an operand beside the register that takes it
module _ (x : Reg) (v : Operand) where
  abbrev w : ℕ
  w = cell_of x

  abbrev g : ℕ
  g = before x

  near : g + 3 ≡ w
  near = let at' = stands x in omega (arith, at'.at)

  free_there : (s : Tape) → IsFrame s → IsVacant g s
  free_there s k = record {
    counters = k.counters;
    word = λ i. before_free s x g k (omega arith) (omega (arith, near)) i + 256 * before_free s x (g + 1) k (omega arith) (omega (arith, near)) i + 65536 * before_free s x (g + 2) k (omega arith) (omega (arith, near)) i;
  }

  gone : (s : Tape) (n : ℕ) → IsFrame s → with_word (with_word s g n) g 0 ≡ s
  gone s n k = set_again s g n 0 ∙ set_same s g 0 (before_free s x g k (omega arith) (omega (arith, near))) (before_free s x (g + 1) k (omega arith) (omega (arith, near))) (before_free s x (g + 2) k (omega arith) (omega (arith, near)))

  counter_beside : (s : Tape) → IsFrame s → IsCounter w (with_word s g (value_in s v))
  counter_beside s k = λ c lo hi. cell_kept s g (value_in s v) c (inr (omega (arith, near))) ∙ k.counters x c lo hi

  there : (s : Tape) → word_in (with_word s g (value_in s v)) w ≡ word_in s w
  there s = word_kept s g (value_in s v) w (inl (omega (arith, near)))

  pub operand_adds : {p q : Piece} → Adds p q (IsVacant g) (λ input s. with_word s g (value_in s v)) (bring_most v) (3 * 2 ^ 11) → Adds p q IsFrame (λ input s. with_word s g (value_in s v)) (3 * 2 ^ 20) (3 * 2 ^ 11)
  operand_adds a = adds_as (λ input s. with_word s g (value_in s v)) (3 * 2 ^ 20) (3 * 2 ^ 11) a (λ input s bytes k. (free_there s k, refl)) (bring_few v) (omega arith)

  pub add_adds : {p q r : Piece} (cell : ℕ) → cell ≡ w → Adds p q (IsVacant (cell - 3)) (λ input s. with_word s (cell - 3) (value_in s v)) (bring_most v) (3 * 2 ^ 11) → Adds q r (IsCounter cell) (λ input s. lifted_by cell (cell - 3) s) (2 ^ 20) (2 ^ 12)
      → Adds p r IsFrame (λ input s. with_word s w ((word_in s w + value_in s v) % 2 ^ 24)) (2 ^ 22) (2 ^ 14)
  add_adds {p = p} {q = q} {r = r} cell is a' b' =
      let a = operand_adds (subst (λ c. Adds p q (IsVacant (c - 3)) (λ input s. with_word s (c - 3) (value_in s v)) (bring_most v) (3 * 2 ^ 11)) is a') in
      let b : Adds q r (IsCounter w) (λ input s. lifted_by w g s) (2 ^ 20) (2 ^ 12) = subst (λ c. Adds q r (IsCounter c) (λ input s. lifted_by c (c - 3) s) (2 ^ 20) (2 ^ 12)) is b' in
      adds_as (λ input s. with_word s w ((word_in s w + value_in s v) % 2 ^ 24)) (2 ^ 22) (2 ^ 14)
      (adds_then IsFrame a b (λ input s bytes k. (k, counter_beside s k)))
      (λ input s bytes k. (k, λ i. with_word (gone s (value_in s v) k i) w ((there s i + word_set s g (value_in s v) (value_below s v bytes) i) % 2 ^ 24))) (omega arith) (omega arith)

  pub take_adds : {p q r : Piece} (cell : ℕ) → cell ≡ w → Adds p q (IsVacant (cell - 3)) (λ input s. with_word s (cell - 3) (value_in s v)) (bring_most v) (3 * 2 ^ 11) → Adds q r (IsCounter cell) (λ input s. lowered_by cell (cell - 3) s) (2 ^ 20) (2 ^ 12)
      → Adds p r IsFrame (λ input s. lowered s x (value_in s v)) (2 ^ 22) (3 * 2 ^ 12)
  take_adds {p = p} {q = q} {r = r} cell is a' b' =
      let a = operand_adds (subst (λ c. Adds p q (IsVacant (c - 3)) (λ input s. with_word s (c - 3) (value_in s v)) (bring_most v) (3 * 2 ^ 11)) is a') in
      let b : Adds q r (IsCounter w) (λ input s. lowered_by w g s) (2 ^ 20) (2 ^ 12) = subst (λ c. Adds q r (IsCounter c) (λ input s. lowered_by c (c - 3) s) (2 ^ 20) (2 ^ 12)) is b' in
      adds_as (λ input s. lowered s x (value_in s v)) (2 ^ 22) (3 * 2 ^ 12)
      (adds_then IsFrame a b (λ input s bytes k. (k, counter_beside s k)))
      (λ input s bytes k. (
        k,
        λ i.
            put (with_word (gone s (value_in s v) k i) w ((there s i + (2 ^ 24 - word_set s g (value_in s v) (value_below s v bytes) i)) % 2 ^ 24)) (w + 9)
            (cond (nat_lt (there s i) (word_set s g (value_in s v) (value_below s v bytes) i)) 1 0),
      )) (omega arith) (omega arith)

  pub sub_adds : {p r t : Piece} (cell : ℕ) → cell ≡ w → Adds p r IsFrame (λ input s. lowered s x (value_in s v)) (2 ^ 22) (3 * 2 ^ 12) → Adds r t any (λ input s. put s (cell + 9) 0) 1024 258
      → Adds p t IsFrame (λ input s. with_word s w ((word_in s w + (2 ^ 24 - value_in s v)) % 2 ^ 24)) (2 ^ 23) (2 ^ 14)
  sub_adds {r = r} {t = t} cell is down d' =
      let rest : Tape → ℕ = λ s. (word_in s w + (2 ^ 24 - value_in s v)) % 2 ^ 24 in
      let o : Tape → ℕ = λ s. cond (nat_lt (word_in s w) (value_in s v)) 1 0 in
      let d : Adds r t any (λ input s. put s (w + 9) 0) 1024 258 = subst (λ c. Adds r t any (λ input s. put s (c + 9) 0) 1024 258) is d' in
      adds_as (λ input s. with_word s w (rest s)) (2 ^ 23) (2 ^ 14) (adds_then IsFrame down d (λ input s bytes k. (k, tt)))
      (λ input s bytes k. (k, put_put (with_word s w (rest s)) (w + 9) (o s) 0 ∙ put_same (with_word s w (rest s)) (w + 9) 0 (cell_kept s w (rest s) (w + 9) (inr (omega arith)) ∙ k.counters x (w + 9) (omega arith) (omega arith)))) (omega arith) (omega arith)

-- one register becomes another
pub copy_adds : {p q r : Piece} (to from : ℕ) → AreDistinct from to → AreDistinct to from → IsOutside (from + 3) to → Adds p q any (λ input s. with_word s to 0) (3 * 2 ^ 10) (3 * 2 ^ 9)
    → Adds q r (λ s. (word_in s to ≡ 0) × (get s (from + 3) ≡ 0)) (λ input s. with_word s to (word_in s from)) (3 * 2 ^ 20) (3 * 2 ^ 11)
    → Adds p r (IsCounter from) (λ input s. with_word s to (word_in s from)) (2 ^ 22) (2 ^ 13)
copy_adds to from distinct other out a b =
    adds_as (λ input s. with_word s to (word_in s from)) (2 ^ 22) (2 ^ 13)
    (adds_then (IsCounter from) a b (λ input s bytes k. (tt, (word_set s to 0 (omega arith), cell_kept s to 0 (from + 3) out ∙ k (from + 3) (omega arith) (omega arith)))))
    (λ input s bytes k. (k, ap (λ x. with_word (with_word s to 0) to x) (word_kept s to 0 from other) ∙ set_again s to 0 (word_in s from))) (omega arith) (omega arith)

pub mov_constant : {p q : Piece} (x : Reg) (cell n : ℕ) → cell ≡ cell_of x → Adds p q any (λ input s. with_word s cell n) (2 ^ 13) (2 ^ 12) → Adds p q IsFrame (λ input s. with_word s (cell_of x) n) (2 ^ 22) (2 ^ 13)
mov_constant x cell n is a = adds_as (λ input s. with_word s (cell_of x) n) (2 ^ 22) (2 ^ 13) a (λ input s bytes k. (tt, ap (λ c. with_word s c n) is)) (omega arith) (omega arith)

pub mov_same : (p : Piece) (x y : Reg) → cell_of y ≡ cell_of x → Adds p p IsFrame (λ input s. with_word s (cell_of x) (value_in s (register y))) (2 ^ 22) (2 ^ 13)
mov_same p x y is =
    adds_as (λ input s. with_word s (cell_of x) (value_in s (register y))) (2 ^ 22) (2 ^ 13) (none_adds p IsFrame 0 0)
    (λ input s bytes k.
    let b = bytes_of s (cell_of x) bytes in
    (k, sym (ap (λ c. with_word s (cell_of x) (word_in s c)) is ∙ set_same s (cell_of x) (word_in s (cell_of x)) b.low b.mid b.high))) (omega arith) (omega arith)

pub mov_copied : {p q : Piece} (x y : Reg) (to from : ℕ) → to ≡ cell_of x → from ≡ cell_of y → Adds p q (IsCounter from) (λ input s. with_word s to (word_in s from)) (2 ^ 22) (2 ^ 13)
    → Adds p q IsFrame (λ input s. with_word s (cell_of x) (value_in s (register y))) (2 ^ 22) (2 ^ 13)
mov_copied x y to from to_is from_is a =
    adds_as (λ input s. with_word s (cell_of x) (value_in s (register y))) (2 ^ 22) (2 ^ 13) a
    (λ input s bytes k. (subst (λ c. IsCounter c s) (sym from_is) (k.counters y), λ i. with_word s (to_is i) (word_in s (from_is i)))) (omega arith) (omega arith)

pub small_set : (s : Tape) (w v : ℕ) → v < 2 ^ 8 → put (with_word s w 0) w v ≡ with_word s w v
small_set s w v lv =
    let l : v ≡ low_byte v = omega arith in
    let m : 0 ≡ mid_byte v = omega arith in
    let h : 0 ≡ high_byte v = omega arith in
    ap (λ t. put t w v) (with_word_is s w 0) ∙ (put_held s (cells_of w) (0 ∷ 0 ∷ 0 ∷ []) 0 v (cells_apart w) (omega arith) refl ∙ ((λ i. three s w (l i) (m i) (h i)) ∙ sym (with_word_is s w v)))

-- memory
abbrev pub link_loads : {p q : Piece} {a d : ℕ} → Loads p q a d → Link p q (2 ^ 17)
link_loads a = record { added = a.added; commands = a.commands; short = a.short; balanced = a.balanced }

abbrev pub link_stores : {p q : Piece} {a d : ℕ} → Stores p q a d → Link p q (2 ^ 17)
link_stores a = record { added = a.added; commands = a.commands; short = a.short; balanced = a.balanced }

-- what is asked
address_free : (s : Tape) → IsFrame s → IsVacant 107 s
address_free s k = record {
  counters = k.counters;
  word = λ i. k.counters A 107 (omega arith) (omega arith) i + 256 * k.counters A 108 (omega arith) (omega arith) i + 65536 * k.counters A 109 (omega arith) (omega arith) i;
}

value_free : (s : Tape) (n : ℕ) → IsFrame s → word_in (with_word s 107 n) 87 ≡ 0
value_free s n k =
    word_kept s 107 n 87 (inr (omega arith)) ∙ (λ i. k.counters C 87 (omega arith) (omega arith) i + 256 * k.counters C 88 (omega arith) (omega arith) i + 65536 * k.counters C 89 (omega arith) (omega arith) i)

pub value_apart : (x : Reg) → AreDistinct (cell_of x) 87
value_apart A = inr (omega arith)
value_apart B = inr (omega arith)
value_apart C = inl (omega arith)
value_apart D = inl (omega arith)
value_apart SP = inl (omega arith)
value_apart BP = inl (omega arith)

pub spare_apart : (x : Reg) → IsOutside (cell_of x + 3) 87
spare_apart A = inr (omega arith)
spare_apart B = inr (omega arith)
spare_apart C = inl (omega arith)
spare_apart D = inl (omega arith)
spare_apart SP = inl (omega arith)
spare_apart BP = inl (omega arith)

-- a cell that is 0 is raised
raise : (s : Tape) (c : ℕ) → get s c ≡ 0 → put s c ((get s c + 1) % 2 ^ 8) ≡ put s c 1
raise s c none = ap (λ v. put s c ((v + 1) % 2 ^ 8)) none

pub ask_load : {p q r t : Piece} (x : Reg) (v : Operand) (cell : ℕ) → cell ≡ cell_of x → Adds p q (IsVacant 107) (λ input s. with_word s 107 (value_in s v)) (bring_most v) (3 * 2 ^ 11)
    → Adds q r any (λ input s. put s (cell + 6) ((get s (cell + 6) + 1) % 2 ^ 8)) 512 512 → Adds r t any (λ input s. put s 46 ((get s 46 + 1) % 2 ^ 8)) 512 512
    → Adds p t IsFrame (λ input s. asking (Loading x (value_in s v)) s) (3 * 2 ^ 20 + 2 ^ 12) (2 ^ 14)
ask_load {q = q} {r = r} x v cell is a b' d =
    let there = stands x in
    let f : ℕ = flag_of x in
    let b : Adds q r any (λ input s. put s f ((get s f + 1) % 2 ^ 8)) 512 512 = subst (λ c. Adds q r any (λ input s. put s (c + 6) ((get s (c + 6) + 1) % 2 ^ 8)) 512 512) is b' in
    let few : bring_most v ≤ 3 * 2 ^ 20 = bring_few v in
    let up = adds_as (λ input s. put (with_word s 107 (value_in s v)) f 1) (3 * 2 ^ 20 + 512) (3 * 2 ^ 11 + 512) (adds_then IsFrame a b (λ input s bytes k. (address_free s k, tt)))
    (λ input s bytes k. (k, raise (with_word s 107 (value_in s v)) f (cell_kept s 107 (value_in s v) f (inl (omega (arith, there.at, there.few))) ∙ k.counters x f (omega arith) (omega arith)))) (omega (arith, few)) (omega arith) in
    adds_as (λ input s. asking (Loading x (value_in s v)) s) (3 * 2 ^ 20 + 2 ^ 12) (2 ^ 14) (adds_then IsFrame up d (λ input s bytes k. (k, tt)))
    (λ input s bytes k.
    let u : Tape = with_word s 107 (value_in s v) in
    (k, raise (put u f 1) 46 (get_other u f 46 1 (omega (arith, there.at)) ∙ (cell_kept s 107 (value_in s v) 46 (inl (omega arith)) ∙ k.own 46 (omega arith) (omega arith))))) (omega arith) (omega arith)

-- an operand is brought in half the commands
bring_soon : {p q : Piece} (v : Operand) → p.cell < 256 → q ≡ joined p (bring_code p.cell v 107) (bring_cell v 107) → Adds p q (IsVacant 107) (λ input s. with_word s 107 (value_in s v)) (bring_most v) (3 * 2 ^ 11)
    → Adds p q (IsVacant 107) (λ input s. with_word s 107 (value_in s v)) (3 * 2 ^ 19) (3 * 2 ^ 11)
bring_soon (Imm w) below is a = adds_as (λ input s. with_word s 107 (number_of w)) (3 * 2 ^ 19) (3 * 2 ^ 11) a (λ input s bytes k. (k, refl)) (omega arith) (omega arith)
bring_soon {p = p} {q = q} (register x) below is a =
    let there = stands x in
    let low : cell_of x ≤ 100 = omega (arith, there.at, there.few) in
    subst (λ t. Adds p t (IsVacant 107) (λ input s. with_word s 107 (word_in s (cell_of x))) (3 * 2 ^ 19) (3 * 2 ^ 11)) (sym is)
    (adds_as (λ input s. with_word s 107 (word_in s (cell_of x))) (3 * 2 ^ 19) (3 * 2 ^ 11)
    (dup_word_soon p (cell_of x) 107 (cell_of x + 3) below (omega (arith, low)) (omega arith) (omega (arith, low)) (inl (omega (arith, low))) (inr (omega arith)) (inl (omega (arith, low))))
    (λ input s bytes k. ((k.word, k.counters x (cell_of x + 3) (omega arith) (omega arith)), refl)) (omega arith) (omega arith))

bring_cell_few : (v : Operand) → bring_cell v 107 < 256
bring_cell_few (register x) = let there = stands x in omega (arith, there.at, there.few)
bring_cell_few (Imm w) = omega arith

pub ask_store : {p q r t : Piece} (x : Reg) (v : Operand) (cell : ℕ) → cell ≡ cell_of x → p.cell < 256 → q ≡ joined p (bring_code p.cell v 107) (bring_cell v 107)
    → Adds p q (IsVacant 107) (λ input s. with_word s 107 (value_in s v)) (bring_most v) (3 * 2 ^ 11)
    → r ≡ joined q (dup_word_code q.cell cell 87 (cell + 3)) (cell + 3)
    → Adds r t any (λ input s. put s 47 ((get s 47 + 1) % 2 ^ 8)) 512 512
    → Adds p t IsFrame (λ input s. asking (Storing (value_in s v) (word_in s (cell_of x))) s) (3 * 2 ^ 20 + 2 ^ 12) (2 ^ 14)
ask_store {p = p} {q = q} {r = r} x v cell is below q_is a' r_is d =
    let there = stands x in
    let w : ℕ = cell_of x in
    let low : w ≤ 100 = omega (arith, there.at, there.few) in
    let a = bring_soon v below q_is a' in
    let at_q : q.cell ≡ bring_cell v 107 = ap (λ t. t.cell) q_is in
    let r_code : r ≡ joined q (dup_word_code q.cell w 87 (w + 3)) (w + 3) = r_is ∙ ap (λ c. joined q (dup_word_code q.cell c 87 (c + 3)) (c + 3)) is in
    let b : Adds q r (λ s. (word_in s 87 ≡ 0) × (get s (w + 3) ≡ 0)) (λ input s. with_word s 87 (word_in s w)) (3 * 2 ^ 19) (3 * 2 ^ 11) =
    subst (λ t. Adds q t (λ s. (word_in s 87 ≡ 0) × (get s (w + 3) ≡ 0)) (λ input s. with_word s 87 (word_in s w)) (3 * 2 ^ 19) (3 * 2 ^ 11)) (sym r_code)
    (dup_word_soon q w 87 (w + 3) (omega (arith, at_q, bring_cell_few v)) (omega (arith, low)) (omega arith) (omega (arith, low)) (value_apart x) (inr (omega arith)) (spare_apart x)) in
    let n : Tape → ℕ = λ s. value_in s v in
    let both = adds_as (λ input s. with_word (with_word s 107 (n s)) 87 (word_in s w)) (3 * 2 ^ 20) (3 * 2 ^ 12)
    (adds_then IsFrame a b (λ input s bytes k. (address_free s k, (value_free s (n s) k, cell_kept s 107 (n s) (w + 3) (inl (omega (arith, low))) ∙ k.counters x (w + 3) (omega arith) (omega arith)))))
    (λ input s bytes k. (k, ap (λ y. with_word (with_word s 107 (n s)) 87 y) (word_kept s 107 (n s) w (inr (omega (arith, low)))))) (omega arith) (omega arith) in
    adds_as (λ input s. asking (Storing (n s) (word_in s w)) s) (3 * 2 ^ 20 + 2 ^ 12) (2 ^ 14) (adds_then IsFrame both d (λ input s bytes k. (k, tt)))
    (λ input s bytes k. (
      k,
      raise (with_word (with_word s 107 (n s)) 87 (word_in s w)) 47 (cell_kept (with_word s 107 (n s)) 87 (word_in s w) 47 (inl (omega arith)) ∙ (cell_kept s 107 (n s) 47 (inl (omega arith)) ∙ k.own 47 (omega arith) (omega arith))),
    )) (omega arith) (omega arith)

-- input and output
pub getc_adds : {p q r : Piece} (x : Reg) (cell : ℕ) → cell ≡ cell_of x → Adds p q any (λ input s. with_word s cell 0) (3 * 2 ^ 10) (3 * 2 ^ 9) → Adds q r any (λ input s. taken_in input s cell) 256 256
    → Adds p r IsFrame (λ input s. read_into input s (cell_of x)) (2 ^ 13) (2 ^ 12)
getc_adds {p = p} {r = r} x cell cell_is a b =
    let both = adds_then IsFrame a b (λ input s bytes k. (tt, tt)) in
    record {
      added = both.added;
      commands = both.commands;
      short = omega (arith, both.short);
      balanced = both.balanced;
      does = λ input s is k.
          let v : ℕ = input_at input s.taken in
          let e : taken_in input (with_word s cell 0) cell ≡ read_into input s (cell_of x) =
          (λ i. let t = small_set s cell v (input_at_byte input s.taken is) i in record { base = t.base; cells = t.cells; taken = s.taken + 1; output = s.output }) ∙ ap (λ c. read_into input s c) cell_is in
          does_within (2 ^ 13) (subst (λ t. Does input both.added p.cell s r.cell t (3 * 2 ^ 10 + 256)) e (both.does input s is k)) (omega arith);
    }

pub put_register : {p q : Piece} (x : Reg) (cell : ℕ) → cell ≡ cell_of x → Adds p q any (λ input s. written_out s cell) 256 256 → Adds p q IsFrame (λ input s. written s (value_in s (register x) % 2 ^ 8)) (2 ^ 11) (2 ^ 11)
put_register x cell cell_is a =
    adds_as (λ input s. written s (value_in s (register x) % 2 ^ 8)) (2 ^ 11) (2 ^ 11) a
    (λ input s bytes k.
    let l : get s (cell_of x) < 2 ^ 8 = bytes (s.base + cell_of x) in
    let e : get s (cell_of x) ≡ word_in s (cell_of x) % 2 ^ 8 = omega (arith, l) in
    (tt, ap (λ c. written_out s c) cell_is ∙ ap (λ v. written s v) e)) (omega arith) (omega arith)

pub put_constant_adds : {p q r t : Piece} (n v : ℕ) → v ≡ n % 256 → Adds p q any (λ input s. put s 110 ((get s 110 + v) % 2 ^ 8)) 512 512 → Adds q r any (λ input s. written_out s 110) 256 256 → Adds r t any (λ input s. put s 110 0) 1024 258
    → Adds p t IsFrame (λ input s. written s (n % 2 ^ 8)) (2 ^ 11) (2 ^ 11)
put_constant_adds {p = p} {q = q} n v v_is a b d =
    let up : Adds p q IsFrame (λ input s. put s 110 v) 512 512 = adds_as (λ input s. put s 110 v) 512 512 a (λ input s bytes k. (tt, let e : (get s 110 + v) % 2 ^ 8 ≡ v = omega (arith, k.clear 110 (omega arith) (omega arith), v_is) in ap (λ x. put s 110 x) e)) (omega arith) (omega arith) in
    let out = adds_then IsFrame up b (λ input s bytes k. (k, tt)) in
    adds_as (λ input s. written s (n % 2 ^ 8)) (2 ^ 11) (2 ^ 11) (adds_then IsFrame out d (λ input s bytes k. (k, tt)))
    (λ input s bytes k.
    let back : put (put s 110 v) 110 0 ≡ s = put_put s 110 v 0 ∙ put_same s 110 0 (k.clear 110 (omega arith) (omega arith)) in
    let byte : get (put s 110 v) 110 ≡ n % 2 ^ 8 = get_put s 110 v ∙ v_is in
    (k, λ i. record { base = s.base; cells = (back i).cells; taken = s.taken; output = s.output ++ byte i ∷ [] })) (omega arith) (omega arith)

-- what holds on Ok
pub on_ok : {T E A B : Type 0} (r : Result T E) → (A → B) → OnOk r A → OnOk r B
on_ok (Ok x) f a = f a
on_ok (Err e) f a = tt

-- by cases on an operand
pub bring_register : {p q : Piece} (v : Operand) (reg : Reg) (cell to : ℕ) → v ≡ register reg → cell ≡ cell_of reg → Adds p q (λ s. (word_in s to ≡ 0) × (get s (cell + 3) ≡ 0)) (λ input s. with_word s to (word_in s cell)) (3 * 2 ^ 20) (3 * 2 ^ 11)
    → Adds p q (IsVacant to) (λ input s. with_word s to (value_in s v)) (bring_most v) (3 * 2 ^ 11)
bring_register {p = p} {q = q} v reg cell to is cell_is a = subst (λ v. Adds p q (IsVacant to) (λ input s. with_word s to (value_in s v)) (bring_most v) (3 * 2 ^ 11)) (sym is) (bring_adds reg cell to cell_is a)

pub bring_constant : {p q : Piece} (v : Operand) (w : Word) (to : ℕ) → v ≡ Imm w → Adds p q any (λ input s. with_word s to (number_of w)) (2 ^ 13) (2 ^ 12) → Adds p q (IsVacant to) (λ input s. with_word s to (value_in s v)) (bring_most v) (3 * 2 ^ 11)
bring_constant {p = p} {q = q} v w to is a =
    subst (λ v. Adds p q (IsVacant to) (λ input s. with_word s to (value_in s v)) (bring_most v) (3 * 2 ^ 11)) (sym is) (same_adds (IsVacant to) (λ input s. with_word s to (number_of w)) (2 ^ 13) (3 * 2 ^ 11) a (omega arith) (omega arith))

pub moved_constant : {p q : Piece} (x : Reg) (v : Operand) (w : Word) (cell : ℕ) → v ≡ Imm w → cell ≡ cell_of x → Adds p q any (λ input s. with_word s cell (number_of w)) (2 ^ 13) (2 ^ 12)
    → Adds p q IsFrame (λ input s. with_word s (cell_of x) (value_in s v)) (2 ^ 22) (2 ^ 13)
moved_constant {p = p} {q = q} x v w cell is cell_is a = subst (λ v. Adds p q IsFrame (λ input s. with_word s (cell_of x) (value_in s v)) (2 ^ 22) (2 ^ 13)) (sym is) (mov_constant x cell (number_of w) cell_is a)

pub moved_same : (p : Piece) (x y : Reg) (v : Operand) (to from : ℕ) → v ≡ register y → to ≡ cell_of x → from ≡ cell_of y → from ≡ to → Adds p p IsFrame (λ input s. with_word s (cell_of x) (value_in s v)) (2 ^ 22) (2 ^ 13)
moved_same p x y v to from is to_is from_is same = subst (λ v. Adds p p IsFrame (λ input s. with_word s (cell_of x) (value_in s v)) (2 ^ 22) (2 ^ 13)) (sym is) (mov_same p x y (sym from_is ∙ (same ∙ to_is)))

pub moved_copy : {p q : Piece} (x y : Reg) (v : Operand) (to from : ℕ) → v ≡ register y → to ≡ cell_of x → from ≡ cell_of y → Adds p q (IsCounter from) (λ input s. with_word s to (word_in s from)) (2 ^ 22) (2 ^ 13)
    → Adds p q IsFrame (λ input s. with_word s (cell_of x) (value_in s v)) (2 ^ 22) (2 ^ 13)
moved_copy {p = p} {q = q} x y v to from is to_is from_is a = subst (λ v. Adds p q IsFrame (λ input s. with_word s (cell_of x) (value_in s v)) (2 ^ 22) (2 ^ 13)) (sym is) (mov_copied x y to from to_is from_is a)

pub put_of_register : {p q : Piece} (v : Operand) (x : Reg) (cell : ℕ) → v ≡ register x → cell ≡ cell_of x → Adds p q any (λ input s. written_out s cell) 256 256 → Adds p q IsFrame (λ input s. written s (value_in s v % 2 ^ 8)) (2 ^ 11) (2 ^ 11)
put_of_register {p = p} {q = q} v x cell is cell_is a = subst (λ v. Adds p q IsFrame (λ input s. written s (value_in s v % 2 ^ 8)) (2 ^ 11) (2 ^ 11)) (sym is) (put_register x cell cell_is a)

pub put_of_constant : {p q : Piece} (v : Operand) (w : Word) → v ≡ Imm w → Adds p q IsFrame (λ input s. written s (number_of w % 2 ^ 8)) (2 ^ 11) (2 ^ 11) → Adds p q IsFrame (λ input s. written s (value_in s v % 2 ^ 8)) (2 ^ 11) (2 ^ 11)
put_of_constant {p = p} {q = q} v w is a = subst (λ v. Adds p q IsFrame (λ input s. written s (value_in s v % 2 ^ 8)) (2 ^ 11) (2 ^ 11)) (sym is) a
