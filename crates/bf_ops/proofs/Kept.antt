-- Registers and the memory on the frame.
use Rattle.std.proofs.Common.{◌≡◌, ◌≢◌, ℕ, ◌+◌, ◌-◌, ◌*◌, ◌^◌, ◌<◌, ◌≤◌, ◌⊎◌, inl, inr, Bool, true, false, not, nat_lt, nat_le, cond, refl, sym, ap, ◌∙◌, arith}
use Rattle.std.proofs.lemmas.Bool.{ltb-true, ltb-false, le-leb, lt-leb}
use Rattle.eir_core.specs.declared.ops.Reg.{Reg}
use Rattle.eir_core.specs.declared.ops.Reg.TheVariants.{A, B, C, D, SP, BP}
use Rattle.eir_core.specs.declared.ops.Cond.{Cond}
use Rattle.eir_core.specs.declared.ops.Cond.TheVariants.{Eq, Ne, Lt, Gt, Le, Ge}
use Rattle.eir_core.specs.declared.ops.Operand.{Operand}
use Rattle.eir_core.specs.declared.ops.Operand.TheVariants.{Reg as register, Imm}
use Rattle.eir_core.specs.Memory.{Memory}
use Rattle.eir_core.specs.Step.{Regs, reg_of, with_reg, holds}
use Rattle.bf_tape.specs.Tape.{Tape}
use Rattle.bf_word.specs.Word.{word_in, with_word, IsClear, AreDistinct}
use Rattle.bf_word.proofs.Words.{cell_kept, word_kept, word_set, bytes_of}
use Rattle.bf_memory.specs.Row.{Holds, slot}
use Rattle.bf_memory.proofs.Stored.{holds_stored}
use Rattle.bf_ops.specs.Frame.{cell_of, value_in, IsFrame, Keeps, is_negated, judged, is_otherwise, told_of, told}
use Rattle.bf_ops.specs.Laws.{SetWordsAreKept}

-- registers stand ten cells apart
pub record Stands (c : ℕ) : Type 0 where
  pub number : ℕ
  pub few : number < 6
  pub at : c ≡ 50 + 10 * number

pub stands : (x : Reg) → Stands (cell_of x)
stands A = record { number = 5; few = omega arith; at = refl }
stands B = record { number = 4; few = omega arith; at = refl }
stands C = record { number = 3; few = omega arith; at = refl }
stands D = record { number = 2; few = omega arith; at = refl }
stands SP = record { number = 1; few = omega arith; at = refl }
stands BP = record { number = 0; few = omega arith; at = refl }

pub distinct_cells : (a b : ℕ) → Stands a → Stands b → a ≢ b → AreDistinct a b
distinct_cells a b x y differ =
    elim (nat_lt a b) as (λ t. nat_lt a b ≡ t → AreDistinct a b) [
      | true ↦ λ t. let lt : a < b = ltb-true a b t in inl (omega (arith, x.at, y.at, x.few, y.few))
      | false ↦ λ t. let le : b ≤ a = ltb-false a b t in inr (omega (arith, x.at, y.at, x.few, y.few))
    ] refl

-- a value is a word
pub value_below : (s : Tape) (v : Operand) → ((p : ℕ) → s.cells p < 2 ^ 8) → value_in s v < 2 ^ 24
value_below s (register q) bytes = (bytes_of s (cell_of q) bytes).below
value_below s (Imm w) bytes = w.in_range

-- words of the frame and the row of records
pub slot_far : (a : ℕ) → 174 ≤ slot a
slot_far a = elim (nat_lt a (2 ^ 23)) as (λ t. 174 ≤ cond t (174 + 22 * a) (174 + 22 * (2 ^ 24 - 1 - a) + 3)) [ true ↦ omega arith | false ↦ omega arith ]

pub beyond : (a w : ℕ) → w < 108 → AreDistinct (slot a) w
beyond a w lw = let far : 174 ≤ slot a = slot_far a in inr (omega arith)

pub holds_kept : (m : Memory) (s : Tape) (w v : ℕ) → w < 108 → Holds m s → Holds m (with_word s w v)
holds_kept m s w v lw holds = record {
  words = λ a la. let far : 174 ≤ slot a = slot_far a in word_kept s w v (slot a) (inl (omega arith)) ∙ holds.words a la;
  empty = λ k c lc. cell_kept s w v (158 + 22 * k + c) (inr (omega arith)) ∙ holds.empty k c lc;
}

pub clear_kept : (s : Tape) (w v : ℕ) → w < 108 → IsClear s → IsClear (with_word s w v)
clear_kept s w v lw clear = λ c lo hi. cell_kept s w v c (inr (omega arith)) ∙ clear c lo hi

-- a register's word is set
pub frame_set : (s : Tape) (x : Reg) (v : ℕ) → IsFrame s → IsFrame (with_word s (cell_of x) v)
frame_set s x v frame =
    let at = stands x in
    record {
      counters = λ y.
          let there = stands y in
          λ c lo hi. cell_kept s (cell_of x) v c (outside (cell_of x) (cell_of y) c at there lo hi) ∙ frame.counters y c lo hi;
      own = λ c lo hi. cell_kept s (cell_of x) v c (inl (omega (arith, at.at))) ∙ frame.own c lo hi;
      clear = clear_kept s (cell_of x) v (omega (arith, at.at, at.few)) frame.clear;
    }
  where
    outside : (a b c : ℕ) → Stands a → Stands b → b + 3 ≤ c → c < b + 10 → (c < a) ⊎ (a + 3 ≤ c)
    outside a b c x y lo hi =
        elim (nat_lt c a) as (λ t. nat_lt c a ≡ t → (c < a) ⊎ (a + 3 ≤ c)) [
          | true ↦ λ t. inl (ltb-true c a t)
          | false ↦ λ t. let le : a ≤ c = ltb-false c a t in inr (omega (arith, x.at, y.at))
        ] refl

regs_set : (r : Regs) (m : Memory) (s : Tape) (x : Reg) (v : ℕ) (y : Reg) → v < 2 ^ 24 → Keeps r m s → word_in (with_word s (cell_of x) v) (cell_of y) ≡ reg_of (with_reg r x v) y
regs_set r m s A v A lv keeps = word_set s 100 v lv
regs_set r m s A v B lv keeps = word_kept s 100 v 90 (inr (omega arith)) ∙ keeps.regs B
regs_set r m s A v C lv keeps = word_kept s 100 v 80 (inr (omega arith)) ∙ keeps.regs C
regs_set r m s A v D lv keeps = word_kept s 100 v 70 (inr (omega arith)) ∙ keeps.regs D
regs_set r m s A v SP lv keeps = word_kept s 100 v 60 (inr (omega arith)) ∙ keeps.regs SP
regs_set r m s A v BP lv keeps = word_kept s 100 v 50 (inr (omega arith)) ∙ keeps.regs BP
regs_set r m s B v A lv keeps = word_kept s 90 v 100 (inl (omega arith)) ∙ keeps.regs A
regs_set r m s B v B lv keeps = word_set s 90 v lv
regs_set r m s B v C lv keeps = word_kept s 90 v 80 (inr (omega arith)) ∙ keeps.regs C
regs_set r m s B v D lv keeps = word_kept s 90 v 70 (inr (omega arith)) ∙ keeps.regs D
regs_set r m s B v SP lv keeps = word_kept s 90 v 60 (inr (omega arith)) ∙ keeps.regs SP
regs_set r m s B v BP lv keeps = word_kept s 90 v 50 (inr (omega arith)) ∙ keeps.regs BP
regs_set r m s C v A lv keeps = word_kept s 80 v 100 (inl (omega arith)) ∙ keeps.regs A
regs_set r m s C v B lv keeps = word_kept s 80 v 90 (inl (omega arith)) ∙ keeps.regs B
regs_set r m s C v C lv keeps = word_set s 80 v lv
regs_set r m s C v D lv keeps = word_kept s 80 v 70 (inr (omega arith)) ∙ keeps.regs D
regs_set r m s C v SP lv keeps = word_kept s 80 v 60 (inr (omega arith)) ∙ keeps.regs SP
regs_set r m s C v BP lv keeps = word_kept s 80 v 50 (inr (omega arith)) ∙ keeps.regs BP
regs_set r m s D v A lv keeps = word_kept s 70 v 100 (inl (omega arith)) ∙ keeps.regs A
regs_set r m s D v B lv keeps = word_kept s 70 v 90 (inl (omega arith)) ∙ keeps.regs B
regs_set r m s D v C lv keeps = word_kept s 70 v 80 (inl (omega arith)) ∙ keeps.regs C
regs_set r m s D v D lv keeps = word_set s 70 v lv
regs_set r m s D v SP lv keeps = word_kept s 70 v 60 (inr (omega arith)) ∙ keeps.regs SP
regs_set r m s D v BP lv keeps = word_kept s 70 v 50 (inr (omega arith)) ∙ keeps.regs BP
regs_set r m s SP v A lv keeps = word_kept s 60 v 100 (inl (omega arith)) ∙ keeps.regs A
regs_set r m s SP v B lv keeps = word_kept s 60 v 90 (inl (omega arith)) ∙ keeps.regs B
regs_set r m s SP v C lv keeps = word_kept s 60 v 80 (inl (omega arith)) ∙ keeps.regs C
regs_set r m s SP v D lv keeps = word_kept s 60 v 70 (inl (omega arith)) ∙ keeps.regs D
regs_set r m s SP v SP lv keeps = word_set s 60 v lv
regs_set r m s SP v BP lv keeps = word_kept s 60 v 50 (inr (omega arith)) ∙ keeps.regs BP
regs_set r m s BP v A lv keeps = word_kept s 50 v 100 (inl (omega arith)) ∙ keeps.regs A
regs_set r m s BP v B lv keeps = word_kept s 50 v 90 (inl (omega arith)) ∙ keeps.regs B
regs_set r m s BP v C lv keeps = word_kept s 50 v 80 (inl (omega arith)) ∙ keeps.regs C
regs_set r m s BP v D lv keeps = word_kept s 50 v 70 (inl (omega arith)) ∙ keeps.regs D
regs_set r m s BP v SP lv keeps = word_kept s 50 v 60 (inl (omega arith)) ∙ keeps.regs SP
regs_set r m s BP v BP lv keeps = word_set s 50 v lv

pub set_words : SetWordsAreKept
set_words = record {
  register_set = λ r m s x v lv keeps.
      let at = stands x in
      record { frame = frame_set s x v keeps.frame; regs = λ y. regs_set r m s x v y lv keeps; memory = holds_kept m s (cell_of x) v (omega (arith, at.at, at.few)) keeps.memory };
  memory_set = λ r m s a v la lv keeps.
      let far : 174 ≤ slot a = slot_far a in
      record {
        frame = record {
          counters = λ y. let at = stands y in λ c lo hi. cell_kept s (slot a) v c (inl (omega (arith, at.at, at.few))) ∙ keeps.frame.counters y c lo hi;
          own = λ c lo hi. cell_kept s (slot a) v c (inl (omega arith)) ∙ keeps.frame.own c lo hi;
          clear = λ c lo hi. cell_kept s (slot a) v c (inl (omega arith)) ∙ keeps.frame.clear c lo hi;
        };
        regs = λ y. let at = stands y in word_kept s (slot a) v (cell_of y) (beyond a (cell_of y) (omega (arith, at.at, at.few))) ∙ keeps.regs y;
        memory = holds_stored m s a v la lv keeps.memory;
      };
}

-- the comparisons
not_less : (x y : ℕ) → nat_le y x ≡ not (nat_lt x y)
not_less x y =
    elim (nat_lt x y) as (λ t. nat_lt x y ≡ t → nat_le y x ≡ not t) [
      | true ↦ λ t. let lt : x < y = ltb-true x y t in lt-leb y x lt
      | false ↦ λ t. let le : y ≤ x = ltb-false x y t in le-leb y x le
    ] refl

pub comparisons : (c : Cond) (x y : ℕ) → holds c x y ≡ cond (is_negated c) (not (judged c x y)) (judged c x y)
comparisons Eq x y = refl
comparisons Ne x y = refl
comparisons Lt x y = refl
comparisons Gt x y = refl
comparisons Le x y = not_less y x
comparisons Ge x y = not_less x y

not_not : (b : Bool) → not (not b) ≡ b
not_not true = refl
not_not false = refl

pub in_place : (c : Cond) (x y : ℕ) → holds c x y ≡ cond (is_otherwise c) (not (told (told_of c) x y)) (told (told_of c) x y)
in_place Eq x y = refl
in_place Ne x y = refl
in_place Lt x y = refl
in_place Gt x y = sym (ap not (not_less y x) ∙ not_not (nat_lt y x))
in_place Le x y = refl
in_place Ge x y = not_less x y
