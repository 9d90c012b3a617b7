-- The words on the tape are those of the memory.
use Rattle.std.proofs.Common.{◌≡◌, ◌≢◌, ℕ, ◌+◌, ◌-◌, ◌*◌, ◌^◌, ◌<◌, ◌≤◌, inl, inr, true, false, nat_eq, nat_lt, cond, refl, sym, ap, ◌∙◌, arith}
use Rattle.std.proofs.lemmas.Bool.{eqb-true, eqb-false, ltb-true, ltb-false}
use Rattle.bf_tape.specs.Tape.{Tape}
use Rattle.bf_lang.proofs.TapeCells.{cell-with_cell}
use Rattle.bf_word.proofs.Words.{cell_kept, word_kept, word_set}
use Rattle.bf_word.specs.Word.{word_in, with_word, AreDistinct, IsOutside}
use Rattle.bf_memory.specs.Row.{Memory, word_at, with_word_at, slot, Holds}

pub slots_apart : (a b i j : ℕ) → a < 2 ^ 24 → b < 2 ^ 24 → i < 3 → j < 3 → a ≢ b → slot a + i ≢ slot b + j
slots_apart a b i j la lb li lj differ =
    elim (nat_lt a (2 ^ 23)) as (λ t. nat_lt a (2 ^ 23) ≡ t → cond t (174 + 22 * a) (174 + 22 * (2 ^ 24 - 1 - a) + 3) + i ≢ slot b + j) [
      | true ↦ λ t. let h : a < 2 ^ 23 = ltb-true a (2 ^ 23) t in
          elim (nat_lt b (2 ^ 23)) as (λ u. nat_lt b (2 ^ 23) ≡ u → 174 + 22 * a + i ≢ cond u (174 + 22 * b) (174 + 22 * (2 ^ 24 - 1 - b) + 3) + j) [
            | true ↦ λ u. λ e. differ (omega arith)
            | false ↦ λ u. λ e. let g : 2 ^ 23 ≤ b = ltb-false b (2 ^ 23) u in absurd (omega arith)
          ] refl
      | false ↦ λ t. let h : 2 ^ 23 ≤ a = ltb-false a (2 ^ 23) t in
          elim (nat_lt b (2 ^ 23)) as (λ u. nat_lt b (2 ^ 23) ≡ u → 174 + 22 * (2 ^ 24 - 1 - a) + 3 + i ≢ cond u (174 + 22 * b) (174 + 22 * (2 ^ 24 - 1 - b) + 3) + j) [
            | true ↦ λ u. λ e. absurd (omega arith)
            | false ↦ λ u. λ e. let g : 2 ^ 23 ≤ b = ltb-false b (2 ^ 23) u in differ (omega arith)
          ] refl
    ] refl

-- a cell that is none of three
outside : (d c : ℕ) → d ≢ c → d ≢ c + 1 → d ≢ c + 2 → IsOutside d c
outside d c p q r = elim (nat_lt d c) as (λ t. nat_lt d c ≡ t → IsOutside d c) [ true ↦ λ t. inl (ltb-true d c t) | false ↦ λ t. let le : c ≤ d = ltb-false d c t in inr (omega arith) ] refl

distinct_of : (c d : ℕ) → ((i j : ℕ) → i < 3 → j < 3 → c + i ≢ d + j) → AreDistinct c d
distinct_of c d apart =
    elim (nat_lt c d) as (λ t. nat_lt c d ≡ t → AreDistinct c d) [
      | true ↦ λ t. let lt : c < d = ltb-true c d t in
          let p : c + 1 ≢ d + 0 = apart 1 0 (omega arith) (omega arith) in
          let q : c + 2 ≢ d + 0 = apart 2 0 (omega arith) (omega arith) in
          inl (omega arith)
      | false ↦ λ t. let le : d ≤ c = ltb-false c d t in
          let p : c + 0 ≢ d + 0 = apart 0 0 (omega arith) (omega arith) in
          let q : c + 0 ≢ d + 1 = apart 0 1 (omega arith) (omega arith) in
          let r : c + 0 ≢ d + 2 = apart 0 2 (omega arith) (omega arith) in
          inr (omega arith)
    ] refl

slot_low : (a k c : ℕ) → a < 2 ^ 24 → c < 16 → (i : ℕ) → i < 3 → 158 + 22 * k + c ≢ slot a + i
slot_low a k c la hi i li =
    elim (nat_lt a (2 ^ 23)) as (λ t. 158 + 22 * k + c ≢ cond t (174 + 22 * a) (174 + 22 * (2 ^ 24 - 1 - a) + 3) + i) [ true ↦ λ e. absurd (omega arith) | false ↦ λ e. absurd (omega arith) ]

-- a word that is stored is stored in the memory
pub holds_stored : (m : Memory) (s : Tape) (a v : ℕ) → a < 2 ^ 24 → v < 2 ^ 24 → Holds m s → Holds (with_word_at m a v) (with_word s (slot a) v)
holds_stored m s a v la lv holds = record {
  words = λ b lb.
      elim (nat_eq b a) as (λ t. nat_eq b a ≡ t → word_in (with_word s (slot a) v) (slot b) ≡ cond t v (word_at m b)) [
        | true ↦ λ t. let e : b ≡ a = eqb-true b a t in ap (λ x. word_in (with_word s (slot a) v) (slot x)) e ∙ word_set s (slot a) v lv
        | false ↦ λ t. word_kept s (slot a) v (slot b) (distinct_of (slot a) (slot b) (λ i j li lj. slots_apart a b i j la lb li lj (λ e. eqb-false b a t (sym e)))) ∙ holds.words b lb
      ] refl ∙ sym (cell-with_cell m a v b);
  empty = λ k c hi.
      let other : (i : ℕ) → i < 3 → 158 + 22 * k + c ≢ slot a + i = slot_low a k c la hi in
      cell_kept s (slot a) v (158 + 22 * k + c) (outside (158 + 22 * k + c) (slot a) (λ e. other 0 (omega arith) (omega arith)) (other 1 (omega arith)) (other 2 (omega arith))) ∙ holds.empty k c hi;
}
