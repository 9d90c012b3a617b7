-- Data words on the tape.
use Rattle.std.proofs.Common.{◌≡◌, ℕ, zero, suc, ◌+◌, ◌-◌, ◌*◌, ◌^◌, ◌<◌, ◌≤◌, inl, inr, true, false, nat_lt, cond, List, [], ◌∷◌, length, map, slice_index, refl, sym, ap, ◌∙◌, arith, zero-add}
use Rattle.std.proofs.lemmas.Bool.{ltb-true, ltb-false}
use Rattle.std.proofs.lemmas.List.{length-map, get_or_past}
use Rattle.word24.specs.declared.word.Word.{Word}
use Rattle.word24.specs.Word.{number_of}
use Rattle.eir_core.specs.declared.ops.Reg.{Reg}
use Rattle.eir_core.specs.declared.ops.Reg.TheVariants.{A, B, C, D, SP, BP}
use Rattle.eir_core.specs.Eir.{Eir, size_of}
use Rattle.eir_core.specs.Memory.{word_at}
use Rattle.eir_core.specs.Step.{eir_start, reg_of}
use Rattle.eir_core.proofs.WordAt.{word_at-with_words}
use Rattle.bf_tape.specs.Tape.{Tape, get}
use Rattle.bf_tape.proofs.Turning.{get_put, get_other}
use Rattle.bf_word.specs.Word.{word_in, with_word}
use Rattle.bf_word.proofs.Words.{cell_kept, word_set}
use Rattle.bf_memory.specs.Row.{Holds}
use Rattle.bf_ops.specs.Frame.{cell_of, Keeps}
use Rattle.bf_ops.proofs.Kept.{stands}
use Rattle.bf_turn.specs.Number.{digits_in}
use Rattle.bf_turn.specs.Turn.{IsSettled}
use Rattle.bf_back.specs.Data.{laid, blank, loaded}
use Rattle.bf_back.specs.Whole.{words_of}

-- cells before the words, between them and behind them
pub laid_low : (w : ℕ) (vs : List ℕ) (s : Tape) (c : ℕ) → c < w → get (laid w vs s) c ≡ get s c
laid_low w [] s c h = refl
laid_low w (v ∷ vs) s c h = laid_low (w + 22) vs (with_word s w v) c (omega arith) ∙ cell_kept s w v c (inl h)

laid_gap : (w : ℕ) (vs : List ℕ) (s : Tape) (c q r : ℕ) → c ≡ w + 22 * q + r → 3 ≤ r → r < 22 → get (laid w vs s) c ≡ get s c
laid_gap w [] s c q r at lo hi = refl
laid_gap w (v ∷ vs) s c zero r at lo hi = laid_low (w + 22) vs (with_word s w v) c (omega (arith, at)) ∙ cell_kept s w v c (inr (omega (arith, at)))
laid_gap w (v ∷ vs) s c (suc q) r at lo hi = laid_gap (w + 22) vs (with_word s w v) c q r (omega (arith, at)) lo hi ∙ cell_kept s w v c (inr (omega (arith, at)))

laid_far : (w : ℕ) (vs : List ℕ) (s : Tape) (c : ℕ) → w + 22 * length vs ≤ c → get (laid w vs s) c ≡ get s c
laid_far w [] s c h = refl
laid_far w (v ∷ vs) s c h = laid_far (w + 22) vs (with_word s w v) c (omega arith) ∙ cell_kept s w v c (inr (omega arith))

-- the words
word_low : (w : ℕ) (vs : List ℕ) (s : Tape) (c : ℕ) → c + 2 < w → word_in (laid w vs s) c ≡ word_in s c
word_low w vs s c h = λ i. laid_low w vs s c (omega arith) i + 256 * laid_low w vs s (c + 1) (omega arith) i + 65536 * laid_low w vs s (c + 2) h i

laid_at : (w : ℕ) (words : List Word) (s : Tape) (i c : ℕ) → c ≡ w + 22 * i → i < length words → word_in (laid w (map number_of words) s) c ≡ slice_index (map number_of words) i
laid_at w [] s i c at h = absurd (omega arith)
laid_at w (v ∷ words) s zero c at h =
    let e : c ≡ w = omega (arith, at) in
    ap (word_in (laid (w + 22) (map number_of words) (with_word s w (number_of v)))) e ∙ (word_low (w + 22) (map number_of words) (with_word s w (number_of v)) w (omega arith) ∙ word_set s w (number_of v) v.in_range)
laid_at w (v ∷ words) s (suc i) c at h = laid_at (w + 22) words (with_word s w (number_of v)) i c (omega (arith, at)) (omega arith)

-- the tape before the first turn
module _ (p : Eir) (small : size_of p ≤ 2 ^ 14) where
  abbrev ws : List ℕ
  ws = words_of p

  abbrev s : Tape
  s = laid 174 ws blank

  few : length ws ≤ 2 ^ 14
  few = omega (arith, length-map p.words number_of)

  cell_same : (c : ℕ) → 1 ≤ c → get (loaded ws) c ≡ get s c
  cell_same c lo = get_other s 0 c 1 (omega arith)

  word_same : (c : ℕ) → 1 ≤ c → word_in (loaded ws) c ≡ word_in s c
  word_same c lo = λ i. cell_same c lo i + 256 * cell_same (c + 1) (omega arith) i + 65536 * cell_same (c + 2) (omega arith) i

  none_low : (c : ℕ) → 1 ≤ c → c < 174 → get (loaded ws) c ≡ 0
  none_low c lo hi = cell_same c lo ∙ laid_low 174 ws blank c hi

  memory_is : (a : ℕ) → word_at (eir_start p).memory a ≡ slice_index ws a
  memory_is a = ap (word_at (eir_start p).memory) (sym (zero-add a)) ∙ word_at-with_words ws 0 a

  low_word : (a : ℕ) → a < 2 ^ 23 → word_in (loaded ws) (174 + 22 * a) ≡ word_at (eir_start p).memory a
  low_word a la =
      word_same (174 + 22 * a) (omega arith)
      ∙ elim (nat_lt a (length p.words)) as (λ t. nat_lt a (length p.words) ≡ t → word_in s (174 + 22 * a) ≡ word_at (eir_start p).memory a) [
        | true ↦ λ t. let lt : a < length p.words = ltb-true a (length p.words) t in laid_at 174 p.words blank a (174 + 22 * a) refl lt ∙ sym (memory_is a)
        | false ↦ λ t.
            let ge : length p.words ≤ a = ltb-false a (length p.words) t in
            let far : 174 + 22 * length ws ≤ 174 + 22 * a = omega (arith, length-map p.words number_of) in
            (λ i. laid_far 174 ws blank (174 + 22 * a) far i + 256 * laid_far 174 ws blank (174 + 22 * a + 1) (omega arith) i + 65536 * laid_far 174 ws blank (174 + 22 * a + 2) (omega arith) i)
            ∙ sym (memory_is a ∙ get_or_past ws a 0 (omega (arith, length-map p.words number_of)))
      ] refl

  high_word : (a : ℕ) → 2 ^ 23 ≤ a → word_in (loaded ws) (174 + 22 * (2 ^ 24 - 1 - a) + 3) ≡ word_at (eir_start p).memory a
  high_word a ha =
      let q : ℕ = 2 ^ 24 - 1 - a in
      word_same (174 + 22 * q + 3) (omega arith)
      ∙ ((λ i. laid_gap 174 ws blank (174 + 22 * q + 3) q 3 (omega arith) (omega arith) (omega arith) i + 256 * laid_gap 174 ws blank (174 + 22 * q + 3 + 1) q 4 (omega arith) (omega arith) (omega arith) i
      + 65536 * laid_gap 174 ws blank (174 + 22 * q + 3 + 2) q 5 (omega arith) (omega arith) (omega arith) i)
      ∙ sym (memory_is a ∙ get_or_past ws a 0 (omega (arith, few))))

  holds : Holds (eir_start p).memory (loaded ws)
  holds = record {
    words = λ a la. elim (nat_lt a (2 ^ 23)) as (λ t. nat_lt a (2 ^ 23) ≡ t → word_in (loaded ws) (cond t (174 + 22 * a) (174 + 22 * (2 ^ 24 - 1 - a) + 3)) ≡ word_at (eir_start p).memory a) [
      | true ↦ λ t. low_word a (ltb-true a (2 ^ 23) t)
      | false ↦ λ t. high_word a (ltb-false a (2 ^ 23) t)
    ] refl;
    empty = λ k c lc. empty_at k c lc;
  }
    where
      empty_at : (k c : ℕ) → c < 16 → get (loaded ws) (158 + 22 * k + c) ≡ 0
      empty_at zero c lc = none_low (158 + 22 * 0 + c) (omega arith) (omega arith)
      empty_at (suc k) c lc = cell_same (158 + 22 * suc k + c) (omega arith) ∙ laid_gap 174 ws blank (158 + 22 * suc k + c) k (c + 6) (omega arith) (omega arith) (omega arith)

  zero_reg : (x : Reg) → 0 ≡ reg_of (eir_start p).regs x
  zero_reg A = refl
  zero_reg B = refl
  zero_reg C = refl
  zero_reg D = refl
  zero_reg SP = refl
  zero_reg BP = refl

  keeps_start : Keeps (eir_start p).regs (eir_start p).memory (loaded ws)
  keeps_start = record {
    frame = record {
      counters = λ x c lo hi. let at = stands x in none_low c (omega (arith, at.at)) (omega (arith, at.at, at.few));
      own = λ c lo hi. none_low c (omega arith) (omega arith);
      clear = λ c lo hi. none_low c (omega arith) hi;
    };
    regs = λ x. let at = stands x in
        (λ i. none_low (cell_of x) (omega (arith, at.at)) (omega (arith, at.at, at.few)) i + 256 * none_low (cell_of x + 1) (omega arith) (omega (arith, at.at, at.few)) i + 65536 * none_low (cell_of x + 2) (omega arith) (omega (arith, at.at, at.few)) i) ∙ zero_reg x;
    memory = holds;
  }

  pub loaded_settled : digits_in p ≤ 14 → IsSettled p (eir_start p) (loaded ws)
  loaded_settled digits = record {
    running = get_put s 0 1;
    bare = λ c lo hi. none_low c lo (omega (arith, digits));
    spare = none_low 43 (omega arith) (omega arith);
    flag = none_low 44 (omega arith) (omega arith);
    keeps = keeps_start;
  }
