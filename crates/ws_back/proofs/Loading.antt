-- How the data words come into the heap.
use Rattle.std.proofs.Common.{◌≡◌, ◌≢◌, ℕ, ◌+◌, ◌*◌, ◌<◌, ◌≤◌, true, false, cond, nat_eq, List, [], ◌∷◌, length, refl, sym, ap, subst, ◌∙◌, arith, map, unwrap_or}
use Rattle.std.specs.Prelude.{ℤ, pos}
use Rattle.std.specs.FinMap as fin
use Rattle.std.specs.Ordering.{eq_by_cmp, int_cmp}
use Rattle.std.proofs.lemmas.Bool.{eqb-true, eqb-false}
use Rattle.std.proofs.lemmas.Bool.Decides.{nat_tests}
use Rattle.mach_core.specs.Sparse.{value_at, with_value}
use Rattle.word24.specs.declared.word.Word.{Word}
use Rattle.word24.specs.Word.{number_of}
use Rattle.eir_core.specs.declared.ops.Reg.{Reg}
use Rattle.eir_core.specs.declared.ops.Reg.TheVariants.{A, B, C, D, SP, BP}
use Rattle.eir_core.specs.Eir.{Eir}
use Rattle.eir_core.specs.Memory.{Memory, word_at, with_word, with_words}
use Rattle.eir_core.specs.Step.{reg_of, eir_start}
use Rattle.eir_core.proofs.WordAt.{word_at-empty, word_at-with_word_same, word_at-with_word_other}
use Rattle.ws_lang.specs.Instruction.{Instruction}
use Rattle.mach_core.specs.Integer.{is_zero}
use Rattle.ws_lang.specs.Step.{Heap}
use Rattle.ws_back.specs.Code.{address, words_code}
use Rattle.ws_back.specs.Related.{Holds}
use Rattle.ws_back.proofs.Straight.{at, Silent, seq, push, store}
use Rattle.ws_back.proofs.Heaps.{heap-with}

-- the heap after the words from an address on were stored in turn
abbrev pub stored : Heap → ℕ → List Word → Heap
stored h a [] = h
stored h a (w ∷ words) = stored (with_value is_zero h (pos a) (pos (number_of w))) (a + 1) words

pub loads_words : (code : List Instruction) (input : List ℕ) (h : Heap) (a : ℕ) (words : List Word) → Silent code input (words_code a words) h [] (stored h a words) []
loads_words code input h a [] = record { runs = λ k t o rest e. stays h t o k }
  where
    stays : (h : Heap) (t : ℕ) (o : List ℕ) (k : ℕ) → at h t o k [] ≡ at h t o (k + 0) []
    stays h t o k = let e : k ≡ k + 0 = omega arith in ap (λ j. at h t o j []) e
loads_words code input h a (w ∷ words) =
    let v = pos (number_of w) in
    let h' = with_value is_zero h (pos a) v in
    seq (push code input (pos a) h []) (seq (push code input v h (pos a ∷ [])) (seq (store code input h (pos a) v []) (loads_words code input h' (a + 1) words)))

pub length-words_code : (a : ℕ) (words : List Word) → length (words_code a words) ≡ 3 * length words
length-words_code a [] = refl
length-words_code a (w ∷ words) = omega (arith, length-words_code (a + 1) words)

same_place : (h : Heap) (a w : ℕ) → value_at (pos 0) (with_value is_zero h (pos a) (pos w)) (pos a) ≡ pos w
same_place h a w =
    let e : eq_by_cmp int_cmp (pos a) (pos a) ≡ true = grind (arith, nat_tests) in
    heap-with h (pos a) (pos w) (pos a) ∙ ap (λ b. cond b (pos w) (value_at (pos 0) h (pos a))) e

other_place : (h : Heap) (a w q : ℕ) → q ≢ a → value_at (pos 0) (with_value is_zero h (pos a) (pos w)) (pos q) ≡ value_at (pos 0) h (pos q)
other_place h a w q ne =
    let e : eq_by_cmp int_cmp (pos q) (pos a) ≡ false = grind (arith, nat_tests) in
    heap-with h (pos a) (pos w) (pos q) ∙ ap (λ b. cond b (pos w) (value_at (pos 0) h (pos q))) e

-- what stands below is kept
stored_below : (h : Heap) (a : ℕ) (words : List Word) (q : ℕ) → q < a → value_at (pos 0) (stored h a words) (pos q) ≡ value_at (pos 0) h (pos q)
stored_below h a [] q lt = refl
stored_below h a (w ∷ words) q lt =
    let ne : q ≢ a = omega arith in
    stored_below (with_value is_zero h (pos a) (pos (number_of w))) (a + 1) words q (omega arith) ∙ other_place h a (number_of w) q ne

-- from the address on the heap has what a memory has with the same words
stored_words : (h : Heap) (m : Memory) (a : ℕ) (words : List Word) → ((q : ℕ) → a ≤ q → value_at (pos 0) h (pos q) ≡ pos (word_at m q)) → (q : ℕ) → a ≤ q
    → value_at (pos 0) (stored h a words) (pos q) ≡ pos (word_at (with_words m a (map number_of words)) q)
stored_words h m a [] held q le = held q le
stored_words h m a (w ∷ words) held q le =
    let n = number_of w in
    let h' = with_value is_zero h (pos a) (pos n) in
    let m' = with_words m (a + 1) (map number_of words) in
    elim (nat_eq q a) as (λ b. nat_eq q a ≡ b → value_at (pos 0) (stored h' (a + 1) words) (pos q) ≡ pos (word_at (with_word m' a n) q)) [
      | true ↦ λ e.
          let same : q ≡ a = eqb-true q a e in
          let lt : a < a + 1 = omega arith in
          subst (λ x. value_at (pos 0) (stored h' (a + 1) words) (pos x) ≡ pos (word_at (with_word m' a n) x)) (sym same)
          (stored_below h' (a + 1) words a lt ∙ (same_place h a n ∙ ap pos (sym (word_at-with_word_same m' a n))))
      | false ↦ λ e.
          let ne : q ≢ a = eqb-false q a e in
          stored_words h' m (a + 1) words (λ x lx. let other : x ≢ a = omega arith in other_place h a n x other ∙ held x (omega arith)) q (omega arith)
          ∙ ap pos (sym (word_at-with_word_other m' a n q ne))
    ] refl

-- a register's word is kept
stored_register : (h : Heap) (a : ℕ) (words : List Word) (r : Reg) → value_at (pos 0) (stored h a words) (address r) ≡ value_at (pos 0) h (address r)
stored_register h a [] r = refl
stored_register h a (w ∷ words) r = stored_register (with_value is_zero h (pos a) (pos (number_of w))) (a + 1) words r ∙ apart h r
  where
    apart : (h : Heap) (r : Reg) → value_at (pos 0) (with_value is_zero h (pos a) (pos (number_of w))) (address r) ≡ value_at (pos 0) h (address r)
    apart h A = heap-with h (pos a) (pos (number_of w)) (address A)
    apart h B = heap-with h (pos a) (pos (number_of w)) (address B)
    apart h C = heap-with h (pos a) (pos (number_of w)) (address C)
    apart h D = heap-with h (pos a) (pos (number_of w)) (address D)
    apart h SP = heap-with h (pos a) (pos (number_of w)) (address SP)
    apart h BP = heap-with h (pos a) (pos (number_of w)) (address BP)

-- the heap has at first what the program has
pub holds_start : (p : Eir) → Holds (stored fin.empty 0 p.words) (eir_start p).regs (eir_start p).memory
holds_start p = record {
  registers = λ r. stored_register fin.empty 0 p.words r ∙ (nothing (address r) ∙ ap pos (zeros r));
  words = λ q. stored_words fin.empty fin.empty 0 p.words (λ x _. nothing (pos x) ∙ ap pos (sym (word_at-empty x))) q (omega arith);
}
  where
    nothing : (a : ℤ) → value_at {R = int_cmp} (pos 0) fin.empty a ≡ pos 0
    nothing a = ap (λ o. unwrap_or o (pos 0)) (fin.get-empty int_cmp a)

    zeros : (r : Reg) → 0 ≡ reg_of (eir_start p).regs r
    zeros A = refl
    zeros B = refl
    zeros C = refl
    zeros D = refl
    zeros SP = refl
    zeros BP = refl
