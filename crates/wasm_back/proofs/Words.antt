-- The words in the module's memory.
use Rattle.std.proofs.Common.{◌≡◌, ◌≢◌, ◌⊎◌, ℕ, ◌+◌, ◌*◌, ◌%◌, ◌^◌, ◌<◌, ◌≤◌, List, [], ◌∷◌, map, refl, sym, ap, subst, ◌∙◌, inl, inr, arith}
use Rattle.std.specs.Prelude.{slice_index}
use Rattle.std.specs.List.{flat_map}
use Rattle.std.specs.FinMap as fin
use Rattle.word24.specs.declared.word.Word.{Word}
use Rattle.word24.specs.Word.{IsWord, number_of}
use Rattle.eir_core.specs.Eir.{Eir}
use Rattle.eir_core.specs.Memory as eir
use Rattle.eir_core.specs.Step.{eir_start}
use Rattle.eir_core.proofs.WordAt.{word_at-with_word_same, word_at-with_word_other, word_at-with_words}
use Rattle.eir_core.proofs.WordsKept.{eir_start-IsWords}
use Rattle.wasm_rule.specs.Memory.{ByteMap, word_at, with_bytes, bytes_of}
use Rattle.wasm_rule.specs.Start.{with_segments}
use Rattle.wasm_rule.proofs.Stored.{word_stored}
use Rattle.wasm_code.specs.Emitted.{segments_for}
use Rattle.wasm_build.proofs.Overlaps.{apart, segments}
use Rattle.wasm_back.specs.Related.{HasWords}

short_word : (w : ℕ) → w < 2 ^ 24 → w % 256 ^ 4 ≡ w
short_word w h = omega arith

same_or_apart : (a b : ℕ) → (a ≡ b) ⊎ ((a ≢ b) × ((4 * b + 4 ≤ 4 * a) ⊎ (4 * a + 4 ≤ 4 * b)))
same_or_apart a b = grind arith

-- a word that is stored is read again, and the others stay
pub has_stored : (bytes : ByteMap) (memory : eir.Memory) (a w : ℕ) → w < 2 ^ 24 → HasWords bytes memory → HasWords (with_bytes bytes (4 * a) (bytes_of 4 w)) (eir.with_word memory a w)
has_stored bytes memory a w small has = record { words = λ b short. by b short (same_or_apart a b) } where
  by : (b : ℕ) → IsWord b → (a ≡ b) ⊎ ((a ≢ b) × ((4 * b + 4 ≤ 4 * a) ⊎ (4 * a + 4 ≤ 4 * b))) → word_at (with_bytes bytes (4 * a) (bytes_of 4 w)) (4 * b) 4 ≡ eir.word_at (eir.with_word memory a w) b
  by b short (inl e) =
      subst (λ c. word_at (with_bytes bytes (4 * a) (bytes_of 4 w)) (4 * c) 4 ≡ eir.word_at (eir.with_word memory a w) c) e
      (word_stored bytes (4 * a) 4 w ∙ (short_word w small ∙ sym (word_at-with_word_same memory a w)))
  by b short (inr (other, far)) =
      apart bytes (4 * a) (4 * b) 4 w far ∙ (has.words b short ∙ sym (word_at-with_word_other memory a w b (λ e. other (sym e))))

segments_are : (words : List Word) → with_segments fin.empty (segments_for words) ≡ with_bytes fin.empty 0 (flat_map (bytes_of 4) (map number_of words))
segments_are [] = refl
segments_are (word ∷ words) = refl

-- the data words stand there at the start
pub has_start : (p : Eir) → HasWords (with_segments fin.empty (segments_for p.words)) (eir_start p).memory
has_start p = record {
  words = λ a short.
      let words : List ℕ = map number_of p.words in
      let e : 0 + a ≡ a = omega arith in
      let there : eir.word_at (eir_start p).memory a ≡ slice_index words a = ap (eir.word_at (eir_start p).memory) (sym e) ∙ word_at-with_words words 0 a in
      let small : slice_index words a < 2 ^ 24 = subst (λ n. n < 2 ^ 24) there ((eir_start-IsWords p).memory a) in
      ap (λ (b : ByteMap). word_at b (4 * a) 4) (segments_are p.words) ∙ (segments words a ∙ (short_word (slice_index words a) small ∙ sym there));
}
