-- The objects of file scope, one after the other in two rows: those with first values, and the others.
use Rattle.std.proofs.Common.{◌≡◌, ◌⊎◌, inl, inr, ⊎_elim, ℕ, zero, suc, ◌+◌, ◌<◌, ◌≤◌, Bool, true, false, List, [], ◌∷◌, length, map, Some, refl, sym, ap, ◌∙◌, subst, arith, slice_get, length-append}
use Rattle.std.proofs.lemmas.List.{length-map}
use Rattle.eir_core.specs.Memory.{Memory, word_at}
use Rattle.c_eval.specs.State.{Cell, Object}
use Rattle.c_lowered.specs.Locations.{Linking}
use Rattle.c_lowered.specs.Whole.{words_given, file_bases, cell_word, given_words}
use Rattle.c_memory.specs.Lies.{Extent, base, words_at, Ground, MeansCell}
use Rattle.c_landing.specs.Landing.{address, at_number}
use Rattle.c_laid.specs.Data.{extents_of, FirstWordsMean}
use Rattle.c_laid.proofs.Slices.{get_front, get_behind, get_mapped}

abbrev pub rows : List Bool → List Object → (given other : ℕ) → List Extent
rows flags xs given other = extents_of (file_bases flags xs given other) xs

pub rows_count : (flags : List Bool) (xs : List Object) (given other : ℕ) → length flags ≡ length xs → length (rows flags xs given other) ≡ length xs
rows_count [] [] given other same = refl
rows_count [] (x ∷ xs) given other same = absurd (omega (arith, same))
rows_count (true ∷ flags) [] given other same = absurd (omega (arith, same))
rows_count (false ∷ flags) [] given other same = absurd (omega (arith, same))
rows_count (true ∷ flags) (x ∷ xs) given other same = let h = rows_count flags xs (given + length x.cells) other (omega (arith, same)) in omega (arith, h)
rows_count (false ∷ flags) (x ∷ xs) given other same = let h = rows_count flags xs given (other + length x.cells) (omega (arith, same)) in omega (arith, h)

-- an object has its own words
pub rows_words : (flags : List Bool) (xs : List Object) (given other : ℕ) → length flags ≡ length xs → (o : ℕ) (x : Object) → slice_get xs o ≡ Some x → words_at (rows flags xs given other) o ≡ length x.cells
rows_words flags [] given other same o x e = absurd (cc e)
rows_words [] (y ∷ xs) given other same o x e = absurd (omega (arith, same))
rows_words (true ∷ flags) (y ∷ xs) given other same zero x e = let is : y ≡ x = cc e in ap (λ (z : Object). length z.cells) is
rows_words (true ∷ flags) (y ∷ xs) given other same (suc o) x e = rows_words flags xs (given + length y.cells) other (omega (arith, same)) o x e
rows_words (false ∷ flags) (y ∷ xs) given other same zero x e = let is : y ≡ x = cc e in ap (λ (z : Object). length z.cells) is
rows_words (false ∷ flags) (y ∷ xs) given other same (suc o) x e = rows_words flags xs given (other + length y.cells) (omega (arith, same)) o x e

-- it lies in the one row or in the other
abbrev pub InRows : List Bool → List Object → (given other at words : ℕ) → Type 0
InRows flags xs given other at words = ((given ≤ at) × (at + words ≤ given + words_given true flags xs)) ⊎ ((other ≤ at) × (at + words ≤ other + words_given false flags xs))

pub rows_within : (flags : List Bool) (xs : List Object) (given other : ℕ) → length flags ≡ length xs → (o : ℕ) (x : Object) → slice_get xs o ≡ Some x → InRows flags xs given other (base (rows flags xs given other) o) (length x.cells)
rows_within flags [] given other same o x e = absurd (cc e)
rows_within [] (y ∷ xs) given other same o x e = absurd (omega (arith, same))
rows_within (true ∷ flags) (y ∷ xs) given other same zero x e = let is : y ≡ x = cc e in let n : length y.cells ≡ length x.cells = ap (λ (z : Object). length z.cells) is in inl (omega arith, omega (arith, n))
rows_within (true ∷ flags) (y ∷ xs) given other same (suc o) x e =
    ⊎_elim (λ h. inl (omega (arith, h.0), omega (arith, h.1))) (λ h. inr (omega (arith, h.0), omega (arith, h.1))) (rows_within flags xs (given + length y.cells) other (omega (arith, same)) o x e)
rows_within (false ∷ flags) (y ∷ xs) given other same zero x e = let is : y ≡ x = cc e in let n : length y.cells ≡ length x.cells = ap (λ (z : Object). length z.cells) is in inr (omega arith, omega (arith, n))
rows_within (false ∷ flags) (y ∷ xs) given other same (suc o) x e =
    ⊎_elim (λ h. inl (omega (arith, h.0), omega (arith, h.1))) (λ h. inr (omega (arith, h.0), omega (arith, h.1))) (rows_within flags xs given (other + length y.cells) (omega (arith, same)) o x e)

-- words in common are those of one object
pub rows_apart : (flags : List Bool) (xs : List Object) (given other : ℕ) → length flags ≡ length xs → given + words_given true flags xs ≤ other → (o q k j : ℕ) (x y : Object) → slice_get xs o ≡ Some x → slice_get xs q ≡ Some y → k < length x.cells → j < length y.cells
    → base (rows flags xs given other) o + k ≡ base (rows flags xs given other) q + j → o ≡ q
rows_apart flags [] given other same le o q k j x y e f kl jl h = absurd (cc e)
rows_apart [] (z ∷ xs) given other same le o q k j x y e f kl jl h = absurd (omega (arith, same))
rows_apart (true ∷ flags) (z ∷ xs) given other same le zero zero k j x y e f kl jl h = refl
rows_apart (true ∷ flags) (z ∷ xs) given other same le zero (suc q) k j x y e f kl jl h =
    let is : z ≡ x = cc e in
    let n : length z.cells ≡ length x.cells = ap (λ (v : Object). length v.cells) is in
    absurd (⊎_elim (λ r. omega (arith, n, kl, h, r.0)) (λ r. omega (arith, n, kl, h, r.0, le)) (rows_within flags xs (given + length z.cells) other (omega (arith, same)) q y f))
rows_apart (true ∷ flags) (z ∷ xs) given other same le (suc o) zero k j x y e f kl jl h =
    let is : z ≡ y = cc f in
    let n : length z.cells ≡ length y.cells = ap (λ (v : Object). length v.cells) is in
    absurd (⊎_elim (λ r. omega (arith, n, jl, h, r.0)) (λ r. omega (arith, n, jl, h, r.0, le)) (rows_within flags xs (given + length z.cells) other (omega (arith, same)) o x e))
rows_apart (true ∷ flags) (z ∷ xs) given other same le (suc o) (suc q) k j x y e f kl jl h = ap suc (rows_apart flags xs (given + length z.cells) other (omega (arith, same)) (omega (arith, le)) o q k j x y e f kl jl h)
rows_apart (false ∷ flags) (z ∷ xs) given other same le zero zero k j x y e f kl jl h = refl
rows_apart (false ∷ flags) (z ∷ xs) given other same le zero (suc q) k j x y e f kl jl h =
    let is : z ≡ x = cc e in
    let n : length z.cells ≡ length x.cells = ap (λ (v : Object). length v.cells) is in
    absurd (⊎_elim (λ r. omega (arith, n, jl, h, r.1, le)) (λ r. omega (arith, n, kl, h, r.0)) (rows_within flags xs given (other + length z.cells) (omega (arith, same)) q y f))
rows_apart (false ∷ flags) (z ∷ xs) given other same le (suc o) zero k j x y e f kl jl h =
    let is : z ≡ y = cc f in
    let n : length z.cells ≡ length y.cells = ap (λ (v : Object). length v.cells) is in
    absurd (⊎_elim (λ r. omega (arith, n, kl, h, r.1, le)) (λ r. omega (arith, n, jl, h, r.0)) (rows_within flags xs given (other + length z.cells) (omega (arith, same)) o x e))
rows_apart (false ∷ flags) (z ∷ xs) given other same le (suc o) (suc q) k j x y e f kl jl h = ap suc (rows_apart flags xs given (other + length z.cells) (omega (arith, same)) (omega (arith, le)) o q k j x y e f kl jl h)

-- a name's location is that of its object
pub rows_fixed : (flags : List Bool) (xs : List Object) (given other bp : ℕ) → length flags ≡ length xs → (o : ℕ) → o < length xs → base (rows flags xs given other) o ≡ address bp (at_number (file_bases flags xs given other) o)
rows_fixed flags [] given other bp same o lt = absurd (omega (arith, lt))
rows_fixed [] (y ∷ xs) given other bp same o lt = absurd (omega (arith, same))
rows_fixed (true ∷ flags) (y ∷ xs) given other bp same zero lt = refl
rows_fixed (true ∷ flags) (y ∷ xs) given other bp same (suc o) lt = rows_fixed flags xs (given + length y.cells) other bp (omega (arith, same)) o (omega (arith, lt))
rows_fixed (false ∷ flags) (y ∷ xs) given other bp same zero lt = refl
rows_fixed (false ∷ flags) (y ∷ xs) given other bp same (suc o) lt = rows_fixed flags xs given (other + length y.cells) bp (omega (arith, same)) o (omega (arith, lt))

-- the words of the first row
pub given_length : (w : Linking) (flags : List Bool) (xs : List Object) → length flags ≡ length xs → length (given_words w flags xs) ≡ words_given true flags xs
given_length w [] [] same = refl
given_length w [] (x ∷ xs) same = absurd (omega (arith, same))
given_length w (true ∷ flags) [] same = absurd (omega (arith, same))
given_length w (false ∷ flags) [] same = absurd (omega (arith, same))
given_length w (true ∷ flags) (x ∷ xs) same =
    let h = given_length w flags xs (omega (arith, same)) in
    let a = length-append (map (cell_word w) x.cells) (given_words w flags xs) in
    let m = length-map x.cells (cell_word w) in
    omega (arith, h, a, m)
given_length w (false ∷ flags) (x ∷ xs) same = let h = given_length w flags xs (omega (arith, same)) in omega (arith, h)

-- each cell's word stands there
module _ (g : Ground) (bs : List Extent) (w : Linking) (mem : Memory) where
  pub rows_mean : (flags : List Bool) (xs : List Object) (given other : ℕ) → length flags ≡ length xs → FirstWordsMean g bs w flags xs → ((k n : ℕ) → slice_get (given_words w flags xs) k ≡ Some n → word_at mem (given + k) ≡ n) → ((a : ℕ) → other ≤ a → word_at mem a ≡ 0)
      → (o k : ℕ) (x : Object) (c : Cell) → slice_get xs o ≡ Some x → slice_get x.cells k ≡ Some c → MeansCell g bs c (word_at mem (base (rows flags xs given other) o + k))
  rows_mean flags [] given other same mean there free o k x c e f = absurd (cc e)
  rows_mean [] (y ∷ xs) given other same mean there free o k x c e f = absurd (omega (arith, same))
  rows_mean (true ∷ flags) (y ∷ xs) given other same mean there free zero k x c e f =
      let is : y ≡ x = cc e in
      let f1 : slice_get y.cells k ≡ Some c = ap (λ (z : Object). slice_get z.cells k) is ∙ f in
      let word = there k (cell_word w c) (get_front (map (cell_word w) y.cells) (given_words w flags xs) k (cell_word w c) (get_mapped (cell_word w) y.cells k c f1)) in
      subst (λ z. MeansCell g bs c z) (sym word) (mean.1 k c f1)
  rows_mean (true ∷ flags) (y ∷ xs) given other same mean there free (suc o) k x c e f =
      let m = length-map y.cells (cell_word w) in
      rows_mean flags xs (given + length y.cells) other (omega (arith, same)) mean.2
      (λ j n h.
      let at : given + length y.cells + j ≡ given + (length (map (cell_word w) y.cells) + j) = omega (arith, m) in
      ap (word_at mem) at ∙ there (length (map (cell_word w) y.cells) + j) n (get_behind (map (cell_word w) y.cells) (given_words w flags xs) j ∙ h))
      free o k x c e f
  rows_mean (false ∷ flags) (y ∷ xs) given other same mean there free zero k x c e f =
      let is : y ≡ x = cc e in
      let f1 : slice_get y.cells k ≡ Some c = ap (λ (z : Object). slice_get z.cells k) is ∙ f in
      subst (λ z. MeansCell g bs c z) (sym (free (other + k) (omega arith))) (mean.1 k c f1)
  rows_mean (false ∷ flags) (y ∷ xs) given other same mean there free (suc o) k x c e f =
      rows_mean flags xs given (other + length y.cells) (omega (arith, same)) mean.2 there (λ a le. free a (omega (arith, le))) o k x c e f

  pub rows_full : (flags : List Bool) (xs : List Object) → length flags ≡ length xs → FirstWordsMean g bs w flags xs → (o : ℕ) (x : Object) → slice_get xs o ≡ Some x → 1 ≤ length x.cells
  rows_full flags [] same mean o x e = absurd (cc e)
  rows_full [] (y ∷ xs) same mean o x e = absurd (omega (arith, same))
  rows_full (b ∷ flags) (y ∷ xs) same mean zero x e = let is : y ≡ x = cc e in subst (λ (z : Object). 1 ≤ length z.cells) is mean.0
  rows_full (b ∷ flags) (y ∷ xs) same mean (suc o) x e = rows_full flags xs (omega (arith, same)) mean.2 o x e
