-- Words of a tape, and cells beside them.
use Rattle.std.proofs.Common.{◌≡◌, ◌≢◌, ℕ, ◌+◌, ◌*◌, ◌^◌, ◌<◌, inl, inr, true, false, nat_eq, cond, List, [], ◌∷◌, refl, sym, ap, ◌∙◌, arith, ne_eqb}
use Rattle.std.proofs.lemmas.Bool.{eqb-true}
use Rattle.bf_tape.specs.Tape.{Tape, get, put, set_cell}
use Rattle.bf_tape.specs.Slots.{filled, holding, IsNew, AreApart}
use Rattle.bf_tape.proofs.Slotted.{get_held, put_held, get_free, held, same_tape}
use Rattle.bf_word.specs.Word.{low_byte, mid_byte, high_byte, word_in, with_word, AreDistinct, IsOutside}
use Rattle.bf_word.proofs.Bytes.{bytes_low, bytes_mid, bytes_high}

-- a cell that is not named, changed
filled_free : (ns vs : List ℕ) (b c v : ℕ) (cells : ℕ → ℕ) → IsNew c ns → (q : ℕ) → set_cell (filled ns vs b cells) (b + c) v q ≡ filled ns vs b (set_cell cells (b + c) v) q
filled_free [] vs b c v cells new q = refl
filled_free (n ∷ ns) [] b c v cells new q = refl
filled_free (n ∷ ns) (w ∷ vs) b c v cells new q =
    let differ : c ≢ n = new.0 in
    elim (nat_eq q (b + n)) as (λ t. nat_eq q (b + n) ≡ t → cond (nat_eq q (b + c)) v (cond t w (filled ns vs b cells q)) ≡ cond t w (filled ns vs b (set_cell cells (b + c) v) q)) [
      | true ↦ λ e. let at : q ≡ b + n = eqb-true q (b + n) e in ap (λ t. cond t v w) (ne_eqb q (b + c) (λ f. differ (omega arith)))
      | false ↦ λ e. filled_free ns vs b c v cells new.1 q
    ] refl

pub put_free : (s : Tape) (c v : ℕ) (ns vs : List ℕ) → IsNew c ns → put (holding s ns vs) c v ≡ holding (put s c v) ns vs
put_free s c v ns vs new = same_tape s (set_cell (filled ns vs s.base s.cells) (s.base + c) v) (filled ns vs s.base (set_cell s.cells (s.base + c) v)) (filled_free ns vs s.base c v s.cells new)

pub put_put : (s : Tape) (c u v : ℕ) → put (put s c u) c v ≡ put s c v
put_put s c u v = put_held s (c ∷ []) (u ∷ []) 0 v (tt, tt) (omega arith) refl

-- the three cells of a word
abbrev pub cells_of : ℕ → List ℕ
cells_of w = w ∷ (w + 1) ∷ (w + 2) ∷ []

pub cells_apart : (w : ℕ) → AreApart (cells_of w)
cells_apart w = ((omega arith, (omega arith, tt)), ((omega arith, tt), (tt, tt)))

abbrev pub three : Tape → ℕ → ℕ → ℕ → ℕ → Tape
three s w a b c = holding s (cells_of w) (a ∷ b ∷ c ∷ [])

pub three_of : (s : Tape) (w a b c : ℕ) → put (put (put s w a) (w + 1) b) (w + 2) c ≡ three s w a b c
three_of s w a b c =
    ap (λ t. put (put (put t w a) (w + 1) b) (w + 2) c) (sym (held s (cells_of w)))
    ∙ (ap (λ t. put (put t (w + 1) b) (w + 2) c) (put_held s (cells_of w) (get s w ∷ get s (w + 1) ∷ get s (w + 2) ∷ []) 0 a (cells_apart w) (omega arith) refl)
    ∙ (ap (λ t. put t (w + 2) c) (put_held s (cells_of w) (a ∷ get s (w + 1) ∷ get s (w + 2) ∷ []) 1 b (cells_apart w) (omega arith) refl)
    ∙ put_held s (cells_of w) (a ∷ b ∷ get s (w + 2) ∷ []) 2 c (cells_apart w) (omega arith) refl))

pub with_word_is : (s : Tape) (w v : ℕ) → with_word s w v ≡ three s w (low_byte v) (mid_byte v) (high_byte v)
with_word_is s w v = three_of s w (low_byte v) (mid_byte v) (high_byte v)

pub outside_new : (c w : ℕ) → IsOutside c w → IsNew c (cells_of w)
outside_new c w (inl h) = (omega arith, (omega arith, (omega arith, tt)))
outside_new c w (inr h) = (omega arith, (omega arith, (omega arith, tt)))

-- a cell outside
pub cell_kept : (s : Tape) (w v c : ℕ) → IsOutside c w → get (with_word s w v) c ≡ get s c
cell_kept s w v c out = ap (λ t. get t c) (with_word_is s w v) ∙ get_free s c (cells_of w) (low_byte v ∷ mid_byte v ∷ high_byte v ∷ []) (outside_new c w out)

pub word_kept : (s : Tape) (w v d : ℕ) → AreDistinct w d → word_in (with_word s w v) d ≡ word_in s d
word_kept s w v d (inl h) = λ i. cell_kept s w v d (inr (omega arith)) i + 256 * cell_kept s w v (d + 1) (inr (omega arith)) i + 65536 * cell_kept s w v (d + 2) (inr (omega arith)) i
word_kept s w v d (inr h) = λ i. cell_kept s w v d (inl (omega arith)) i + 256 * cell_kept s w v (d + 1) (inl (omega arith)) i + 65536 * cell_kept s w v (d + 2) (inl (omega arith)) i

pub word_set : (s : Tape) (w v : ℕ) → v < 2 ^ 24 → word_in (with_word s w v) w ≡ v
word_set s w v lv =
    let vs : List ℕ = low_byte v ∷ mid_byte v ∷ high_byte v ∷ [] in
    let l : get (with_word s w v) w ≡ low_byte v = ap (λ t. get t w) (with_word_is s w v) ∙ get_held s (cells_of w) vs 0 (cells_apart w) (omega arith) refl in
    let m : get (with_word s w v) (w + 1) ≡ mid_byte v = ap (λ t. get t (w + 1)) (with_word_is s w v) ∙ get_held s (cells_of w) vs 1 (cells_apart w) (omega arith) refl in
    let h : get (with_word s w v) (w + 2) ≡ high_byte v = ap (λ t. get t (w + 2)) (with_word_is s w v) ∙ get_held s (cells_of w) vs 2 (cells_apart w) (omega arith) refl in
    omega (arith, l, m, h)

pub set_again : (s : Tape) (w u v : ℕ) → with_word (with_word s w u) w v ≡ with_word s w v
set_again s w u v =
    let ns : List ℕ = cells_of w in
    ap (λ t. with_word t w v) (with_word_is s w u)
    ∙ (ap (λ t. put (put t (w + 1) (mid_byte v)) (w + 2) (high_byte v)) (put_held s ns (low_byte u ∷ mid_byte u ∷ high_byte u ∷ []) 0 (low_byte v) (cells_apart w) (omega arith) refl)
    ∙ (ap (λ t. put t (w + 2) (high_byte v)) (put_held s ns (low_byte v ∷ mid_byte u ∷ high_byte u ∷ []) 1 (mid_byte v) (cells_apart w) (omega arith) refl)
    ∙ (put_held s ns (low_byte v ∷ mid_byte v ∷ high_byte u ∷ []) 2 (high_byte v) (cells_apart w) (omega arith) refl
    ∙ sym (with_word_is s w v))))

-- a word that is there already
pub set_same : (s : Tape) (w v : ℕ) → get s w ≡ low_byte v → get s (w + 1) ≡ mid_byte v → get s (w + 2) ≡ high_byte v → with_word s w v ≡ s
set_same s w v l m h = with_word_is s w v ∙ ((λ i. three s w (sym l i) (sym m i) (sym h i)) ∙ held s (cells_of w))

-- the bytes of a word of bytes
pub record AreBytes (s : Tape) (w : ℕ) : Type 0 where
  pub low : get s w ≡ low_byte (word_in s w)
  pub mid : get s (w + 1) ≡ mid_byte (word_in s w)
  pub high : get s (w + 2) ≡ high_byte (word_in s w)
  pub below : word_in s w < 2 ^ 24

pub bytes_of : (s : Tape) (w : ℕ) → ((p : ℕ) → s.cells p < 2 ^ 8) → AreBytes s w
bytes_of s w bytes =
    let la : get s w < 2 ^ 8 = bytes (s.base + w) in
    let lb : get s (w + 1) < 2 ^ 8 = bytes (s.base + (w + 1)) in
    let lc : get s (w + 2) < 2 ^ 8 = bytes (s.base + (w + 2)) in
    record {
      low = sym (bytes_low (get s w) (get s (w + 1)) (get s (w + 2)) la lb lc);
      mid = sym (bytes_mid (get s w) (get s (w + 1)) (get s (w + 2)) la lb lc);
      high = sym (bytes_high (get s w) (get s (w + 1)) (get s (w + 2)) la lb lc);
      below = omega arith;
    }
