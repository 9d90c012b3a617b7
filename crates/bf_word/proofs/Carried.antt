-- Words copied and moved, byte by byte.
use Rattle.std.proofs.Common.{◌≡◌, ℕ, zero, suc, ◌+◌, ◌-◌, ◌*◌, ◌%◌, ◌^◌, ◌<◌, inl, inr, List, [], ◌∷◌, length, refl, sym, ap, ◌∙◌, arith}
use Rattle.bf_tape.specs.Tape.{Tape, get, put}
use Rattle.bf_tape.specs.Slots.{holding, AreApart, nth, with_nth}
use Rattle.bf_tape.specs.Piece.{moved, drained, doubled}
use Rattle.bf_tape.proofs.Slotted.{get_held, put_held, held}
use Rattle.bf_word.specs.Word.{low_byte, mid_byte, high_byte, word_in, with_word, carried_word, AreDistinct}
use Rattle.bf_word.proofs.Words.{bytes_of}

length_with : (vs : List ℕ) (i v : ℕ) → length (with_nth vs i v) ≡ length vs
length_with [] i v = refl
length_with (x ∷ vs) zero v = omega arith
length_with (x ∷ vs) (suc i) v = omega (arith, length_with vs i v)

module _ (s : Tape) (ns : List ℕ) (apart : AreApart ns) where
  pub doubled_held : (vs : List ℕ) (i j : ℕ) → i < length ns → j < length ns → length vs ≡ length ns → doubled (holding s ns vs) (nth ns i) (nth ns j) ≡ holding s ns (with_nth vs j ((nth vs j + nth vs i) % 2 ^ 8))
  doubled_held vs i j li lj same =
      (λ k. put (holding s ns vs) (nth ns j) ((get_held s ns vs j apart lj same k + get_held s ns vs i apart li same k) % 2 ^ 8))
      ∙ put_held s ns vs j ((nth vs j + nth vs i) % 2 ^ 8) apart lj same

  pub moved_held : (vs : List ℕ) (i j : ℕ) → i < length ns → j < length ns → length vs ≡ length ns → moved (holding s ns vs) (nth ns i) (nth ns j) ≡ holding s ns (with_nth (with_nth vs j ((nth vs j + nth vs i) % 2 ^ 8)) i 0)
  moved_held vs i j li lj same =
      ap (λ t. put t (nth ns i) 0) (doubled_held vs i j li lj same)
      ∙ put_held s ns (with_nth vs j ((nth vs j + nth vs i) % 2 ^ 8)) i 0 apart li (length_with vs j ((nth vs j + nth vs i) % 2 ^ 8) ∙ same)

  pub drained_held : (vs : List ℕ) (i j : ℕ) → i < length ns → j < length ns → length vs ≡ length ns → drained (holding s ns vs) (nth ns i) (nth ns j) ≡ holding s ns (with_nth (with_nth vs j ((nth vs j + (2 ^ 8 - nth vs i)) % 2 ^ 8)) i 0)
  drained_held vs i j li lj same =
      let v : ℕ = (nth vs j + (2 ^ 8 - nth vs i)) % 2 ^ 8 in
      (λ k. put (put (holding s ns vs) (nth ns j) ((get_held s ns vs j apart lj same k + (2 ^ 8 - get_held s ns vs i apart li same k)) % 2 ^ 8)) (nth ns i) 0)
      ∙ (ap (λ t. put t (nth ns i) 0) (put_held s ns vs j v apart lj same)
      ∙ put_held s ns (with_nth vs j v) i 0 apart li (length_with vs j v ∙ same))

-- the cells of two words
abbrev pub pair_of : ℕ → ℕ → List ℕ
pair_of v w = v ∷ (v + 1) ∷ (v + 2) ∷ w ∷ (w + 1) ∷ (w + 2) ∷ []

pub pair_apart : (v w : ℕ) → AreDistinct v w → AreApart (pair_of v w)
pair_apart v w (inl h) = ((omega arith, (omega arith, (omega arith, (omega arith, (omega arith, tt))))), ((omega arith, (omega arith, (omega arith, (omega arith, tt)))), ((omega arith, (omega arith, (omega arith, tt))), ((omega arith, (omega arith, tt)), ((omega arith, tt), (tt, tt))))))
pair_apart v w (inr h) = ((omega arith, (omega arith, (omega arith, (omega arith, (omega arith, tt))))), ((omega arith, (omega arith, (omega arith, (omega arith, tt)))), ((omega arith, (omega arith, (omega arith, tt))), ((omega arith, (omega arith, tt)), ((omega arith, tt), (tt, tt))))))

module _ (s : Tape) (v w : ℕ) (distinct : AreDistinct v w) where
  abbrev six : ℕ → ℕ → ℕ → ℕ → ℕ → ℕ → Tape
  six a b c d e f = holding s (pair_of v w) (a ∷ b ∷ c ∷ d ∷ e ∷ f ∷ [])

  abbrev a : ℕ
  a = get s v

  abbrev b : ℕ
  b = get s (v + 1)

  abbrev c : ℕ
  c = get s (v + 2)

  abbrev d : ℕ
  d = get s w

  abbrev e : ℕ
  e = get s (w + 1)

  abbrev f : ℕ
  f = get s (w + 2)

  ap' : AreApart (pair_of v w)
  ap' = pair_apart v w distinct

  start : s ≡ six a b c d e f
  start = sym (held s (pair_of v w))

  -- another word at the second place
  set_second : (x y z : ℕ) (p q r t u k : ℕ) → put (put (put (six x y z p q r) w t) (w + 1) u) (w + 2) k ≡ six x y z t u k
  set_second x y z p q r t u k =
      ap (λ s. put (put s (w + 1) u) (w + 2) k) (put_held s (pair_of v w) (x ∷ y ∷ z ∷ p ∷ q ∷ r ∷ []) 3 t ap' (omega arith) refl)
      ∙ (ap (λ s. put s (w + 2) k) (put_held s (pair_of v w) (x ∷ y ∷ z ∷ t ∷ q ∷ r ∷ []) 4 u ap' (omega arith) refl)
      ∙ put_held s (pair_of v w) (x ∷ y ∷ z ∷ t ∷ u ∷ r ∷ []) 5 k ap' (omega arith) refl)

  set_first : (x y z : ℕ) (p q r t u k : ℕ) → put (put (put (six x y z p q r) v t) (v + 1) u) (v + 2) k ≡ six t u k p q r
  set_first x y z p q r t u k =
      ap (λ s. put (put s (v + 1) u) (v + 2) k) (put_held s (pair_of v w) (x ∷ y ∷ z ∷ p ∷ q ∷ r ∷ []) 0 t ap' (omega arith) refl)
      ∙ (ap (λ s. put s (v + 2) k) (put_held s (pair_of v w) (t ∷ y ∷ z ∷ p ∷ q ∷ r ∷ []) 1 u ap' (omega arith) refl)
      ∙ put_held s (pair_of v w) (t ∷ u ∷ z ∷ p ∷ q ∷ r ∷ []) 2 k ap' (omega arith) refl)

  doubled_bytes : doubled (doubled (doubled s v w) (v + 1) (w + 1)) (v + 2) (w + 2) ≡ six a b c ((d + a) % 2 ^ 8) ((e + b) % 2 ^ 8) ((f + c) % 2 ^ 8)
  doubled_bytes =
      ap (λ t. doubled (doubled (doubled t v w) (v + 1) (w + 1)) (v + 2) (w + 2)) start
      ∙ (ap (λ t. doubled (doubled t (v + 1) (w + 1)) (v + 2) (w + 2)) (doubled_held s (pair_of v w) ap' (a ∷ b ∷ c ∷ d ∷ e ∷ f ∷ []) 0 3 (omega arith) (omega arith) refl)
      ∙ (ap (λ t. doubled t (v + 2) (w + 2)) (doubled_held s (pair_of v w) ap' (a ∷ b ∷ c ∷ (d + a) % 2 ^ 8 ∷ e ∷ f ∷ []) 1 4 (omega arith) (omega arith) refl)
      ∙ doubled_held s (pair_of v w) ap' (a ∷ b ∷ c ∷ (d + a) % 2 ^ 8 ∷ (e + b) % 2 ^ 8 ∷ f ∷ []) 2 5 (omega arith) (omega arith) refl))

  moved_bytes : moved (moved (moved s v w) (v + 1) (w + 1)) (v + 2) (w + 2) ≡ six 0 0 0 ((d + a) % 2 ^ 8) ((e + b) % 2 ^ 8) ((f + c) % 2 ^ 8)
  moved_bytes =
      ap (λ t. moved (moved (moved t v w) (v + 1) (w + 1)) (v + 2) (w + 2)) start
      ∙ (ap (λ t. moved (moved t (v + 1) (w + 1)) (v + 2) (w + 2)) (moved_held s (pair_of v w) ap' (a ∷ b ∷ c ∷ d ∷ e ∷ f ∷ []) 0 3 (omega arith) (omega arith) refl)
      ∙ (ap (λ t. moved t (v + 2) (w + 2)) (moved_held s (pair_of v w) ap' (0 ∷ b ∷ c ∷ (d + a) % 2 ^ 8 ∷ e ∷ f ∷ []) 1 4 (omega arith) (omega arith) refl)
      ∙ moved_held s (pair_of v w) ap' (0 ∷ 0 ∷ c ∷ (d + a) % 2 ^ 8 ∷ (e + b) % 2 ^ 8 ∷ f ∷ []) 2 5 (omega arith) (omega arith) refl))

  drained_bytes : drained (drained (drained s v w) (v + 1) (w + 1)) (v + 2) (w + 2) ≡ six 0 0 0 ((d + (2 ^ 8 - a)) % 2 ^ 8) ((e + (2 ^ 8 - b)) % 2 ^ 8) ((f + (2 ^ 8 - c)) % 2 ^ 8)
  drained_bytes =
      ap (λ t. drained (drained (drained t v w) (v + 1) (w + 1)) (v + 2) (w + 2)) start
      ∙ (ap (λ t. drained (drained t (v + 1) (w + 1)) (v + 2) (w + 2)) (drained_held s (pair_of v w) ap' (a ∷ b ∷ c ∷ d ∷ e ∷ f ∷ []) 0 3 (omega arith) (omega arith) refl)
      ∙ (ap (λ t. drained t (v + 2) (w + 2)) (drained_held s (pair_of v w) ap' (0 ∷ b ∷ c ∷ (d + (2 ^ 8 - a)) % 2 ^ 8 ∷ e ∷ f ∷ []) 1 4 (omega arith) (omega arith) refl)
      ∙ drained_held s (pair_of v w) ap' (0 ∷ 0 ∷ c ∷ (d + (2 ^ 8 - a)) % 2 ^ 8 ∷ (e + (2 ^ 8 - b)) % 2 ^ 8 ∷ f ∷ []) 2 5 (omega arith) (omega arith) refl))

  -- the words afterwards
  pub doubled_word : ((p : ℕ) → s.cells p < 2 ^ 8) → word_in s w ≡ 0 → doubled (doubled (doubled s v w) (v + 1) (w + 1)) (v + 2) (w + 2) ≡ with_word s w (word_in s v)
  doubled_word bytes none =
      let x = bytes_of s v bytes in
      let la : a < 2 ^ 8 = bytes (s.base + v) in
      let lb : b < 2 ^ 8 = bytes (s.base + (v + 1)) in
      let lc : c < 2 ^ 8 = bytes (s.base + (v + 2)) in
      let l : (d + a) % 2 ^ 8 ≡ low_byte (word_in s v) = omega (arith, none, x.low) in
      let m : (e + b) % 2 ^ 8 ≡ mid_byte (word_in s v) = omega (arith, none, x.mid) in
      let h : (f + c) % 2 ^ 8 ≡ high_byte (word_in s v) = omega (arith, none, x.high) in
      doubled_bytes ∙ ((λ i. six a b c (l i) (m i) (h i)) ∙ sym (ap (λ t. with_word t w (word_in s v)) start ∙ set_second a b c d e f (low_byte (word_in s v)) (mid_byte (word_in s v)) (high_byte (word_in s v))))

  pub moved_word : ((p : ℕ) → s.cells p < 2 ^ 8) → word_in s w ≡ 0 → moved (moved (moved s v w) (v + 1) (w + 1)) (v + 2) (w + 2) ≡ carried_word v w s
  moved_word bytes none =
      let x = bytes_of s v bytes in
      let la : a < 2 ^ 8 = bytes (s.base + v) in
      let lb : b < 2 ^ 8 = bytes (s.base + (v + 1)) in
      let lc : c < 2 ^ 8 = bytes (s.base + (v + 2)) in
      let l : (d + a) % 2 ^ 8 ≡ low_byte (word_in s v) = omega (arith, none, x.low) in
      let m : (e + b) % 2 ^ 8 ≡ mid_byte (word_in s v) = omega (arith, none, x.mid) in
      let h : (f + c) % 2 ^ 8 ≡ high_byte (word_in s v) = omega (arith, none, x.high) in
      moved_bytes ∙ ((λ i. six 0 0 0 (l i) (m i) (h i)) ∙ sym (ap (λ t. with_word (with_word t w (word_in s v)) v 0) start
      ∙ (ap (λ t. with_word t v 0) (set_second a b c d e f (low_byte (word_in s v)) (mid_byte (word_in s v)) (high_byte (word_in s v)))
      ∙ set_first a b c (low_byte (word_in s v)) (mid_byte (word_in s v)) (high_byte (word_in s v)) 0 0 0)))

  pub drained_word : ((p : ℕ) → s.cells p < 2 ^ 8) → word_in s w ≡ 2 ^ 24 - 1 → drained (drained (drained s v w) (v + 1) (w + 1)) (v + 2) (w + 2) ≡ with_word (with_word s w (2 ^ 24 - 1 - word_in s v)) v 0
  drained_word bytes full =
      let la : a < 2 ^ 8 = bytes (s.base + v) in
      let lb : b < 2 ^ 8 = bytes (s.base + (v + 1)) in
      let lc : c < 2 ^ 8 = bytes (s.base + (v + 2)) in
      let ld : d < 2 ^ 8 = bytes (s.base + w) in
      let le : e < 2 ^ 8 = bytes (s.base + (w + 1)) in
      let lf : f < 2 ^ 8 = bytes (s.base + (w + 2)) in
      let k : ℕ = 2 ^ 24 - 1 - word_in s v in
      let l : (d + (2 ^ 8 - a)) % 2 ^ 8 ≡ low_byte k = flipped_low a b c d e f la lb lc ld le lf full in
      let m : (e + (2 ^ 8 - b)) % 2 ^ 8 ≡ mid_byte k = flipped_mid a b c d e f la lb lc ld le lf full in
      let h : (f + (2 ^ 8 - c)) % 2 ^ 8 ≡ high_byte k = flipped_high a b c d e f la lb lc ld le lf full in
      drained_bytes ∙ ((λ i. six 0 0 0 (l i) (m i) (h i)) ∙ sym (ap (λ t. with_word (with_word t w k) v 0) start
      ∙ (ap (λ t. with_word t v 0) (set_second a b c d e f (low_byte k) (mid_byte k) (high_byte k))
      ∙ set_first a b c (low_byte k) (mid_byte k) (high_byte k) 0 0 0)))
    where
      all_full : (d e f : ℕ) → d < 2 ^ 8 → e < 2 ^ 8 → f < 2 ^ 8 → d + 256 * e + 65536 * f ≡ 2 ^ 24 - 1 → (d ≡ 255) × ((e ≡ 255) × (f ≡ 255))
      all_full d e f ld le lf full = (omega arith, (omega arith, omega arith))

      flipped_low : (a b c d e f : ℕ) → a < 2 ^ 8 → b < 2 ^ 8 → c < 2 ^ 8 → d < 2 ^ 8 → e < 2 ^ 8 → f < 2 ^ 8 → d + 256 * e + 65536 * f ≡ 2 ^ 24 - 1 → (d + (2 ^ 8 - a)) % 2 ^ 8 ≡ low_byte (2 ^ 24 - 1 - (a + 256 * b + 65536 * c))
      flipped_low a b c d e f la lb lc ld le lf full = let g = all_full d e f ld le lf full in omega (arith, g.0)

      flipped_mid : (a b c d e f : ℕ) → a < 2 ^ 8 → b < 2 ^ 8 → c < 2 ^ 8 → d < 2 ^ 8 → e < 2 ^ 8 → f < 2 ^ 8 → d + 256 * e + 65536 * f ≡ 2 ^ 24 - 1 → (e + (2 ^ 8 - b)) % 2 ^ 8 ≡ mid_byte (2 ^ 24 - 1 - (a + 256 * b + 65536 * c))
      flipped_mid a b c d e f la lb lc ld le lf full = let g = all_full d e f ld le lf full in omega (arith, g.1.0)

      flipped_high : (a b c d e f : ℕ) → a < 2 ^ 8 → b < 2 ^ 8 → c < 2 ^ 8 → d < 2 ^ 8 → e < 2 ^ 8 → f < 2 ^ 8 → d + 256 * e + 65536 * f ≡ 2 ^ 24 - 1 → (f + (2 ^ 8 - c)) % 2 ^ 8 ≡ high_byte (2 ^ 24 - 1 - (a + 256 * b + 65536 * c))
      flipped_high a b c d e f la lb lc ld le lf full = let g = all_full d e f ld le lf full in omega (arith, g.1.1)
