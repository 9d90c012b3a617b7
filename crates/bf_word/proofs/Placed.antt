-- The steps of a counter at any cell.
use Rattle.std.proofs.Common.{◌≡◌, ℕ, ◌+◌, ◌^◌, ◌<◌, ◌≤◌, true, nat_lt, cond, List, [], ◌∷◌, map, refl, sym, ap, subst, ◌∙◌, arith, add-zero}
use Rattle.bf_lang.specs.declared.command.Command.{Command}
use Rattle.bf_lang.specs.Cells.{raised}
use Rattle.bf_tape.specs.Tape.{Tape, get, put}
use Rattle.bf_tape.specs.Does.{Does}
use Rattle.bf_tape.specs.Piece.{shifted}
use Rattle.bf_tape.specs.Slots.{holding, AreApart}
use Rattle.bf_tape.proofs.Slotted.{put_held, held}
use Rattle.bf_word.specs.Word.{low_byte, mid_byte, high_byte, word_in, with_word, IsCounter}
use Rattle.bf_word.specs.Steps.{lower_0, lower_1, lower_2, lift_0, lift_1, lift_2}
use Rattle.bf_word.proofs.Bytes.{less, more}
use Rattle.bf_word.proofs.Words.{bytes_of}
use Rattle.bf_word.proofs.Anywhere.{does_from}
use Rattle.bf_word.proofs.Counted.{names, values, number, less_0, less_1, less_2, more_0, more_1, more_2}

-- the ten cells of a counter
abbrev pub counter_cells : ℕ → List ℕ
counter_cells w = w ∷ (w + 1) ∷ (w + 2) ∷ (w + 3) ∷ (w + 4) ∷ (w + 5) ∷ (w + 6) ∷ (w + 7) ∷ (w + 8) ∷ (w + 9) ∷ []

-- a counter that holds a number, and how often there was not as much
abbrev pub number_at : Tape → ℕ → ℕ → ℕ → Tape
number_at s w d o = holding s (counter_cells w) (values (low_byte d) (mid_byte d) (high_byte d) o)

cells_are : (w : ℕ) → map (λ n. w + n) names ≡ counter_cells w
cells_are w = ap (λ z. z ∷ (w + 1) ∷ (w + 2) ∷ (w + 3) ∷ (w + 4) ∷ (w + 5) ∷ (w + 6) ∷ (w + 7) ∷ (w + 8) ∷ (w + 9) ∷ []) (add-zero w)

placed : (input : List ℕ) (cs : List Command) (s : Tape) (w h d d' o o' n : ℕ) → Does input cs h (number input (shifted s w true) d o) h (number input (shifted s w true) d' o') n
    → Does input cs (w + h) (number_at s w d o) (w + h) (number_at s w d' o') n
placed input cs s w h d d' o o' n does =
    subst (λ ns. Does input cs (w + h) (holding s ns (values (low_byte d) (mid_byte d) (high_byte d) o)) (w + h) (holding s ns (values (low_byte d') (mid_byte d') (high_byte d') o')) n) (cells_are w)
    (does_from input cs s w h h names (values (low_byte d) (mid_byte d) (high_byte d) o) (values (low_byte d') (mid_byte d') (high_byte d') o') n does)

module _ (input : List ℕ) (s : Tape) (w d o : ℕ) where
  pub lower_low : d < 2 ^ 24 → Does input lower_0 w (number_at s w d o) w (number_at s w (less 1 d) (cond (nat_lt d 1) (raised o) o)) 200
  lower_low ld = subst (λ k. Does input lower_0 k (number_at s w d o) k (number_at s w (less 1 d) (cond (nat_lt d 1) (raised o) o)) 200) (add-zero w)
      (placed input lower_0 s w 0 d (less 1 d) o (cond (nat_lt d 1) (raised o) o) 200 (less_0 input (shifted s w true) d o ld))

  pub lower_mid : d < 2 ^ 24 → Does input lower_1 (w + 1) (number_at s w d o) (w + 1) (number_at s w (less 256 d) (cond (nat_lt d 256) (raised o) o)) 200
  lower_mid ld = placed input lower_1 s w 1 d (less 256 d) o (cond (nat_lt d 256) (raised o) o) 200 (less_1 input (shifted s w true) d o ld)

  pub lower_high : d < 2 ^ 24 → Does input lower_2 (w + 2) (number_at s w d o) (w + 2) (number_at s w (less 65536 d) (cond (nat_lt d 65536) (raised o) o)) 200
  lower_high ld = placed input lower_2 s w 2 d (less 65536 d) o (cond (nat_lt d 65536) (raised o) o) 200 (less_2 input (shifted s w true) d o ld)

  pub lift_low : Does input lift_0 w (number_at s w d o) w (number_at s w (more 1 d) o) 200
  lift_low = subst (λ k. Does input lift_0 k (number_at s w d o) k (number_at s w (more 1 d) o) 200) (add-zero w) (placed input lift_0 s w 0 d (more 1 d) o o 200 (more_0 input (shifted s w true) d o))

  pub lift_mid : Does input lift_1 (w + 1) (number_at s w d o) (w + 1) (number_at s w (more 256 d) o) 200
  lift_mid = placed input lift_1 s w 1 d (more 256 d) o o 200 (more_1 input (shifted s w true) d o)

  pub lift_high : Does input lift_2 (w + 2) (number_at s w d o) (w + 2) (number_at s w (more 65536 d) o) 200
  lift_high = placed input lift_2 s w 2 d (more 65536 d) o o 200 (more_2 input (shifted s w true) d o)

pub counter_apart : (w : ℕ) → AreApart (counter_cells w)
counter_apart w = ((omega arith, (omega arith, (omega arith, (omega arith, (omega arith, (omega arith, (omega arith, (omega arith, (omega arith, tt))))))))), ((omega arith, (omega arith, (omega arith, (omega arith, (omega arith, (omega arith, (omega arith, (omega arith, tt)))))))), ((omega arith, (omega arith, (omega arith, (omega arith, (omega arith, (omega arith, (omega arith, tt))))))), ((omega arith, (omega arith, (omega arith, (omega arith, (omega arith, (omega arith, tt)))))), ((omega arith, (omega arith, (omega arith, (omega arith, (omega arith, tt))))), ((omega arith, (omega arith, (omega arith, (omega arith, tt)))), ((omega arith, (omega arith, (omega arith, tt))), ((omega arith, (omega arith, tt)), ((omega arith, tt), (tt, tt))))))))))

-- the tape of a counter is that of its word
pub number_is : (s : Tape) (w v o : ℕ) → IsCounter w s → number_at s w v o ≡ put (with_word s w v) (w + 9) o
number_is s w v o zeros =
    let ns : List ℕ = counter_cells w in
    let l : ℕ = low_byte v in
    let m : ℕ = mid_byte v in
    let h : ℕ = high_byte v in
    let a : ℕ = get s w in
    let b : ℕ = get s (w + 1) in
    let c : ℕ = get s (w + 2) in
    let z : (i : ℕ) → 3 ≤ i → i < 10 → 0 ≡ get s (w + i) = λ i lo hi. sym (zeros (w + i) (omega arith) (omega arith)) in
    let tape : ℕ → ℕ → ℕ → ℕ → Tape = λ x y k q. holding s ns (x ∷ y ∷ k ∷ get s (w + 3) ∷ get s (w + 4) ∷ get s (w + 5) ∷ get s (w + 6) ∷ get s (w + 7) ∷ get s (w + 8) ∷ q ∷ []) in
    (λ i. holding s ns (l ∷ m ∷ h ∷ z 3 (omega arith) (omega arith) i ∷ z 4 (omega arith) (omega arith) i ∷ z 5 (omega arith) (omega arith) i ∷ z 6 (omega arith) (omega arith) i ∷ z 7 (omega arith) (omega arith) i ∷ z 8 (omega arith) (omega arith) i ∷ o ∷ []))
    ∙ sym (ap (λ t. put (with_word t w v) (w + 9) o) (sym (held s ns))
    ∙ (ap (λ t. put (put (put t (w + 1) m) (w + 2) h) (w + 9) o) (put_held s ns (a ∷ b ∷ c ∷ get s (w + 3) ∷ get s (w + 4) ∷ get s (w + 5) ∷ get s (w + 6) ∷ get s (w + 7) ∷ get s (w + 8) ∷ get s (w + 9) ∷ []) 0 l (counter_apart w) (omega arith) refl)
    ∙ (ap (λ t. put (put t (w + 2) h) (w + 9) o) (put_held s ns (l ∷ b ∷ c ∷ get s (w + 3) ∷ get s (w + 4) ∷ get s (w + 5) ∷ get s (w + 6) ∷ get s (w + 7) ∷ get s (w + 8) ∷ get s (w + 9) ∷ []) 1 m (counter_apart w) (omega arith) refl)
    ∙ (ap (λ t. put t (w + 9) o) (put_held s ns (l ∷ m ∷ c ∷ get s (w + 3) ∷ get s (w + 4) ∷ get s (w + 5) ∷ get s (w + 6) ∷ get s (w + 7) ∷ get s (w + 8) ∷ get s (w + 9) ∷ []) 2 h (counter_apart w) (omega arith) refl)
    ∙ put_held s ns (l ∷ m ∷ h ∷ get s (w + 3) ∷ get s (w + 4) ∷ get s (w + 5) ∷ get s (w + 6) ∷ get s (w + 7) ∷ get s (w + 8) ∷ get s (w + 9) ∷ []) 9 o (counter_apart w) (omega arith) refl))))

-- and a tape's counter holds a number
pub number_start : (s : Tape) (w : ℕ) → ((p : ℕ) → s.cells p < 2 ^ 8) → IsCounter w s → number_at s w (word_in s w) 0 ≡ s
number_start s w bytes zeros =
    let ns : List ℕ = counter_cells w in
    let x = bytes_of s w bytes in
    let z : (i : ℕ) → 3 ≤ i → i < 10 → 0 ≡ get s (w + i) = λ i lo hi. sym (zeros (w + i) (omega arith) (omega arith)) in
    (λ i. holding s ns (sym x.low i ∷ sym x.mid i ∷ sym x.high i ∷ z 3 (omega arith) (omega arith) i ∷ z 4 (omega arith) (omega arith) i ∷ z 5 (omega arith) (omega arith) i ∷ z 6 (omega arith) (omega arith) i ∷ z 7 (omega arith) (omega arith) i ∷ z 8 (omega arith) (omega arith) i ∷ z 9 (omega arith) (omega arith) i ∷ []))
    ∙ held s ns
