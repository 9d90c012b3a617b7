-- Comparisons told where a register stands.
use Rattle.std.proofs.Common.{◌≡◌, ◌≢◌, ℕ, ◌+◌, ◌-◌, ◌*◌, ◌%◌, ◌^◌, ◌<◌, ◌≤◌, inl, inr, Bool, true, false, not, nat_eq, nat_lt, nat_le, cond, [], ◌∷◌, refl, sym, ap, subst, ◌∙◌, arith, ne_eqb}
use Rattle.std.proofs.lemmas.Bool.{eqb-true, eqb-false, ltb-true, ltb-false, le-leb, lt-leb}
use Rattle.eir_core.specs.declared.ops.Reg.{Reg}
use Rattle.eir_core.specs.declared.ops.Operand.{Operand}
use Rattle.eir_core.specs.declared.ops.Cond.{Cond}
use Rattle.eir_core.specs.Step.{holds}
use Rattle.bf_tape.specs.Tape.{Tape, get, put}
use Rattle.bf_tape.specs.Piece.{Piece, Adds, any, moved, drained}
use Rattle.bf_tape.proofs.Turning.{get_put, get_other, put_same}
use Rattle.bf_word.specs.Word.{word_in, with_word, lowered_once, IsCounter}
use Rattle.bf_word.proofs.Words.{put_free, put_put, cell_kept, word_set, set_again, bytes_of}
use Rattle.bf_word.proofs.Chain.{adds_then, adds_as}
use Rattle.bf_word.proofs.Scratch.{put_word, same_where}
use Rattle.bf_ops.specs.declared.telling.Told.{Told}
use Rattle.bf_ops.specs.Frame.{cell_of, value_in, lowered, answered, is_otherwise, told_of, told, IsFrame}
use Rattle.bf_ops.proofs.Kept.{stands, value_below, in_place}
use Rattle.bf_ops.proofs.Acts.{before_free, small_set}

-- a counter, and a cell before it
module _ (s : Tape) (w c : ℕ) (lt : c < w) (zeros : IsCounter w s) where
  zero_last : (d a : ℕ) → get (with_word (put s c a) w d) (w + 9) ≡ 0
  zero_last d a = cell_kept (put s c a) w d (w + 9) (inr (omega arith)) ∙ (get_other s c (w + 9) a (omega arith) ∙ zeros (w + 9) (omega arith) (omega arith))

  still_counter : (d a : ℕ) → IsCounter w (with_word (put s c a) w d)
  still_counter d a = λ q lo hi. cell_kept (put s c a) w d q (inr lo) ∙ (get_other s c q a (omega arith) ∙ zeros q lo hi)

  gathered : (d a o : ℕ) → a + o < 2 ^ 8 → moved (put (with_word (put s c a) w d) (w + 9) o) (w + 9) c ≡ with_word (put s c (a + o)) w d
  gathered d a o few =
      let t : Tape = with_word (put s c a) w d in
      let u : Tape = put t (w + 9) o in
      let apart : w + 9 ≢ c = omega arith in
      let here : get u c ≡ a = get_other t (w + 9) c o apart ∙ (cell_kept (put s c a) w d c (inl lt) ∙ get_put s c a) in
      let there : get u (w + 9) ≡ o = get_put t (w + 9) o in
      let sum : (get u c + get u (w + 9)) % 2 ^ 8 ≡ a + o = omega (arith, here, there, few) in
      ap (λ x. put (put u c x) (w + 9) 0) sum
      ∙ (put_free u (w + 9) 0 (c ∷ []) ((a + o) ∷ []) (apart, tt)
      ∙ (ap (λ k. put k c (a + o)) (put_put t (w + 9) o 0 ∙ put_same t (w + 9) 0 (zero_last d a)) ∙ (put_word (put s c a) w d c (a + o) (inl lt) ∙ ap (λ k. with_word k w d) (put_put s c a (a + o)))))

lowered_at : (t : Tape) (w d : ℕ) → d < 2 ^ 24 → lowered_once w (with_word t w d) ≡ put (with_word t w ((d + (2 ^ 24 - 1)) % 2 ^ 24)) (w + 9) (cond (nat_lt d 1) 1 0)
lowered_at t w d ld =
    (λ i. put (with_word (with_word t w d) w ((word_set t w d ld i + (2 ^ 24 - 1)) % 2 ^ 24)) (w + 9) (cond (nat_lt (word_set t w d ld i) 1) 1 0))
    ∙ ap (λ k. put k (w + 9) (cond (nat_lt d 1) 1 0)) (set_again t w d ((d + (2 ^ 24 - 1)) % 2 ^ 24))

cleared : (t : Tape) (w d n : ℕ) → with_word (put (with_word t w d) (w + 9) n) w 0 ≡ put (with_word t w 0) (w + 9) n
cleared t w d n = ap (λ k. with_word k w 0) (put_word t w d (w + 9) n (inr (omega arith))) ∙ (set_again (put t (w + 9) n) w d 0 ∙ sym (put_word t w 0 (w + 9) n (inr (omega arith))))

bit_few : (b : Bool) → cond b 1 0 ≤ 1
bit_few true = omega arith
bit_few false = omega arith

-- whether one number is less than another or the same
at_most : (a b : ℕ) → cond (nat_lt a b) 1 0 + cond (nat_eq a b) 1 0 ≡ cond (nat_le a b) 1 0
at_most a b =
    elim (nat_lt a b) as (λ t. nat_lt a b ≡ t → cond t 1 0 + cond (nat_eq a b) 1 0 ≡ cond (nat_le a b) 1 0) [
      | true ↦ λ t.
          let lt : a < b = ltb-true a b t in
          let differ : nat_eq a b ≡ false = ne_eqb a b (omega arith) in
          let le : nat_le a b ≡ true = le-leb a b (omega arith) in
          (λ i. 1 + cond (differ i) 1 0) ∙ sym (ap (λ t. cond t 1 0) le)
      | false ↦ λ t.
          let ge : b ≤ a = ltb-false a b t in
          elim (nat_eq a b) as (λ q. nat_eq a b ≡ q → 0 + cond q 1 0 ≡ cond (nat_le a b) 1 0) [
            | true ↦ λ q. let same : a ≡ b = eqb-true a b q in sym (ap (λ t. cond t 1 0) (le-leb a b (omega arith)))
            | false ↦ λ q. let differ : a ≢ b = eqb-false a b q in sym (ap (λ t. cond t 1 0) (lt-leb a b (omega arith)))
          ] refl
    ] refl

-- a register where it stands
module _ (x : Reg) where
  abbrev w : ℕ
  w = cell_of x

  abbrev c : ℕ
  c = cell_of x - 1

  low : c < w
  low = let at' = stands x in omega (arith, at'.at)

  off : (s : Tape) → IsFrame s → get s c ≡ 0
  off s k = let at' = stands x in before_free s x c k (omega (arith, at'.at)) low

  idle : (s : Tape) → IsFrame s → s ≡ put s c 0
  idle s k = sym (put_same s c 0 (off s k))

  -- the register cleared, and what its counter's last cell tells added to the cell before it
  reported : {p q r t : Piece} (m l : ℕ) (a d o : Tape → ℕ) (b : Tape → Bool) (cell : ℕ) → cell ≡ w
      → Adds p q IsFrame (λ input s. put (with_word (put s c (a s)) w (d s)) (w + 9) (o s)) m l → ((s : Tape) → ((p : ℕ) → s.cells p < 2 ^ 8) → a s + o s ≡ cond (b s) 1 0)
      → Adds q r any (λ input s. with_word s cell 0) (3 * 2 ^ 10) (3 * 2 ^ 9) → Adds r t any (λ input s. moved s (cell + 9) (cell - 1)) (2 ^ 18) 1024
      → Adds p t IsFrame (λ input s. answered s x (b s)) (m + 2 ^ 18 + 2 ^ 12) (l + 2 ^ 12)
  reported {q = q} {r = r} {t = t} m l a d o b cell is told' sum clear' move' =
      let clear : Adds q r any (λ input s. with_word s w 0) (3 * 2 ^ 10) (3 * 2 ^ 9) = subst (λ k. Adds q r any (λ input s. with_word s k 0) (3 * 2 ^ 10) (3 * 2 ^ 9)) is clear' in
      let move : Adds r t any (λ input s. moved s (w + 9) c) (2 ^ 18) 1024 = subst (λ k. Adds r t any (λ input s. moved s (k + 9) (k - 1)) (2 ^ 18) 1024) is move' in
      let gone = adds_as (λ input s. put (with_word (put s c (a s)) w 0) (w + 9) (o s)) (m + 3 * 2 ^ 10) (l + 3 * 2 ^ 9) (adds_then IsFrame told' clear (λ input s bytes k. (k, tt)))
      (λ input s bytes k. (k, cleared (put s c (a s)) w (d s) (o s))) (omega arith) (omega arith) in
      adds_as (λ input s. answered s x (b s)) (m + 2 ^ 18 + 2 ^ 12) (l + 2 ^ 12) (adds_then IsFrame gone move (λ input s bytes k. (k, tt)))
      (λ input s bytes k.
      let is_bit : a s + o s ≡ cond (b s) 1 0 = sum s bytes in
      (k, gathered s w c low (k.counters x) 0 (a s) (o s) (omega (arith, is_bit, bit_few (b s))) ∙ ap (λ n. with_word (put s c n) w 0) is_bit)) (omega arith) (omega arith)

module _ (x : Reg) (v : Operand) where
  abbrev rest : Tape → ℕ
  rest s = (word_in s (cell_of x) + (2 ^ 24 - value_in s v)) % 2 ^ 24

  abbrev fewer : Tape → ℕ
  fewer s = (rest s + (2 ^ 24 - 1)) % 2 ^ 24

  abbrev less : Tape → ℕ
  less s = cond (nat_lt (word_in s (cell_of x)) (value_in s v)) 1 0

  abbrev none : Tape → ℕ
  none s = cond (nat_lt (rest s) 1) 1 0

  none_is : (s : Tape) → ((p : ℕ) → s.cells p < 2 ^ 8) → none s ≡ cond (nat_eq (word_in s (cell_of x)) (value_in s v)) 1 0
  none_is s bytes = ap (λ t. cond t 1 0) (same_where (word_in s (cell_of x)) (value_in s v) (bytes_of s (cell_of x) bytes).below (value_below s v bytes))

  pub smaller_told : {p q r t : Piece} (cell : ℕ) → cell ≡ cell_of x → Adds p q IsFrame (λ input s. lowered s x (value_in s v)) (2 ^ 22) (3 * 2 ^ 12)
      → Adds q r any (λ input s. with_word s cell 0) (3 * 2 ^ 10) (3 * 2 ^ 9) → Adds r t any (λ input s. moved s (cell + 9) (cell - 1)) (2 ^ 18) 1024
      → Adds p t IsFrame (λ input s. answered s x (nat_lt (word_in s (cell_of x)) (value_in s v))) (3 * 2 ^ 22) (2 ^ 15)
  smaller_told cell is take clear move =
      let w : ℕ = cell_of x in
      let ready = adds_as (λ input s. put (with_word (put s (w - 1) 0) w (rest s)) (w + 9) (less s)) (2 ^ 22) (3 * 2 ^ 12) take
      (λ input s bytes k. (k, ap (λ t. put (with_word t w (rest s)) (w + 9) (less s)) (idle x s k))) (omega arith) (omega arith) in
      adds_as (λ input s. answered s x (nat_lt (word_in s w) (value_in s v))) (3 * 2 ^ 22) (2 ^ 15)
      (reported x (2 ^ 22) (3 * 2 ^ 12) (λ s. 0) rest less (λ s. nat_lt (word_in s w) (value_in s v)) cell is ready (λ s bytes. omega arith) clear move)
      (λ input s bytes k. (k, refl)) (omega arith) (omega arith)

  pub same_told : {p q r t u : Piece} (cell : ℕ) → cell ≡ cell_of x → Adds p q IsFrame (λ input s. with_word s (cell_of x) (rest s)) (2 ^ 23) (2 ^ 14)
      → Adds q r (IsCounter cell) (λ input s. lowered_once cell s) 512 512
      → Adds r t any (λ input s. with_word s cell 0) (3 * 2 ^ 10) (3 * 2 ^ 9) → Adds t u any (λ input s. moved s (cell + 9) (cell - 1)) (2 ^ 18) 1024
      → Adds p u IsFrame (λ input s. answered s x (nat_eq (word_in s (cell_of x)) (value_in s v))) (3 * 2 ^ 22) (2 ^ 15)
  same_told {q = q} {r = r} cell is take once' clear move =
      let w : ℕ = cell_of x in
      let once : Adds q r (IsCounter w) (λ input s. lowered_once w s) 512 512 = subst (λ k. Adds q r (IsCounter k) (λ input s. lowered_once k s) 512 512) is once' in
      let ready = adds_as (λ input s. put (with_word (put s (w - 1) 0) w (fewer s)) (w + 9) (none s)) (2 ^ 23 + 512) (2 ^ 14 + 512)
      (adds_then IsFrame take once (λ input s bytes k. (k, λ q lo hi. cell_kept s w (rest s) q (inr lo) ∙ k.counters x q lo hi)))
      (λ input s bytes k. (k, lowered_at s w (rest s) (omega arith) ∙ ap (λ t. put (with_word t w (fewer s)) (w + 9) (none s)) (idle x s k))) (omega arith) (omega arith) in
      adds_as (λ input s. answered s x (nat_eq (word_in s w) (value_in s v))) (3 * 2 ^ 22) (2 ^ 15)
      (reported x (2 ^ 23 + 512) (2 ^ 14 + 512) (λ s. 0) fewer none (λ s. nat_eq (word_in s w) (value_in s v)) cell is ready (λ s bytes. omega (arith, none_is s bytes)) clear move)
      (λ input s bytes k. (k, refl)) (omega arith) (omega arith)

  pub at_most_told : {p q r t u z : Piece} (cell : ℕ) → cell ≡ cell_of x → Adds p q IsFrame (λ input s. lowered s x (value_in s v)) (2 ^ 22) (3 * 2 ^ 12)
      → Adds q r any (λ input s. moved s (cell + 9) (cell - 1)) (2 ^ 18) 1024 → Adds r t (IsCounter cell) (λ input s. lowered_once cell s) 512 512
      → Adds t u any (λ input s. with_word s cell 0) (3 * 2 ^ 10) (3 * 2 ^ 9) → Adds u z any (λ input s. moved s (cell + 9) (cell - 1)) (2 ^ 18) 1024
      → Adds p z IsFrame (λ input s. answered s x (nat_le (word_in s (cell_of x)) (value_in s v))) (3 * 2 ^ 22) (2 ^ 15)
  at_most_told {q = q} {r = r} {t = t} cell is take move' once' clear last =
      let w : ℕ = cell_of x in
      let move : Adds q r any (λ input s. moved s (w + 9) (w - 1)) (2 ^ 18) 1024 = subst (λ k. Adds q r any (λ input s. moved s (k + 9) (k - 1)) (2 ^ 18) 1024) is move' in
      let once : Adds r t (IsCounter w) (λ input s. lowered_once w s) 512 512 = subst (λ k. Adds r t (IsCounter k) (λ input s. lowered_once k s) 512 512) is once' in
      let few : (s : Tape) → 0 + less s < 2 ^ 8 = λ s. omega (arith, bit_few (nat_lt (word_in s w) (value_in s v))) in
      let first = adds_as (λ input s. with_word (put s (w - 1) (0 + less s)) w (rest s)) (2 ^ 22 + 2 ^ 18) (2 ^ 14)
      (adds_then IsFrame take move (λ input s bytes k. (k, tt)))
      (λ input s bytes k. (k, ap (λ t. moved (put (with_word t w (rest s)) (w + 9) (less s)) (w + 9) (w - 1)) (idle x s k) ∙ gathered s w (w - 1) (low x) (k.counters x) (rest s) 0 (less s) (few s))) (omega arith) (omega arith) in
      let ready = adds_as (λ input s. put (with_word (put s (w - 1) (0 + less s)) w (fewer s)) (w + 9) (none s)) (2 ^ 22 + 2 ^ 19) (2 ^ 14 + 512)
      (adds_then IsFrame first once (λ input s bytes k. (k, still_counter s w (w - 1) (low x) (k.counters x) (rest s) (0 + less s))))
      (λ input s bytes k. (k, lowered_at (put s (w - 1) (0 + less s)) w (rest s) (omega arith))) (omega arith) (omega arith) in
      adds_as (λ input s. answered s x (nat_le (word_in s w) (value_in s v))) (3 * 2 ^ 22) (2 ^ 15)
      (reported x (2 ^ 22 + 2 ^ 19) (2 ^ 14 + 512) (λ s. 0 + less s) fewer none (λ s. nat_le (word_in s w) (value_in s v)) cell is ready (λ s bytes. omega (arith, none_is s bytes, at_most (word_in s w) (value_in s v))) clear last)
      (λ input s bytes k. (k, refl)) (omega arith) (omega arith)

pub told_as : {p q : Piece} (m known : Told) (x : Reg) (v : Operand) → m ≡ known → Adds p q IsFrame (λ input s. answered s x (told known (word_in s (cell_of x)) (value_in s v))) (3 * 2 ^ 22) (2 ^ 15)
    → Adds p q IsFrame (λ input s. answered s x (told m (word_in s (cell_of x)) (value_in s v))) (3 * 2 ^ 22) (2 ^ 15)
told_as {p = p} {q = q} m known x v is a = subst (λ n. Adds p q IsFrame (λ input s. answered s x (told n (word_in s (cell_of x)) (value_in s v))) (3 * 2 ^ 22) (2 ^ 15)) (sym is) a

-- an answer moved to its register, which is 0
abbrev pub Answers : Reg → Tape → Type 0
Answers x s = (get s (cell_of x) ≡ 0) × (get s (cell_of x - 1) ≤ 1)

pub answer_same : {p q : Piece} (x : Reg) (cell : ℕ) → cell ≡ cell_of x → Adds p q any (λ input s. moved s (cell - 1) cell) (2 ^ 18) 1024
    → Adds p q (Answers x) (λ input s. put (put s (cell_of x) (get s (cell_of x - 1))) (cell_of x - 1) 0) (2 ^ 19) (2 ^ 11)
answer_same {p = p} {q = q} x cell is a' =
    let w : ℕ = cell_of x in
    let a : Adds p q any (λ input s. moved s (w - 1) w) (2 ^ 18) 1024 = subst (λ k. Adds p q any (λ input s. moved s (k - 1) k) (2 ^ 18) 1024) is a' in
    adds_as (λ input s. put (put s w (get s (w - 1))) (w - 1) 0) (2 ^ 19) (2 ^ 11) a
    (λ input s bytes k. (tt, let e : (get s w + get s (w - 1)) % 2 ^ 8 ≡ get s (w - 1) = omega (arith, k.0, k.1) in ap (λ y. put (put s w y) (w - 1) 0) e)) (omega arith) (omega arith)

pub answer_other : {p q r : Piece} (x : Reg) (cell : ℕ) → cell ≡ cell_of x → Adds p q any (λ input s. put s cell ((get s cell + 1) % 2 ^ 8)) 512 512 → Adds q r any (λ input s. drained s (cell - 1) cell) (2 ^ 18) 1024
    → Adds p r (Answers x) (λ input s. put (put s (cell_of x) (1 - get s (cell_of x - 1))) (cell_of x - 1) 0) (2 ^ 19) (2 ^ 11)
answer_other {p = p} {q = q} {r = r} x cell is a' b' =
    let w : ℕ = cell_of x in
    let a : Adds p q any (λ input s. put s w ((get s w + 1) % 2 ^ 8)) 512 512 = subst (λ k. Adds p q any (λ input s. put s k ((get s k + 1) % 2 ^ 8)) 512 512) is a' in
    let b : Adds q r any (λ input s. drained s (w - 1) w) (2 ^ 18) 1024 = subst (λ k. Adds q r any (λ input s. drained s (k - 1) k) (2 ^ 18) 1024) is b' in
    let lt : w - 1 < w = low x in
    let up : Adds p q (Answers x) (λ input s. put s w 1) 512 512 = adds_as (λ input s. put s w 1) 512 512 a (λ input s bytes k. (tt, ap (λ y. put s w ((y + 1) % 2 ^ 8)) k.0)) (omega arith) (omega arith) in
    adds_as (λ input s. put (put s w (1 - get s (w - 1))) (w - 1) 0) (2 ^ 19) (2 ^ 11) (adds_then (Answers x) up b (λ input s bytes k. (k, tt)))
    (λ input s bytes k.
    let t : Tape = put s w 1 in
    let e : (get t w + (2 ^ 8 - get t (w - 1))) % 2 ^ 8 ≡ 1 - get s (w - 1) = omega (arith, get_put s w 1, get_other s w (w - 1) 1 (omega (arith, lt)), k.1) in
    (k, ap (λ y. put (put t w y) (w - 1) 0) e ∙ ap (λ u. put u (w - 1) 0) (put_put s w 1 (1 - get s (w - 1))))) (omega arith) (omega arith)

pub answered_as : {p q : Piece} (otherwise known : Bool) (x : Reg) → otherwise ≡ known → Adds p q (Answers x) (λ input s. put (put s (cell_of x) (cond known (1 - get s (cell_of x - 1)) (get s (cell_of x - 1)))) (cell_of x - 1) 0) (2 ^ 19) (2 ^ 11)
    → Adds p q (Answers x) (λ input s. put (put s (cell_of x) (cond otherwise (1 - get s (cell_of x - 1)) (get s (cell_of x - 1)))) (cell_of x - 1) 0) (2 ^ 19) (2 ^ 11)
answered_as {p = p} {q = q} otherwise known x is a =
    subst (λ n. Adds p q (Answers x) (λ input s. put (put s (cell_of x) (cond n (1 - get s (cell_of x - 1)) (get s (cell_of x - 1)))) (cell_of x - 1) 0) (2 ^ 19) (2 ^ 11)) (sym is) a

told_bit : (otherwise j : Bool) → cond otherwise (1 - cond j 1 0) (cond j 1 0) ≡ cond (cond otherwise (not j) j) 1 0
told_bit true true = refl
told_bit true false = refl
told_bit false true = refl
told_bit false false = refl

first_zero : (s : Tape) (w : ℕ) → get (with_word s w 0) w ≡ 0
first_zero s w = get_other (put (put s w 0) (w + 1) 0) (w + 2) w 0 (omega arith) ∙ (get_other (put s w 0) (w + 1) w 0 (omega arith) ∙ get_put s w 0)

bit_byte : (b : Bool) → cond b 1 0 < 2 ^ 8
bit_byte true = omega arith
bit_byte false = omega arith

pub set_if_adds : {p q r : Piece} (test : Cond) (x : Reg) (v : Operand) (m : Told) (otherwise : Bool) → m ≡ told_of test → otherwise ≡ is_otherwise test
    → Adds p q IsFrame (λ input s. answered s x (told m (word_in s (cell_of x)) (value_in s v))) (3 * 2 ^ 22) (2 ^ 15)
    → Adds q r (Answers x) (λ input s. put (put s (cell_of x) (cond otherwise (1 - get s (cell_of x - 1)) (get s (cell_of x - 1)))) (cell_of x - 1) 0) (2 ^ 19) (2 ^ 11)
    → Adds p r IsFrame (λ input s. with_word s (cell_of x) (cond (holds test (word_in s (cell_of x)) (value_in s v)) 1 0)) (2 ^ 24) (2 ^ 17)
set_if_adds test x v m otherwise m_is otherwise_is a d =
    let w : ℕ = cell_of x in
    let c : ℕ = cell_of x - 1 in
    let j : Tape → Bool = λ s. told m (word_in s w) (value_in s v) in
    let o : Tape → ℕ = λ s. cond (j s) 1 0 in
    let answer : (s : Tape) → get (with_word (put s c (o s)) w 0) c ≡ o s = λ s. cell_kept (put s c (o s)) w 0 c (inl (low x)) ∙ get_put s c (o s) in
    adds_as (λ input s. with_word s w (cond (holds test (word_in s w) (value_in s v)) 1 0)) (2 ^ 24) (2 ^ 17)
    (adds_then IsFrame a d (λ input s bytes k. (k, (first_zero (put s c (o s)) w, subst (λ y. y ≤ 1) (sym (answer s)) (bit_few (j s))))))
    (λ input s bytes k.
    let u : Tape = put s c (o s) in
    let y : ℕ = cond (holds test (word_in s w) (value_in s v)) 1 0 in
    let same : cond (cond otherwise (not (j s)) (j s)) 1 0 ≡ y =
    (λ i. cond (cond (otherwise_is i) (not (told (m_is i) (word_in s w) (value_in s v))) (told (m_is i) (word_in s w) (value_in s v))) 1 0) ∙ ap (λ b. cond b 1 0) (sym (in_place test (word_in s w) (value_in s v))) in
    let answer_is : cond otherwise (1 - get (with_word u w 0) c) (get (with_word u w 0) c) ≡ y = (λ i. cond otherwise (1 - answer s i) (answer s i)) ∙ (told_bit otherwise (j s) ∙ same) in (
      k,
      ap (λ z. put (put (with_word u w 0) w z) c 0) answer_is
          ∙ (ap (λ z. put z c 0) (small_set u w y (bit_byte (holds test (word_in s w) (value_in s v))))
          ∙ (put_word u w y c 0 (inl (low x)) ∙ ap (λ z. with_word z w y) (put_put s c (o s) 0 ∙ put_same s c 0 (off x s k)))),
    )) (omega arith) (omega arith)
