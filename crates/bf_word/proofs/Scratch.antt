-- Words in the cells to work in.
use Rattle.std.proofs.Common.{◌≡◌, ◌≢◌, ℕ, ◌+◌, ◌-◌, ◌*◌, ◌%◌, ◌^◌, ◌<◌, ◌≤◌, inl, inr, true, false, nat_eq, nat_lt, cond, [], ◌∷◌, refl, sym, ap, ◌∙◌, arith}
use Rattle.std.proofs.lemmas.Bool.{eqb-true, eqb-false, lt-ltb, le-ltb}
use Rattle.bf_tape.specs.Tape.{Tape, get, put}
use Rattle.bf_tape.specs.Piece.{moved}
use Rattle.bf_tape.proofs.Turning.{get_put, get_other, put_same}
use Rattle.bf_word.specs.Word.{low_byte, mid_byte, high_byte, word_in, with_word, carried_word, lifted_by, lowered_by, lowered_once, IsClear, IsCounter, AreDistinct, IsOutside}
use Rattle.bf_word.proofs.Words.{put_free, put_put, cells_of, with_word_is, outside_new, cell_kept, word_kept, word_set, set_again, set_same}

-- a word and a cell outside
pub put_word : (s : Tape) (w v c o : ℕ) → IsOutside c w → put (with_word s w v) c o ≡ with_word (put s c o) w v
put_word s w v c o out =
    ap (λ t. put t c o) (with_word_is s w v) ∙ (put_free s c o (cells_of w) (low_byte v ∷ mid_byte v ∷ high_byte v ∷ []) (outside_new c w out) ∙ sym (with_word_is (put s c o) w v))

-- two words
pub swap : (s : Tape) (u v a b : ℕ) → AreDistinct u v → with_word (with_word s u a) v b ≡ with_word (with_word s v b) u a
swap s u v a b distinct =
    let out : (i : ℕ) → i < 3 → IsOutside (v + i) u = λ i li. outside u v i li distinct in
    let first : IsOutside v u = outside_first u v distinct in
    ap (λ t. put (put t (v + 1) (mid_byte b)) (v + 2) (high_byte b)) (put_word s u a v (low_byte b) first)
    ∙ (ap (λ t. put t (v + 2) (high_byte b)) (put_word (put s v (low_byte b)) u a (v + 1) (mid_byte b) (out 1 (omega arith)))
    ∙ put_word (put (put s v (low_byte b)) (v + 1) (mid_byte b)) u a (v + 2) (high_byte b) (out 2 (omega arith)))
  where
    outside : (u v i : ℕ) → i < 3 → AreDistinct u v → IsOutside (v + i) u
    outside u v i li (inl h) = inr (omega arith)
    outside u v i li (inr h) = inl (omega arith)

    outside_first : (u v : ℕ) → AreDistinct u v → IsOutside v u
    outside_first u v (inl h) = inr (omega arith)
    outside_first u v (inr h) = inl (omega arith)

-- a word taken up into the counter
abbrev pub taken_up : Tape → ℕ → ℕ → Tape
taken_up s w a = with_word (with_word s 114 a) w 0

-- a comparison: the counter and the operand
abbrev pub operands : Tape → ℕ → ℕ → Tape
operands s a b = with_word (with_word s 114 a) 110 b

module _ (s : Tape) (clear : IsClear s) where
  pub clear_word_in : (w : ℕ) → 110 ≤ w → w < 172 → word_in s w ≡ 0
  clear_word_in w lo hi = λ i. clear w (omega arith) (omega arith) i + 256 * clear (w + 1) (omega arith) (omega arith) i + 65536 * clear (w + 2) (omega arith) (omega arith) i

  pub clear_set : (w : ℕ) → 110 ≤ w → w < 172 → with_word s w 0 ≡ s
  clear_set w lo hi = set_same s w 0 (clear w (omega arith) (omega arith)) (clear (w + 1) (omega arith) (omega arith)) (clear (w + 2) (omega arith) (omega arith))

  -- a word that was there for a while
  pub set_back : (w v : ℕ) → 110 ≤ w → w < 172 → with_word (with_word s w v) w 0 ≡ s
  set_back w v lo hi = set_again s w v 0 ∙ clear_set w lo hi

  module _ (w : ℕ) (lw : w < 108) where
    pub word_there : (y : ℕ) → word_in (with_word s 110 y) w ≡ word_in s w
    word_there y = word_kept s 110 y w (inr (omega arith))

    -- beside an operand, it is taken up, and the operand is used up
    pub taken_beside : (y : ℕ) → carried_word w 114 (with_word s 110 y) ≡ with_word (with_word (with_word s 110 y) 114 (word_in s w)) w 0
    taken_beside y = ap (λ a. with_word (with_word (with_word s 110 y) 114 a) w 0) (word_there y)

    pub used_up : (y a : ℕ) → with_word (with_word (with_word (with_word s 110 y) 114 a) w 0) 110 0 ≡ taken_up s w a
    used_up y a =
        swap (with_word (with_word s 110 y) 114 a) w 110 0 0 (inl (omega arith))
        ∙ ap (λ t. with_word t w 0) (swap (with_word s 110 y) 114 110 a 0 (inr (omega arith)) ∙ ap (λ t. with_word t 114 a) (set_back 110 y (omega arith) (omega arith)))

    pub renewed : (a v : ℕ) → with_word (taken_up s w a) 114 v ≡ taken_up s w v
    renewed a v = swap (with_word s 114 a) w 114 0 v (inl (omega arith)) ∙ ap (λ t. with_word t w 0) (set_again s 114 a v)

    pub operand_there : (y a : ℕ) → y < 2 ^ 24 → word_in (with_word (with_word (with_word s 110 y) 114 a) w 0) 110 ≡ y
    operand_there y a ly = word_kept (with_word (with_word s 110 y) 114 a) w 0 110 (inl (omega arith)) ∙ (word_kept (with_word s 110 y) 114 a 110 (inr (omega arith)) ∙ word_set s 110 y ly)

    pub counter_there : (t : Tape) (a : ℕ) → a < 2 ^ 24 → word_in (with_word (with_word t 114 a) w 0) 114 ≡ a
    counter_there t a la = word_kept (with_word t 114 a) w 0 114 (inl (omega arith)) ∙ word_set t 114 a la

    pub brought : (v : ℕ) → v < 2 ^ 24 → carried_word 114 w (taken_up s w v) ≡ with_word s w v
    brought v lv =
        ap (λ x. with_word (with_word (taken_up s w v) w x) 114 0) (counter_there s v lv)
        ∙ (ap (λ t. with_word t 114 0) (set_again (with_word s 114 v) w 0 v)
        ∙ (swap (with_word s 114 v) w 114 v 0 (inl (omega arith)) ∙ ap (λ t. with_word t w v) (set_back 114 v (omega arith) (omega arith))))

    pub lifted_there : (y a : ℕ) → y < 2 ^ 24 → a < 2 ^ 24 → lifted_by 114 110 (with_word (with_word (with_word s 110 y) 114 a) w 0) ≡ taken_up s w ((a + y) % 2 ^ 24)
    lifted_there y a ly la =
        (λ i. with_word (used_up y a i) 114 ((counter_there (with_word s 110 y) a la i + operand_there y a ly i) % 2 ^ 24)) ∙ renewed a ((a + y) % 2 ^ 24)

    pub lowered_there : (y a : ℕ) → y < 2 ^ 24 → a < 2 ^ 24
        → lowered_by 114 110 (with_word (with_word (with_word s 110 y) 114 a) w 0) ≡ put (taken_up s w ((a + (2 ^ 24 - y)) % 2 ^ 24)) 123 (cond (nat_lt a y) 1 0)
    lowered_there y a ly la =
        (λ i. put (with_word (used_up y a i) 114 ((counter_there (with_word s 110 y) a la i + (2 ^ 24 - operand_there y a ly i)) % 2 ^ 24)) 123 (cond (nat_lt (counter_there (with_word s 110 y) a la i) (operand_there y a ly i)) 1 0))
        ∙ ap (λ t. put t 123 (cond (nat_lt a y) 1 0)) (renewed a ((a + (2 ^ 24 - y)) % 2 ^ 24))

    pub once_there : (a : ℕ) → a < 2 ^ 24 → lowered_once 114 (taken_up s w a) ≡ put (taken_up s w ((a + (2 ^ 24 - 1)) % 2 ^ 24)) 123 (cond (nat_lt a 1) 1 0)
    once_there a la =
        (λ i. put (with_word (taken_up s w a) 114 ((counter_there s a la i + (2 ^ 24 - 1)) % 2 ^ 24)) 123 (cond (nat_lt (counter_there s a la i) 1) 1 0))
        ∙ ap (λ t. put t 123 (cond (nat_lt a 1) 1 0)) (renewed a ((a + (2 ^ 24 - 1)) % 2 ^ 24))

    -- a borrow that is forgotten
    pub forgotten : (v o : ℕ) → put (put (taken_up s w v) 123 o) 123 0 ≡ taken_up s w v
    forgotten v o = put_put (taken_up s w v) 123 o 0 ∙ put_same (taken_up s w v) 123 0 (cell_kept (with_word s 114 v) w 0 123 (inr (omega arith)) ∙ (cell_kept s 114 v 123 (inr (omega arith)) ∙ clear 123 (omega arith) (omega arith)))

    pub taken_counter : (t : Tape) (a : ℕ) → IsCounter 114 t → IsCounter 114 (with_word (with_word t 114 a) w 0)
    taken_counter t a zeros = λ c lo hi. cell_kept (with_word t 114 a) w 0 c (inr (omega arith)) ∙ (cell_kept t 114 a c (inr (omega arith)) ∙ zeros c lo hi)

  pub counter_clear : IsCounter 114 s
  counter_clear = λ c lo hi. clear c (omega arith) (omega arith)

  pub counter_beside : (y : ℕ) → IsCounter 114 (with_word s 110 y)
  counter_beside y = λ c lo hi. cell_kept s 110 y c (inr (omega arith)) ∙ clear c (omega arith) (omega arith)

  pub operands_counter : (a b : ℕ) → IsCounter 114 (operands s a b)
  operands_counter a b = λ c lo hi. cell_kept (with_word s 114 a) 110 b c (inr (omega arith)) ∙ (cell_kept s 114 a c (inr (omega arith)) ∙ clear c (omega arith) (omega arith))

  pub operands_lowered : (a b : ℕ) → a < 2 ^ 24 → b < 2 ^ 24 → lowered_by 114 110 (operands s a b) ≡ put (with_word s 114 ((a + (2 ^ 24 - b)) % 2 ^ 24)) 123 (cond (nat_lt a b) 1 0)
  operands_lowered a b la lb =
      let v : ℕ = (a + (2 ^ 24 - b)) % 2 ^ 24 in
      let x : word_in (operands s a b) 114 ≡ a = word_kept (with_word s 114 a) 110 b 114 (inl (omega arith)) ∙ word_set s 114 a la in
      let y : word_in (operands s a b) 110 ≡ b = word_set (with_word s 114 a) 110 b lb in
      let none : with_word (operands s a b) 110 0 ≡ with_word s 114 a =
      set_again (with_word s 114 a) 110 b 0 ∙ (swap s 114 110 a 0 (inr (omega arith)) ∙ ap (λ t. with_word t 114 a) (clear_set 110 (omega arith) (omega arith))) in
      (λ i. put (with_word (none i) 114 ((x i + (2 ^ 24 - y i)) % 2 ^ 24)) 123 (cond (nat_lt (x i) (y i)) 1 0)) ∙ ap (λ t. put t 123 (cond (nat_lt a b) 1 0)) (set_again s 114 a v)

  -- without the borrow, and one less
  pub judged : (v o : ℕ) → put (put (with_word s 114 v) 123 o) 123 0 ≡ with_word s 114 v
  judged v o = put_put (with_word s 114 v) 123 o 0 ∙ put_same (with_word s 114 v) 123 0 (cell_kept s 114 v 123 (inr (omega arith)) ∙ clear 123 (omega arith) (omega arith))

  pub judged_counter : (v : ℕ) → IsCounter 114 (with_word s 114 v)
  judged_counter v = λ c lo hi. cell_kept s 114 v c (inr (omega arith)) ∙ clear c (omega arith) (omega arith)

  pub judged_once : (v : ℕ) → v < 2 ^ 24 → lowered_once 114 (with_word s 114 v) ≡ put (with_word s 114 ((v + (2 ^ 24 - 1)) % 2 ^ 24)) 123 (cond (nat_lt v 1) 1 0)
  judged_once v lv =
      (λ i. put (with_word (with_word s 114 v) 114 ((word_set s 114 v lv i + (2 ^ 24 - 1)) % 2 ^ 24)) 123 (cond (nat_lt (word_set s 114 v lv i) 1) 1 0))
      ∙ ap (λ t. put t 123 (cond (nat_lt v 1) 1 0)) (set_again s 114 v ((v + (2 ^ 24 - 1)) % 2 ^ 24))

  -- the counter is cleared, and the answer moved to a flag
  pub answer_left : (v o : ℕ) → with_word (put (with_word s 114 v) 123 o) 114 0 ≡ put s 123 o
  answer_left v o =
      ap (λ t. with_word t 114 0) (put_word s 114 v 123 o (inr (omega arith)))
      ∙ (set_again (put s 123 o) 114 v 0 ∙ (sym (put_word s 114 0 123 o (inr (omega arith))) ∙ ap (λ t. put t 123 o) (clear_set 114 (omega arith) (omega arith))))

  pub answer_moved : (flag o : ℕ) → flag < 110 → o < 2 ^ 8 → moved (put (put s 123 o) flag 0) 123 flag ≡ put s flag o
  answer_moved flag o lf lo =
      let t : Tape = put (put s 123 o) flag 0 in
      let a : get t flag ≡ 0 = get_put (put s 123 o) flag 0 in
      let b : get t 123 ≡ o = get_other (put s 123 o) flag 123 0 (omega arith) ∙ get_put s 123 o in
      let sum : (get t flag + get t 123) % 2 ^ 8 ≡ o = omega (arith, a, b) in
      ap (λ x. put (put t flag x) 123 0) sum
      ∙ (ap (λ u. put u 123 0) (put_put (put s 123 o) flag 0 o)
      ∙ (puts (put s 123 o) flag 123 o 0 (omega arith)
      ∙ ap (λ u. put u flag o) (put_put s 123 o 0 ∙ put_same s 123 0 (clear 123 (omega arith) (omega arith)))))
    where
      -- puts of different cells
      puts : (s : Tape) (c d u v : ℕ) → c ≢ d → put (put s c u) d v ≡ put (put s d v) c u
      puts s c d u v differ = put_free s d v (c ∷ []) (u ∷ []) ((λ e. differ (sym e)), tt)

-- two numbers are one where their difference is 0
pub same_where : (a b : ℕ) → a < 2 ^ 24 → b < 2 ^ 24 → nat_lt ((a + (2 ^ 24 - b)) % 2 ^ 24) 1 ≡ nat_eq a b
same_where a b la lb =
    elim (nat_eq a b) as (λ q. nat_eq a b ≡ q → nat_lt ((a + (2 ^ 24 - b)) % 2 ^ 24) 1 ≡ q) [
      | true ↦ λ q. let e : a ≡ b = eqb-true a b q in lt-ltb ((a + (2 ^ 24 - b)) % 2 ^ 24) 1 (omega arith)
      | false ↦ λ q. let e : a ≢ b = eqb-false a b q in le-ltb ((a + (2 ^ 24 - b)) % 2 ^ 24) 1 (omega arith)
    ] refl
