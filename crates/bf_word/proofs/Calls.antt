-- What the calls of this crate add, from what their parts add.
use Rattle.std.proofs.Common.{◌≡◌, ◌≢◌, ℕ, ◌+◌, ◌-◌, ◌*◌, ◌/◌, ◌%◌, ◌^◌, ◌<◌, ◌≤◌, inl, inr, Bool, true, false, nat_eq, nat_lt, cond, List, [], ◌∷◌, ◌++◌, length, refl, ap, subst, ◌∙◌, arith, length-append}
use Rattle.std.proofs.lemmas.Bool.{leb-true}
use Rattle.bf_lang.specs.declared.command.Command.{Command}
use Rattle.bf_lang.specs.declared.command.Command.TheVariants.{Minus, Close}
use Rattle.bf_tape.specs.Does.{loop}
use Rattle.bf_lang.specs.Balance.{IsBalanced}
use Rattle.bf_lang.proofs.Partners.{balanced_append}
use Rattle.bf_tape.specs.Tape.{Tape, get, put}
use Rattle.bf_tape.specs.Code.{goto_code}
use Rattle.bf_tape.specs.Piece.{Piece, joined, Adds, any, moved, drained, doubled}
use Rattle.bf_tape.proofs.Added.{adds_of, length-many}
use Rattle.bf_tape.proofs.Pieces.{by_bytes, balanced_goto}
use Rattle.bf_tape.proofs.Turning.{get_put, get_other}
use Rattle.bf_word.specs.Word.{word_in, with_word, carried_word, lifted_by, lifted_once, lowered_by, lowered_once, compared, IsClear, IsCounter, IsApart, AreDistinct, IsOutside}
use Rattle.bf_word.specs.Steps.{lower_0, lower_1, lower_2, lift_0, lift_1, lift_2, repeat_code, count_code}
use Rattle.bf_word.proofs.Words.{put_put, cell_kept, word_kept, word_set, set_again, bytes_of}
use Rattle.bf_word.proofs.Count.{lowered_word, lifted_word, lowered_one, lifted_one, balanced_count}
use Rattle.bf_word.proofs.Carried.{doubled_word, moved_word, drained_word}
use Rattle.bf_word.proofs.Chain.{adds_then, adds_as}
use Rattle.bf_word.proofs.Scratch.{swap, clear_word_in, set_back, taken_up, taken_beside, counter_there, brought, lifted_there, lowered_there, once_there, forgotten, taken_counter, counter_clear, counter_beside, operands, operands_counter, operands_lowered, judged, judged_counter, judged_once, answer_left, answer_moved, same_where}

-- counters
length_goto : (h c : ℕ) → h < 256 → c < 256 → length (goto_code h c) ≤ 255
length_goto h c lh lc = simp (length-append, length-many) (omega arith)

length_repeat : (h c k : ℕ) (step : List Command) → h < 256 → c < 256 → k < 256 → length step ≤ 200 → length (repeat_code h c k step) ≤ 1024
length_repeat h c k step lh lc lk ls =
    let a : length (goto_code h c) ≤ 255 = length_goto h c lh lc in
    let b : length (goto_code c k) ≤ 255 = length_goto c k lc lk in
    let d : length (goto_code k c) ≤ 255 = length_goto k c lk lc in
    let inner : length ((goto_code c k ++ step) ++ goto_code k c) ≤ 710 = omega (arith, b, d, ls, length-append (goto_code c k ++ step) (goto_code k c), length-append (goto_code c k) step) in
    omega (arith, a, inner, length-append (goto_code h c) (loop (Minus ∷ ((goto_code c k ++ step) ++ goto_code k c))), length-append ((goto_code c k ++ step) ++ goto_code k c) (Close ∷ []))

length_count : (h w g : ℕ) (low mid high : List Command) → h < 256 → w < 247 → g < 254 → length low ≤ 200 → length mid ≤ 200 → length high ≤ 200 → length (count_code h w g low mid high) ≤ 2 ^ 12
length_count h w g low mid high lh lw lg ll lm lt =
    let a : length (repeat_code h g w low) ≤ 1024 = length_repeat h g w low lh (omega arith) (omega arith) ll in
    let b : length (repeat_code g (g + 1) (w + 1) mid) ≤ 1024 = length_repeat g (g + 1) (w + 1) mid (omega arith) (omega arith) (omega arith) lm in
    let c : length (repeat_code (g + 1) (g + 2) (w + 2) high) ≤ 1024 = length_repeat (g + 1) (g + 2) (w + 2) high (omega arith) (omega arith) (omega arith) lt in
    omega (arith, a, b, c, length-append (repeat_code h g w low ++ repeat_code g (g + 1) (w + 1) mid) (repeat_code (g + 1) (g + 2) (w + 2) high), length-append (repeat_code h g w low) (repeat_code g (g + 1) (w + 1) mid))

pub lift_adds : (p : Piece) (w g : ℕ) → p.cell < 256 → w < 247 → g < 254 → IsApart g w → Adds p (joined p (count_code p.cell w g lift_0 lift_1 lift_2) (g + 2)) (IsCounter w) (λ input s. lifted_by w g s) (2 ^ 20) (2 ^ 12)
lift_adds p w g lh lw lg apart =
    let b : IsBalanced (count_code p.cell w g lift_0 lift_1 lift_2) = balanced_count p.cell w g lift_0 lift_1 lift_2 refl refl refl in
    adds_of p (count_code p.cell w g lift_0 lift_1 lift_2) (g + 2) (IsCounter w) (λ input s. lifted_by w g s) (2 ^ 20) (2 ^ 12)
    (length_count p.cell w g lift_0 lift_1 lift_2 lh lw lg (leb-true (length lift_0) 200 refl) (leb-true (length lift_1) 200 refl) (leb-true (length lift_2) 200 refl)) b
    (λ input s is kind. by_bytes b (λ bytes. lifted_word input p.cell w g s lh lw lg apart kind bytes))

pub lower_adds : (p : Piece) (w g : ℕ) → p.cell < 256 → w < 247 → g < 254 → IsApart g w → Adds p (joined p (count_code p.cell w g lower_0 lower_1 lower_2) (g + 2)) (IsCounter w) (λ input s. lowered_by w g s) (2 ^ 20) (2 ^ 12)
lower_adds p w g lh lw lg apart =
    let b : IsBalanced (count_code p.cell w g lower_0 lower_1 lower_2) = balanced_count p.cell w g lower_0 lower_1 lower_2 refl refl refl in
    adds_of p (count_code p.cell w g lower_0 lower_1 lower_2) (g + 2) (IsCounter w) (λ input s. lowered_by w g s) (2 ^ 20) (2 ^ 12)
    (length_count p.cell w g lower_0 lower_1 lower_2 lh lw lg (leb-true (length lower_0) 200 refl) (leb-true (length lower_1) 200 refl) (leb-true (length lower_2) 200 refl)) b
    (λ input s is kind. by_bytes b (λ bytes. lowered_word input p.cell w g s lh lw lg apart kind bytes))

length_once : (h w : ℕ) → h < 256 → w < 247 → length (goto_code h w ++ lower_0) ≤ 512
length_once h w lh lw = let l : length lower_0 ≤ 200 = leb-true (length lower_0) 200 refl in omega (arith, l, length_goto h w lh (omega arith), length-append (goto_code h w) lower_0)

pub once_adds : (p : Piece) (w : ℕ) → p.cell < 256 → w < 247 → Adds p (joined p (goto_code p.cell w ++ lower_0) w) (IsCounter w) (λ input s. lowered_once w s) 512 512
once_adds p w lh lw =
    let b : IsBalanced (goto_code p.cell w ++ lower_0) = balanced_append (goto_code p.cell w) lower_0 (balanced_goto p.cell w) refl in
    adds_of p (goto_code p.cell w ++ lower_0) w (IsCounter w) (λ input s. lowered_once w s) 512 512 (length_once p.cell w lh lw) b
    (λ input s is kind. by_bytes b (λ bytes. lowered_one input p.cell w s lh lw kind bytes))

length_raise : (h w : ℕ) → h < 256 → w < 247 → length (goto_code h w ++ lift_0) ≤ 512
length_raise h w lh lw = let l : length lift_0 ≤ 200 = leb-true (length lift_0) 200 refl in omega (arith, l, length_goto h w lh (omega arith), length-append (goto_code h w) lift_0)

pub raise_adds : (p : Piece) (w : ℕ) → p.cell < 256 → w < 247 → Adds p (joined p (goto_code p.cell w ++ lift_0) w) (IsCounter w) (λ input s. lifted_once w s) 512 512
raise_adds p w lh lw =
    let b : IsBalanced (goto_code p.cell w ++ lift_0) = balanced_append (goto_code p.cell w) lift_0 (balanced_goto p.cell w) refl in
    adds_of p (goto_code p.cell w ++ lift_0) w (IsCounter w) (λ input s. lifted_once w s) 512 512 (length_raise p.cell w lh lw) b
    (λ input s is kind. by_bytes b (λ bytes. lifted_one input p.cell w s lh lw kind bytes))

-- words, byte by byte
module _ (from to : ℕ) (distinct : AreDistinct from to) where
  pub dup_adds : {p q r t : Piece} → (spare : ℕ) → IsOutside spare to
      → Adds p q (λ s. get s spare ≡ 0) (λ input s. doubled s from to) (2 ^ 20) 2048 → Adds q r (λ s. get s spare ≡ 0) (λ input s. doubled s (from + 1) (to + 1)) (2 ^ 20) 2048
      → Adds r t (λ s. get s spare ≡ 0) (λ input s. doubled s (from + 2) (to + 2)) (2 ^ 20) 2048
      → Adds p t (λ s. (word_in s to ≡ 0) × (get s spare ≡ 0)) (λ input s. with_word s to (word_in s from)) (3 * 2 ^ 20) (3 * 2 ^ 11)
  dup_adds spare out a b c =
      let K : Tape → Type 0 = λ s. (word_in s to ≡ 0) × (get s spare ≡ 0) in
      let first : (s : Tape) → K s → get (doubled s from to) spare ≡ 0 = λ s k. get_other s to spare ((get s to + get s from) % 2 ^ 8) (differ0 spare out) ∙ k.1 in
      adds_as (λ input s. with_word s to (word_in s from)) (3 * 2 ^ 20) (3 * 2 ^ 11)
      (adds_then K (adds_then K a b (λ input s bytes k. (k.1, first s k))) c
      (λ input s bytes k. (k, get_other (doubled s from to) (to + 1) spare ((get (doubled s from to) (to + 1) + get (doubled s from to) (from + 1)) % 2 ^ 8) (differ1 spare out) ∙ first s k)))
      (λ input s bytes k. (k, doubled_word s from to distinct bytes k.0)) (omega arith) (omega arith)
    where
      differ0 : (spare : ℕ) → IsOutside spare to → to ≢ spare
      differ0 spare (inl h) = omega arith
      differ0 spare (inr h) = omega arith

      differ1 : (spare : ℕ) → IsOutside spare to → to + 1 ≢ spare
      differ1 spare (inl h) = omega arith
      differ1 spare (inr h) = omega arith

  pub move_adds : {p q r t : Piece} → Adds p q any (λ input s. moved s from to) (2 ^ 18) 1024 → Adds q r any (λ input s. moved s (from + 1) (to + 1)) (2 ^ 18) 1024 → Adds r t any (λ input s. moved s (from + 2) (to + 2)) (2 ^ 18) 1024
      → Adds p t (λ s. word_in s to ≡ 0) (λ input s. carried_word from to s) (3 * 2 ^ 18) (3 * 2 ^ 10)
  move_adds a b c =
      let K : Tape → Type 0 = λ s. word_in s to ≡ 0 in
      adds_as (λ input s. carried_word from to s) (3 * 2 ^ 18) (3 * 2 ^ 10) (adds_then K (adds_then K a b (λ input s bytes k. (tt, tt))) c (λ input s bytes k. (k, tt)))
      (λ input s bytes k. (k, moved_word s from to distinct bytes k)) (omega arith) (omega arith)

  pub drain_adds : {p q r t : Piece} → Adds p q any (λ input s. drained s from to) (2 ^ 18) 1024 → Adds q r any (λ input s. drained s (from + 1) (to + 1)) (2 ^ 18) 1024 → Adds r t any (λ input s. drained s (from + 2) (to + 2)) (2 ^ 18) 1024
      → Adds p t (λ s. word_in s to ≡ 2 ^ 24 - 1) (λ input s. with_word (with_word s to (2 ^ 24 - 1 - word_in s from)) from 0) (3 * 2 ^ 18) (3 * 2 ^ 10)
  drain_adds a b c =
      let K : Tape → Type 0 = λ s. word_in s to ≡ 2 ^ 24 - 1 in
      adds_as (λ input s. with_word (with_word s to (2 ^ 24 - 1 - word_in s from)) from 0) (3 * 2 ^ 18) (3 * 2 ^ 10) (adds_then K (adds_then K a b (λ input s bytes k. (tt, tt))) c (λ input s bytes k. (k, tt)))
      (λ input s bytes k. (k, drained_word s from to distinct bytes k)) (omega arith) (omega arith)

pub clear_adds : {p q r t : Piece} (w : ℕ) → Adds p q any (λ input s. put s w 0) 1024 258 → Adds q r any (λ input s. put s (w + 1) 0) 1024 258 → Adds r t any (λ input s. put s (w + 2) 0) 1024 258
    → Adds p t any (λ input s. with_word s w 0) (3 * 2 ^ 10) (3 * 2 ^ 9)
clear_adds w a b c =
    adds_as (λ input s. with_word s w 0) (3 * 2 ^ 10) (3 * 2 ^ 9) (adds_then any (adds_then any a b (λ input s bytes k. (tt, tt))) c (λ input s bytes k. (tt, tt))) (λ input s bytes k. (tt, refl)) (omega arith) (omega arith)

-- a byte cleared and raised
set_byte : {p q r : Piece} (c v : ℕ) → v < 2 ^ 8 → Adds p q any (λ input s. put s c 0) 1024 258 → Adds q r any (λ input s. put s c ((get s c + v) % 2 ^ 8)) 512 512 → Adds p r any (λ input s. put s c v) 1536 770
set_byte c v lv a b =
    adds_as (λ input s. put s c v) 1536 770 (adds_then any a b (λ input s bytes k. (tt, tt)))
    (λ input s bytes k. (tt, (ap (λ x. put (put s c 0) c ((x + v) % 2 ^ 8)) (get_put s c 0) ∙ (ap (λ x. put (put s c 0) c x) (let e : (0 + v) % 2 ^ 8 ≡ v = omega arith in e) ∙ put_put s c 0 v)))) (omega arith) (omega arith)

pub set_adds : {p q r t u v z : Piece} (w n k : ℕ) → n ≡ k
    → Adds p q any (λ input s. put s w 0) 1024 258 → Adds q r any (λ input s. put s w ((get s w + n % 256) % 2 ^ 8)) 512 512
    → Adds r t any (λ input s. put s (w + 1) 0) 1024 258 → Adds t u any (λ input s. put s (w + 1) ((get s (w + 1) + n / 256 % 256) % 2 ^ 8)) 512 512
    → Adds u v any (λ input s. put s (w + 2) 0) 1024 258 → Adds v z any (λ input s. put s (w + 2) ((get s (w + 2) + n / 65536 % 256) % 2 ^ 8)) 512 512
    → Adds p z any (λ input s. with_word s w k) (2 ^ 13) (2 ^ 12)
set_adds w n k e a1 a2 a3 a4 a5 a6 =
    let x = set_byte w (n % 256) (omega arith) a1 a2 in
    let y = set_byte (w + 1) (n / 256 % 256) (omega arith) a3 a4 in
    let z = set_byte (w + 2) (n / 65536 % 256) (omega arith) a5 a6 in
    adds_as (λ input s. with_word s w k) (2 ^ 13) (2 ^ 12) (adds_then any (adds_then any x y (λ input s bytes k. (tt, tt))) z (λ input s bytes k. (tt, tt)))
    (λ input s bytes any. (tt, ap (λ x. with_word s w x) e)) (omega arith) (omega arith)

-- a sum and a difference
module _ (to from : ℕ) (lt : to < 108) (lf : from < 108) where
  -- the operand is there, and the word above it in the counter
  abbrev beside : List ℕ → Tape → Tape
  beside input s = with_word (with_word (with_word s 110 (word_in s from)) 114 (word_in s to)) to 0

  brought_up : {p0 p1 p2 : Piece} → Adds p0 p1 (λ s. (word_in s 110 ≡ 0) × (get s 113 ≡ 0)) (λ input s. with_word s 110 (word_in s from)) (3 * 2 ^ 20) (3 * 2 ^ 11)
      → Adds p1 p2 (λ s. word_in s 114 ≡ 0) (λ input s. carried_word to 114 s) (3 * 2 ^ 18) (3 * 2 ^ 10) → Adds p0 p2 IsClear beside (3 * 2 ^ 20 + 3 * 2 ^ 18) (3 * 2 ^ 11 + 3 * 2 ^ 10)
  brought_up a b =
      adds_as beside (3 * 2 ^ 20 + 3 * 2 ^ 18) (3 * 2 ^ 11 + 3 * 2 ^ 10)
      (adds_then IsClear a b (λ input s bytes clear. (
        (clear_word_in s clear 110 (omega arith) (omega arith), clear 113 (omega arith) (omega arith)),
        word_kept s 110 (word_in s from) 114 (inl (omega arith)) ∙ clear_word_in s clear 114 (omega arith) (omega arith),
      )))
      (λ input s bytes clear. (clear, taken_beside s clear to lt (word_in s from))) (omega arith) (omega arith)

  beside_counter : (input : List ℕ) (s : Tape) → IsClear s → IsCounter 114 (beside input s)
  beside_counter input s clear = taken_counter s clear to lt (with_word s 110 (word_in s from)) (word_in s to) (counter_beside s clear (word_in s from))

  pub add_adds : {p0 p1 p2 p3 p4 : Piece} → Adds p0 p1 (λ s. (word_in s 110 ≡ 0) × (get s 113 ≡ 0)) (λ input s. with_word s 110 (word_in s from)) (3 * 2 ^ 20) (3 * 2 ^ 11)
      → Adds p1 p2 (λ s. word_in s 114 ≡ 0) (λ input s. carried_word to 114 s) (3 * 2 ^ 18) (3 * 2 ^ 10)
      → Adds p2 p3 (IsCounter 114) (λ input s. lifted_by 114 110 s) (2 ^ 20) (2 ^ 12)
      → Adds p3 p4 (λ s. word_in s to ≡ 0) (λ input s. carried_word 114 to s) (3 * 2 ^ 18) (3 * 2 ^ 10)
      → Adds p0 p4 IsClear (λ input s. with_word s to ((word_in s to + word_in s from) % 2 ^ 24)) (2 ^ 23) (2 ^ 14)
  add_adds a b c d =
      let sum : Tape → ℕ = λ s. (word_in s to + word_in s from) % 2 ^ 24 in
      let up = adds_as (λ input s. taken_up s to (sum s)) (2 ^ 22 + 3 * 2 ^ 18) (3 * 2 ^ 11 + 3 * 2 ^ 10 + 2 ^ 12)
      (adds_then IsClear (brought_up a b) c (λ input s bytes clear. (clear, beside_counter input s clear)))
      (λ input s bytes clear. (clear, lifted_there s clear to lt (word_in s from) (word_in s to) (bytes_of s from bytes).below (bytes_of s to bytes).below)) (omega arith) (omega arith) in
      adds_as (λ input s. with_word s to (sum s)) (2 ^ 23) (2 ^ 14)
      (adds_then IsClear up d (λ input s bytes clear. (clear, word_set (with_word s 114 (sum s)) to 0 (omega arith))))
      (λ input s bytes clear. (clear, brought s clear to lt (sum s) (omega arith))) (omega arith) (omega arith)

  pub sub_adds : {p0 p1 p2 p3 p4 p5 : Piece} → Adds p0 p1 (λ s. (word_in s 110 ≡ 0) × (get s 113 ≡ 0)) (λ input s. with_word s 110 (word_in s from)) (3 * 2 ^ 20) (3 * 2 ^ 11)
      → Adds p1 p2 (λ s. word_in s 114 ≡ 0) (λ input s. carried_word to 114 s) (3 * 2 ^ 18) (3 * 2 ^ 10)
      → Adds p2 p3 (IsCounter 114) (λ input s. lowered_by 114 110 s) (2 ^ 20) (2 ^ 12)
      → Adds p3 p4 any (λ input s. put s 123 0) 1024 258
      → Adds p4 p5 (λ s. word_in s to ≡ 0) (λ input s. carried_word 114 to s) (3 * 2 ^ 18) (3 * 2 ^ 10)
      → Adds p0 p5 IsClear (λ input s. with_word s to ((word_in s to + (2 ^ 24 - word_in s from)) % 2 ^ 24)) (2 ^ 23) (2 ^ 15)
  sub_adds a b c d e =
      let rest : Tape → ℕ = λ s. (word_in s to + (2 ^ 24 - word_in s from)) % 2 ^ 24 in
      let down = adds_as (λ input s. put (taken_up s to (rest s)) 123 (cond (nat_lt (word_in s to) (word_in s from)) 1 0)) (2 ^ 22 + 3 * 2 ^ 18) (3 * 2 ^ 11 + 3 * 2 ^ 10 + 2 ^ 12)
      (adds_then IsClear (brought_up a b) c (λ input s bytes clear. (clear, beside_counter input s clear)))
      (λ input s bytes clear. (clear, lowered_there s clear to lt (word_in s from) (word_in s to) (bytes_of s from bytes).below (bytes_of s to bytes).below)) (omega arith) (omega arith) in
      let up = adds_as (λ input s. taken_up s to (rest s)) (2 ^ 22 + 2 ^ 20) (2 ^ 14) (adds_then IsClear down d (λ input s bytes clear. (clear, tt)))
      (λ input s bytes clear. (clear, forgotten s clear to lt (rest s) (cond (nat_lt (word_in s to) (word_in s from)) 1 0))) (omega arith) (omega arith) in
      adds_as (λ input s. with_word s to (rest s)) (2 ^ 23) (2 ^ 15)
      (adds_then IsClear up e (λ input s bytes clear. (clear, word_set (with_word s 114 (rest s)) to 0 (omega arith))))
      (λ input s bytes clear. (clear, brought s clear to lt (rest s) (omega arith))) (omega arith) (omega arith)

-- comparisons
module _ (x y flag : ℕ) (lx : x < 108) (ly : y < 108) (lf : flag < 110) where
  abbrev difference : Tape → ℕ
  difference s = (word_in s x + (2 ^ 24 - word_in s y)) % 2 ^ 24

  abbrev is_less : Tape → ℕ
  is_less s = cond (nat_lt (word_in s x) (word_in s y)) 1 0

  pub subtract_adds : {p0 p1 p2 p3 : Piece} → Adds p0 p1 (λ s. (word_in s 114 ≡ 0) × (get s 113 ≡ 0)) (λ input s. with_word s 114 (word_in s x)) (3 * 2 ^ 20) (3 * 2 ^ 11)
      → Adds p1 p2 (λ s. (word_in s 110 ≡ 0) × (get s 113 ≡ 0)) (λ input s. with_word s 110 (word_in s y)) (3 * 2 ^ 20) (3 * 2 ^ 11)
      → Adds p2 p3 (IsCounter 114) (λ input s. lowered_by 114 110 s) (2 ^ 20) (2 ^ 12)
      → Adds p0 p3 IsClear (λ input s. compared s x y) (7 * 2 ^ 20) (2 ^ 14)
  subtract_adds a b c =
      let both = adds_as (λ input s. operands s (word_in s x) (word_in s y)) (6 * 2 ^ 20) (3 * 2 ^ 12)
      (adds_then IsClear a b (λ input s bytes clear. (
        (clear_word_in s clear 114 (omega arith) (omega arith), clear 113 (omega arith) (omega arith)),
        (word_kept s 114 (word_in s x) 110 (inr (omega arith)) ∙ clear_word_in s clear 110 (omega arith) (omega arith), cell_kept s 114 (word_in s x) 113 (inl (omega arith)) ∙ clear 113 (omega arith) (omega arith)),
      )))
      (λ input s bytes clear. (clear, ap (λ v. with_word (with_word s 114 (word_in s x)) 110 v) (word_kept s 114 (word_in s x) y (inr (omega arith))))) (omega arith) (omega arith) in
      adds_as (λ input s. put (with_word s 114 (difference s)) 123 (is_less s)) (7 * 2 ^ 20) (2 ^ 14)
      (adds_then IsClear both c (λ input s bytes clear. (clear, operands_counter s clear (word_in s x) (word_in s y))))
      (λ input s bytes clear. (clear, operands_lowered s clear (word_in s x) (word_in s y) (bytes_of s x bytes).below (bytes_of s y bytes).below)) (omega arith) (omega arith)

  -- the counter cleared, and the answer moved
  answer_adds : {p0 q r t u : Piece} (m l : ℕ) (v o : Tape → ℕ) → ((s : Tape) → o s < 2 ^ 8) → Adds p0 q IsClear (λ input s. put (with_word s 114 (v s)) 123 (o s)) m l
      → Adds q r any (λ input s. with_word s 114 0) (3 * 2 ^ 10) (3 * 2 ^ 9)
      → Adds r t any (λ input s. put s flag 0) 1024 258
      → Adds t u any (λ input s. moved s 123 flag) (2 ^ 18) 1024
      → Adds p0 u IsClear (λ input s. put s flag (o s)) (m + 2 ^ 19) (l + 2 ^ 12)
  answer_adds m l v o lo a b c d =
      let cleared = adds_as (λ input s. put s 123 (o s)) (m + 3 * 2 ^ 10) (l + 3 * 2 ^ 9) (adds_then IsClear a b (λ input s bytes clear. (clear, tt))) (λ input s bytes clear. (clear, answer_left s clear (v s) (o s))) (omega arith) (omega arith) in
      let ready = adds_then IsClear cleared c (λ input s bytes clear. (clear, tt)) in
      adds_as (λ input s. put s flag (o s)) (m + 2 ^ 19) (l + 2 ^ 12) (adds_then IsClear ready d (λ input s bytes clear. (clear, tt))) (λ input s bytes clear. (clear, answer_moved s clear flag (o s) lf (lo s))) (omega arith) (omega arith)

  bit_byte : (b : Bool) → cond b 1 0 < 2 ^ 8
  bit_byte b = elim b as (λ b. cond b 1 0 < 2 ^ 8) [ true ↦ omega arith | false ↦ omega arith ]

  pub less_adds : {p0 p3 p4 p5 p6 : Piece} → Adds p0 p3 IsClear (λ input s. compared s x y) (7 * 2 ^ 20) (2 ^ 14)
      → Adds p3 p4 any (λ input s. with_word s 114 0) (3 * 2 ^ 10) (3 * 2 ^ 9)
      → Adds p4 p5 any (λ input s. put s flag 0) 1024 258
      → Adds p5 p6 any (λ input s. moved s 123 flag) (2 ^ 18) 1024
      → Adds p0 p6 IsClear (λ input s. put s flag (cond (nat_lt (word_in s x) (word_in s y)) 1 0)) (2 ^ 23) (2 ^ 15)
  less_adds a d e f =
      adds_as (λ input s. put s flag (is_less s)) (2 ^ 23) (2 ^ 15) (answer_adds (7 * 2 ^ 20) (2 ^ 14) difference is_less (λ s. bit_byte (nat_lt (word_in s x) (word_in s y))) a d e f)
      (λ input s bytes clear. (clear, refl)) (omega arith) (omega arith)

  pub equal_adds : {p0 p3 p4 p5 p6 p7 p8 : Piece} → Adds p0 p3 IsClear (λ input s. compared s x y) (7 * 2 ^ 20) (2 ^ 14)
      → Adds p3 p4 any (λ input s. put s 123 0) 1024 258
      → Adds p4 p5 (IsCounter 114) (λ input s. lowered_once 114 s) 512 512
      → Adds p5 p6 any (λ input s. with_word s 114 0) (3 * 2 ^ 10) (3 * 2 ^ 9)
      → Adds p6 p7 any (λ input s. put s flag 0) 1024 258
      → Adds p7 p8 any (λ input s. moved s 123 flag) (2 ^ 18) 1024
      → Adds p0 p8 IsClear (λ input s. put s flag (cond (nat_eq (word_in s x) (word_in s y)) 1 0)) (2 ^ 23) (2 ^ 15)
  equal_adds a d e f g h =
      let none : Tape → ℕ = λ s. cond (nat_lt (difference s) 1) 1 0 in
      let less_one : Tape → ℕ = λ s. (difference s + (2 ^ 24 - 1)) % 2 ^ 24 in
      let left = adds_as (λ input s. with_word s 114 (difference s)) (7 * 2 ^ 20 + 1024) (2 ^ 14 + 258) (adds_then IsClear a d (λ input s bytes clear. (clear, tt)))
      (λ input s bytes clear. (clear, judged s clear (difference s) (is_less s))) (omega arith) (omega arith) in
      let told = adds_as (λ input s. put (with_word s 114 (less_one s)) 123 (none s)) (7 * 2 ^ 20 + 2048) (2 ^ 14 + 1024) (adds_then IsClear left e (λ input s bytes clear. (clear, judged_counter s clear (difference s))))
      (λ input s bytes clear. (clear, judged_once s clear (difference s) (omega arith))) (omega arith) (omega arith) in
      adds_as (λ input s. put s flag (cond (nat_eq (word_in s x) (word_in s y)) 1 0)) (2 ^ 23) (2 ^ 15) (answer_adds (7 * 2 ^ 20 + 2048) (2 ^ 14 + 1024) less_one none (λ s. bit_byte (nat_lt (difference s) 1)) told f g h)
      (λ input s bytes clear. (clear, ap (λ t. put s flag (cond t 1 0)) (same_where (word_in s x) (word_in s y) (bytes_of s x bytes).below (bytes_of s y bytes).below))) (omega arith) (omega arith)

-- a word alone
module _ (w : ℕ) (lw : w < 108) where
  flipped : (s : Tape) → IsClear s → word_in s w < 2 ^ 24 → let t = with_word (taken_up s w (word_in s w)) w (2 ^ 24 - 1) in with_word (with_word t w (2 ^ 24 - 1 - word_in t 114)) 114 0 ≡ with_word s w (2 ^ 24 - 1 - word_in s w)
  flipped s clear la =
      let a : ℕ = word_in s w in
      let full : ℕ = 2 ^ 24 - 1 in
      let t : Tape = with_word (taken_up s w a) w full in
      let k : ℕ = full - a in
      let there : word_in t 114 ≡ a = word_kept (taken_up s w a) w full 114 (inl (omega arith)) ∙ counter_there s clear w lw s a la in
      ap (λ v. with_word (with_word t w (full - v)) 114 0) there
      ∙ (ap (λ u. with_word u 114 0) (set_again (taken_up s w a) w full k ∙ set_again (with_word s 114 a) w 0 k)
      ∙ (swap (with_word s 114 a) w 114 k 0 (inl (omega arith)) ∙ ap (λ u. with_word u w k) (set_back s clear 114 a (omega arith) (omega arith))))

  pub flip_adds : {p0 p1 p2 p3 : Piece} (n : ℕ) → n ≡ 2 ^ 24 - 1 → Adds p0 p1 (λ s. word_in s 114 ≡ 0) (λ input s. carried_word w 114 s) (3 * 2 ^ 18) (3 * 2 ^ 10)
      → Adds p1 p2 any (λ input s. with_word s w n) (2 ^ 13) (2 ^ 12)
      → Adds p2 p3 (λ s. word_in s w ≡ 2 ^ 24 - 1) (λ input s. with_word (with_word s w (2 ^ 24 - 1 - word_in s 114)) 114 0) (3 * 2 ^ 18) (3 * 2 ^ 10)
      → Adds p0 p3 IsClear (λ input s. with_word s w (2 ^ 24 - 1 - word_in s w)) (2 ^ 21) (2 ^ 14)
  flip_adds {p1 = p1} {p2 = p2} n e a b' c =
      let b : Adds p1 p2 any (λ input s. with_word s w (2 ^ 24 - 1)) (2 ^ 13) (2 ^ 12) = subst (λ x. Adds p1 p2 any (λ input s. with_word s w x) (2 ^ 13) (2 ^ 12)) e b' in
      let full = adds_then IsClear a b (λ input s bytes clear. (clear_word_in s clear 114 (omega arith) (omega arith), tt)) in
      adds_as (λ input s. with_word s w (2 ^ 24 - 1 - word_in s w)) (2 ^ 21) (2 ^ 14) (adds_then IsClear full c (λ input s bytes clear. (clear, word_set (taken_up s w (word_in s w)) w (2 ^ 24 - 1) (omega arith))))
      (λ input s bytes clear. (clear, flipped s clear (bytes_of s w bytes).below)) (omega arith) (omega arith)

  pub dec_adds : {p0 p1 p2 p3 p4 : Piece} → Adds p0 p1 (λ s. word_in s 114 ≡ 0) (λ input s. carried_word w 114 s) (3 * 2 ^ 18) (3 * 2 ^ 10)
      → Adds p1 p2 (IsCounter 114) (λ input s. lowered_once 114 s) 512 512
      → Adds p2 p3 any (λ input s. put s 123 0) 1024 258
      → Adds p3 p4 (λ s. word_in s w ≡ 0) (λ input s. carried_word 114 w s) (3 * 2 ^ 18) (3 * 2 ^ 10)
      → Adds p0 p4 IsClear (λ input s. with_word s w ((word_in s w + (2 ^ 24 - 1)) % 2 ^ 24)) (2 ^ 21) (2 ^ 14)
  dec_adds a b c d =
      let less_one : Tape → ℕ = λ s. (word_in s w + (2 ^ 24 - 1)) % 2 ^ 24 in
      let down = adds_as (λ input s. put (taken_up s w (less_one s)) 123 (cond (nat_lt (word_in s w) 1) 1 0)) (3 * 2 ^ 18 + 512) (3 * 2 ^ 10 + 512)
      (adds_then IsClear a b (λ input s bytes clear. (clear_word_in s clear 114 (omega arith) (omega arith), taken_counter s clear w lw s (word_in s w) (counter_clear s clear))))
      (λ input s bytes clear. (clear, once_there s clear w lw (word_in s w) (bytes_of s w bytes).below)) (omega arith) (omega arith) in
      let up = adds_as (λ input s. taken_up s w (less_one s)) (2 ^ 20) (2 ^ 12) (adds_then IsClear down c (λ input s bytes clear. (clear, tt)))
      (λ input s bytes clear. (clear, forgotten s clear w lw (less_one s) (cond (nat_lt (word_in s w) 1) 1 0))) (omega arith) (omega arith) in
      adds_as (λ input s. with_word s w (less_one s)) (2 ^ 21) (2 ^ 14) (adds_then IsClear up d (λ input s bytes clear. (clear, word_set (with_word s 114 (less_one s)) w 0 (omega arith))))
      (λ input s bytes clear. (clear, brought s clear w lw (less_one s) (omega arith))) (omega arith) (omega arith)
