-- What is told of two words.
use Rattle.std.proofs.Common.{◌≡◌, ℕ, ◌+◌, ◌-◌, ◌*◌, ◌%◌, ◌^◌, ◌<◌, ◌≤◌, inl, inr, Bool, true, false, nat_eq, nat_lt, cond, List, [], ◌++◌, length, refl, sym, ap, subst, ◌∙◌, arith}
use Rattle.mach_core.specs.Rule.{IsInput}
use Rattle.bf_tape.specs.Tape.{Tape, get, put}
use Rattle.bf_tape.specs.Does.{Does}
use Rattle.bf_tape.specs.Piece.{Piece, Adds, any, drained, Times}
use Rattle.bf_tape.specs.Piece.Counts.{Over, Turn}
use Rattle.bf_tape.proofs.Moves.{does_then, does_within}
use Rattle.bf_tape.proofs.Turning.{get_put, get_other, put_same}
use Rattle.bf_word.specs.Word.{word_in, with_word, carried_word, lowered_by, lowered_once, IsClear, IsCounter}
use Rattle.bf_word.proofs.Words.{put_put, cell_kept, word_kept, word_set, set_again, set_same}
use Rattle.bf_word.proofs.Scratch.{put_word, swap, clear_word_in, judged, judged_counter, judged_once, answer_left, same_where}
use Rattle.bf_memory.proofs.Bodies.{Link, link, link_then, at, whole}
use Rattle.bf_choice.proofs.Chosen.{swapped}
use Rattle.bf_jump.specs.Pose.{told_of}
use Rattle.bf_jump.specs.Tell.{answer, TellsSame, IsUntold, Tells}

-- a loop on a cell that is 1, and on one that is 0
pub one_round : {p q body : Piece} (c : ℕ) (times : Times p q body c) → q.cell ≡ c → (input : List ℕ) (s s' : Tape) (most : ℕ) → IsInput input → get s c ≡ 1 → get s' c ≡ 0 → Does input body.commands c (put s c 0) c s' most
    → Does input times.added p.cell s q.cell s' (most + 514)
one_round {p = p} c times ends input s s' most is on off does =
    subst (λ y. Does input times.added p.cell s y s' (most + 514)) (sym ends) (does_within (most + 514) (times.does input s s' (most + 2 + 0) is (Turn s s' s' most 0 0 on does (Over s' off))) (omega arith))

pub no_round : {p q body : Piece} (c : ℕ) (times : Times p q body c) → q.cell ≡ c → (input : List ℕ) (s : Tape) → IsInput input → get s c ≡ 0 → Does input times.added p.cell s q.cell s 512
no_round {p = p} c times ends input s is off = subst (λ y. Does input times.added p.cell s y s 512) (sym ends) (does_within 512 (times.does input s s 0 is (Over s off)) (omega arith))

-- a body's length
pub body_short : {b0 b : Piece} {long : ℕ} (c : ℕ) → b0 ≡ record { commands = []; cell = c } → Link b0 b long → length b.commands ≤ long
body_short c from l = omega (arith, ap length l.commands, ap (λ (p : Piece). length (p.commands ++ l.added)) from, l.short)

clear_below : (t : Tape) (v : ℕ) → IsClear t → IsClear (put t 47 v)
clear_below t v clear = λ c lo hi. get_other t 47 c v (omega arith) ∙ clear c lo hi

-- the counter and its borrow beside a cell below them
beside : (t : Tape) (v o x : ℕ) → put (put (with_word t 114 v) 123 o) 47 x ≡ put (with_word (put t 47 x) 114 v) 123 o
beside t v o x = swapped (with_word t 114 v) 123 47 o x (omega arith) ∙ ap (λ u. put u 123 o) (put_word t 114 v 47 x (inl (omega arith)))

flag_there : (t : Tape) (v o : ℕ) → get (put (with_word t 114 v) 123 o) 47 ≡ get t 47
flag_there t v o = get_other (with_word t 114 v) 123 47 o (omega arith) ∙ cell_kept t 114 v 47 (inl (omega arith))

module _ {p q b0 b1 b2 b3 : Piece} (from : b0 ≡ record { commands = []; cell = 47 }) (clear : Adds b0 b1 any (λ input s. put s 123 0) 1024 258) (once : Adds b1 b2 (IsCounter 114) (λ input s. lowered_once 114 s) 512 512)
    (back : Adds b2 b3 any (λ input s. s) 255 255) (home : b3.cell ≡ 47) (times : Times p q b3 47) (ends : q.cell ≡ 47) where
  body_runs : (input : List ℕ) (t : Tape) (v o : ℕ) → IsInput input → IsClear t → v < 2 ^ 24 → Does input b3.commands 47 (put (with_word t 114 v) 123 o) 47 (put (with_word t 114 ((v + (2 ^ 24 - 1)) % 2 ^ 24)) 123 (cond (nat_lt v 1) 1 0)) 1791
  body_runs input t v o is k lv =
      let s1 : Tape = with_word t 114 v in
      let s2 : Tape = put (with_word t 114 ((v + (2 ^ 24 - 1)) % 2 ^ 24)) 123 (cond (nat_lt v 1) 1 0) in
      let l = link_then (link_then (link clear) (link once)) (link back) in
      whole 47 input (put s1 123 o) s2 1791 l from home
      (does_then 1791 (does_then 1536 (at clear input (put s1 123 o) s1 is tt (judged t k v o)) (at once input s1 s2 is (judged_counter t k v) (judged_once t k v lv)) (omega arith)) (at back input s2 s2 is tt refl) (omega arith))

  pub same_told : TellsSame p q
  same_told = record {
    added = times.added;
    commands = times.commands;
    balanced = times.balanced;
    short = let l = link_then (link_then (link clear) (link once)) (link back) in omega (arith, times.short, body_short 47 from l);
    does = tells;
  }
    where
      tells : (input : List ℕ) (t : Tape) (v o : ℕ) (same : Bool) → IsInput input → IsClear t → v < 2 ^ 24 → get t 47 ≡ cond same 1 0
          → Does input times.added p.cell (put (with_word t 114 v) 123 o) q.cell (put (with_word (put t 47 0) 114 (cond same ((v + (2 ^ 24 - 1)) % 2 ^ 24) v)) 123 (cond same (cond (nat_lt v 1) 1 0) o)) (2 ^ 12)
      tells input t v o false is k lv flag =
          let s : Tape = put (with_word t 114 v) 123 o in
          subst (λ u. Does input times.added p.cell s q.cell (put (with_word u 114 v) 123 o) (2 ^ 12)) (sym (put_same t 47 0 flag)) (does_within (2 ^ 12) (no_round 47 times ends input s is (flag_there t v o ∙ flag)) (omega arith))
      tells input t v o true is k lv flag =
          let s : Tape = put (with_word t 114 v) 123 o in
          let t' : Tape = put t 47 0 in
          let less : ℕ = (v + (2 ^ 24 - 1)) % 2 ^ 24 in
          let none : ℕ = cond (nat_lt v 1) 1 0 in
          let s' : Tape = put (with_word t' 114 less) 123 none in
          let runs : Does input b3.commands 47 (put s 47 0) 47 s' 1791 = subst (λ u. Does input b3.commands 47 u 47 s' 1791) (sym (beside t v o 0)) (body_runs input t' v o is (clear_below t 0 k) lv) in
          does_within (2 ^ 12) (one_round 47 times ends input s s' 1791 is (flag_there t v o ∙ flag) (flag_there t' less none ∙ get_put t 47 0) runs) (omega arith)

-- two words, and what they come to
module _ (s : Tape) (k : IsUntold s) (a b : ℕ) (same otherwise : Bool) (la : a < 2 ^ 24) (lb : b < 2 ^ 24) where
  abbrev c : ℕ
  c = cond same 1 0

  abbrev n : ℕ
  n = cond otherwise 1 0

  abbrev t : Tape
  t = put (put s 47 c) 49 n

  there : (q : ℕ) → 50 ≤ q → get t q ≡ get s q
  there q lo = get_other (put s 47 c) 49 q n (omega arith) ∙ get_other s 47 q c (omega arith)

  t_clear : IsClear t
  t_clear = λ q lo hi. there q (omega arith) ∙ k.clear q lo hi

  first_none : with_word t 87 0 ≡ t
  first_none = set_same t 87 0 (there 87 (omega arith) ∙ k.first 87 (omega arith) (omega arith)) (there 88 (omega arith) ∙ k.first 88 (omega arith) (omega arith)) (there 89 (omega arith) ∙ k.first 89 (omega arith) (omega arith))

  second_none : with_word t 97 0 ≡ t
  second_none = set_same t 97 0 (there 97 (omega arith) ∙ k.second 97 (omega arith) (omega arith)) (there 98 (omega arith) ∙ k.second 98 (omega arith) (omega arith)) (there 99 (omega arith) ∙ k.second 99 (omega arith) (omega arith))

  abbrev asked : Tape
  asked = with_word (with_word t 87 a) 97 b

  -- the cells that tell of the words stand beside them
  pub told_is : told_of s a b same otherwise ≡ asked
  told_is =
      ap (λ u. put u 49 n) (put_word (with_word s 87 a) 97 b 47 c (inl (omega arith)) ∙ ap (λ u. with_word u 97 b) (put_word s 87 a 47 c (inl (omega arith))))
      ∙ (put_word (with_word (put s 47 c) 87 a) 97 b 49 n (inl (omega arith)) ∙ ap (λ u. with_word u 97 b) (put_word (put s 47 c) 87 a 49 n (inl (omega arith))))

  abbrev counted : Tape
  counted = with_word (with_word t 97 b) 114 a

  first_word : word_in asked 87 ≡ a
  first_word = word_kept (with_word t 87 a) 97 b 87 (inr (omega arith)) ∙ word_set t 87 a la

  counter_none : word_in asked 114 ≡ 0
  counter_none = word_kept (with_word t 87 a) 97 b 114 (inl (omega arith)) ∙ (word_kept t 87 a 114 (inl (omega arith)) ∙ clear_word_in t t_clear 114 (omega arith) (omega arith))

  carried : carried_word 87 114 asked ≡ counted
  carried =
      ap (λ x. with_word (with_word asked 114 x) 87 0) first_word
      ∙ (ap (λ u. with_word (with_word u 114 a) 87 0) (swap t 87 97 a b (inl (omega arith)))
      ∙ (ap (λ u. with_word u 87 0) (swap (with_word t 97 b) 87 114 a a (inl (omega arith)))
      ∙ (set_again counted 87 a 0
      ∙ (swap (with_word t 97 b) 114 87 a 0 (inr (omega arith)) ∙ (ap (λ u. with_word u 114 a) (swap t 97 87 b 0 (inr (omega arith)) ∙ ap (λ u. with_word u 97 b) first_none))))))

  abbrev rest : ℕ
  rest = (a + (2 ^ 24 - b)) % 2 ^ 24

  abbrev less : ℕ
  less = cond (nat_lt a b) 1 0

  counts : IsCounter 114 counted
  counts = λ q lo hi. cell_kept (with_word t 97 b) 114 a q (inr (omega arith)) ∙ (cell_kept t 97 b q (inr (omega arith)) ∙ t_clear q (omega arith) (omega arith))

  lowered : lowered_by 114 97 counted ≡ put (with_word t 114 rest) 123 less
  lowered =
      let x : word_in counted 114 ≡ a = word_set (with_word t 97 b) 114 a la in
      let y : word_in counted 97 ≡ b = word_kept (with_word t 97 b) 114 a 97 (inr (omega arith)) ∙ word_set t 97 b lb in
      let gone : with_word counted 97 0 ≡ with_word t 114 a = swap (with_word t 97 b) 114 97 a 0 (inr (omega arith)) ∙ ap (λ u. with_word u 114 a) (set_again t 97 b 0 ∙ second_none) in
      (λ i. put (with_word (gone i) 114 ((x i + (2 ^ 24 - y i)) % 2 ^ 24)) 123 (cond (nat_lt (x i) (y i)) 1 0)) ∙ ap (λ u. put u 123 less) (set_again t 114 a rest)

  t_flag : get t 47 ≡ c
  t_flag = get_other (put s 47 c) 49 47 n (omega arith) ∙ get_put s 47 c

  abbrev left : Tape
  left = put t 47 0

  left_is : left ≡ put s 49 n
  left_is = swapped (put s 47 c) 49 47 n 0 (omega arith) ∙ ap (λ u. put u 49 n) (put_put s 47 c 0 ∙ put_same s 47 0 (k.sameness))

  left_clear : IsClear left
  left_clear = clear_below t 0 t_clear

  abbrev borrow : ℕ
  borrow = cond same (cond (nat_lt rest 1) 1 0) less

  borrow_is : (same : Bool) → cond same (cond (nat_lt rest 1) 1 0) less ≡ cond (cond same (nat_eq a b) (nat_lt a b)) 1 0
  borrow_is true = ap (λ t. cond t 1 0) (same_where a b la lb)
  borrow_is false = refl

  answered : drained (put left 123 borrow) 123 49 ≡ put s 49 (answer same a b otherwise)
  answered =
      let u : Tape = put s 49 n in
      let o : ℕ = cond (cond same (nat_eq a b) (nat_lt a b)) 1 0 in
      let x : get (put u 123 o) 49 ≡ n = get_other u 123 49 o (omega arith) ∙ get_put s 49 n in
      let y : get (put u 123 o) 123 ≡ o = get_put u 123 o in
      let v : ℕ = (n + (2 ^ 8 - o)) % 2 ^ 8 in
      let none : get u 123 ≡ 0 = get_other s 49 123 n (omega arith) ∙ k.clear 123 (omega arith) (omega arith) in
      (λ i. drained (put (left_is i) 123 (borrow_is same i)) 123 49)
      ∙ ((λ i. put (put (put u 123 o) 49 ((x i + (2 ^ 8 - y i)) % 2 ^ 8)) 123 0)
      ∙ (swapped (put u 123 o) 49 123 v 0 (omega arith) ∙ (ap (λ w. put w 49 v) (put_put u 123 o 0 ∙ put_same u 123 0 none) ∙ put_put s 49 n v)))

  tells_at : {p q r x y z : Piece} (input : List ℕ) → IsInput input → (move : Adds p q (λ s. word_in s 114 ≡ 0) (λ input s. carried_word 87 114 s) (3 * 2 ^ 18) (3 * 2 ^ 10)) (lower : Adds q r (IsCounter 114) (λ input s. lowered_by 114 97 s) (2 ^ 20) (2 ^ 12))
      (tell : TellsSame r x) (clear : Adds x y any (λ input s. with_word s 114 0) (3 * 2 ^ 10) (3 * 2 ^ 9)) (drain : Adds y z any (λ input s. drained s 123 49) (2 ^ 18) 1024)
      → Does input (move.added ++ lower.added ++ tell.added ++ clear.added ++ drain.added) p.cell (told_of s a b same otherwise) z.cell (put s 49 (answer same a b otherwise)) (3 * 2 ^ 20)
  tells_at {p = p} {z = z} input is move lower tell clear drain =
      let v : ℕ = cond same ((rest + (2 ^ 24 - 1)) % 2 ^ 24) rest in
      let s1 : Tape = put (with_word t 114 rest) 123 less in
      let s2 : Tape = put (with_word left 114 v) 123 borrow in
      let s3 : Tape = put left 123 borrow in
      let s4 : Tape = put s 49 (answer same a b otherwise) in
      subst (λ u. Does input (move.added ++ lower.added ++ tell.added ++ clear.added ++ drain.added) p.cell u z.cell s4 (3 * 2 ^ 20)) (sym told_is)
      (does_then (3 * 2 ^ 20)
      (does_then (2 ^ 21)
      (does_then (2 ^ 20 + 2 ^ 19 + 2 ^ 18 + 2 ^ 12)
      (does_then (2 ^ 20 + 2 ^ 19 + 2 ^ 18) (at move input asked counted is counter_none carried) (at lower input counted s1 is counts lowered) (omega arith))
      (tell.does input t rest less same is t_clear (omega arith) t_flag) (omega arith))
      (at clear input s2 s3 is tt (answer_left left left_clear v borrow)) (omega arith))
      (at drain input s3 s4 is tt answered) (omega arith))

abbrev link_same : {p q : Piece} → TellsSame p q → Link p q (2 ^ 11)
link_same a = record { added = a.added; commands = a.commands; short = a.short; balanced = a.balanced }

pub tells : {p q r x y z : Piece} → Adds p q (λ s. word_in s 114 ≡ 0) (λ input s. carried_word 87 114 s) (3 * 2 ^ 18) (3 * 2 ^ 10) → Adds q r (IsCounter 114) (λ input s. lowered_by 114 97 s) (2 ^ 20) (2 ^ 12)
    → TellsSame r x → Adds x y any (λ input s. with_word s 114 0) (3 * 2 ^ 10) (3 * 2 ^ 9) → Adds y z any (λ input s. drained s 123 49) (2 ^ 18) 1024 → Tells p z
tells move lower tell clear drain =
    let l = link_then (link_then (link_then (link_then (link move) (link lower)) (link_same tell)) (link clear)) (link drain) in
    record { added = l.added; commands = l.commands; balanced = l.balanced; short = omega (arith, l.short); does = λ input s a b same otherwise is k la lb. tells_at s k a b same otherwise la lb input is move lower tell clear drain }
