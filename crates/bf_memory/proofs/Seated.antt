-- How an address comes to record -1.
use Rattle.std.proofs.Common.{◌≡◌, ◌≢◌, ℕ, ◌+◌, ◌-◌, ◌*◌, ◌%◌, ◌^◌, ◌<◌, ◌≤◌, inl, inr, true, false, nat_lt, cond, List, [], ◌++◌, length, refl, sym, ap, subst, ◌∙◌, arith}
use Rattle.std.proofs.lemmas.Bool.{ltb-true, ltb-false, lt-ltb, le-ltb}
use Rattle.mach_core.specs.Rule.{IsInput}
use Rattle.bf_lang.specs.Balance.{IsBalanced}
use Rattle.bf_tape.specs.Tape.{Tape, get, put}
use Rattle.bf_tape.specs.Does.{Does}
use Rattle.bf_tape.specs.Piece.{Piece, Adds, any, doubled, Times, Counts}
use Rattle.bf_tape.specs.Piece.Counts.{Over, Turn}
use Rattle.bf_tape.proofs.Moves.{does_then, does_within}
use Rattle.bf_tape.proofs.Pieces.{by_bytes}
use Rattle.bf_tape.proofs.Turning.{get_put, get_other, put_same}
use Rattle.bf_word.specs.Word.{low_byte, mid_byte, high_byte, word_in, with_word, carried_word, lowered_by, IsClear, IsCounter}
use Rattle.bf_word.proofs.Words.{put_put, cell_kept, word_kept, word_set, set_again, set_same, bytes_of}
use Rattle.bf_word.proofs.Scratch.{put_word, swap, clear_word_in, operands, operands_counter, operands_lowered, answer_left}
use Rattle.bf_memory.specs.Row.{near, side}
use Rattle.bf_memory.specs.Walk.{TurnsOver}
use Rattle.bf_memory.proofs.Bodies.{Link, link, link_then, at, whole}

-- an address turned over
module _ (s : Tape) (clear : IsClear s) (a : ℕ) (la : a < 2 ^ 24) where
  abbrev told : Tape
  told = put s 149 1

  abbrev full : ℕ
  full = 2 ^ 24 - 1

  told_first : put (with_word s 136 a) 149 ((get (with_word s 136 a) 149 + 1) % 2 ^ 8) ≡ with_word told 136 a
  told_first =
      ap (λ x. put (with_word s 136 a) 149 ((x + 1) % 2 ^ 8)) (cell_kept s 136 a 149 (inr (omega arith)) ∙ clear 149 (omega arith) (omega arith)) ∙ put_word s 136 a 149 1 (inr (omega arith))

  none_there : word_in (with_word told 136 a) 114 ≡ 0
  none_there =
      word_kept told 136 a 114 (inr (omega arith))
      ∙ ((λ i. get_other s 149 114 1 (omega arith) i + 256 * get_other s 149 115 1 (omega arith) i + 65536 * get_other s 149 116 1 (omega arith) i) ∙ clear_word_in s clear 114 (omega arith) (omega arith))

  turned_up : carried_word 136 114 (with_word told 136 a) ≡ with_word (with_word (with_word told 136 a) 114 a) 136 0
  turned_up = ap (λ x. with_word (with_word (with_word told 136 a) 114 x) 136 0) (word_set told 136 a la)

  turned_over : with_word (with_word (with_word (with_word told 136 a) 114 a) 136 full) 136 (full - word_in (with_word (with_word (with_word told 136 a) 114 a) 136 full) 114) ≡ with_word (with_word (with_word told 136 a) 114 a) 136 (full - a)
  turned_over =
      let t : Tape = with_word (with_word told 136 a) 114 a in
      ap (λ x. with_word (with_word t 136 full) 136 (full - x)) (word_kept t 136 full 114 (inr (omega arith)) ∙ word_set (with_word told 136 a) 114 a la) ∙ set_again t 136 full (full - a)

  turned_back : with_word (with_word (with_word (with_word told 136 a) 114 a) 136 (full - a)) 114 0 ≡ put (with_word s 136 (full - a)) 149 1
  turned_back =
      let k : ℕ = full - a in
      let zero_there : (c : ℕ) → 110 ≤ c → c < 149 → get told c ≡ 0 = λ c lo hi. get_other s 149 c 1 (omega arith) ∙ clear c lo (omega arith) in
      swap (with_word (with_word told 136 a) 114 a) 136 114 k 0 (inr (omega arith))
      ∙ (ap (λ u. with_word u 136 k) (set_again (with_word told 136 a) 114 a 0 ∙ swap told 136 114 a 0 (inr (omega arith)))
      ∙ (set_again (with_word told 114 0) 136 a k
      ∙ (ap (λ u. with_word u 136 k) (set_same told 114 0 (zero_there 114 (omega arith) (omega arith)) (zero_there 115 (omega arith) (omega arith)) (zero_there 116 (omega arith) (omega arith)))
      ∙ sym (put_word s 136 k 149 1 (inr (omega arith))))))

pub over_adds : {p0 p1 p2 p3 p4 p5 : Piece} (n : ℕ) → n ≡ 2 ^ 24 - 1 → p0 ≡ record { commands = []; cell = 123 } → p5.cell ≡ 123
    → Adds p0 p1 any (λ input s. put s 149 ((get s 149 + 1) % 2 ^ 8)) 512 512
    → Adds p1 p2 (λ s. word_in s 114 ≡ 0) (λ input s. carried_word 136 114 s) (3 * 2 ^ 18) (3 * 2 ^ 10)
    → Adds p2 p3 any (λ input s. with_word s 136 n) (2 ^ 13) (2 ^ 12)
    → Adds p3 p4 (λ s. word_in s 136 ≡ 2 ^ 24 - 1) (λ input s. with_word (with_word s 136 (2 ^ 24 - 1 - word_in s 114)) 114 0) (3 * 2 ^ 18) (3 * 2 ^ 10)
    → Adds p4 p5 any (λ input s. s) 255 255
    → TurnsOver p5
over_adds {p0 = p0} {p5 = p5} n n_is first home a1 a2 a3 a4 a5 =
    let l = link_then (link_then (link_then (link_then (link a1) (link a2)) (link a3)) (link a4)) (link a5) in
    let commands : p5.commands ≡ l.added = l.commands ∙ ap (λ x. x.commands ++ l.added) first in
    record {
      home = home;
      balanced = subst (λ xs. IsBalanced xs) (sym commands) l.balanced;
      short = subst (λ xs. length xs ≤ 2 ^ 14) (sym commands) (omega (arith, l.short));
      does = λ input s a is clear la.
          let full : ℕ = 2 ^ 24 - 1 in
          let told : Tape = put s 149 1 in
          let t : Tape = with_word (with_word told 136 a) 114 a in
          let s1 : Tape = with_word told 136 a in
          let s2 : Tape = with_word t 136 0 in
          let s3 : Tape = with_word t 136 full in
          let s4 : Tape = put (with_word s 136 (full - a)) 149 1 in
          let d1 = at a1 input (with_word s 136 a) s1 is tt (told_first s clear a la) in
          let d2 = at a2 input s1 s2 is (none_there s clear a la) (turned_up s clear a la) in
          let d3 = at a3 input s2 s3 is tt (ap (λ x. with_word s2 136 x) n_is ∙ set_again t 136 0 full) in
          let d4 = at a4 input s3 s4 is (word_set t 136 full (omega arith)) (ap (λ u. with_word u 114 0) (turned_over s clear a la) ∙ turned_back s clear a la) in
          let d5 = at a5 input s4 s4 is tt refl in
          whole 123 input (with_word s 136 a) s4 (2 ^ 21) l first home
          (does_within (2 ^ 21) (does_then 1581823 (does_then 1581568 (does_then 795136 (does_then 786944 d1 d2 (omega arith)) d3 (omega arith)) d4 (omega arith)) d5 (omega arith)) (omega arith));
    }

-- the first byte of the test
module _ (s : Tape) (clear : IsClear s) where
  limit_set : put s 116 ((get s 116 + 127) % 2 ^ 8) ≡ with_word s 114 8323072
  limit_set =
      ap (λ x. put s 116 ((x + 127) % 2 ^ 8)) (clear 116 (omega arith) (omega arith))
      ∙ sym (ap (λ u. put (put u 115 0) 116 127) (put_same s 114 0 (clear 114 (omega arith) (omega arith))) ∙ ap (λ u. put u 116 127) (put_same s 115 0 (clear 115 (omega arith) (omega arith))))

  -- the highest byte of the address as an operand
  top_set : (addr : ℕ) → addr < 108 → get s (addr + 2) < 2 ^ 8 → doubled (with_word s 114 8323072) (addr + 2) 112 ≡ operands s 8323072 (65536 * get s (addr + 2))
  top_set addr la lh =
      let t : Tape = with_word s 114 8323072 in
      let h : ℕ = get s (addr + 2) in
      let zero_there : (c : ℕ) → 110 ≤ c → c < 114 → get t c ≡ 0 = λ c lo hi. cell_kept s 114 8323072 c (inl hi) ∙ clear c lo (omega arith) in
      let top : get t (addr + 2) ≡ h = cell_kept s 114 8323072 (addr + 2) (inl (omega arith)) in
      let sum : (0 + h) % 2 ^ 8 ≡ h = omega arith in
      let l : low_byte (65536 * h) ≡ 0 = omega arith in
      let m : mid_byte (65536 * h) ≡ 0 = omega arith in
      let k : high_byte (65536 * h) ≡ h = omega arith in
      (λ i. put t 112 ((zero_there 112 (omega arith) (omega arith) i + top i) % 2 ^ 8))
      ∙ (ap (λ x. put t 112 x) sum
      ∙ sym ((λ i. put (put (put t 110 (l i)) 111 (m i)) 112 (k i))
      ∙ (ap (λ u. put (put u 111 0) 112 h) (put_same t 110 0 (zero_there 110 (omega arith) (omega arith))) ∙ ap (λ u. put u 112 h) (put_same t 111 0 (zero_there 111 (omega arith) (omega arith))))))

pub seat_adds : {p0 p1 p2 p3 p4 p5 p6 over : Piece} (addr : ℕ) → addr < 108 → TurnsOver over
    → Adds p0 p1 any (λ input s. put s 116 ((get s 116 + 127) % 2 ^ 8)) 512 512
    → Adds p1 p2 (λ s. get s 113 ≡ 0) (λ input s. doubled s (addr + 2) 112) (2 ^ 20) 2048
    → Adds p2 p3 (IsCounter 114) (λ input s. lowered_by 114 110 s) (2 ^ 20) (2 ^ 12)
    → Adds p3 p4 any (λ input s. with_word s 114 0) (3 * 2 ^ 10) (3 * 2 ^ 9)
    → Adds p4 p5 (λ s. (word_in s 136 ≡ 0) × (get s 113 ≡ 0)) (λ input s. with_word s 136 (word_in s addr)) (3 * 2 ^ 20) (3 * 2 ^ 11)
    → Times p5 p6 over 123 → p6.cell ≡ 123
    → Adds p0 p6 IsClear (λ input s. put (with_word s 136 (near (word_in s addr))) 149 (side (word_in s addr))) (2 ^ 23) (2 ^ 15)
seat_adds {p0 = p0} {p5 = p5} {p6 = p6} {over = over} addr la turns a1 a2 a3 a4 a5 a6 c6 =
    let l6 : Link p5 p6 (2 ^ 14 + 512) = record { added = a6.added; commands = a6.commands; short = omega (arith, a6.short, turns.short); balanced = a6.balanced } in
    let l = link_then (link_then (link_then (link_then (link_then (link a1) (link a2)) (link a3)) (link a4)) (link a5)) l6 in
    record {
      added = l.added;
      commands = l.commands;
      short = omega (arith, l.short);
      balanced = l.balanced;
      does = λ input s is clear. by_bytes l.balanced (λ bytes.
          let a : ℕ = word_in s addr in
          let h : ℕ = get s (addr + 2) in
          let lh : h < 2 ^ 8 = bytes (s.base + (addr + 2)) in
          let k : ℕ = 65536 * h in
          let v : ℕ = (8323072 + (2 ^ 24 - k)) % 2 ^ 24 in
          let o : ℕ = cond (nat_lt 8323072 k) 1 0 in
          let t1 : Tape = with_word s 114 8323072 in
          let t2 : Tape = operands s 8323072 k in
          let t3 : Tape = put (with_word s 114 v) 123 o in
          let t4 : Tape = put s 123 o in
          let t5 : Tape = with_word t4 136 a in
          let t6 : Tape = put (with_word s 136 (near a)) 149 (side a) in
          let d1 = at a1 input s t1 is tt (limit_set s clear) in
          let d2 = at a2 input t1 t2 is (cell_kept s 114 8323072 113 (inl (omega arith)) ∙ clear 113 (omega arith) (omega arith)) (top_set s clear addr la lh) in
          let d3 = at a3 input t2 t3 is (operands_counter s clear 8323072 k) (operands_lowered s clear 8323072 k (omega arith) (omega arith)) in
          let d4 = at a4 input t3 t4 is tt (answer_left s clear v o) in
          let other : (c : ℕ) → c ≢ 123 → get t4 c ≡ get s c = λ c differ. get_other s 123 c o (λ e. differ (sym e)) in
          let none : word_in t4 136 ≡ 0 = (λ i. other 136 (omega arith) i + 256 * other 137 (omega arith) i + 65536 * other 138 (omega arith) i) ∙ clear_word_in s clear 136 (omega arith) (omega arith) in
          let there : word_in t4 addr ≡ a = λ i. other addr (omega arith) i + 256 * other (addr + 1) (omega arith) i + 65536 * other (addr + 2) (omega arith) i in
          let d5 = at a5 input t4 t5 is (none, other 113 (omega arith) ∙ clear 113 (omega arith) (omega arith)) (ap (λ x. with_word t4 136 x) there) in
          let d6 : Does input a6.added p5.cell t5 p6.cell t6 (2 ^ 21 + 1024) = subst (λ c. Does input a6.added p5.cell t5 c t6 (2 ^ 21 + 1024)) (sym c6) (turned input s clear over turns p5 p6 a6 is a h (bytes_of s addr bytes).below lh (get s addr) (get s (addr + 1)) (bytes (s.base + addr)) (bytes (s.base + (addr + 1))) refl) in
          does_within (2 ^ 23) (does_then 7344640 (does_then 5246464 (does_then 2100736 (does_then 2097664 (does_then 1049088 d1 d2 (omega arith)) d3 (omega arith)) d4 (omega arith)) d5 (omega arith)) d6 (omega arith)) (omega arith));
    }
  where
    turned : (input : List ℕ) (s : Tape) → IsClear s → (over : Piece) → TurnsOver over → (p q : Piece) (t : Times p q over 123) → IsInput input → (a h : ℕ) → a < 2 ^ 24 → h < 2 ^ 8 → (x y : ℕ) → x < 2 ^ 8 → y < 2 ^ 8 → a ≡ x + 256 * y + 65536 * h
        → Does input t.added p.cell (with_word (put s 123 (cond (nat_lt 8323072 (65536 * h)) 1 0)) 136 a) 123 (put (with_word s 136 (near a)) 149 (side a)) (2 ^ 21 + 1024)
    turned input s clear over turns p q t is a h la lh x y lx ly a_is =
        elim (nat_lt a (2 ^ 23)) as (λ b. nat_lt a (2 ^ 23) ≡ b → Does input t.added p.cell (with_word (put s 123 (cond (nat_lt 8323072 (65536 * h)) 1 0)) 136 a) 123 (put (with_word s 136 (near a)) 149 (cond b 0 1)) (2 ^ 21 + 1024)) [
          | true ↦ λ b.
              let lt : a < 2 ^ 23 = ltb-true a (2 ^ 23) b in
              let e : nat_lt 8323072 (65536 * h) ≡ false = le-ltb 8323072 (65536 * h) (omega arith) in
              let n : a ≡ near a = omega arith in
              let u : Tape = with_word s 136 a in
              let from : with_word (put s 123 (cond (nat_lt 8323072 (65536 * h)) 1 0)) 136 a ≡ u = ap (λ b. with_word (put s 123 (cond b 1 0)) 136 a) e ∙ ap (λ v. with_word v 136 a) (put_same s 123 0 (clear 123 (omega arith) (omega arith))) in
              let to : u ≡ put (with_word s 136 (near a)) 149 0 = sym (put_same u 149 0 (cell_kept s 136 a 149 (inr (omega arith)) ∙ clear 149 (omega arith) (omega arith))) ∙ ap (λ v. put (with_word s 136 v) 149 0) n in
              let off : get u 123 ≡ 0 = cell_kept s 136 a 123 (inl (omega arith)) ∙ clear 123 (omega arith) (omega arith) in
              subst (λ v. Does input t.added p.cell v 123 (put (with_word s 136 (near a)) 149 0) (2 ^ 21 + 1024)) (sym from)
              (subst (λ v. Does input t.added p.cell u 123 v (2 ^ 21 + 1024)) to (does_within (2 ^ 21 + 1024) (t.does input u u 0 is (Over u off)) (omega arith)))
          | false ↦ λ b.
              let le : 2 ^ 23 ≤ a = ltb-false a (2 ^ 23) b in
              let e : nat_lt 8323072 (65536 * h) ≡ true = lt-ltb 8323072 (65536 * h) (omega arith) in
              let n : 2 ^ 24 - 1 - a ≡ near a = omega arith in
              let u : Tape = with_word (put s 123 1) 136 a in
              let w : Tape = put (with_word s 136 (2 ^ 24 - 1 - a)) 149 1 in
              let from : with_word (put s 123 (cond (nat_lt 8323072 (65536 * h)) 1 0)) 136 a ≡ u = ap (λ b. with_word (put s 123 (cond b 1 0)) 136 a) e in
              let on : get u 123 ≡ 1 = cell_kept (put s 123 1) 136 a 123 (inl (omega arith)) ∙ get_put s 123 1 in
              let less : put u 123 0 ≡ with_word s 136 a = put_word (put s 123 1) 136 a 123 0 (inl (omega arith)) ∙ ap (λ v. with_word v 136 a) (put_put s 123 1 0 ∙ put_same s 123 0 (clear 123 (omega arith) (omega arith))) in
              let off : get w 123 ≡ 0 = get_other (with_word s 136 (2 ^ 24 - 1 - a)) 149 123 1 (omega arith) ∙ (cell_kept s 136 (2 ^ 24 - 1 - a) 123 (inl (omega arith)) ∙ clear 123 (omega arith) (omega arith)) in
              let body : Does input over.commands 123 (put u 123 0) 123 w (2 ^ 21) = subst (λ v. Does input over.commands 123 v 123 w (2 ^ 21)) (sym less) (turns.does input s a is clear la) in
              let counts : Counts input over.commands 123 u w (2 ^ 21 + 2 + 0) = Turn u w w (2 ^ 21) 0 0 on body (Over w off) in
              subst (λ v. Does input t.added p.cell v 123 (put (with_word s 136 (near a)) 149 1) (2 ^ 21 + 1024)) (sym from)
              (subst (λ v. Does input t.added p.cell u 123 v (2 ^ 21 + 1024)) (ap (λ v. put (with_word s 136 v) 149 1) n) (does_within (2 ^ 21 + 1024) (t.does input u w (2 ^ 21 + 2 + 0) is counts) (omega arith)))
        ] refl
