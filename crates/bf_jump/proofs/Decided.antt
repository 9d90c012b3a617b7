-- The text that decides.
use Rattle.std.proofs.Common.{◌≡◌, ◌≢◌, ℕ, ◌+◌, ◌-◌, ◌*◌, ◌/◌, ◌%◌, ◌^◌, ◌<◌, ◌≤◌, inl, inr, Bool, true, false, not, nat_eq, nat_lt, cond, List, [], ◌++◌, refl, sym, ap, subst, ◌∙◌, arith}
use Rattle.std.proofs.lemmas.Bool.{eqb-true, eqb-false}
use Rattle.mach_core.specs.Rule.{IsInput}
use Rattle.eir_core.specs.declared.ops.Reg.{Reg}
use Rattle.eir_core.specs.declared.ops.Reg.TheVariants.{A, B, C, D, SP, BP}
use Rattle.bf_lang.specs.declared.command.Command.{Command}
use Rattle.bf_lang.specs.Balance.{IsBalanced}
use Rattle.bf_tape.specs.Tape.{Tape, get, put}
use Rattle.bf_tape.specs.Does.{Does}
use Rattle.bf_tape.specs.Piece.{Piece, Adds, any, Times, Chooses}
use Rattle.bf_tape.proofs.Moves.{does_then, does_within}
use Rattle.bf_tape.proofs.Turning.{get_put, get_other, put_same}
use Rattle.bf_word.specs.Word.{word_in, with_word}
use Rattle.bf_word.proofs.Words.{put_put, cell_kept}
use Rattle.bf_memory.proofs.Bodies.{Link, link, link_then, at, whole}
use Rattle.bf_ops.specs.Frame.{cell_of, IsFrame}
use Rattle.bf_choice.specs.Choice.{AreFree, aimed}
use Rattle.bf_choice.proofs.Aimed.{aimed_get, free_still}
use Rattle.bf_jump.specs.declared.goal.Goal.{Goal}
use Rattle.bf_jump.specs.declared.goal.Goal.TheVariants.{Operation, Block}
use Rattle.bf_jump.specs.Note.{note_cell, row, noted, left_open, dropped, taken}
use Rattle.bf_jump.specs.Pose.{told_of, told}
use Rattle.bf_jump.specs.Tell.{answer, IsUntold, Tells}
use Rattle.bf_jump.specs.Goal.{aimed_for, mark_of, mark_cell, noted_for, TakesBlock, TakesBlocks, IsUndecided, Takes, Stays, Decides}
use Rattle.bf_jump.proofs.Rows.{row_row, row_same, aimed_row, notes_taken, note_beside}
use Rattle.bf_jump.proofs.Tells.{one_round, no_round, body_short}
use Rattle.bf_jump.proofs.Headed.{mark_low, mark_few, frame_notable, IsBeside, low_beside, high_beside, word_cell_beside, noting, noting_put, noting_get, noting_word, aimed_for_get, aimed_for_put, notes_past, opened, taken_none, marked_free, marked_notes, marks_same, marks_dropped}

-- a body is balanced
body_balanced : {b0 b : Piece} {long : ℕ} (c : ℕ) → b0 ≡ record { commands = []; cell = c } → Link b0 b long → IsBalanced b.commands
body_balanced c from l = subst IsBalanced (sym (l.commands ∙ ap (λ (p : Piece). p.commands ++ l.added) from)) l.balanced

-- the block of a marked register
pub record BlockParts (p q b0 b1 b2 b3 : Piece) (w : ℕ) : Type 0 where
  pub from : b0 ≡ record { commands = []; cell = w + 3 }
  pub dup : Adds b0 b1 (λ s. (word_in s 114 ≡ 0) × (get s (w + 3) ≡ 0)) (λ input s. with_word s 114 (word_in s w)) (3 * 2 ^ 20) (3 * 2 ^ 11)
  pub add : Adds b1 b2 any (λ input s. put s 44 ((get s 44 + 1) % 2 ^ 8)) 512 512
  pub back : Adds b2 b3 any (λ input s. s) 255 255
  pub home : b3.cell ≡ w + 3
  pub times : Times p q b3 (w + 3)
  pub ends : q.cell ≡ w + 3

block_is : {p q b0 b1 b2 b3 : Piece} (x : Reg) → BlockParts p q b0 b1 b2 b3 (cell_of x) → TakesBlock p q x
block_is {p = p} {q = q} {b3 = b3} x parts =
    let w : ℕ = cell_of x in
    let m : ℕ = mark_of x in
    let l = link_then (link_then (link parts.dup) (link parts.add)) (link parts.back) in
    record {
      added = parts.times.added;
      commands = parts.times.commands;
      balanced = parts.times.balanced;
      short = omega (arith, parts.times.short, body_short (w + 3) parts.from l);
      idle = λ input s is off. no_round m parts.times parts.ends input s is off;
      found = λ input s is none off free.
          let s1 : Tape = with_word s 114 (word_in s w) in
          let s2 : Tape = put s1 44 1 in
          let low : get s1 44 ≡ 0 = cell_kept s 114 (word_in s w) 44 (inl (omega arith)) ∙ off in
          let lowered : put (put s m 1) m 0 ≡ s = put_put s m 1 0 ∙ put_same s m 0 free in
          let end : get s2 m ≡ 0 = get_other s1 44 m 1 (omega (arith, mark_low x)) ∙ (cell_kept s 114 (word_in s w) m (inl (omega (arith, mark_few x))) ∙ free) in
          let runs : Does input b3.commands m s m s2 (3 * 2 ^ 20 + 767) =
          whole m input s s2 (3 * 2 ^ 20 + 767) l parts.from parts.home
          (does_then (3 * 2 ^ 20 + 767) (does_then (3 * 2 ^ 20 + 512) (at parts.dup input s s1 is (none, free) refl) (at parts.add input s1 s2 is tt (ap (λ v. put s1 44 ((v + 1) % 2 ^ 8)) low)) (omega arith)) (at parts.back input s2 s2 is tt refl) (omega arith)) in
          does_within (3 * 2 ^ 20 + 2 ^ 12)
          (one_round m parts.times parts.ends input (put s m 1) s2 (3 * 2 ^ 20 + 767) is (get_put s m 1) end (subst (λ u. Does input b3.commands m u m s2 (3 * 2 ^ 20 + 767)) (sym lowered) runs)) (omega arith);
    }

pub takes_block : {p q b0 b1 b2 b3 : Piece} (x : Reg) (cell : ℕ) → cell ≡ cell_of x → BlockParts p q b0 b1 b2 b3 cell → TakesBlock p q x
takes_block {p = p} {q = q} {b0 = b0} {b1 = b1} {b2 = b2} {b3 = b3} x cell is parts = block_is x (subst (λ c. BlockParts p q b0 b1 b2 b3 c) is parts)

-- all registers in a row
abbrev link_block : {p q : Piece} {x : Reg} → TakesBlock p q x → Link p q (2 ^ 13)
link_block a = record { added = a.added; commands = a.commands; short = a.short; balanced = a.balanced }

abbrev pub link_blocks : {p q : Piece} → TakesBlocks p q → Link p q (2 ^ 16)
link_blocks a = record { added = a.added; commands = a.commands; short = a.short; balanced = a.balanced }

module _ {p0 p1 p2 p3 p4 p5 p6 : Piece} (a : TakesBlock p0 p1 A) (b : TakesBlock p1 p2 B) (c : TakesBlock p2 p3 C) (d : TakesBlock p3 p4 D) (e : TakesBlock p4 p5 SP) (f : TakesBlock p5 p6 BP) where
  abbrev all : List Command
  all = a.added ++ b.added ++ c.added ++ d.added ++ e.added ++ f.added

  none_found : (input : List ℕ) (s : Tape) → IsInput input → ((x : Reg) → get s (mark_of x) ≡ 0) → Does input all p0.cell s p6.cell s (2 ^ 12)
  none_found input s is marks =
      does_within (2 ^ 12) (does_then 3072 (does_then 2560 (does_then 2048 (does_then 1536 (does_then 1024 (a.idle input s is (marks A)) (b.idle input s is (marks B)) (omega arith)) (c.idle input s is (marks C)) (omega arith)) (d.idle input s is (marks D)) (omega arith)) (e.idle input s is (marks SP)) (omega arith)) (f.idle input s is (marks BP)) (omega arith)) (omega arith)

  module _ (input : List ℕ) (s : Tape) (is : IsInput input) (none : word_in s 114 ≡ 0) (off : get s 44 ≡ 0) (marks : (y : Reg) → get s (mark_of y) ≡ 0) where
    before : (x y : Reg) → mark_of x ≢ mark_of y → get (put s (mark_of x) 1) (mark_of y) ≡ 0
    before x y differ = get_other s (mark_of x) (mark_of y) 1 differ ∙ marks y

    abbrev there : Reg → Tape
    there x = put (with_word s 114 (word_in s (cell_of x))) 44 1

    after : (x y : Reg) → get (there x) (mark_of y) ≡ 0
    after x y = get_other (with_word s 114 (word_in s (cell_of x))) 44 (mark_of y) 1 (omega (arith, mark_low y)) ∙ (cell_kept s 114 (word_in s (cell_of x)) (mark_of y) (inl (omega (arith, mark_few y))) ∙ marks y)

    one_found : (x : Reg) → Does input all p0.cell (put s (mark_of x) 1) p6.cell (there x) (3 * 2 ^ 20 + 2 ^ 13)
    one_found A = does_within (3 * 2 ^ 20 + 2 ^ 13) (does_then 3152384 (does_then 3151872 (does_then 3151360 (does_then 3150848 (does_then 3150336 (a.found input s is none off (marks A)) (b.idle input (there A) is (after A B)) (omega arith)) (c.idle input (there A) is (after A C)) (omega arith)) (d.idle input (there A) is (after A D)) (omega arith)) (e.idle input (there A) is (after A SP)) (omega arith)) (f.idle input (there A) is (after A BP)) (omega arith)) (omega arith)
    one_found B = does_within (3 * 2 ^ 20 + 2 ^ 13) (does_then 3152384 (does_then 3151872 (does_then 3151360 (does_then 3150848 (does_then 3150336 (a.idle input (put s (mark_of B) 1) is (before B A (omega arith))) (b.found input s is none off (marks B)) (omega arith)) (c.idle input (there B) is (after B C)) (omega arith)) (d.idle input (there B) is (after B D)) (omega arith)) (e.idle input (there B) is (after B SP)) (omega arith)) (f.idle input (there B) is (after B BP)) (omega arith)) (omega arith)
    one_found C = does_within (3 * 2 ^ 20 + 2 ^ 13) (does_then 3152384 (does_then 3151872 (does_then 3151360 (does_then 3150848 (does_then 1024 (a.idle input (put s (mark_of C) 1) is (before C A (omega arith))) (b.idle input (put s (mark_of C) 1) is (before C B (omega arith))) (omega arith)) (c.found input s is none off (marks C)) (omega arith)) (d.idle input (there C) is (after C D)) (omega arith)) (e.idle input (there C) is (after C SP)) (omega arith)) (f.idle input (there C) is (after C BP)) (omega arith)) (omega arith)
    one_found D = does_within (3 * 2 ^ 20 + 2 ^ 13) (does_then 3152384 (does_then 3151872 (does_then 3151360 (does_then 1536 (does_then 1024 (a.idle input (put s (mark_of D) 1) is (before D A (omega arith))) (b.idle input (put s (mark_of D) 1) is (before D B (omega arith))) (omega arith)) (c.idle input (put s (mark_of D) 1) is (before D C (omega arith))) (omega arith)) (d.found input s is none off (marks D)) (omega arith)) (e.idle input (there D) is (after D SP)) (omega arith)) (f.idle input (there D) is (after D BP)) (omega arith)) (omega arith)
    one_found SP = does_within (3 * 2 ^ 20 + 2 ^ 13) (does_then 3152384 (does_then 3151872 (does_then 2048 (does_then 1536 (does_then 1024 (a.idle input (put s (mark_of SP) 1) is (before SP A (omega arith))) (b.idle input (put s (mark_of SP) 1) is (before SP B (omega arith))) (omega arith)) (c.idle input (put s (mark_of SP) 1) is (before SP C (omega arith))) (omega arith)) (d.idle input (put s (mark_of SP) 1) is (before SP D (omega arith))) (omega arith)) (e.found input s is none off (marks SP)) (omega arith)) (f.idle input (there SP) is (after SP BP)) (omega arith)) (omega arith)
    one_found BP = does_within (3 * 2 ^ 20 + 2 ^ 13) (does_then 3152384 (does_then 2560 (does_then 2048 (does_then 1536 (does_then 1024 (a.idle input (put s (mark_of BP) 1) is (before BP A (omega arith))) (b.idle input (put s (mark_of BP) 1) is (before BP B (omega arith))) (omega arith)) (c.idle input (put s (mark_of BP) 1) is (before BP C (omega arith))) (omega arith)) (d.idle input (put s (mark_of BP) 1) is (before BP D (omega arith))) (omega arith)) (e.idle input (put s (mark_of BP) 1) is (before BP SP (omega arith))) (omega arith)) (f.found input s is none off (marks BP)) (omega arith)) (omega arith)

  pub takes_blocks : TakesBlocks p0 p6
  takes_blocks =
      let l = link_then (link_then (link_then (link_then (link_then (link_block a) (link_block b)) (link_block c)) (link_block d)) (link_block e)) (link_block f) in
      record { added = l.added; commands = l.commands; balanced = l.balanced; short = omega (arith, l.short); idle = none_found; found = λ input s x is none off marks. one_found input s is none off marks x }

-- one of three cells
by_three : (P : ℕ → Type 0) (w c : ℕ) → w ≤ c → c < w + 3 → P w → P (w + 1) → P (w + 2) → P c
by_three P w c lo hi a b d =
    elim (nat_eq c w) as (λ t. nat_eq c w ≡ t → P c) [
      | true ↦ λ t. subst P (sym (eqb-true c w t)) a
      | false ↦ λ t.
          let x : c ≢ w = eqb-false c w t in
          elim (nat_eq c (w + 1)) as (λ r. nat_eq c (w + 1) ≡ r → P c) [
            | true ↦ λ r. subst P (sym (eqb-true c (w + 1) r)) b
            | false ↦ λ r. let y : c ≢ w + 1 = eqb-false c (w + 1) r in let e : w + 2 ≡ c = omega (arith, x, y, lo, hi) in subst P e d
          ] refl
    ] refl

-- a goal that is taken
module _ {b0 b1 b2 b3 b4 : Piece} (d : ℕ) (few : d ≤ 14) (from : b0 ≡ record { commands = []; cell = 0 }) (open_all : Adds b0 b1 any (λ input s. left_open d s) (d * 1024) (d * 512)) (take_all : Adds b1 b2 any (λ input s. taken d s) (d * 2 ^ 18) (d * 1024))
    (blocks : TakesBlocks b2 b3) (back : Adds b3 b4 any (λ input s. s) 255 255) (home : b4.cell ≡ 0) where
  abbrev taking_link : Link b0 b4 (d * 512 + d * 1024 + 2 ^ 16 + 255)
  taking_link = link_then (link_then (link_then (link open_all) (link take_all)) (link_blocks blocks)) (link back)

  takes_goal : (input : List ℕ) (s : Tape) (goal : Goal) (n : ℕ) → IsInput input → IsUndecided d s → Does input b4.commands 0 (aimed d n (noted_for d goal s)) 0 (aimed_for d goal s) (7 * 2 ^ 20)
  takes_goal input s (Operation g) n is k =
      let s0 : Tape = aimed d n (noted d g s) in
      let s1 : Tape = left_open d s0 in
      let s2 : Tape = aimed d g s in
      let take_is : taken d s1 ≡ s2 = ap (λ u. taken d (left_open d u)) (notes_past d n g s few) ∙ notes_taken.taken_is d g n s few k.notable.notes k.free in
      whole 0 input s0 s2 (7 * 2 ^ 20) taking_link from home
      (does_within (7 * 2 ^ 20)
      (does_then (d * 1024 + d * 2 ^ 18 + 2 ^ 12 + 255)
      (does_then (d * 1024 + d * 2 ^ 18 + 2 ^ 12)
      (does_then (d * 1024 + d * 2 ^ 18) (at open_all input s0 s1 is tt refl) (at take_all input s1 s2 is tt take_is) (omega arith))
      (blocks.idle input s2 is (λ x. aimed_get d g s (mark_of x) (omega (arith, few, mark_low x)) ∙ k.notable.marks x)) (omega arith))
      (at back input s2 s2 is tt refl) (omega arith)) (omega (arith, few)))
  takes_goal input s (Block x) n is k =
      let u : Tape = put s (mark_of x) 1 in
      let s0 : Tape = aimed d n u in
      let s2 : Tape = aimed_for d (Block x) s in
      let free : AreFree d u = marked_free d s x few k.free in
      whole 0 input s0 s2 (7 * 2 ^ 20) taking_link from home
      (does_within (7 * 2 ^ 20)
      (does_then (d * 1024 + d * 2 ^ 18 + (3 * 2 ^ 20 + 2 ^ 13) + 255)
      (does_then (d * 1024 + d * 2 ^ 18 + (3 * 2 ^ 20 + 2 ^ 13))
      (does_then (d * 1024 + d * 2 ^ 18) (at open_all input s0 u is tt (opened d n u free)) (at take_all input u u is tt (taken_none d u (marked_notes d s x k.notable.notes) free)) (omega arith))
      (blocks.found input s x is k.word k.flag k.notable.marks) (omega arith))
      (at back input s2 s2 is tt refl) (omega arith)) (omega (arith, few)))

  pub takes : Takes b4.commands d
  takes = record { balanced = body_balanced 0 from taking_link; short = omega (arith, few, body_short 0 from taking_link); does = takes_goal }

-- a goal that is dropped
module _ {b0 b1 b2 b3 : Piece} (d : ℕ) (few : d ≤ 14) (from : b0 ≡ record { commands = []; cell = 0 }) (drop_all : Adds b0 b1 any (λ input s. dropped d s) (d * 1024) (d * 512))
    (marks : Adds b1 b2 any (λ input s. row mark_cell (λ i. 0) 6 s) (6 * 1024) (6 * 512)) (back : Adds b2 b3 any (λ input s. s) 255 255) (home : b3.cell ≡ 0) where
  abbrev staying_link : Link b0 b3 (d * 512 + 6 * 512 + 255)
  staying_link = link_then (link_then (link drop_all) (link marks)) (link back)

  stays_goal : (input : List ℕ) (s : Tape) (goal : Goal) (n : ℕ) → IsInput input → IsUndecided d s → Does input b3.commands 0 (aimed d n (noted_for d goal s)) 0 (aimed d n s) (2 ^ 16)
  stays_goal input s (Operation g) n is k =
      let s0 : Tape = aimed d n (noted d g s) in
      let s1 : Tape = aimed d n s in
      let drop_is : dropped d s0 ≡ s1 =
      ap (dropped d) (aimed_row d n (noted d g s))
      ∙ (row_row note_cell (λ i. 0) (λ i. 3 * i + 3) (λ i. n / 2 ^ i % 2) d d (noted d g s) (λ i j li lj e. note_beside j i (omega (arith, few)) (sym e))
      ∙ (sym (aimed_row d n (dropped d (noted d g s))) ∙ ap (aimed d n) (notes_taken.dropped_is d g s few k.notable.notes))) in
      let marks_is : row mark_cell (λ i. 0) 6 s1 ≡ s1 = marks_same s1 (λ x. aimed_get d n s (mark_of x) (omega (arith, few, mark_low x)) ∙ k.notable.marks x) in
      whole 0 input s0 s1 (2 ^ 16) staying_link from home
      (does_within (2 ^ 16) (does_then (d * 1024 + 6 * 1024 + 255) (does_then (d * 1024 + 6 * 1024) (at drop_all input s0 s1 is tt drop_is) (at marks input s1 s1 is tt marks_is) (omega arith)) (at back input s1 s1 is tt refl) (omega arith)) (omega (arith, few)))
  stays_goal input s (Block x) n is k =
      let u : Tape = put s (mark_of x) 1 in
      let s0 : Tape = aimed d n u in
      let s1 : Tape = aimed d n s in
      let drop_is : dropped d s0 ≡ s0 = row_same note_cell (λ i. 0) d s0 (λ i lt. aimed_get d n u (note_cell i) (omega (arith, few)) ∙ marked_notes d s x k.notable.notes i lt) in
      whole 0 input s0 s1 (2 ^ 16) staying_link from home
      (does_within (2 ^ 16)
      (does_then (d * 1024 + 6 * 1024 + 255) (does_then (d * 1024 + 6 * 1024) (at drop_all input s0 s0 is tt drop_is) (at marks input s0 s1 is tt (marks_dropped d n s x few k.notable.marks)) (omega arith)) (at back input s1 s1 is tt refl) (omega arith)) (omega (arith, few)))

  pub stays : Stays b3.commands d
  stays = record { balanced = body_balanced 0 from staying_link; short = omega (arith, few, body_short 0 from staying_link); does = stays_goal }

-- the answer is 0 where what is told is not so
answer_false : (same : Bool) (a b : ℕ) (otherwise : Bool) → told same a b otherwise ≡ false → answer same a b otherwise ≡ 0
answer_false same a b otherwise is = by (cond same (nat_eq a b) (nat_lt a b)) otherwise is
  where
    by : (t o : Bool) → cond o (not t) t ≡ false → (cond o 1 0 + (2 ^ 8 - cond t 1 0)) % 2 ^ 8 ≡ 0
    by true true e = refl
    by true false e = cc
    by false true e = cc
    by false false e = refl

answer_true : (same : Bool) (a b : ℕ) (otherwise : Bool) → told same a b otherwise ≡ true → answer same a b otherwise ≢ 0
answer_true same a b otherwise is = by (cond same (nat_eq a b) (nat_lt a b)) otherwise is
  where
    by : (t o : Bool) → cond o (not t) t ≡ true → (cond o 1 0 + (2 ^ 8 - cond t 1 0)) % 2 ^ 8 ≢ 0
    by true true e = absurd (apart e)
      where
        apart : false ≡ true → ⊥
        apart e = cc
    by true false e = λ z. absurd (omega (arith, z))
    by false true e = λ z. absurd (omega (arith, z))
    by false false e = absurd (apart e)
      where
        apart : false ≡ true → ⊥
        apart e = cc

-- a jump that asked
module _ {p q b0 b1 b2 b3 yes other : Piece} (d : ℕ) (few : d ≤ 14) (from : b0 ≡ record { commands = []; cell = 48 }) (tell : Tells b0 b1) (take_piece : Takes yes.commands d) (stay_piece : Stays other.commands d) (choose : Chooses b1 b2 yes other 49 43) (chosen_at : b2.cell ≡ 43)
    (back : Adds b2 b3 any (λ input s. s) 255 255) (home : b3.cell ≡ 48) (times : Times p q b3 48) (ends : q.cell ≡ 48) where
  abbrev tell_link : Link b0 b1 (2 ^ 14)
  tell_link = record { added = tell.added; commands = tell.commands; short = tell.short; balanced = tell.balanced }

  abbrev choose_link : Link b1 b2 (2 ^ 18 + 4096)
  choose_link = record { added = choose.added; commands = choose.commands; short = omega (arith, choose.short, take_piece.short, stay_piece.short); balanced = choose.balanced }

  abbrev deciding_link : Link b0 b3 (2 ^ 14 + (2 ^ 18 + 4096) + 255)
  deciding_link = link_then (link_then (tell_link) (choose_link)) (link back)

  module _ (input : List ℕ) (s : Tape) (goal : Goal) (n : ℕ) (is : IsInput input) (frame : IsFrame s) (free : AreFree d s) (spare : get s 43 ≡ 0) (flag : get s 44 ≡ 0) (a b : ℕ) (same otherwise : Bool) (la : a < 2 ^ 24) (lb : b < 2 ^ 24) where
    abbrev G : Tape → Tape
    G u = noting d n goal u

    at_low : (c : ℕ) → 42 < c → c < 53 → IsBeside d c
    at_low c lo hi = low_beside d c few lo hi

    first_at : (c : ℕ) → 87 ≤ c → c < 90 → IsBeside d c
    first_at c lo hi = by_three (λ c. IsBeside d c) 87 c lo hi (word_cell_beside d 87 8 few (omega arith) (inl refl)) (word_cell_beside d 88 8 few (omega arith) (inr (inl refl))) (word_cell_beside d 89 8 few (omega arith) (inr (inr refl)))

    second_at : (c : ℕ) → 97 ≤ c → c < 100 → IsBeside d c
    second_at c lo hi = by_three (λ c. IsBeside d c) 97 c lo hi (word_cell_beside d 97 9 few (omega arith) (inl refl)) (word_cell_beside d 98 9 few (omega arith) (inr (inl refl))) (word_cell_beside d 99 9 few (omega arith) (inr (inr refl)))

    untold : IsUntold (G s)
    untold = record {
      first = λ c lo hi. noting_get d n goal s c (first_at c lo hi) ∙ frame.counters C c (omega (arith, lo)) (omega (arith, hi));
      second = λ c lo hi. noting_get d n goal s c (second_at c lo hi) ∙ frame.counters B c (omega (arith, lo)) (omega (arith, hi));
      sameness = noting_get d n goal s 47 (at_low 47 (omega arith) (omega arith)) ∙ frame.own 47 (omega arith) (omega arith);
      clear = λ c lo hi. noting_get d n goal s c (high_beside d c few (omega (arith, lo))) ∙ frame.clear c lo hi;
    }

    abbrev c47 : ℕ
    c47 = cond same 1 0

    abbrev c49 : ℕ
    c49 = cond otherwise 1 0

    -- what is posed stands beside what is noted
    told_there : told_of (G s) a b same otherwise ≡ G (told_of s a b same otherwise)
    told_there =
        ap (λ u. put (put (with_word u 97 b) 47 c47) 49 c49) (noting_word d n goal s 87 a (first_at 87 (omega arith) (omega arith)) (first_at 88 (omega arith) (omega arith)) (first_at 89 (omega arith) (omega arith)))
        ∙ (ap (λ u. put (put u 47 c47) 49 c49) (noting_word d n goal (with_word s 87 a) 97 b (second_at 97 (omega arith) (omega arith)) (second_at 98 (omega arith) (omega arith)) (second_at 99 (omega arith) (omega arith)))
        ∙ (ap (λ u. put u 49 c49) (noting_put d n goal (with_word (with_word s 87 a) 97 b) 47 c47 (at_low 47 (omega arith) (omega arith))) ∙ noting_put d n goal (put (with_word (with_word s 87 a) 97 b) 47 c47) 49 c49 (at_low 49 (omega arith) (omega arith))))

    abbrev T : Tape
    T = told_of s a b same otherwise

    t_none : get T 48 ≡ 0
    t_none =
        get_other (put (with_word (with_word s 87 a) 97 b) 47 c47) 49 48 c49 (omega arith)
        ∙ (get_other (with_word (with_word s 87 a) 97 b) 47 48 c47 (omega arith)
        ∙ (cell_kept (with_word s 87 a) 97 b 48 (inl (omega arith)) ∙ (cell_kept s 87 a 48 (inl (omega arith)) ∙ frame.own 48 (omega arith) (omega arith))))

    abbrev X : Tape
    X = G (put T 48 1)

    x_on : get X 48 ≡ 1
    x_on = noting_get d n goal (put T 48 1) 48 (at_low 48 (omega arith) (omega arith)) ∙ get_put T 48 1

    x_off : put X 48 0 ≡ told_of (G s) a b same otherwise
    x_off = noting_put d n goal (put T 48 1) 48 0 (at_low 48 (omega arith) (omega arith)) ∙ (ap G (put_put T 48 1 0 ∙ put_same T 48 0 t_none) ∙ sym told_there)

    abbrev v : ℕ
    v = answer same a b otherwise

    abbrev u : Tape
    u = put (put s 49 v) 43 1

    undecided : IsUndecided d u
    undecided =
        let k = frame_notable d s few frame in
        let beside : (c : ℕ) → 49 ≢ c → 43 ≢ c → get u c ≡ get s c = λ c x y. get_other (put s 49 v) 43 c 1 y ∙ get_other s 49 c v x in
        record {
          notable = record { notes = λ i lt. beside (note_cell i) (omega arith) (omega arith) ∙ k.notes i lt; marks = λ x. beside (mark_of x) (omega (arith, mark_low x)) (omega (arith, mark_low x)) ∙ k.marks x };
          free = free_still d (put s 49 v) 43 1 (omega (arith, few)) (free_still d s 49 v (omega (arith, few)) free);
          word = λ i.
              (beside 114 (omega arith) (omega arith) ∙ frame.clear 114 (omega arith) (omega arith)) i + 256 * (beside 115 (omega arith) (omega arith) ∙ frame.clear 115 (omega arith) (omega arith)) i
              + 65536 * (beside 116 (omega arith) (omega arith) ∙ frame.clear 116 (omega arith) (omega arith)) i;
          flag = beside 44 (omega arith) (omega arith) ∙ flag;
        }

    answered : put (G s) 49 v ≡ G (put s 49 v)
    answered = noting_put d n goal s 49 v (at_low 49 (omega arith) (omega arith))

    raised : put (put (G s) 49 v) 43 1 ≡ G u
    raised = ap (λ t. put t 43 1) answered ∙ noting_put d n goal (put s 49 v) 43 1 (at_low 43 (omega arith) (omega arith))

    back_again : put (put u 43 0) 49 0 ≡ s
    back_again = ap (λ t. put t 49 0) (put_put (put s 49 v) 43 1 0 ∙ put_same (put s 49 v) 43 0 (get_other s 49 43 v (omega arith) ∙ spare)) ∙ (put_put s 49 v 0 ∙ put_same s 49 0 (frame.own 49 (omega arith) (omega arith)))

    settled : (g : Goal) → put (put (aimed_for d g u) 43 0) 49 0 ≡ aimed_for d g s
    settled g =
        ap (λ t. put t 49 0) (aimed_for_put d g u 43 0 (omega (arith, few)) (omega arith) (omega arith))
        ∙ (aimed_for_put d g (put u 43 0) 49 0 (omega (arith, few)) (omega arith) (omega arith) ∙ ap (aimed_for d g) back_again)

    spare_there : (g : Goal) → get (aimed_for d g u) 43 ≡ 1
    spare_there g = aimed_for_get d g u 43 (omega (arith, few)) (omega arith) (omega arith) ∙ get_put (put s 49 v) 43 1

    got : get (put (G s) 49 v) 49 ≡ v
    got = get_put (G s) 49 v

    chooses : (truth : Bool) → told same a b otherwise ≡ truth → Does input choose.added b1.cell (put (G s) 49 v) b2.cell (aimed_for d (cond truth goal (Operation n)) s) (7 * 2 ^ 20 + 8192)
    chooses true is_told =
        subst (λ k. Does input choose.added b1.cell (put (G s) 49 v) k (aimed_for d goal s) (7 * 2 ^ 20 + 8192)) (sym chosen_at)
        (subst (λ t. Does input choose.added b1.cell (put (G s) 49 v) 43 t (7 * 2 ^ 20 + 8192)) (settled goal)
        (choose.does_this input (put (G s) 49 v) (aimed_for d goal u) (7 * 2 ^ 20) is (λ e. answer_true same a b otherwise is_told (sym got ∙ e))
        (subst (λ t. Does input yes.commands 0 t 0 (aimed_for d goal u) (7 * 2 ^ 20)) (sym raised) (take_piece.does input u goal n is undecided)) (spare_there goal)))
    chooses false is_told =
        let o : Goal = Operation n in
        let none : get (put (G s) 49 v) 49 ≡ 0 = got ∙ answer_false same a b otherwise is_told in
        let still : get (put (aimed_for d o u) 43 0) 49 ≡ 0 =
        get_other (aimed_for d o u) 43 49 0 (omega arith) ∙ (aimed_for_get d o u 49 (omega (arith, few)) (omega arith) (omega arith) ∙ (get_other (put s 49 v) 43 49 1 (omega arith) ∙ (get_put s 49 v ∙ answer_false same a b otherwise is_told))) in
        subst (λ k. Does input choose.added b1.cell (put (G s) 49 v) k (aimed_for d o s) (7 * 2 ^ 20 + 8192)) (sym chosen_at)
        (subst (λ t. Does input choose.added b1.cell (put (G s) 49 v) 43 t (7 * 2 ^ 20 + 8192)) (sym (put_same (put (aimed_for d o u) 43 0) 49 0 still) ∙ settled o)
        (does_within (7 * 2 ^ 20 + 8192) (choose.does_other input (put (G s) 49 v) (aimed_for d o u) (2 ^ 16) is none
        (subst (λ t. Does input other.commands 0 t 0 (aimed_for d o u) (2 ^ 16)) (sym raised) (stay_piece.does input u goal n is undecided)) (spare_there o)) (omega arith)))

    decided : (truth : Bool) → told same a b otherwise ≡ truth → Does input times.added p.cell X q.cell (aimed_for d (cond truth goal (Operation n)) s) (11 * 2 ^ 20)
    decided truth is_told =
        let g : Goal = cond truth goal (Operation n) in
        let end : Tape = aimed_for d g s in
        let off : get end 48 ≡ 0 = aimed_for_get d g s 48 (omega (arith, few)) (omega arith) (omega arith) ∙ frame.own 48 (omega arith) (omega arith) in
        let body : Does input b3.commands 48 (told_of (G s) a b same otherwise) 48 end (10 * 2 ^ 20 + 8192 + 255) =
        whole 48 input (told_of (G s) a b same otherwise) end (10 * 2 ^ 20 + 8192 + 255) deciding_link from home
        (does_then (10 * 2 ^ 20 + 8192 + 255) (does_then (10 * 2 ^ 20 + 8192) (tell.does input (G s) a b same otherwise is untold la lb) (chooses truth is_told) (omega arith)) (at back input end end is tt refl) (omega arith)) in
        does_within (11 * 2 ^ 20) (one_round 48 times ends input X end (10 * 2 ^ 20 + 8192 + 255) is x_on off (subst (λ t. Does input b3.commands 48 t 48 end (10 * 2 ^ 20 + 8192 + 255)) (sym x_off) body)) (omega arith)

  pub decides : Decides p q d
  decides = record {
    added = times.added;
    commands = times.commands;
    balanced = times.balanced;
    idle = λ input s is off. no_round 48 times ends input s is off;
    does = λ input s t goal n truth is frame free spare flag k.
        subst (λ w. Does input times.added p.cell (aimed d n (noted_for d goal w)) q.cell (aimed_for d (cond truth goal (Operation n)) s) (11 * 2 ^ 20)) (sym k.is)
        (decided input s goal n is frame free spare flag k.a k.b k.same k.otherwise k.a_below k.b_below truth k.tells);
  }
