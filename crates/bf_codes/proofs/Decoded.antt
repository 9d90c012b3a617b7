-- The exact commands of conditional jumps.
use Rattle.std.proofs.Common.{◌≡◌, ℕ, zero, suc, ◌+◌, ◌*◌, ◌^◌, ◌<◌, ◌≤◌, inl, inr, Bool, true, false, cond, ◌++◌, refl, sym, ap, subst, arith, add-one}
use Rattle.word24.specs.Word.{number_of}
use Rattle.eir_core.specs.declared.ops.Reg.{Reg}
use Rattle.eir_core.specs.declared.ops.Reg.TheVariants.{A, B, C, D, SP, BP}
use Rattle.eir_core.specs.declared.ops.Operand.{Operand}
use Rattle.eir_core.specs.declared.ops.Operand.TheVariants.{Reg as register, Imm}
use Rattle.eir_core.specs.declared.ops.Cond.{Cond}
use Rattle.bf_lang.specs.Balance.{IsBalanced}
use Rattle.bf_tape.specs.Tape.{get, put}
use Rattle.bf_tape.specs.Code.{goto_code, clear_code, add_code, move_code, if_code}
use Rattle.bf_tape.specs.Piece.{Piece, joined, Adds, any}
use Rattle.bf_tape.proofs.Added.{adds_times, adds_if}
use Rattle.bf_word.specs.Word.{word_in, with_word}
use Rattle.bf_word.specs.WordCode.{dup_word_code, once_code, equals_code}
use Rattle.bf_memory.proofs.Bodies.{Link, link, link_then}
use Rattle.bf_choice.proofs.Aimed.{none_at_first}
use Rattle.bf_ops.specs.Frame.{cell_of, value_in, is_negated, IsFrame, IsAside}
use Rattle.bf_ops.specs.OpsCode.{bring_code, bring_cell}
use Rattle.bf_ops.proofs.Kept.{stands}
use Rattle.bf_ops.proofs.Coded.{none_code}
use Rattle.bf_codes.specs.Exact.{start}
use Rattle.bf_codes.proofs.Parts.{made, goto_at, clear_at, add_at, move_at, drain_at}
use Rattle.bf_codes.proofs.Worded.{clear_word_at, dup_word_at, move_word_at, set_at, lower_at, once_at, equals_at}
use Rattle.bf_jump.specs.declared.goal.Goal.TheVariants.{Operation, Block}
use Rattle.bf_jump.specs.Note.{aim_cell, note_cell, digit_in, row, noted, taken, IsNoteFree, cell_at, each_code, note_code, open_code, take_code, drop_code}
use Rattle.bf_jump.specs.Pose.{is_sameness, is_turned, is_told_near, words_posed, posed_far, posed_near, both_code, words_code, words_cell, flag_code, flag_cell, far_code, near_code, IsReady}
use Rattle.bf_jump.specs.Tell.{same_code, tell_code, TellsSame, Tells}
use Rattle.bf_jump.specs.Goal.{mark_of, mark_cell, take_block_code, take_blocks_code, drop_marks_code, taking_code, staying_code, TakesBlock, TakesBlocks, Takes, Stays}
use Rattle.bf_jump.proofs.Rows.{note_few, note_beside, note_more, clear_more, take_more}
use Rattle.bf_jump.proofs.Asked.{first_aside, second_aside, brought_register, brought_constant, both_adds, raised_flag, left_flag, far_posed, near_posed}
use Rattle.bf_jump.proofs.Tells.{same_told, tells}
use Rattle.bf_jump.proofs.Headed.{mark_few, mark_adds, number_adds}
use Rattle.bf_jump.proofs.Decided.{takes_block, takes_blocks, takes, stays, decides}
use Rattle.bf_codes.specs.JumpCodesExact.{CodesPose, CodesNote, CodesDecide}

low : (x : Reg) → 50 ≤ cell_of x
low x = let at = stands x in omega (arith, at.at)

high : (x : Reg) → cell_of x ≤ 100
high x = let at = stands x in omega (arith, at.at, at.few)

balanced_by : {q : Piece} {h long : ℕ} → Link (start h) q long → IsBalanced q.commands
balanced_by l = subst IsBalanced (sym l.commands) l.balanced

-- a comparison
bring_at : (p : Piece) (v : Operand) (to : ℕ) → p.cell < 256 → IsAside to → to < 172 → Adds p (joined p (bring_code p.cell v to) (bring_cell v to)) (IsReady to) (λ input s. with_word s to (value_in s v)) (3 * 2 ^ 20) (3 * 2 ^ 11)
bring_at p (register q) to lp beside hi =
    brought_register (register q) q (cell_of q) to refl refl (dup_word_at p (cell_of q) to (cell_of q + 3) lp (omega (arith, high q)) (omega arith) (omega (arith, high q)) (beside q).0 (inr (omega arith)) (beside q).1)
bring_at p (Imm w) to lp beside hi = brought_constant (Imm w) w to refl (set_at p to (number_of w) lp (omega arith))

bring_cell_few : (v : Operand) (to : ℕ) → to < 254 → bring_cell v to < 256
bring_cell_few (register q) to hi = omega (arith, high q)
bring_cell_few (Imm w) to hi = omega arith

both_from : (x y : Operand) → Adds (start 0) (record { commands = both_code 0 x y; cell = bring_cell y 97 }) IsFrame (λ input s. words_posed s (value_in s x) (value_in s y)) (6 * 2 ^ 20) (3 * 2 ^ 12)
both_from x y = both_adds x y (bring_at (start 0) x 87 (omega arith) first_aside (omega arith)) (bring_at _ y 97 (bring_cell_few x 87 (omega arith)) second_aside (omega arith))

words_from : (test : Cond) (x : Reg) (v : Operand)
    → Adds (start 0) (record { commands = words_code 0 test x v; cell = words_cell test x v }) IsFrame (λ input s. cond (is_turned test) (words_posed s (value_in s v) (word_in s (cell_of x))) (words_posed s (word_in s (cell_of x)) (value_in s v))) (6 * 2 ^ 20) (3 * 2 ^ 12)
words_from test x v =
    elim (is_turned test) as (λ b. Adds (start 0) (record { commands = cond b (both_code 0 v (register x)) (both_code 0 (register x) v); cell = cond b (bring_cell (register x) 97) (bring_cell v 97) }) IsFrame
    (λ input s. cond b (words_posed s (value_in s v) (word_in s (cell_of x))) (words_posed s (word_in s (cell_of x)) (value_in s v))) (6 * 2 ^ 20) (3 * 2 ^ 12)) [ true ↦ both_from v (register x) | false ↦ both_from (register x) v ]

words_few : (test : Cond) (x : Reg) (v : Operand) → words_cell test x v < 256
words_few test x v = elim (is_turned test) as (λ b. cond b (bring_cell (register x) 97) (bring_cell v 97) < 256) [ true ↦ bring_cell_few (register x) 97 (omega arith) | false ↦ bring_cell_few v 97 (omega arith) ]

flag_at : (p : Piece) (c : ℕ) (on : Bool) → p.cell < 256 → c < 256 → Adds p (joined p (flag_code p.cell c on) (flag_cell p.cell c on)) (λ s. get s c ≡ 0) (λ input s. put s c (cond on 1 0)) 512 512
flag_at p c true lp lc = raised_flag c true refl (add_at p c 1 lp lc (omega arith))
flag_at p c false lp lc = subst (λ q. Adds p q (λ s. get s c ≡ 0) (λ input s. put s c 0) 512 512) (none_code p) (left_flag p c false refl)

flag_few : (h c : ℕ) (on : Bool) → h < 256 → c < 256 → flag_cell h c on < 256
flag_few h c true lh lc = lc
flag_few h c false lh lc = lh

far_from : (test : Cond) (x : Reg) (v : Operand) → Adds (start 0) (record { commands = far_code 0 test x v; cell = 48 }) IsFrame (λ input s. posed_far test x v s) (7 * 2 ^ 20) (2 ^ 14)
far_from test x v =
    let q : Piece = record { commands = words_code 0 test x v; cell = words_cell test x v } in
    let r : Piece = joined q (flag_code q.cell 47 (is_sameness test)) (flag_cell q.cell 47 (is_sameness test)) in
    let t : Piece = joined r (flag_code r.cell 49 (is_negated test)) (flag_cell r.cell 49 (is_negated test)) in
    let lq : q.cell < 256 = words_few test x v in
    let lr : r.cell < 256 = flag_few q.cell 47 (is_sameness test) lq (omega arith) in
    let lt : t.cell < 256 = flag_few r.cell 49 (is_negated test) lr (omega arith) in
    far_posed test x v (is_sameness test) (is_negated test) refl refl (words_from test x v) (flag_at q 47 (is_sameness test) lq (omega arith)) (flag_at r 49 (is_negated test) lr (omega arith)) (add_at t 48 1 lt (omega arith) (omega arith))

near_from : (test : Cond) (x : Reg) (n : ℕ) → n < 2 ^ 24 → Adds (start 0) (record { commands = near_code 0 (is_negated test) x n; cell = 48 }) IsFrame (λ input s. posed_near test x n s) (7 * 2 ^ 20) (2 ^ 14)
near_from test x n ln =
    let q : Piece = record { commands = equals_code 0 (cell_of x) n 49; cell = cell_of x + 2 } in
    let r : Piece = joined q (flag_code q.cell 97 (is_negated test)) (flag_cell q.cell 97 (is_negated test)) in
    let lq : q.cell < 256 = omega (arith, high x) in
    near_posed test x n (cell_of x) (is_negated test) refl refl (equals_at (start 0) (cell_of x) n 49 (omega arith) (omega (arith, high x)) (omega arith) (inl (omega (arith, low x))) ln) (flag_at q 97 (is_negated test) lq (omega arith))
    (add_at r 48 1 (flag_few q.cell 97 (is_negated test) lq (omega arith)) (omega arith) (omega arith))

pub poses : CodesPose
poses test x (register q) = far_from test x (register q)
poses test x (Imm w) =
    elim (is_told_near test (number_of w)) as (λ b. Adds (start 0) (record { commands = cond b (near_code 0 (is_negated test) x (number_of w)) (far_code 0 test x (Imm w)); cell = 48 }) IsFrame
    (λ input s. cond b (posed_near test x (number_of w) s) (posed_far test x (Imm w) s)) (7 * 2 ^ 20) (2 ^ 14)) [ true ↦ near_from test x (number_of w) w.in_range | false ↦ far_from test x (Imm w) ]

-- rows
cell_few : (cell : ℕ → ℕ) (h d : ℕ) → h < 256 → ((i : ℕ) → i < d → cell i < 256) → cell_at cell h d < 256
cell_few cell h zero lh few = lh
cell_few cell h (suc d) lh few = few d (omega arith)

clears_at : (cell : ℕ → ℕ) (h d : ℕ) → h < 256 → ((i : ℕ) → i < d → cell i < 256)
    → Adds (start h) (record { commands = each_code (λ k i. clear_code k (cell i)) cell h d; cell = cell_at cell h d }) any (λ input s. row cell (λ j. 0) d s) (d * 1024) (d * 512)
clears_at cell h zero lh few = none_at_first (start h) any
clears_at cell h (suc d) lh few =
    let q : Piece = record { commands = each_code (λ k i. clear_code k (cell i)) cell h d; cell = cell_at cell h d } in
    let r : Piece = joined q (clear_code q.cell (cell d)) (cell d) in
    subst (λ n. Adds (start h) r any (λ input s. row cell (λ j. 0) n s) (n * 1024) (n * 512)) (add-one d)
    (clear_more cell d (cell d) refl (clears_at cell h d lh (λ i lt. few i (omega (arith, lt)))) (clear_at q (cell d) (cell_few cell h d lh (λ i lt. few i (omega (arith, lt)))) (few d (omega arith))))

notes_at : (digits number h d : ℕ) → digits ≤ 14 → d ≤ digits → h < 256 → Adds (start h) (record { commands = note_code number h d; cell = cell_at note_cell h d }) (IsNoteFree digits) (λ input s. noted d number s) (d * 1024) (d * 512)
notes_at digits number h zero few le lh = none_at_first (start h) (IsNoteFree digits)
notes_at digits number h (suc d) few le lh =
    let q : Piece = record { commands = note_code number h d; cell = cell_at note_cell h d } in
    let r : Piece = joined q (add_code q.cell (note_cell d) (digit_in number d)) (note_cell d) in
    let lq : q.cell < 256 = cell_few note_cell h d lh (λ i lt. omega (arith, note_few i (omega (arith, few, le, lt)))) in
    subst (λ n. Adds (start h) r (IsNoteFree digits) (λ input s. noted n number s) (n * 1024) (n * 512)) (add-one d)
    (note_more digits number d (note_cell d) (digit_in number d) (omega (arith, le)) refl refl (notes_at digits number h d few (omega (arith, le)) lh) (add_at q (note_cell d) (digit_in number d) lq (omega (arith, note_few d (omega (arith, few, le)))) (omega arith)))

takes_at : (h d : ℕ) → d ≤ 14 → h < 256 → Adds (start h) (record { commands = take_code h d; cell = cell_at note_cell h d }) any (λ input s. taken d s) (d * 2 ^ 18) (d * 1024)
takes_at h zero few lh = none_at_first (start h) any
takes_at h (suc d) few lh =
    let q : Piece = record { commands = take_code h d; cell = cell_at note_cell h d } in
    let r : Piece = joined q (move_code q.cell (note_cell d) (aim_cell d)) (note_cell d) in
    let lq : q.cell < 256 = cell_few note_cell h d lh (λ i lt. omega (arith, note_few i (omega (arith, few, lt)))) in
    subst (λ n. Adds (start h) r any (λ input s. taken n s) (n * 2 ^ 18) (n * 1024)) (add-one d)
    (take_more d (note_cell d) refl (takes_at h d (omega (arith, few)) lh) (move_at q (note_cell d) (3 * d + 3) lq (omega (arith, note_few d (omega (arith, few)))) (omega (arith, few)) (note_beside d d (omega (arith, few)))))

pub notes : CodesNote
notes p d (Operation n) lp few = made p (number_adds d n few (notes_at d n p.cell d few (omega arith) lp))
notes p d (Block x) lp few = mark_adds d (cell_of x) x refl (add_at p (cell_of x + 3) 1 lp (omega (arith, high x)) (omega arith))

-- what is told
same_at : (p : Piece) → p.cell < 256 → TellsSame p (joined p (same_code p.cell) 47)
same_at p lp =
    let b1 : Piece = record { commands = clear_code 47 123; cell = 123 } in
    let b2 : Piece = joined b1 (once_code 123 114) 114 in
    let b3 : Piece = joined b2 (goto_code 114 47) 47 in
    let clear = clear_at (start 47) 123 (omega arith) (omega arith) in
    let once = once_at b1 114 (omega arith) (omega arith) in
    let back = goto_at b2 47 (omega arith) (omega arith) in
    same_told {b0 = start 47} {b1 = b1} {b2 = b2} {b3 = b3} refl clear once back refl (adds_times p b3 47 lp (omega arith) (balanced_by (link_then (link_then (link clear) (link once)) (link back)))) refl

tell_from : (h : ℕ) → h < 256 → Tells (start h) (record { commands = tell_code h; cell = 123 })
tell_from h lh =
    tells (move_word_at (start h) 87 114 lh (omega arith) (omega arith) (inl (omega arith))) (lower_at _ 114 97 (omega arith) (omega arith) (omega arith) (inl (omega arith))) (same_at _ (omega arith)) (clear_word_at _ 114 (omega arith) (omega arith)) (drain_at _ 123 49 (omega arith) (omega arith) (omega arith) (omega arith))

-- blocks that are noted
block_at : (p : Piece) (x : Reg) → p.cell < 256 → TakesBlock p (joined p (take_block_code p.cell x) (mark_of x)) x
block_at p x lp =
    let w : ℕ = cell_of x in
    let b1 : Piece = record { commands = dup_word_code (w + 3) w 114 (w + 3); cell = w + 3 } in
    let b2 : Piece = joined b1 (add_code (w + 3) 44 1) 44 in
    let b3 : Piece = joined b2 (goto_code 44 (w + 3)) (w + 3) in
    let dup = dup_word_at (start (w + 3)) w 114 (w + 3) (omega (arith, high x)) (omega (arith, high x)) (omega arith) (omega (arith, high x)) (inl (omega (arith, high x))) (inr (omega arith)) (inl (omega (arith, high x))) in
    let add = add_at b1 44 1 (omega (arith, high x)) (omega arith) (omega arith) in
    let back = goto_at b2 (w + 3) (omega arith) (omega (arith, high x)) in
    takes_block {b0 = start (w + 3)} {b1 = b1} {b2 = b2} {b3 = b3} x w refl
    (record { from = refl; dup = dup; add = add; back = back; home = refl; times = adds_times p b3 (w + 3) lp (omega (arith, high x)) (balanced_by (link_then (link_then (link dup) (link add)) (link back))); ends = refl })

mark_below : (x : Reg) → mark_of x < 256
mark_below x = omega (arith, mark_few x)

blocks_at : (p : Piece) → p.cell < 256 → TakesBlocks p (joined p (take_blocks_code p.cell) (mark_of BP))
blocks_at p lp =
    let q : Piece = start p.cell in
    let p1 : Piece = joined q (take_block_code p.cell A) (mark_of A) in
    let p2 : Piece = joined p1 (take_block_code (mark_of A) B) (mark_of B) in
    let p3 : Piece = joined p2 (take_block_code (mark_of B) C) (mark_of C) in
    let p4 : Piece = joined p3 (take_block_code (mark_of C) D) (mark_of D) in
    let p5 : Piece = joined p4 (take_block_code (mark_of D) SP) (mark_of SP) in
    let p6 : Piece = joined p5 (take_block_code (mark_of SP) BP) (mark_of BP) in
    beside p
    (takes_blocks {p0 = q} {p1 = p1} {p2 = p2} {p3 = p3} {p4 = p4} {p5 = p5} {p6 = p6} (block_at q A lp) (block_at p1 B (mark_below A)) (block_at p2 C (mark_below B)) (block_at p3 D (mark_below C)) (block_at p4 SP (mark_below D)) (block_at p5 BP (mark_below SP)))
  where
    beside : {last : Piece} (p : Piece) → TakesBlocks (start p.cell) last → TakesBlocks p (joined p last.commands last.cell)
    beside p a = record { added = a.added; commands = ap (λ xs. p.commands ++ xs) a.commands; balanced = a.balanced; short = a.short; idle = a.idle; found = a.found }

-- the two pieces, and the text
taking_from : (d : ℕ) → d ≤ 14 → Takes (taking_code d) d
taking_from d few =
    let b1 : Piece = record { commands = open_code 0 d; cell = cell_at aim_cell 0 d } in
    let b2 : Piece = joined b1 (take_code b1.cell d) (cell_at note_cell b1.cell d) in
    let b3 : Piece = joined b2 (take_blocks_code b2.cell) (mark_of BP) in
    let b4 : Piece = joined b3 (goto_code (mark_of BP) 0) 0 in
    let l1 : b1.cell < 256 = cell_few aim_cell 0 d (omega arith) (λ i lt. omega (arith, few, lt)) in
    let l2 : b2.cell < 256 = cell_few note_cell b1.cell d l1 (λ i lt. omega (arith, note_few i (omega (arith, few, lt)))) in
    takes {b0 = start 0} {b1 = b1} {b2 = b2} {b3 = b3} {b4 = b4} d few refl (clears_at aim_cell 0 d (omega arith) (λ i lt. omega (arith, few, lt))) (made b1 (takes_at b1.cell d few l1)) (blocks_at b2 l2) (goto_at b3 0 (omega arith) (omega arith)) refl

staying_from : (d : ℕ) → d ≤ 14 → Stays (staying_code d) d
staying_from d few =
    let b1 : Piece = record { commands = drop_code 0 d; cell = cell_at note_cell 0 d } in
    let b2 : Piece = joined b1 (drop_marks_code b1.cell) 103 in
    let b3 : Piece = joined b2 (goto_code 103 0) 0 in
    let l1 : b1.cell < 256 = cell_few note_cell 0 d (omega arith) (λ i lt. omega (arith, note_few i (omega (arith, few, lt)))) in
    stays {b0 = start 0} {b1 = b1} {b2 = b2} {b3 = b3} d few refl (clears_at note_cell 0 d (omega arith) (λ i lt. omega (arith, note_few i (omega (arith, few, lt))))) (made b1 (clears_at mark_cell b1.cell 6 l1 (λ i lt. omega (arith, lt)))) (goto_at b2 0 (omega arith) (omega arith)) refl

pub decided : CodesDecide
decided p d lp few =
    let yes : Piece = record { commands = taking_code d; cell = 0 } in
    let other : Piece = record { commands = staying_code d; cell = 0 } in
    let taking = taking_from d few in
    let staying = staying_from d few in
    let b1 : Piece = record { commands = tell_code 48; cell = 123 } in
    let b2 : Piece = joined b1 (if_code 123 49 43 (taking_code d) (staying_code d)) 43 in
    let b3 : Piece = joined b2 (goto_code 43 48) 48 in
    let tell = tell_from 48 (omega arith) in
    let choose = adds_if b1 yes other 49 43 (omega arith) (omega arith) (omega arith) (omega arith) taking.balanced staying.balanced in
    let back = goto_at b2 48 (omega arith) (omega arith) in
    let tell_link : Link (start 48) b1 (2 ^ 14) = record { added = tell.added; commands = tell.commands; short = tell.short; balanced = tell.balanced } in
    let choose_link : Link b1 b2 (2 ^ 18 + 4096) = record { added = choose.added; commands = choose.commands; short = omega (arith, choose.short, taking.short, staying.short); balanced = choose.balanced } in
    decides {b0 = start 48} {b1 = b1} {b2 = b2} {b3 = b3} {yes = yes} {other = other} d few refl tell taking staying choose refl back refl (adds_times p b3 48 lp (omega arith) (balanced_by (link_then (link_then tell_link choose_link) (link back)))) refl
