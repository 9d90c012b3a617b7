-- The commands of the whole program do what is said of them, with no call that makes them.
use Rattle.std.proofs.Common.{◌≡◌, ℕ, zero, suc, ◌+◌, ◌*◌, ◌/◌, ◌%◌, ◌^◌, ◌<◌, ◌≤◌, inl, inr, Bool, true, false, nat_eq, cond, List, [], ◌∷◌, ◌++◌, length, map, take, slice_index, refl, sym, ap, subst, ◌∙◌, arith, add-one, append-nil, length-append}
use Rattle.std.proofs.lemmas.Grind.{get_or_default_zero}
use Rattle.std.proofs.lemmas.List.{length-map}
use Rattle.word24.specs.declared.word.Word.{Word}
use Rattle.word24.specs.Word.{number_of}
use Rattle.eir_core.specs.declared.ops.Reg.{Reg}
use Rattle.eir_core.specs.declared.ops.Operand.{Operand}
use Rattle.eir_core.specs.declared.ops.Operand.TheVariants.{Reg as register, Imm}
use Rattle.eir_core.specs.declared.ops.Cond.{Cond}
use Rattle.eir_core.specs.declared.ops.Op.{Op}
use Rattle.eir_core.specs.declared.ops.Op.TheVariants.{Mov, Add, Sub, Load, Store, Putc, Getc, Set, Exit, Jump, JumpIf}
use Rattle.eir_core.specs.Eir.{Eir, IsEir, size_of}
use Rattle.bf_lang.specs.declared.command.Command.{Command}
use Rattle.bf_lang.specs.Balance.{IsBalanced}
use Rattle.bf_lang.proofs.Partners.{balanced_append}
use Rattle.bf_tape.specs.Tape.{Tape}
use Rattle.bf_tape.specs.Code.{goto_code, add_code, times_code, shift_code}
use Rattle.bf_tape.specs.Piece.{Piece, joined, Adds, any, shifted, IsRoom}
use Rattle.bf_tape.proofs.Added.{adds_of, adds_times, length-many, length_slide}
use Rattle.bf_tape.proofs.Turning.{does_shift, balanced_shift}
use Rattle.bf_tape.proofs.Pieces.{balanced_goto, balanced_add}
use Rattle.bf_word.specs.Word.{with_word}
use Rattle.bf_word.specs.WordCode.{clear_word_code, set_code, once_code}
use Rattle.bf_word.proofs.Chain.{adds_then, adds_as}
use Rattle.bf_memory.specs.Walk.{framed}
use Rattle.bf_ops.specs.Frame.{cell_of}
use Rattle.bf_ops.specs.OpsCode.{operation_code, operation_cell}
use Rattle.bf_ops.proofs.Kept.{stands}
use Rattle.bf_choice.specs.Choice.{AreFree, AreBalanced, digit_cell, aim_code, advance_code, aimed, advanced, tree_code}
use Rattle.bf_choice.proofs.Chosen.{balanced_tree}
use Rattle.bf_choice.proofs.Aimed.{none_at_first, aim_more, advance_more}
use Rattle.bf_codes.specs.Exact.{start}
use Rattle.bf_codes.proofs.Parts.{made, goto_at, add_at, move_at, rename_at}
use Rattle.bf_codes.proofs.Worded.{clear_word_at, dup_word_at, set_at, once_at}
use Rattle.bf_ops.specs.Ask.{serve_code}
use Rattle.bf_codes.proofs.Operated.{performs, serve_from}
use Rattle.bf_jump.specs.Pose.{pose_code}
use Rattle.bf_jump.specs.Goal.{note_goal_code, note_goal_cell, decide_code}
use Rattle.bf_jump.specs.declared.goal.Goal.{Goal}
use Rattle.bf_jump.specs.declared.goal.Goal.TheVariants.{Operation, Block}
use Rattle.bf_jump.proofs.Rows.{note_few}
use Rattle.bf_jump.proofs.Headed.{mark_few}
use Rattle.bf_codes.proofs.Decoded.{poses, notes, decided}
use Rattle.bf_turn.specs.Number.{op_count, number_at, first_numbers, following, digits_in, accesses, branches}
use Rattle.bf_turn.specs.Goal.{goal_of, Heads}
use Rattle.bf_turn.specs.Arm.{GoesOn, Branches, IsArm, AreArms, HasAll}
use Rattle.bf_turn.specs.Lookup.{IsCounted, counted, LooksUp}
use Rattle.bf_turn.specs.Turn.{Decisions, decision_code, decision_cell, IsDecided, Tails, tail_code, tail_cell, TurnsBy, IsTurn}
use Rattle.bf_turn.specs.Code.{toward_code, on_code, branch_code, arm_code, arms_code, all_code, count_cell, count_code, look_code, decided_code, turn_code}
use Rattle.bf_turn.proofs.Goals.{heads, block_adds, operation_adds}
use Rattle.bf_turn.proofs.Branched.{branches as asks}
use Rattle.bf_turn.proofs.Armed.{goes_on, exit_arm, jump_arm, branch_arm, other_arm, is_end}
use Rattle.bf_turn.proofs.Listed.{all_ops}
use Rattle.bf_turn.proofs.Counts.{around, once_adds, count_start, count_more, count_done, looks_up}
use Rattle.bf_turn.proofs.Eirs.{jumps_to}
use Rattle.bf_turn.proofs.Turned.{decision_some, decision_none, decided_by, tail_serves, tail_none, turns_by, turn_is, digits_few, numbers_few}
use Rattle.bf_back.specs.Data.{laid, back_by, Begins}
use Rattle.bf_back.specs.Code.{words_code, back_code, lay_code, begin_code, whole_code}
use Rattle.bf_back.specs.Whole.{IsWhole}
use Rattle.bf_back.proofs.Loaded.{laid_framed, back_start, back_more, lay_adds, begins}
use Rattle.bf_back.proofs.Translated.{whole_of, opens_of}

-- a piece by itself
balanced_made : {K : Tape → Type 0} {e : List ℕ → Tape → Tape} {m l h : ℕ} {q : Piece} → Adds (start h) q K e m l → IsBalanced q.commands
balanced_made a = subst IsBalanced (sym a.commands) a.balanced

-- digits
cell_few : (h d : ℕ) → h < 256 → d ≤ 14 → digit_cell h d < 256
cell_few h zero lh ld = lh
cell_few h (suc d) lh ld = omega arith

aim_from : (h digits n i : ℕ) → h < 256 → digits ≤ 14 → i ≤ digits → Adds (start h) (record { commands = aim_code h i n; cell = digit_cell h i }) (AreFree digits) (λ input s. aimed i n s) (i * 512) (i * 512)
aim_from h digits n zero lh few le = none_at_first (start h) (AreFree digits)
aim_from h digits n (suc i) lh few le =
    let q : Piece = record { commands = aim_code h i n; cell = digit_cell h i } in
    subst (λ j. Adds (start h) (record { commands = aim_code h (suc i) n; cell = 3 * i + 3 }) (AreFree digits) (λ input s. aimed j n s) (j * 512) (j * 512)) (add-one i)
    (aim_more digits n i (n / 2 ^ i % 2) (omega arith) refl (aim_from h digits n i lh few (omega arith)) (add_at q (3 * i + 3) (n / 2 ^ i % 2) (cell_few h i lh (omega arith)) (omega arith) (omega arith)))

advance_from : (h i : ℕ) → h < 256 → i ≤ 14 → Adds (start h) (record { commands = advance_code h i; cell = digit_cell h i }) any (λ input s. advanced i s) (i * 2 ^ 18) (i * 1024)
advance_from h zero lh few = none_at_first (start h) any
advance_from h (suc i) lh few =
    let q : Piece = record { commands = advance_code h i; cell = digit_cell h i } in
    subst (λ j. Adds (start h) (record { commands = advance_code h (suc i); cell = 3 * i + 3 }) any (λ input s. advanced j s) (j * 2 ^ 18) (j * 1024)) (add-one i)
    (advance_more i (advance_from h i lh (omega arith)) (move_at q (3 * i + 3) (3 * i + 1) (cell_few h i lh (omega arith)) (omega arith) (omega arith) (omega arith)))

-- pieces that aim
toward_is : (d : ℕ) (g : Goal) → d ≤ 14 → Heads (toward_code d g) d g
toward_is d (Operation n) few = heads {last = record { commands = toward_code d (Operation n); cell = 0 }} d (Operation n) refl refl (operation_adds d n few (aim_from 0 d n d (omega arith) few (omega arith))) (goto_at _ 0 (cell_few 0 d (omega arith) few) (omega arith))
toward_is d (Block x) few =
    let at = stands x in
    heads {last = record { commands = toward_code d (Block x); cell = 0 }} d (Block x) refl refl
    (block_adds d (cell_of x) x refl (dup_word_at (start 0) (cell_of x) 114 (cell_of x + 3) (omega arith) (omega (arith, at.at, at.few)) (omega arith) (omega (arith, at.at, at.few)) (inl (omega (arith, at.at, at.few))) (inr (omega arith)) (inl (omega (arith, at.at, at.few))))
    (add_at _ 44 1 (omega (arith, at.at, at.few)) (omega arith) (omega arith))) (goto_at _ 0 (omega arith) (omega arith))

-- pieces of operations
goal_cell_few : (d : ℕ) (g : Goal) → d ≤ 14 → note_goal_cell 48 d g < 256
goal_cell_few zero (Operation n) few = omega arith
goal_cell_few (suc d) (Operation n) few = omega (arith, note_few d (omega (arith, few)))
goal_cell_few d (Block x) few = omega (arith, mark_few x)

branch_is : (d : ℕ) (test : Cond) (x : Reg) (v : Operand) (g : Goal) (next : ℕ) → d ≤ 14 → Branches (branch_code d test x v g next) d test x v g next
branch_is d test x v g next few =
    let k : ℕ = note_goal_cell 48 d g in
    let lk : k < 256 = goal_cell_few d g few in
    let mid : Piece = record { commands = pose_code 0 test x v; cell = 48 } in
    let noted : Piece = joined mid (note_goal_code 48 d g) k in
    let onward : Piece = joined noted (aim_code k d next) (digit_cell k d) in
    asks {last = joined onward (goto_code (digit_cell k d) 0) 0} d test x v g next few refl refl refl (poses test x v) (notes mid d g (omega arith) few) (made noted (aim_from k d next d lk few (omega arith))) (goto_at onward 0 (cell_few k d lk few) (omega arith)) refl

reg_few : (x : Reg) → cell_of x ≤ 100
reg_few x = let at = stands x in omega (arith, at.at, at.few)

op_cell : (op : Op) → operation_cell 0 op < 256
op_cell (Mov x (register y)) = elim (nat_eq (cell_of y) (cell_of x)) as (λ t. cond t 0 (cell_of y + 3) < 256) [ true ↦ omega arith | false ↦ omega (arith, reg_few y) ]
op_cell (Mov x (Imm w)) = omega (arith, reg_few x)
op_cell (Add x v) = omega (arith, reg_few x)
op_cell (Sub x v) = omega (arith, reg_few x)
op_cell (Load x v) = omega arith
op_cell (Store x v) = omega arith
op_cell (Putc (register y)) = omega (arith, reg_few y)
op_cell (Putc (Imm w)) = omega arith
op_cell (Getc x) = omega (arith, reg_few x)
op_cell (Set test x v) = omega (arith, reg_few x)
op_cell Exit = omega arith
op_cell (Jump v) = omega arith
op_cell (JumpIf test v x w) = omega arith

on_is : (d : ℕ) (op : Op) (next : ℕ) → d ≤ 14 → GoesOn (on_code d op next) d op next
on_is d op next few =
    let mid : Piece = record { commands = operation_code 0 op; cell = operation_cell 0 op } in
    goes_on {last = record { commands = on_code d op next; cell = 0 }} d next (operation_cell 0 op) op few refl refl (performs op) (made mid (aim_from (operation_cell 0 op) d next d (op_cell op) few (omega arith)))
    (goto_at _ 0 (cell_few (operation_cell 0 op) d (op_cell op) few) (omega arith)) refl

arm_is : (d : ℕ) (ns : List ℕ) (next : ℕ) (op : Op) → d ≤ 14 → IsArm d ns next op (arm_code d ns next op)
arm_is d ns next Exit few = exit_arm d next ns Exit (toward_code d (Operation 0)) refl (toward_is d (Operation 0) few)
arm_is d ns next (Jump v) few = jump_arm d next ns (Jump v) v (goal_of ns v) (toward_code d (goal_of ns v)) refl refl (toward_is d (goal_of ns v) few)
arm_is d ns next (JumpIf test v x w) few = branch_arm d next ns (JumpIf test v x w) test v x w (goal_of ns v) (branch_code d test x w (goal_of ns v) next) refl refl (branch_is d test x w (goal_of ns v) next few)
arm_is d ns next (Mov x v) few = other_arm d next ns (Mov x v) (on_code d (Mov x v) next) refl (λ r. refl) (on_is d (Mov x v) next few)
arm_is d ns next (Add x v) few = other_arm d next ns (Add x v) (on_code d (Add x v) next) refl (λ r. refl) (on_is d (Add x v) next few)
arm_is d ns next (Sub x v) few = other_arm d next ns (Sub x v) (on_code d (Sub x v) next) refl (λ r. refl) (on_is d (Sub x v) next few)
arm_is d ns next (Load x v) few = other_arm d next ns (Load x v) (on_code d (Load x v) next) refl (λ r. refl) (on_is d (Load x v) next few)
arm_is d ns next (Store x v) few = other_arm d next ns (Store x v) (on_code d (Store x v) next) refl (λ r. refl) (on_is d (Store x v) next few)
arm_is d ns next (Putc v) few = other_arm d next ns (Putc v) (on_code d (Putc v) next) refl (λ r. refl) (on_is d (Putc v) next few)
arm_is d ns next (Getc x) few = other_arm d next ns (Getc x) (on_code d (Getc x) next) refl (λ r. refl) (on_is d (Getc x) next few)
arm_is d ns next (Set test x v) few = other_arm d next ns (Set test x v) (on_code d (Set test x v) next) refl (λ r. refl) (on_is d (Set test x v) next few)

arms_are : (d : ℕ) (ns : List ℕ) (last n : ℕ) (ops : List Op) → d ≤ 14 → AreArms d ns last n ops (arms_code d ns last n ops)
arms_are d ns last n [] few = tt
arms_are d ns last n (op ∷ ops) few = (arm_is d ns (following last n) op few, arms_are d ns last (n + 1) ops few)

all_are : (p : Eir) → digits_in p ≤ 14 → HasAll (digits_in p) (first_numbers 1 p.blocks) (op_count p) p.blocks (all_code p)
all_are p few = record {
  end = add_code 0 0 255;
  is_end = is_end {last = record { commands = add_code 0 0 255; cell = 0 }} refl refl (add_at (start 0) 0 255 (omega arith) (omega arith) (omega arith));
  more = record { arms = arms_code (digits_in p) (first_numbers 1 p.blocks) (op_count p) 1 (all_ops p.blocks); pushed = refl; are = arms_are (digits_in p) (first_numbers 1 p.blocks) (op_count p) 1 (all_ops p.blocks) few };
}

arms_balanced : (d : ℕ) (ns : List ℕ) (last n : ℕ) (ops : List Op) (arms : List (List Command)) → AreArms d ns last n ops arms → AreBalanced arms
arms_balanced d ns last n [] [] are = tt
arms_balanced d ns last n [] (a ∷ arms) are = absurd are
arms_balanced d ns last n (op ∷ ops) [] are = absurd are
arms_balanced d ns last n (op ∷ ops) (a ∷ arms) are = (are.0.balanced, arms_balanced d ns last (n + 1) ops arms are.1)

-- the look-up
count_few : (h i : ℕ) → h < 256 → count_cell h i < 256
count_few h zero lh = lh
count_few h (suc i) lh = omega arith

count_from : (h d : ℕ) (ns : List ℕ) (i : ℕ) → h < 256 → d ≤ 14 → i ≤ length ns → length ns ≤ 2 ^ 22
    → Adds (start h) (record { commands = count_code h d ns i; cell = count_cell h i }) (IsCounted d) (λ input s. counted d (take i ns) s) (i * 2 ^ 14) (i * 8704)
count_from h d ns zero lh few le short = count_start (start h) d ns few
count_from h d ns (suc i) lh few le short =
    let n : ℕ = slice_index ns i in
    let now : Piece = record { commands = count_code h d ns i; cell = count_cell h i } in
    let mid : Piece = joined now (once_code (count_cell h i) 114) 114 in
    let body : Piece = record { commands = aim_code 123 d n ++ goto_code (digit_cell 123 d) 123; cell = 123 } in
    let next : Piece = joined mid (times_code 114 123 body.commands) 123 in
    let turn = around {first = start 123} {last = body} 123 refl refl (aim_from 123 d n d (omega arith) few (omega arith)) (goto_at _ 123 (cell_few 123 d (omega arith) few) (omega arith)) in
    let balanced : IsBalanced body.commands = balanced_append (aim_code 123 d n) (goto_code (digit_cell 123 d) 123) (balanced_made (aim_from 123 d n d (omega arith) few (omega arith))) (balanced_goto (digit_cell 123 d) 123) in
    let once = once_adds {new = next} {body = body} d n few (once_at now 114 (count_few h i lh) (omega arith)) (adds_times mid body 123 (omega arith) (omega arith) balanced) refl turn.0 turn.1 in
    subst (λ j. Adds (start h) next (IsCounted d) (λ input s. counted d (take j ns) s) (j * 2 ^ 14) (j * 8704)) (add-one i)
    (count_more d ns i n few (omega arith) (sym (get_or_default_zero ns i n (omega arith))) short (count_from h d ns i lh few (omega arith) short) once)

look_is : (p : Piece) (h d : ℕ) (ns : List ℕ) → h < 256 → p.cell ≡ h → d ≤ 14 → length ns ≤ 2 ^ 22 → LooksUp p (joined p (look_code h d ns) 44) d ns
look_is p h d ns lh home few short =
    let b1 : Piece = record { commands = count_code 44 d ns (length ns); cell = count_cell 44 (length ns) } in
    let b2 : Piece = joined b1 (clear_word_code (count_cell 44 (length ns)) 114) 116 in
    let b3 : Piece = joined b2 (goto_code 116 44) 44 in
    let count = count_done d ns (length ns) (omega arith) (omega arith) (count_from 44 d ns (length ns) (omega arith) few (omega arith) short) in
    let clear = clear_word_at b1 114 (count_few 44 (length ns) (omega arith)) (omega arith) in
    let back = goto_at b2 44 (omega arith) (omega arith) in
    let both = adds_then (IsCounted d) count clear (λ input s bytes k. (k, tt)) in
    let balanced : IsBalanced b3.commands = balanced_made (adds_then (IsCounted d) both back (λ input s bytes k. (k, tt))) in
    let times = adds_times p b3 44 (omega (arith, home, lh)) (omega arith) balanced in
    subst (λ h. LooksUp p (joined p (times_code h 44 b3.commands) 44) d ns) home (looks_up d few ns refl refl count clear back times)

-- what serves the memory, where a program accesses it
tail_few : (t : Bool) → tail_cell 0 t < 256
tail_few true = omega arith
tail_few false = omega arith

tail_is : (p : Piece) (t : Bool) → p.cell ≡ 0 → Tails p (joined p (tail_code 0 t) (tail_cell 0 t)) t
tail_is p true home = subst (λ h. Tails p (joined p (serve_code h) 47) true) home (tail_serves true refl (serve_from p (omega (arith, home))))
tail_is p false home =
    subst (λ q. Tails p q false) (λ i. record { commands = sym (append-nil p.commands) i; cell = home i }) (tail_none p false refl)

-- what conditional jumps asked, where a program has one
decision_few : (b : Bool) → decision_cell 0 b < 256
decision_few true = omega arith
decision_few false = omega arith

decision_is : (p : Piece) (d : ℕ) (b : Bool) → p.cell ≡ 0 → d ≤ 14 → Decisions p (joined p (decision_code 0 d b) (decision_cell 0 b)) d b
decision_is p d true home few = subst (λ h. Decisions p (joined p (decide_code h d) 48) d true) home (decision_some d true refl (decided p d (omega (arith, home)) few))
decision_is p d false home few =
    subst (λ q. Decisions p q d false) (λ i. record { commands = sym (append-nil p.commands) i; cell = home i }) (decision_none p d false refl)

decided_is : (d : ℕ) (b : Bool) (tree : List Command) → d ≤ 14 → IsBalanced tree → IsDecided (decided_code d b tree) d b tree × IsBalanced (decided_code d b tree)
decided_is d b tree few balanced =
    let p : Piece = record { commands = tree; cell = 0 } in
    let q : Piece = joined p (decision_code 0 d b) (decision_cell 0 b) in
    let alone = decision_is (start 0) d b refl few in
    let decision_so : IsBalanced (decision_code 0 d b) = subst IsBalanced (sym alone.commands) alone.balanced in (
      decided_by {first = start 0} {last = joined q (goto_code (decision_cell 0 b) 0) 0} tree d b few refl refl refl (decision_is p d b refl few) (goto_at q 0 (decision_few b) (omega arith)) refl,
      balanced_append (tree ++ decision_code 0 d b) (goto_code (decision_cell 0 b) 0) (balanced_append tree (decision_code 0 d b) balanced decision_so) (balanced_goto (decision_cell 0 b) 0),
    )

-- a turn
turn_code_is : (p : Eir) → IsEir p → size_of p ≤ 2 ^ 14 → IsTurn p (turn_code p) × IsBalanced (turn_code p)
turn_code_is p sound small =
    let d : ℕ = digits_in p in
    let ns : List ℕ = first_numbers 1 p.blocks in
    let b : Bool = branches p in
    let t : Bool = accesses p in
    let h : ℕ = tail_cell 0 t in
    let few : d ≤ 14 = digits_few p d (op_count p) small refl refl in
    let all = all_are p few in
    let tree : Piece = record { commands = tree_code d (all_code p); cell = 0 } in
    let first : IsBalanced tree.commands = balanced_tree d (all_code p) (balanced_add 0 0 255, arms_balanced d ns (op_count p) 1 (all_ops p.blocks) (arms_code d ns (op_count p) 1 (all_ops p.blocks)) (arms_are d ns (op_count p) 1 (all_ops p.blocks) few)) in
    let decide = decided_is d b tree.commands few first in
    let told : Piece = record { commands = decided_code d b tree.commands; cell = 0 } in
    let pt : Piece = joined told (tail_code 0 t) h in
    let p1 : Piece = joined pt (look_code h d ns) 44 in
    let p2 : Piece = joined p1 (advance_code 44 d) (digit_cell 44 d) in
    let tail = tail_is told t refl in
    let look = look_is pt h d ns (tail_few t) refl few (numbers_few p ns small refl) in
    let advance : Adds p1 p2 any (λ input s. advanced d s) (d * 2 ^ 18) (d * 1024) = made p1 (advance_from 44 d (omega arith) few) in
    let back = goto_at p2 0 (cell_few 44 d (omega arith) few) (omega arith) in
    let by : TurnsBy (turn_code p) d ns t told.commands = turns_by {first = start 0} {last = joined p2 (goto_code (digit_cell 44 d) 0) 0} told.commands d ns t few refl refl refl tail refl look advance back refl in
    let tail_alone = tail_is (start 0) t refl in
    let served_so : IsBalanced (tail_code 0 t) = subst IsBalanced (sym tail_alone.commands) tail_alone.balanced in
    let alone = look_is (start h) h d ns (tail_few t) refl few (numbers_few p ns small refl) in
    let second : IsBalanced (look_code h d ns) = subst IsBalanced (sym alone.commands) alone.balanced in
    let third : IsBalanced (advance_code 44 d) = balanced_made (advance_from 44 d (omega arith) few) in (
      turn_is p d (op_count p) ns t b (all_code p) tree told (turn_code p) sound small refl refl refl refl refl all refl decide.0 by,
      balanced_append (told.commands ++ tail_code 0 t ++ look_code h d ns ++ advance_code 44 d) (goto_code (digit_cell 44 d) 0)
          (balanced_append (told.commands ++ tail_code 0 t ++ look_code h d ns) (advance_code 44 d) (balanced_append (told.commands ++ tail_code 0 t) (look_code h d ns) (balanced_append told.commands (tail_code 0 t) decide.1 served_so) second) third)
          (balanced_goto (digit_cell 44 d) 0),
    )

-- the data words
shift_at : (p : Piece) (right : Bool) → p.cell < 256 → Adds p (joined p (shift_code p.cell 22 right) 0) (IsRoom 22 right) (λ input s. shifted s 22 right) 512 512
shift_at p right lp =
    adds_of p (shift_code p.cell 22 right) 0 (IsRoom 22 right) (λ input s. shifted s 22 right) 512 512 (simp (length-append, length-many, length_slide) (omega arith)) (balanced_shift p.cell 22 right) (λ input s is k. does_shift input p.cell 22 right s lp (omega arith) k)

words_from : (words : List Word) → Adds (start 0) (record { commands = words_code words; cell = 0 }) any (λ input s. framed (laid 16 (map number_of words) s) (22 * length words)) (length words * 2 ^ 14) (length words * 5120)
words_from [] = adds_as (λ input s. framed s (22 * 0)) (0 * 2 ^ 14) (0 * 5120) (none_at_first (start 0) any) (λ input s bytes k. let e : s.base ≡ s.base + 22 * 0 = omega arith in (k, ap (λ b. record { base = b; cells = s.cells; taken = s.taken; output = s.output }) e)) (omega arith) (omega arith)
words_from (w ∷ words) =
    let v : ℕ = number_of w in
    let ws : List ℕ = map number_of words in
    let q1 : Piece = record { commands = set_code 0 16 v; cell = 18 } in
    let q2 : Piece = joined q1 (shift_code 18 22 true) 0 in
    let more : Adds q2 (joined q2 (words_code words) 0) any (λ input s. framed (laid 16 ws s) (22 * length words)) (length words * 2 ^ 14) (length words * 5120) = made q2 (words_from words) in
    adds_as (λ input s. framed (laid 16 (v ∷ ws) s) (22 * suc (length words))) (suc (length words) * 2 ^ 14) (suc (length words) * 5120)
    (adds_then any (adds_then any (set_at (start 0) 16 v (omega arith) (omega arith)) (shift_at q1 true (omega arith)) (λ input s bytes k. (tt, λ f. absurd (apart f)))) more (λ input s bytes k. (tt, tt)))
    (λ input s bytes k.
    let t : Tape = with_word s 16 v in
    let u : Tape = laid 38 ws t in
    let base : u.base + 22 + 22 * length words ≡ u.base + 22 * suc (length words) = omega arith in
    (k, ap (λ x. framed x (22 * length words)) (laid_framed 22 16 38 ws t refl) ∙ ap (λ b. record { base = b; cells = u.cells; taken = u.taken; output = u.output }) base)) (omega arith) (omega arith)
  where
    apart : true ≡ false → ⊥
    apart f = cc

back_from : (n i : ℕ) → i ≤ n → Adds (start 0) (record { commands = back_code i; cell = 0 }) (λ s. 22 * n ≤ s.base) (λ input s. back_by s (22 * i)) (i * 512) (i * 512)
back_from n zero le = back_start (start 0) n
back_from n (suc i) le =
    let now : Piece = record { commands = back_code i; cell = 0 } in
    let next : Piece = joined now (shift_code 0 22 false) 0 in
    subst (λ j. Adds (start 0) next (λ s. 22 * n ≤ s.base) (λ input s. back_by s (22 * j)) (j * 512) (j * 512)) (add-one i) (back_more n i (omega arith) (back_from n i (omega arith)) (shift_at now false (omega arith)))

lay_from : (words : List Word) → Adds (start 0) (record { commands = lay_code 0 words; cell = 0 }) any (λ input s. laid 174 (map number_of words) s) (length words * 2 ^ 15 + 2 ^ 11) (length words * 5632 + 2 ^ 11)
lay_from words =
    let p1 : Piece = record { commands = goto_code 0 158; cell = 158 } in
    let p2 : Piece = record { commands = goto_code 0 158; cell = 0 } in
    let p3 : Piece = joined p2 (words_code words) 0 in
    let p4 : Piece = joined p3 (goto_code 0 0) 0 in
    let p5 : Piece = joined p4 (back_code (length words)) 0 in
    let p6 : Piece = joined p5 (goto_code 0 0) 0 in
    let p7 : Piece = record { commands = p6.commands; cell = 158 } in
    lay_adds {p0 = start 0} {p1 = p1} {p2 = p2} {p3 = p3} {p4 = p4} {p5 = p5} {p6 = p6} {p7 = p7} {p8 = joined p7 (goto_code 158 0) 0} words (length words) refl refl refl (goto_at (start 0) 158 (omega arith) (omega arith)) (rename_at p1 0) (made p2 (words_from words)) (goto_at p3 0 (omega arith) (omega arith))
    (made p4 (back_from (length words) (length words) (omega arith))) (goto_at p5 0 (omega arith) (omega arith)) (rename_at p6 158) (goto_at p7 0 (omega arith) (omega arith))

-- the whole program
begin_from : (p : Eir) → digits_in p ≤ 14 → Begins (start 0) (record { commands = begin_code p; cell = 0 }) (map number_of p.words) (digits_in p) (number_at p p.start 0)
begin_from p few =
    let d : ℕ = digits_in p in
    let n : ℕ = number_at p p.start 0 in
    let p1 : Piece = record { commands = lay_code 0 p.words; cell = 0 } in
    let p2 : Piece = joined p1 (add_code 0 0 1) 0 in
    let p3 : Piece = joined p2 (aim_code 0 d n) (digit_cell 0 d) in
    let c3 : ℕ = digit_cell 0 d in
    let p4 : Piece = joined p3 (advance_code c3 d) (digit_cell c3 d) in
    let lc : c3 < 256 = cell_few 0 d (omega arith) few in
    begins {p5 = joined p4 (goto_code (digit_cell c3 d) 0) 0} (map number_of p.words) (length p.words) d n (sym (length-map p.words number_of)) few (lay_from p.words) (add_at p1 0 1 (omega arith) (omega arith) (omega arith)) (made p2 (aim_from 0 d n d (omega arith) few (omega arith)))
    (made p3 (advance_from c3 d lc few)) (goto_at p4 0 (cell_few c3 d lc few) (omega arith))

pub whole_is : (p : Eir) → IsEir p → size_of p ≤ 2 ^ 14 → IsWhole p (whole_code p)
whole_is p sound small =
    let few : digits_in p ≤ 14 = digits_few p (digits_in p) (op_count p) small refl refl in
    let first : Piece = record { commands = begin_code p; cell = 0 } in
    let turn = turn_code_is p sound small in
    whole_of {first = first} {last = record { commands = whole_code p; cell = 0 }} (record { commands = turn_code p; cell = 0 }) p small
    (opens_of {last = first} p p.words (digits_in p) (op_count p) (number_at p p.start 0) (first_numbers 1 p.blocks) sound refl refl refl refl refl refl (jumps_to p p.start) (begin_from p few)) refl turn.1 turn.0 refl
