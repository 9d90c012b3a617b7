-- How long the whole program is.
use Rattle.std.proofs.Common.{◌≡◌, ℕ, zero, suc, ◌+◌, ◌-◌, ◌*◌, ◌/◌, ◌%◌, ◌^◌, ◌≤◌, Bool, true, false, nat_eq, cond, List, [], ◌∷◌, ◌++◌, length, slice_index, refl, sym, ap, subst, ◌∙◌, arith, append_assoc, append-nil, length-append}
use Rattle.std.proofs.lemmas.Bool.{leb-true}
use Rattle.std.proofs.lemmas.List.Concat.{length-flat_map}
use Rattle.word24.specs.declared.word.Word.{Word}
use Rattle.word24.specs.Word.{number_of}
use Rattle.eir_core.specs.declared.ops.Reg.{Reg}
use Rattle.eir_core.specs.declared.ops.Reg.TheVariants.{A, B, C, D, SP, BP}
use Rattle.eir_core.specs.declared.ops.Operand.{Operand}
use Rattle.eir_core.specs.declared.ops.Operand.TheVariants.{Reg as register, Imm}
use Rattle.eir_core.specs.declared.ops.Op.{Op}
use Rattle.eir_core.specs.declared.ops.Op.TheVariants.{Mov, Add, Sub, Load, Store, Putc, Getc, Set, Exit, Jump, JumpIf}
use Rattle.eir_core.specs.Eir.{Eir, size_of}
use Rattle.sim_trait.specs.Digits.{digit_count}
use Rattle.sim_trait.proofs.Digits.{digit_count-digits, digit_count-small}
use Rattle.bf_lang.specs.declared.command.Command.{Command}
use Rattle.bf_lang.specs.declared.command.Command.TheVariants.{Right, Left, Plus, Minus, Close}
use Rattle.bf_tape.specs.Does.{loop}
use Rattle.bf_tape.specs.Code.{many, goto_code, clear_code, more_code, add_code, carry_code, move_code, dup_code, read_code, write_code, shift_code, while_code}
use Rattle.bf_tape.proofs.Added.{length-many, length_more}
use Rattle.bf_word.specs.Steps.{lower_0}
use Rattle.bf_word.specs.WordCode.{dup_word_code, clear_word_code, set_code, once_code}
use Rattle.bf_ops.specs.Frame.{cell_of}
use Rattle.bf_ops.specs.Ask.{serve_code}
use Rattle.bf_ops.specs.OpsCode.{copy_code, mov_code, getc_code, putc_code, operation_code, operation_cell}
use Rattle.bf_ops.specs.Perform.{asks}
use Rattle.bf_ops.proofs.Kept.{stands}
use Rattle.bf_ops.proofs.Lengths.{operations_short}
use Rattle.bf_choice.specs.Choice.{digit_cell, aim_code, advance_code, tree_code, weight}
use Rattle.bf_choice.proofs.Lengths.{short}
use Rattle.bf_jump.specs.Goal.{note_goal_cell}
use Rattle.bf_jump.specs.declared.goal.Goal.{Goal}
use Rattle.bf_jump.specs.declared.goal.Goal.TheVariants.{Operation, Block}
use Rattle.bf_jump.proofs.Rows.{note_few}
use Rattle.bf_jump.proofs.Headed.{mark_few}
use Rattle.bf_jump.proofs.Lengths.{decide_short, jumps_short}
use Rattle.bf_turn.specs.Number.{op_count, number_at, first_numbers, following, digits_in, any_asks, accesses, is_branch, any_branches, branches}
use Rattle.bf_turn.specs.Goal.{goal_of}
use Rattle.bf_turn.specs.Turn.{decision_code, decision_cell, tail_code, tail_cell}
use Rattle.bf_turn.specs.Code.{toward_code, arm_code, arms_code, all_code, find_code, count_cell, count_code, look_code, decided_code, turn_code}
use Rattle.bf_turn.proofs.Listed.{all_ops, first_count}
use Rattle.bf_turn.proofs.Turned.{digits_few}
use Rattle.bf_back.specs.Code.{words_code, back_code, lay_code, start_code, begin_code, whole_code}
use Rattle.bf_back.specs.Own.{own_code, own_cell, behind_code, onward_code, OwnTextsAreShort}

-- the way from one cell to another
abbrev way : ℕ → ℕ → ℕ
way h c = (c - h) + (h - c)

goto_long : (h c : ℕ) → length (goto_code h c) ≤ way h c
goto_long h c = omega (arith, length-append (many (c - h) Right) (many (h - c) Left), length-many (c - h) Right, length-many (h - c) Left)

clear_long : (h c : ℕ) → length (clear_code h c) ≤ way h c + 3
clear_long h c = omega (arith, goto_long h c, length-append (goto_code h c) (loop (Minus ∷ [])))

add_long : (h c v : ℕ) → length (add_code h c v) ≤ way h c + length (more_code v)
add_long h c v = omega (arith, goto_long h c, length-append (goto_code h c) (more_code v))

carry_long : (sign : Command) (h from to : ℕ) → length (carry_code sign h from to) ≤ way h from + 2 * way from to + 4
carry_long sign h from to = simp (length-append, length-many) (omega arith)

dup_long : (h from to spare : ℕ) → from ≤ spare → spare ≤ from + 3 → length (dup_code h from to spare) ≤ way h from + 2 * way from to + 24
dup_long h from to spare lo hi = simp (length-append, length-many) (omega arith)

dup_word_long : (h from to : ℕ) → length (dup_word_code h from to (from + 3)) ≤ way h from + 6 * way from to + 75
dup_word_long h from to =
    let s : ℕ = from + 3 in
    let a = dup_code h from to s in
    let b = dup_code s (from + 1) (to + 1) s in
    let c = dup_code s (from + 2) (to + 2) s in
    omega (arith, dup_long h from to s (omega arith) (omega arith), dup_long s (from + 1) (to + 1) s (omega arith) (omega arith), dup_long s (from + 2) (to + 2) s (omega arith) (omega arith), length-append (a ++ b) c, length-append a b)

clear_word_long : (h w : ℕ) → length (clear_word_code h w) ≤ way h w + 11
clear_word_long h w =
    let a = clear_code h w in
    let b = clear_code w (w + 1) in
    let c = clear_code (w + 1) (w + 2) in
    omega (arith, clear_long h w, clear_long w (w + 1), clear_long (w + 1) (w + 2), length-append (a ++ b) c, length-append a b)

set_long : (h w n : ℕ) → length (set_code h w n) ≤ way h w + 395
set_long h w n =
    let a = clear_code h w in
    let b = add_code w w (n % 256) in
    let c = clear_code w (w + 1) in
    let d = add_code (w + 1) (w + 1) (n / 256 % 256) in
    let e = clear_code (w + 1) (w + 2) in
    let f = add_code (w + 2) (w + 2) (n / 65536 % 256) in
    omega (
      arith,
      clear_long h w,
      add_long w w (n % 256),
      length_more (n % 256) (omega arith),
      clear_long w (w + 1),
      add_long (w + 1) (w + 1) (n / 256 % 256),
      length_more (n / 256 % 256) (omega arith),
      clear_long (w + 1) (w + 2),
      add_long (w + 2) (w + 2) (n / 65536 % 256),
      length_more (n / 65536 % 256) (omega arith),
      length-append (a ++ b ++ c ++ d ++ e) f,
      length-append (a ++ b ++ c ++ d) e,
      length-append (a ++ b ++ c) d,
      length-append (a ++ b) c,
      length-append a b,
    )

once_long : (h w : ℕ) → length (once_code h w) ≤ way h w + 110
once_long h w = let l : length lower_0 ≤ 110 = leb-true (length lower_0) 110 refl in omega (arith, l, goto_long h w, length-append (goto_code h w) lower_0)

-- registers and operands
reg_low : (x : Reg) → 50 ≤ cell_of x
reg_low x = let there = stands x in omega (arith, there.at)

reg_high : (x : Reg) → cell_of x ≤ 100
reg_high x = let there = stands x in omega (arith, there.few)

-- operations
mov_long : (x : Reg) (v : Operand) → length (mov_code 0 x v) ≤ 540
mov_long x (Imm w) = omega (arith, set_long 0 (cell_of x) (number_of w), reg_high x)
mov_long x (register y) =
    let d : length (copy_code 0 (cell_of x) (cell_of y)) ≤ 540 =
    omega (arith, clear_word_long 0 (cell_of x), dup_word_long (cell_of x + 2) (cell_of y) (cell_of x), reg_low x, reg_high x, reg_low y, reg_high y, length-append (clear_word_code 0 (cell_of x)) (dup_word_code (cell_of x + 2) (cell_of y) (cell_of x) (cell_of y + 3))) in
    elim (nat_eq (cell_of y) (cell_of x)) as (λ t. length (cond t [] (copy_code 0 (cell_of x) (cell_of y))) ≤ 540) [ true ↦ omega arith | false ↦ d ]

written_long : (c : ℕ) → length (write_code 0 c) ≤ c + 1
written_long c = simp (length-append, length-many) (omega arith)

read_long : (c : ℕ) → length (read_code (c + 2) c) ≤ 3
read_long c = simp (length-append, length-many) (omega arith)

putc_long : (v : Operand) → length (putc_code 0 v) ≤ 400
putc_long (register q) = omega (arith, written_long (cell_of q), reg_high q)
putc_long (Imm w) =
    let a = add_code 0 110 (number_of w % 256) in
    let b = write_code 110 110 in
    let e = clear_code 110 110 in
    let lb : length b ≤ 1 = leb-true (length (write_code 110 110)) 1 refl in
    let le : length e ≤ 3 = leb-true (length (clear_code 110 110)) 3 refl in
    omega (arith, add_long 0 110 (number_of w % 256), length_more (number_of w % 256) (omega arith), lb, le, length-append (a ++ b) e, length-append a b)

getc_long : (x : Reg) → length (getc_code 0 x) ≤ 400
getc_long x = let c : ℕ = cell_of x in omega (arith, clear_word_long 0 c, read_long c, reg_high x, length-append (clear_word_code 0 c) (read_code (c + 2) c))

op_long : (op : Op) → length (operation_code 0 op) ≤ 1000
op_long (Mov x v) = omega (arith, mov_long x v)
op_long (Add x v) = omega (arith, operations_short.sums x v)
op_long (Sub x v) = omega (arith, operations_short.differences x v)
op_long (Load x v) = omega (arith, operations_short.loads x v)
op_long (Store x v) = operations_short.stores x v
op_long (Putc v) = omega (arith, putc_long v)
op_long (Getc x) = omega (arith, getc_long x)
op_long (Set test x v) = omega (arith, operations_short.comparisons test x v)
op_long Exit = omega arith
op_long (Jump v) = omega arith
op_long (JumpIf test v x w) = omega arith

op_cell : (op : Op) → operation_cell 0 op ≤ 110
op_cell (Mov x (register y)) = elim (nat_eq (cell_of y) (cell_of x)) as (λ t. cond t 0 (cell_of y + 3) ≤ 110) [ true ↦ omega arith | false ↦ omega (arith, reg_high y) ]
op_cell (Mov x (Imm w)) = omega (arith, reg_high x)
op_cell (Add x v) = omega (arith, reg_high x)
op_cell (Sub x v) = omega (arith, reg_high x)
op_cell (Load x v) = omega arith
op_cell (Store x v) = omega arith
op_cell (Putc (register y)) = omega (arith, reg_high y)
op_cell (Putc (Imm w)) = omega arith
op_cell (Getc x) = omega (arith, reg_high x)
op_cell (Set test x v) = omega (arith, reg_high x)
op_cell Exit = omega arith
op_cell (Jump v) = omega arith
op_cell (JumpIf test v x w) = omega arith

-- digits
bit_long : (v : ℕ) → v ≤ 1 → length (more_code v) ≤ 1
bit_long zero le = omega arith
bit_long (suc zero) le = omega arith
bit_long (suc (suc v)) le = absurd (omega arith)

cell_within : (h d : ℕ) → digit_cell h d ≤ 3 * d + h
cell_within h zero = omega arith
cell_within h (suc d) = omega arith

aim_long : (h d n : ℕ) → length (aim_code h d n) ≤ 4 * d + h
aim_long h zero n = omega arith
aim_long h (suc zero) n =
    let b : ℕ = n / 2 ^ 0 % 2 in
    omega (arith, add_long h 3 b, bit_long b (omega arith))
aim_long h (suc (suc d)) n =
    let b : ℕ = n / 2 ^ suc d % 2 in
    omega (arith, aim_long h (suc d) n, add_long (3 * d + 3) (3 * suc d + 3) b, bit_long b (omega arith), length-append (aim_code h (suc d) n) (add_code (3 * d + 3) (3 * suc d + 3) b))

advance_long : (h d : ℕ) → length (advance_code h d) ≤ 11 * d + h
advance_long h zero = omega arith
advance_long h (suc zero) = omega (arith, carry_long Plus h 3 1)
advance_long h (suc (suc d)) =
    omega (arith, advance_long h (suc d), carry_long Plus (3 * d + 3) (3 * suc d + 3) (3 * suc d + 1), length-append (advance_code h (suc d)) (move_code (3 * d + 3) (3 * suc d + 3) (3 * suc d + 1)))

-- goals
number_long : (d n : ℕ) → length (toward_code d (Operation n)) ≤ 7 * d
number_long d n = omega (arith, aim_long 0 d n, goto_long (digit_cell 0 d) 0, cell_within 0 d, length-append (aim_code 0 d n) (goto_code (digit_cell 0 d) 0))

block_long : (d : ℕ) (x : Reg) → length (toward_code d (Block x)) ≤ 540
block_long d A = leb-true (length (toward_code d (Block A))) 540 refl
block_long d B = leb-true (length (toward_code d (Block B))) 540 refl
block_long d C = leb-true (length (toward_code d (Block C))) 540 refl
block_long d D = leb-true (length (toward_code d (Block D))) 540 refl
block_long d SP = leb-true (length (toward_code d (Block SP))) 540 refl
block_long d BP = leb-true (length (toward_code d (Block BP))) 540 refl

toward_long : (d : ℕ) (g : Goal) → d ≤ 14 → length (toward_code d g) ≤ 540
toward_long d (Operation n) few = omega (arith, number_long d n)
toward_long d (Block x) few = block_long d x

-- the text of an operation by itself, and the way on
goal_cell_below : (d : ℕ) (g : Goal) → d ≤ 14 → note_goal_cell 48 d g ≤ 110
goal_cell_below zero (Operation n) few = omega arith
goal_cell_below (suc d) (Operation n) few = omega (arith, few, note_few d (omega (arith, few)))
goal_cell_below d (Block x) few = omega (arith, mark_few x)

own_long : (d : ℕ) (ns : List ℕ) (op : Op) → d ≤ 14 → length (own_code d ns op) ≤ 1000
own_long d ns Exit few = omega (arith, toward_long d (Operation 0) few)
own_long d ns (Jump v) few = omega (arith, toward_long d (goal_of ns v) few)
own_long d ns (JumpIf test v x w) few = jumps_short test x w (goal_of ns v) d few
own_long d ns (Mov x v) few = op_long (Mov x v)
own_long d ns (Add x v) few = op_long (Add x v)
own_long d ns (Sub x v) few = op_long (Sub x v)
own_long d ns (Load x v) few = op_long (Load x v)
own_long d ns (Store x v) few = op_long (Store x v)
own_long d ns (Putc v) few = op_long (Putc v)
own_long d ns (Getc x) few = op_long (Getc x)
own_long d ns (Set test x v) few = op_long (Set test x v)

own_cell_below : (d : ℕ) (ns : List ℕ) (op : Op) → d ≤ 14 → own_cell d ns op ≤ 110
own_cell_below d ns Exit few = op_cell Exit
own_cell_below d ns (Jump v) few = op_cell (Jump v)
own_cell_below d ns (JumpIf test v x w) few = goal_cell_below d (goal_of ns v) few
own_cell_below d ns (Mov x v) few = op_cell (Mov x v)
own_cell_below d ns (Add x v) few = op_cell (Add x v)
own_cell_below d ns (Sub x v) few = op_cell (Sub x v)
own_cell_below d ns (Load x v) few = op_cell (Load x v)
own_cell_below d ns (Store x v) few = op_cell (Store x v)
own_cell_below d ns (Putc v) few = op_cell (Putc v)
own_cell_below d ns (Getc x) few = op_cell (Getc x)
own_cell_below d ns (Set test x v) few = op_cell (Set test x v)

behind_long : (h d next : ℕ) → length (behind_code h d next) ≤ 7 * d + h
behind_long h zero next = omega (arith, goto_long h 0)
behind_long h (suc d) next = omega (arith, aim_long h (suc d) next, goto_long (3 * d + 3) 0, length-append (aim_code h (suc d) next) (goto_code (3 * d + 3) 0))

onward_long : (d : ℕ) (ns : List ℕ) (next : ℕ) (op : Op) → length (onward_code d ns next op) ≤ 7 * d + own_cell d ns op
onward_long d ns next Exit = omega arith
onward_long d ns next (Jump v) = omega arith
onward_long d ns next (JumpIf test v x w) = behind_long (own_cell d ns (JumpIf test v x w)) d next
onward_long d ns next (Mov x v) = behind_long (own_cell d ns (Mov x v)) d next
onward_long d ns next (Add x v) = behind_long (own_cell d ns (Add x v)) d next
onward_long d ns next (Sub x v) = behind_long (own_cell d ns (Sub x v)) d next
onward_long d ns next (Load x v) = behind_long (own_cell d ns (Load x v)) d next
onward_long d ns next (Store x v) = behind_long (own_cell d ns (Store x v)) d next
onward_long d ns next (Putc v) = behind_long (own_cell d ns (Putc v)) d next
onward_long d ns next (Getc x) = behind_long (own_cell d ns (Getc x)) d next
onward_long d ns next (Set test x v) = behind_long (own_cell d ns (Set test x v)) d next

put_apart : (xs : List Command) (h d next : ℕ) → xs ++ aim_code h d next ++ goto_code (digit_cell h d) 0 ≡ xs ++ behind_code h d next
put_apart xs h d next = append_assoc xs (aim_code h d next) (goto_code (digit_cell h d) 0)

own_parts : (d : ℕ) (ns : List ℕ) (next : ℕ) (op : Op) → arm_code d ns next op ≡ own_code d ns op ++ onward_code d ns next op
own_parts d ns next Exit = sym (append-nil (toward_code d (Operation 0)))
own_parts d ns next (Jump v) = sym (append-nil (toward_code d (goal_of ns v)))
own_parts d ns next (JumpIf test v x w) = put_apart (own_code d ns (JumpIf test v x w)) (own_cell d ns (JumpIf test v x w)) d next
own_parts d ns next (Mov x v) = put_apart (operation_code 0 (Mov x v)) (operation_cell 0 (Mov x v)) d next
own_parts d ns next (Add x v) = put_apart (operation_code 0 (Add x v)) (operation_cell 0 (Add x v)) d next
own_parts d ns next (Sub x v) = put_apart (operation_code 0 (Sub x v)) (operation_cell 0 (Sub x v)) d next
own_parts d ns next (Load x v) = put_apart (operation_code 0 (Load x v)) (operation_cell 0 (Load x v)) d next
own_parts d ns next (Store x v) = put_apart (operation_code 0 (Store x v)) (operation_cell 0 (Store x v)) d next
own_parts d ns next (Putc v) = put_apart (operation_code 0 (Putc v)) (operation_cell 0 (Putc v)) d next
own_parts d ns next (Getc x) = put_apart (operation_code 0 (Getc x)) (operation_cell 0 (Getc x)) d next
own_parts d ns next (Set test x v) = put_apart (operation_code 0 (Set test x v)) (operation_cell 0 (Set test x v)) d next

pub own_short : OwnTextsAreShort
own_short d ns next op few = record { parts = own_parts d ns next op; short = own_long d ns op few }

-- pieces of operations
arm_long : (d : ℕ) (ns : List ℕ) (next : ℕ) (op : Op) → d ≤ 14 → length (arm_code d ns next op) ≤ 7 * d + 1110
arm_long d ns next op few =
    omega (arith, ap length (own_parts d ns next op), own_long d ns op few, own_cell_below d ns op few, onward_long d ns next op, length-append (own_code d ns op) (onward_code d ns next op))

arms_long : (d : ℕ) (ns : List ℕ) (last n : ℕ) (ops : List Op) → d ≤ 14 → weight (arms_code d ns last n ops) ≤ 1208 * length ops
arms_long d ns last n [] few = omega arith
arms_long d ns last n (op ∷ ops) few = omega (arith, few, arm_long d ns (following last n) op few, arms_long d ns last (n + 1) ops few)

arms_count : (d : ℕ) (ns : List ℕ) (last n : ℕ) (ops : List Op) → length (arms_code d ns last n ops) ≡ length ops
arms_count d ns last n [] = refl
arms_count d ns last n (op ∷ ops) = ap suc (arms_count d ns last (n + 1) ops)

-- one that asks for memory and one that branches are two
asks_some : (ops : List Op) → any_asks ops ≡ true → 1 ≤ length ops
asks_some [] e = cc
asks_some (op ∷ ops) e = omega arith

branches_some : (ops : List Op) → any_branches ops ≡ true → 1 ≤ length ops
branches_some [] e = cc
branches_some (op ∷ ops) e = omega arith

either_one : (op : Op) → cond (asks op) true false ≡ true → cond (is_branch op) true false ≡ true → ⊥
either_one (Mov x v) a b = cc
either_one (Add x v) a b = cc
either_one (Sub x v) a b = cc
either_one (Load x v) a b = cc
either_one (Store x v) a b = cc
either_one (Putc v) a b = cc
either_one (Getc x) a b = cc
either_one (Set test x v) a b = cc
either_one Exit a b = cc
either_one (Jump v) a b = cc
either_one (JumpIf test v x w) a b = cc

both_two : (ops : List Op) → any_asks ops ≡ true → any_branches ops ≡ true → 2 ≤ length ops
both_two [] a b = cc
both_two (op ∷ []) a b = absurd (either_one op a b)
both_two (op ∷ other ∷ ops) a b = omega arith

some_block : (blocks : List (List Op)) → 1 ≤ length (all_ops blocks) → 1 ≤ length blocks
some_block [] h = absurd (omega arith)
some_block (ops ∷ blocks) h = omega arith

-- the look-up
find_long : (d n : ℕ) → d ≤ 14 → length (find_code d n) ≤ 320
find_long d n few =
    let a = aim_code 123 d n in
    let b = goto_code (digit_cell 123 d) 123 in
    let body = a ++ b in
    let lg : length (goto_code 114 123) ≤ 9 = leb-true (length (goto_code 114 123)) 9 refl in
    let back : length b ≤ 123 = back_long d few in
    omega (arith, aim_long 123 d n, back, lg, length-append a b, length-append (goto_code 114 123) (loop (Minus ∷ body)), length-append (Minus ∷ body) (Close ∷ []))
  where
    back_long : (d : ℕ) → d ≤ 14 → length (goto_code (digit_cell 123 d) 123) ≤ 123
    back_long zero few = omega (arith, goto_long 123 123)
    back_long (suc d) few = omega (arith, goto_long (3 * d + 3) 123)

count_cell_is : (i : ℕ) → way (count_cell 44 i) 114 ≤ 70
count_cell_is zero = omega arith
count_cell_is (suc i) = omega arith

count_long : (d : ℕ) (ns : List ℕ) (i : ℕ) → d ≤ 14 → length (count_code 44 d ns i) ≤ 500 * i
count_long d ns zero few = omega arith
count_long d ns (suc i) few =
    let a = count_code 44 d ns i in
    let b = once_code (count_cell 44 i) 114 in
    let c = find_code d (slice_index ns i) in
    omega (arith, count_long d ns i few, once_long (count_cell 44 i) 114, count_cell_is i, find_long d (slice_index ns i) few, length-append (a ++ b) c, length-append a b)

look_long : (h d : ℕ) (ns : List ℕ) → h ≤ 88 → d ≤ 14 → length (look_code h d ns) ≤ 500 * length ns + 200
look_long h d ns lh few =
    let n : ℕ = length ns in
    let a = count_code 44 d ns n in
    let b = clear_word_code (count_cell 44 n) 114 in
    let c = goto_code 116 44 in
    let body = a ++ b ++ c in
    let lc : length c ≤ 72 = leb-true (length (goto_code 116 44)) 72 refl in
    omega (arith, count_long d ns n few, clear_word_long (count_cell 44 n) 114, count_cell_is n, lc, goto_long h 44, length-append (a ++ b) c, length-append a b, length-append (goto_code h 44) (loop (Minus ∷ body)), length-append (Minus ∷ body) (Close ∷ []))

-- the choice
tree_long : (p : Eir) → digits_in p ≤ 14 → length (tree_code (digits_in p) (all_code p)) ≤ 1208 * op_count p + 264 * (op_count p + digits_in p) + 265
tree_long p few =
    let d : ℕ = digits_in p in
    let ns : List ℕ = first_numbers 1 p.blocks in
    let ops : List Op = all_ops p.blocks in
    let all : List (List Command) = all_code p in
    let count : length (arms_code d ns (op_count p) 1 ops) ≡ length ops = arms_count d ns (op_count p) 1 ops in
    let many : length ops ≡ op_count p = length-flat_map (λ ops. ops) p.blocks in
    let room : length all ≤ 2 ^ d = omega (arith, count, many, (digit_count-digits (op_count p)).enough) in
    let end : length (add_code 0 0 255) ≤ 1 = leb-true (length (add_code 0 0 255)) 1 refl in
    omega (arith, few, count, many, end, short d all few room, arms_long d ns (op_count p) 1 ops few)

three_long : (a b c : List Command) → length (tree_code 2 (a ∷ b ∷ c ∷ [])) ≤ length a + length b + length c + 99
three_long a b c = simp length-append (omega arith)

two_long : (d : ℕ) (ns : List ℕ) (last : ℕ) (ops : List Op) → d ≡ 2 → length ops ≡ 2 → length (tree_code d (add_code 0 0 255 ∷ arms_code d ns last 1 ops)) ≤ 2348
two_long d ns last [] at two = absurd (omega (arith, two))
two_long d ns last (x ∷ []) at two = absurd (omega (arith, two))
two_long d ns last (x ∷ y ∷ z ∷ ops) at two = absurd (omega (arith, two))
two_long d ns last (x ∷ y ∷ []) at two =
    let a : List Command = add_code 0 0 255 in
    let end : length a ≤ 1 = leb-true (length (add_code 0 0 255)) 1 refl in
    subst (λ k. length (tree_code k (a ∷ arms_code k ns last 1 (x ∷ y ∷ []))) ≤ 2348) (sym at)
    (omega (arith, end, arm_long 2 ns (following last 1) x (omega arith), arm_long 2 ns (following last (1 + 1)) y (omega arith), three_long a (arm_code 2 ns (following last 1) x) (arm_code 2 ns (following last (1 + 1)) y)))

two_digits : digit_count 2 ≡ 2
unfolding digit_count
two_digits = refl

-- a turn
tail_long : (t : Bool) → length (tail_code 0 t) ≤ cond t 8400 0
tail_long true = leb-true (length (serve_code 0)) 8400 refl
tail_long false = omega arith

tail_near : (t : Bool) → tail_cell 0 t ≤ 88
tail_near true = omega arith
tail_near false = omega arith

decision_long : (d : ℕ) (b : Bool) → d ≤ 14 → length (decision_code 0 d b) ≤ cond b (4100 + 95 * d) 0
decision_long d true few = omega (arith, decide_short d few)
decision_long d false few = omega arith

decision_near : (b : Bool) → length (goto_code (decision_cell 0 b) 0) ≤ 48
decision_near true = leb-true (length (goto_code 48 0)) 48 refl
decision_near false = omega (arith, goto_long 0 0)

turn_long : (p : Eir) → digits_in p ≤ 14
    → length (turn_code p) ≤ length (tree_code (digits_in p) (all_code p)) + length (decision_code 0 (digits_in p) (branches p)) + length (tail_code 0 (accesses p)) + 500 * length p.blocks + 14 * digits_in p + 336
turn_long p few =
    let d : ℕ = digits_in p in
    let t : Bool = accesses p in
    let ns : List ℕ = first_numbers 1 p.blocks in
    let h : ℕ = tail_cell 0 t in
    let tree = tree_code d (all_code p) in
    let decision = decision_code 0 d (branches p) in
    let home = goto_code (decision_cell 0 (branches p)) 0 in
    let a = decided_code d (branches p) tree in
    let b = tail_code 0 t in
    let c = look_code h d ns in
    let e = advance_code 44 d in
    let f = goto_code (digit_cell 44 d) 0 in
    omega (
      arith,
      decision_near (branches p),
      look_long h d ns (tail_near t) few,
      first_count 1 p.blocks,
      advance_long 44 d,
      goto_long (digit_cell 44 d) 0,
      cell_within 44 d,
      length-append (tree ++ decision) home,
      length-append tree decision,
      length-append (a ++ b ++ c ++ e) f,
      length-append (a ++ b ++ c) e,
      length-append (a ++ b) c,
      length-append a b,
    )

-- what comes before the loop
words_long : (words : List Word) → length (words_code words) ≤ 451 * length words
words_long [] = omega arith
words_long (w ∷ words) =
    let a = set_code 0 16 (number_of w) in
    let b = shift_code 18 22 true in
    let lb : length b ≤ 40 = leb-true (length (shift_code 18 22 true)) 40 refl in
    omega (arith, set_long 0 16 (number_of w), lb, words_long words, length-append (a ++ b) (words_code words), length-append a b)

back_long : (n : ℕ) → length (back_code n) ≤ 22 * n
back_long zero = omega arith
back_long (suc n) = let l : length (shift_code 0 22 false) ≤ 22 = leb-true (length (shift_code 0 22 false)) 22 refl in omega (arith, l, back_long n, length-append (back_code n) (shift_code 0 22 false))

lay_long : (words : List Word) → length (lay_code 0 words) ≤ 473 * length words + 316
lay_long words =
    let a = goto_code 0 158 in
    let b = words_code words in
    let c = goto_code 0 0 in
    let e = back_code (length words) in
    let f = goto_code 158 0 in
    let la : length a ≤ 158 = leb-true (length (goto_code 0 158)) 158 refl in
    let lc : length c ≤ 0 = leb-true (length (goto_code 0 0)) 0 refl in
    let lf : length f ≤ 158 = leb-true (length (goto_code 158 0)) 158 refl in
    omega (arith, la, lc, lf, words_long words, back_long (length words), length-append (a ++ b ++ c ++ e ++ c) f, length-append (a ++ b ++ c ++ e) c, length-append (a ++ b ++ c) e, length-append (a ++ b) c, length-append a b)

start_long : (words : List Word) (d n : ℕ) → length (start_code 0 words d n) ≤ 473 * length words + 24 * d + 317
start_long words d n =
    let h : ℕ = digit_cell 0 d in
    let a = lay_code 0 words in
    let b = add_code 0 0 1 in
    let c = aim_code 0 d n in
    let e = advance_code h d in
    let f = goto_code (digit_cell h d) 0 in
    let lb : length b ≤ 1 = leb-true (length (add_code 0 0 1)) 1 refl in
    omega (arith, lay_long words, lb, aim_long 0 d n, cell_within 0 d, advance_long h d, cell_within h d, goto_long (digit_cell h d) 0, length-append (a ++ b ++ c ++ e) f, length-append (a ++ b ++ c) e, length-append (a ++ b) c, length-append a b)

-- the whole program
room_for : (t b : Bool) (whole words blocks ops tree decision tail d : ℕ) → (t ≡ true → 1 ≤ ops) → (b ≡ true → 1 ≤ ops) → (t ≡ true → b ≡ true → 2 ≤ ops) → (1 ≤ ops → 1 ≤ blocks) → d ≤ ops → tree ≤ 1208 * ops + 264 * (ops + d) + 265 → (ops ≡ 2 → tree ≤ 2348) → decision ≤ cond b (4100 + 95 * d) 0
    → tail ≤ cond t 8400 0 → whole ≤ 473 * words + 500 * blocks + tree + decision + tail + 38 * d + 655 → whole ≤ 4096 * (blocks + ops + words + 1)
room_for true true whole words blocks zero tree decision tail d asking deciding both block few light two decides served le = absurd (omega (arith, both refl refl))
room_for true true whole words blocks (suc zero) tree decision tail d asking deciding both block few light two decides served le = absurd (omega (arith, both refl refl))
room_for true true whole words blocks (suc (suc zero)) tree decision tail d asking deciding both block few light two decides served le =
    let a : 1 ≤ blocks = block (omega arith) in let small : tree ≤ 2348 = two refl in omega (arith, a, small)
room_for true true whole words blocks (suc (suc (suc ops))) tree decision tail d asking deciding both block few light two decides served le =
    let a : 1 ≤ blocks = block (omega arith) in omega (arith, a)
room_for true false whole words blocks ops tree decision tail d asking deciding both block few light two decides served le = let some : 1 ≤ ops = asking refl in let a : 1 ≤ blocks = block some in omega (arith, some, a)
room_for false true whole words blocks ops tree decision tail d asking deciding both block few light two decides served le = let some : 1 ≤ ops = deciding refl in let a : 1 ≤ blocks = block some in omega (arith, some, a)
room_for false false whole words blocks ops tree decision tail d asking deciding both block few light two decides served le = omega arith

pub whole_short : (p : Eir) → size_of p ≤ 2 ^ 14 → length (whole_code p) ≤ 4096 * (size_of p + 1)
whole_short p small =
    let d : ℕ = digits_in p in
    let n : ℕ = op_count p in
    let ops : List Op = all_ops p.blocks in
    let ns : List ℕ = first_numbers 1 p.blocks in
    let few : d ≤ 14 = digits_few p d n small refl refl in
    let tree = tree_code d (all_code p) in
    let body = turn_code p in
    let many : length ops ≡ n = length-flat_map (λ ops. ops) p.blocks in
    let none : length (goto_code 0 0) ≤ 0 = leb-true (length (goto_code 0 0)) 0 refl in
    let inner = goto_code 0 0 ++ body ++ goto_code 0 0 in
    let two : n ≡ 2 → length tree ≤ 2348 = λ is. two_long d ns n ops (ap digit_count is ∙ two_digits) (many ∙ is) in
    let all : length (whole_code p) ≤ 473 * length p.words + 500 * length p.blocks + length tree + length (decision_code 0 d (branches p)) + length (tail_code 0 (accesses p)) + 38 * d + 655 =
    omega (
      arith,
      none,
      turn_long p few,
      start_long p.words d (number_at p p.start 0),
      length-append (begin_code p) (while_code 0 0 body),
      length-append (goto_code 0 0) (loop inner),
      length-append inner (Close ∷ []),
      length-append (goto_code 0 0 ++ body) (goto_code 0 0),
      length-append (goto_code 0 0) body,
    ) in
    room_for (accesses p) (branches p) (length (whole_code p)) (length p.words) (length p.blocks) n (length tree) (length (decision_code 0 d (branches p))) (length (tail_code 0 (accesses p))) d (λ e. omega (arith, many, asks_some ops e)) (λ e. omega (arith, many, branches_some ops e))
    (λ e f. omega (arith, many, both_two ops e f)) (λ h. some_block p.blocks (omega (arith, many, h))) (digit_count-small n) (tree_long p few) two (decision_long d (branches p) few) (tail_long (accesses p)) all
