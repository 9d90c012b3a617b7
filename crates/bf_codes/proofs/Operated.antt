-- The exact commands of operations.
use Rattle.std.proofs.Common.{◌≡◌, ◌≢◌, ℕ, ◌+◌, ◌-◌, ◌*◌, ◌%◌, ◌^◌, ◌<◌, ◌≤◌, ◌⊎◌, inl, inr, Bool, true, false, nat_eq, nat_lt, cond, [], refl, sym, subst, arith}
use Rattle.std.proofs.lemmas.Bool.{eqb-true, eqb-false, ltb-true, ltb-false}
use Rattle.word24.specs.Word.{number_of}
use Rattle.eir_core.specs.declared.ops.Reg.{Reg}
use Rattle.eir_core.specs.declared.ops.Operand.{Operand}
use Rattle.eir_core.specs.declared.ops.Operand.TheVariants.{Reg as register, Imm}
use Rattle.eir_core.specs.declared.ops.Cond.{Cond}
use Rattle.eir_core.specs.declared.ops.Op.TheVariants.{Mov, Add, Sub, Load, Store, Putc, Getc, Set, Exit, Jump, JumpIf}
use Rattle.eir_core.specs.declared.ops.Reg.TheVariants.{A, B, C, D, SP, BP}
use Rattle.bf_lang.specs.Balance.{IsBalanced}
use Rattle.bf_tape.specs.Tape.{get, put}
use Rattle.bf_tape.specs.Code.{goto_code}
use Rattle.bf_tape.proofs.Added.{adds_times}
use Rattle.bf_word.specs.WordCode.{clear_word_code, move_word_code}
use Rattle.bf_memory.specs.MemoryCode.{load_code, store_code}
use Rattle.bf_memory.proofs.Bodies.{Link, link, link_then}
use Rattle.bf_tape.specs.Piece.{Piece, joined, Adds}
use Rattle.bf_word.specs.Word.{word_in, with_word, AreDistinct, IsOutside}
use Rattle.bf_ops.specs.declared.telling.Told.{Told}
use Rattle.bf_ops.specs.declared.telling.Told.TheVariants.{Same, Smaller, AtMost}
use Rattle.bf_ops.specs.Frame.{cell_of, before, value_in, bring_most, lowered, answered, is_otherwise, told_of, told, IsFrame, IsAside, IsVacant}
use Rattle.bf_ops.specs.OpsCode.{bring_code, bring_cell, copy_code, sum_code, take_code, difference_code, tell_code, answer_code, set_if_code, ask_load_code, ask_store_code, getc_code, putc_code, putc_cell, operation_code, operation_cell}
use Rattle.bf_ops.specs.Perform.{Performs}
use Rattle.bf_ops.proofs.Kept.{stands, distinct_cells}
use Rattle.bf_ops.proofs.Acts.{bring_register, bring_constant, aside_beyond, aside_before, add_adds, take_adds, sub_adds, copy_adds, ask_load, ask_store, getc_adds, put_constant_adds, link_loads, link_stores, moved_constant, moved_same, moved_copy, put_of_register, put_of_constant}
use Rattle.bf_ops.proofs.InPlace.{Answers, smaller_told, same_told as same_in_place, at_most_told, answer_same, answer_other, set_if_adds}
use Rattle.bf_ops.proofs.Performed.{performs_mov, performs_add, performs_sub, performs_load, performs_store, performs_putc, performs_getc, performs_set, performs_none}
use Rattle.bf_ops.specs.Ask.{flag_of, give_code, gives_code, serve_load_code, serve_store_code, Gives, GivesAny, ServesLoads, ServesStores}
use Rattle.bf_ops.proofs.Serving.{gives, gives_any, gives_beside, serves_loads, serves_stores, serves, serves_aside}
use Rattle.bf_codes.specs.Exact.{start, OperationsArePerformed, MemoryIsServed}
use Rattle.bf_codes.proofs.Parts.{made, goto_at, clear_at, add_at, move_at, drain_at, read_at, write_at}
use Rattle.bf_codes.proofs.Worded.{clear_word_at, dup_word_at, move_word_at, set_at, lift_at, lower_at, once_at}
use Rattle.bf_codes.proofs.Reaching.{load_at, store_at}

low : (x : Reg) → 50 ≤ cell_of x
low x = let at = stands x in omega (arith, at.at)

high : (x : Reg) → cell_of x ≤ 100
high x = let at = stands x in omega (arith, at.at, at.few)

-- operands brought to three cells
bring_at : (p : Piece) (v : Operand) (to : ℕ) → p.cell < 256 → IsAside to → to < 172 → Adds p (joined p (bring_code p.cell v to) (bring_cell v to)) (IsVacant to) (λ input s. with_word s to (value_in s v)) (bring_most v) (3 * 2 ^ 11)
bring_at p (register q) to lp beside hi =
    bring_register (register q) q (cell_of q) to refl refl (dup_word_at p (cell_of q) to (cell_of q + 3) lp (omega (arith, high q)) (omega arith) (omega (arith, high q)) (beside q).0 (inr (omega arith)) (beside q).1)
bring_at p (Imm w) to lp beside hi = bring_constant (Imm w) w to refl (set_at p to (number_of w) lp (omega arith))

bring_cell_few : (v : Operand) (to : ℕ) → to < 254 → bring_cell v to < 256
bring_cell_few (register q) to hi = omega (arith, high q)
bring_cell_few (Imm w) to hi = omega arith

-- operations that set a register
outside_of : (a b : ℕ) → AreDistinct a b → b ≢ a → a + 10 ≤ b ⊎ b + 10 ≤ a → IsOutside (a + 3) b
outside_of a b d e (inl h) = inl (omega arith)
outside_of a b d e (inr h) = inr (omega arith)

ten_apart : (x y : Reg) → cell_of y ≢ cell_of x → cell_of y + 10 ≤ cell_of x ⊎ cell_of x + 10 ≤ cell_of y
ten_apart x y e =
    let a = stands x in
    let b = stands y in
    elim (nat_lt (cell_of y) (cell_of x)) as (λ t. nat_lt (cell_of y) (cell_of x) ≡ t → cell_of y + 10 ≤ cell_of x ⊎ cell_of x + 10 ≤ cell_of y) [
      | true ↦ λ t. let lt : cell_of y < cell_of x = ltb-true (cell_of y) (cell_of x) t in inl (omega (arith, a.at, b.at))
      | false ↦ λ t. let le : cell_of x ≤ cell_of y = ltb-false (cell_of y) (cell_of x) t in inr (omega (arith, a.at, b.at))
    ] refl

mov_from : (x : Reg) (v : Operand) → Performs (start 0) (record { commands = operation_code 0 (Mov x v); cell = operation_cell 0 (Mov x v) }) (Mov x v)
mov_from x (Imm w) = performs_mov (Mov x (Imm w)) x (Imm w) refl (moved_constant x (Imm w) w (cell_of x) refl refl (set_at (start 0) (cell_of x) (number_of w) (omega arith) (omega (arith, high x))))
mov_from x (register y) = elim (nat_eq (cell_of y) (cell_of x)) as (λ t. nat_eq (cell_of y) (cell_of x) ≡ t
    → Performs (start 0) (record { commands = cond t [] (copy_code 0 (cell_of x) (cell_of y)); cell = cond t 0 (cell_of y + 3) }) (Mov x (register y))) [
      | true ↦ λ t. performs_mov (Mov x (register y)) x (register y) refl (moved_same (start 0) x y (register y) (cell_of x) (cell_of y) refl refl refl (eqb-true (cell_of y) (cell_of x) t))
      | false ↦ λ t.
          let other : cell_of y ≢ cell_of x = eqb-false (cell_of y) (cell_of x) t in
          let a = distinct_cells (cell_of y) (cell_of x) (stands y) (stands x) other in
          let b = distinct_cells (cell_of x) (cell_of y) (stands x) (stands y) (λ e. other (sym e)) in
          let out = outside_of (cell_of y) (cell_of x) a (λ e. other (sym e)) (ten_apart x y other) in
          performs_mov (Mov x (register y)) x (register y) refl
          (moved_copy x y (register y) (cell_of x) (cell_of y) refl refl refl
          (copy_adds (cell_of x) (cell_of y) a b out (clear_word_at (start 0) (cell_of x) (omega arith) (omega (arith, high x)))
          (dup_word_at _ (cell_of y) (cell_of x) (cell_of y + 3) (omega (arith, high x)) (omega (arith, high y)) (omega (arith, high x)) (omega (arith, high y)) a (inr (omega arith)) out)))
    ] refl

before_few : (x : Reg) → before x ≤ 97
before_few x = omega (arith, high x)

add_from : (x : Reg) (v : Operand) → Performs (start 0) (record { commands = sum_code 0 x v; cell = before x + 2 }) (Add x v)
add_from x v =
    let few = before_few x in
    performs_add (Add x v) x v refl
    (add_adds x v (cell_of x) refl (bring_at (start 0) v (before x) (omega arith) (aside_before x) (omega (arith, few)))
    (lift_at _ (cell_of x) (before x) (bring_cell_few v (before x) (omega (arith, few))) (omega (arith, high x)) (omega (arith, few)) (inl (omega (arith, low x)))))

take_from : (x : Reg) (v : Operand) → Adds (start 0) (record { commands = take_code 0 x v; cell = before x + 2 }) IsFrame (λ input s. lowered s x (value_in s v)) (2 ^ 22) (3 * 2 ^ 12)
take_from x v =
    let few = before_few x in
    take_adds x v (cell_of x) refl (bring_at (start 0) v (before x) (omega arith) (aside_before x) (omega (arith, few)))
    (lower_at _ (cell_of x) (before x) (bring_cell_few v (before x) (omega (arith, few))) (omega (arith, high x)) (omega (arith, few)) (inl (omega (arith, low x))))

less_from : (x : Reg) (v : Operand) → Adds (start 0) (record { commands = difference_code 0 x v; cell = cell_of x + 9 }) IsFrame (λ input s. with_word s (cell_of x) ((word_in s (cell_of x) + (2 ^ 24 - value_in s v)) % 2 ^ 24)) (2 ^ 23) (2 ^ 14)
less_from x v = let few = before_few x in sub_adds x v (cell_of x) refl (take_from x v) (clear_at _ (cell_of x + 9) (omega (arith, few)) (omega (arith, high x)))

sub_from : (x : Reg) (v : Operand) → Performs (start 0) (record { commands = difference_code 0 x v; cell = cell_of x + 9 }) (Sub x v)
sub_from x v = performs_sub (Sub x v) x v refl (less_from x v)

-- memory, input and output
load_from : (x : Reg) (v : Operand) → Performs (start 0) (record { commands = ask_load_code 0 x v; cell = 46 }) (Load x v)
load_from x v =
    performs_load (Load x v) x v refl
    (ask_load x v (cell_of x) refl (bring_at (start 0) v 107 (omega arith) (aside_beyond 107 (omega arith)) (omega arith)) (add_at _ (cell_of x + 6) 1 (bring_cell_few v 107 (omega arith)) (omega (arith, high x)) (omega arith)) (add_at _ 46 1 (omega (arith, high x)) (omega arith) (omega arith)))

store_from : (x : Reg) (v : Operand) → Performs (start 0) (record { commands = ask_store_code 0 x v; cell = 47 }) (Store x v)
store_from x v =
    performs_store (Store x v) x v refl
    (ask_store {p = start 0} x v (cell_of x) refl (omega arith) refl (bring_at (start 0) v 107 (omega arith) (aside_beyond 107 (omega arith)) (omega arith)) refl (add_at _ 47 1 (omega (arith, high x)) (omega arith) (omega arith)))

-- what is asked, served
balanced_by : {q : Piece} {h long : ℕ} → Link (start h) q long → IsBalanced q.commands
balanced_by l = subst IsBalanced (sym l.commands) l.balanced

give_from : (p : Piece) (x : Reg) → p.cell < 256 → Gives p (joined p (give_code p.cell x) (flag_of x)) x
give_from p x lp =
    let w : ℕ = cell_of x in
    let b1 : Piece = record { commands = clear_word_code (w + 6) w; cell = w + 2 } in
    let b2 : Piece = joined b1 (move_word_code (w + 2) 107 w) 109 in
    let b3 : Piece = joined b2 (goto_code 109 (w + 6)) (w + 6) in
    let clear = clear_word_at (start (w + 6)) w (omega (arith, high x)) (omega (arith, high x)) in
    let move = move_word_at b1 107 w (omega (arith, high x)) (omega arith) (omega (arith, high x)) (inr (omega (arith, high x))) in
    let back = goto_at b2 (w + 6) (omega arith) (omega (arith, high x)) in
    gives {b0 = start (w + 6)} {b1 = b1} {b2 = b2} {b3 = b3} x w refl
    (record { from = refl; clear = clear; move = move; back = back; home = refl; times = adds_times p b3 (w + 6) lp (omega (arith, high x)) (balanced_by (link_then (link_then (link clear) (link move)) (link back))); ends = refl })

flag_few : (x : Reg) → flag_of x < 256
flag_few x = omega (arith, high x)

gives_from : (p : Piece) → p.cell < 256 → GivesAny p (joined p (gives_code p.cell) (flag_of BP))
gives_from p lp =
    let q : Piece = start p.cell in
    let p1 : Piece = joined q (give_code p.cell A) (flag_of A) in
    let p2 : Piece = joined p1 (give_code (flag_of A) B) (flag_of B) in
    let p3 : Piece = joined p2 (give_code (flag_of B) C) (flag_of C) in
    let p4 : Piece = joined p3 (give_code (flag_of C) D) (flag_of D) in
    let p5 : Piece = joined p4 (give_code (flag_of D) SP) (flag_of SP) in
    gives_beside p
    (gives_any {p0 = q} {p1 = p1} {p2 = p2} {p3 = p3} {p4 = p4} {p5 = p5} {p6 = joined p5 (give_code (flag_of SP) BP) (flag_of BP)} (give_from q A lp) (give_from p1 B (flag_few A)) (give_from p2 C (flag_few B)) (give_from p3 D (flag_few C)) (give_from p4 SP (flag_few D)) (give_from p5 BP (flag_few SP)))

serve_load_from : (p : Piece) → p.cell < 256 → ServesLoads p (joined p (serve_load_code p.cell) 46)
serve_load_from p lp =
    let b1 : Piece = record { commands = load_code 46 107 107; cell = 148 } in
    let b2 : Piece = joined b1 (gives_code 148) (flag_of BP) in
    let b3 : Piece = joined b2 (goto_code (flag_of BP) 46) 46 in
    let load = load_at (start 46) 107 107 (omega arith) (omega arith) (omega arith) in
    let give = gives_from b1 (omega arith) in
    let given : Link b1 b2 (2 ^ 16) = record { added = give.added; commands = give.commands; short = give.short; balanced = give.balanced } in
    let back = goto_at b2 46 (omega arith) (omega arith) in
    serves_loads {b0 = start 46} {b1 = b1} {b2 = b2} {b3 = b3} refl load give back refl
    (adds_times p b3 46 lp (omega arith) (balanced_by (link_then (link_then (link_loads load) given) (link back)))) refl

serve_store_from : (p : Piece) → p.cell < 256 → ServesStores p (joined p (serve_store_code p.cell) 47)
serve_store_from p lp =
    let b1 : Piece = record { commands = store_code 47 107 87; cell = 151 } in
    let b2 : Piece = joined b1 (clear_word_code 151 107) 109 in
    let b3 : Piece = joined b2 (clear_word_code 109 87) 89 in
    let b4 : Piece = joined b3 (goto_code 89 47) 47 in
    let store = store_at (start 47) 107 87 (omega arith) (omega arith) (omega arith) in
    let clear = clear_word_at b1 107 (omega arith) (omega arith) in
    let clear' = clear_word_at b2 87 (omega arith) (omega arith) in
    let back = goto_at b3 47 (omega arith) (omega arith) in
    serves_stores {b0 = start 47} {b1 = b1} {b2 = b2} {b3 = b3} {b4 = b4} refl store clear clear' back refl
    (adds_times p b4 47 lp (omega arith)
    (balanced_by (link_then (link_then (link_then (link_stores store) (link clear)) (link clear')) (link back)))) refl

pub serve_from : MemoryIsServed
serve_from p lp =
    let q : Piece = start p.cell in
    let p1 : Piece = joined q (serve_load_code p.cell) 46 in
    serves_aside p q (joined p1 (serve_store_code 46) 47) refl (serves (serve_load_from q lp) (serve_store_from p1 (omega arith)))

putc_from : (v : Operand) → Performs (start 0) (record { commands = putc_code 0 v; cell = putc_cell v }) (Putc v)
putc_from (register q) = performs_putc (Putc (register q)) (register q) refl (put_of_register (register q) q (cell_of q) refl refl (write_at (start 0) (cell_of q) (omega arith) (omega (arith, high q))))
putc_from (Imm w) =
    performs_putc (Putc (Imm w)) (Imm w) refl
    (put_of_constant (Imm w) w refl (put_constant_adds (number_of w) (number_of w % 256) refl (add_at (start 0) 110 (number_of w % 256) (omega arith) (omega arith) (omega arith)) (write_at _ 110 (omega arith) (omega arith)) (clear_at _ 110 (omega arith) (omega arith))))

getc_from : (x : Reg) → Performs (start 0) (record { commands = getc_code 0 x; cell = cell_of x }) (Getc x)
getc_from x = performs_getc (Getc x) x refl (getc_adds x (cell_of x) refl (clear_word_at (start 0) (cell_of x) (omega arith) (omega (arith, high x))) (read_at _ (cell_of x) (omega (arith, high x)) (omega (arith, high x))))

-- comparisons told in place
tell_from : (m : Told) (x : Reg) (v : Operand) → Adds (start 0) (record { commands = tell_code 0 m x v; cell = cell_of x + 9 }) IsFrame (λ input s. answered s x (told m (word_in s (cell_of x)) (value_in s v))) (3 * 2 ^ 22) (2 ^ 15)
tell_from Same x v =
    same_in_place x v (cell_of x) refl (less_from x v) (once_at _ (cell_of x) (omega (arith, high x)) (omega (arith, high x))) (clear_word_at _ (cell_of x) (omega (arith, high x)) (omega (arith, high x)))
    (move_at _ (cell_of x + 9) (cell_of x - 1) (omega (arith, high x)) (omega (arith, high x)) (omega (arith, high x)) (omega arith))
tell_from Smaller x v =
    smaller_told x v (cell_of x) refl (take_from x v) (clear_word_at _ (cell_of x) (omega (arith, high x)) (omega (arith, high x)))
    (move_at _ (cell_of x + 9) (cell_of x - 1) (omega (arith, high x)) (omega (arith, high x)) (omega (arith, high x)) (omega arith))
tell_from AtMost x v =
    at_most_told x v (cell_of x) refl (take_from x v) (move_at _ (cell_of x + 9) (cell_of x - 1) (omega (arith, high x)) (omega (arith, high x)) (omega (arith, high x)) (omega arith))
    (once_at _ (cell_of x) (omega (arith, high x)) (omega (arith, high x))) (clear_word_at _ (cell_of x) (omega (arith, high x)) (omega (arith, high x)))
    (move_at _ (cell_of x + 9) (cell_of x - 1) (omega (arith, high x)) (omega (arith, high x)) (omega (arith, high x)) (omega arith))

answer_at : (p : Piece) (otherwise : Bool) (x : Reg) → p.cell < 256
    → Adds p (joined p (answer_code p.cell otherwise x) (cell_of x - 1)) (Answers x) (λ input s. put (put s (cell_of x) (cond otherwise (1 - get s (cell_of x - 1)) (get s (cell_of x - 1)))) (cell_of x - 1) 0) (2 ^ 19) (2 ^ 11)
answer_at p true x lp =
    made p (answer_other x (cell_of x) refl (add_at (start p.cell) (cell_of x) 1 lp (omega (arith, high x)) (omega arith)) (drain_at _ (cell_of x - 1) (cell_of x) (omega (arith, high x)) (omega (arith, high x)) (omega (arith, high x)) (omega (arith, low x))))
answer_at p false x lp = answer_same x (cell_of x) refl (move_at p (cell_of x - 1) (cell_of x) lp (omega (arith, high x)) (omega (arith, high x)) (omega (arith, low x)))

set_from : (test : Cond) (x : Reg) (v : Operand) → Performs (start 0) (record { commands = set_if_code 0 test x v; cell = cell_of x - 1 }) (Set test x v)
set_from test x v = performs_set (Set test x v) test x v refl (set_if_adds test x v (told_of test) (is_otherwise test) refl refl (tell_from (told_of test) x v) (answer_at _ (is_otherwise test) x (omega (arith, high x))))

pub performs : OperationsArePerformed
performs (Mov x v) = mov_from x v
performs (Add x v) = add_from x v
performs (Sub x v) = sub_from x v
performs (Load x v) = load_from x v
performs (Store x v) = store_from x v
performs (Putc v) = putc_from v
performs (Getc x) = getc_from x
performs (Set test x v) = set_from test x v
performs Exit = performs_none (start 0) Exit Exit refl (λ r m byte. refl) (λ r m. refl) refl (λ r. refl) (λ r. refl) refl
performs (Jump v) = performs_none (start 0) (Jump v) (Jump v) refl (λ r m byte. refl) (λ r m. refl) refl (λ r. refl) (λ r. refl) refl
performs (JumpIf test v x w) = performs_none (start 0) (JumpIf test v x w) (JumpIf test v x w) refl (λ r m byte. refl) (λ r m. refl) refl (λ r. refl) (λ r. refl) refl
