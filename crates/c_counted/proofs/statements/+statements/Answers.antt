use Rattle.std.proofs.Common.{◌≡◌, ◌<◌, ◌≤◌, ◌+◌, List, map, drop, get_or, length, refl, sym, ap, subst}
use Rattle.std.proofs.lemmas.List.{drop_all}
use Rattle.c_syntax.specs.Plain.{CStmt, stmts, parts}
use Rattle.c_syntax.specs.View.{expr_of, maybe, stmt_of, part_of}
use Rattle.c_syntax.specs.declared.tree.Stmt.{Stmt}
use Rattle.c_syntax.specs.declared.tree.Part.{Part}
use Rattle.c_lowered.specs.Counts.{expr_jumps, maybe_jumps, maybe_truth_jumps, case_jumps, stmt_jumps, stmts_jumps, part_jumps, parts_jumps}
use Rattle.c_counted.specs.Numbers.{IsNumber}
use Rattle.c_counted.specs.Rows.{stmts_of, parts_of}
use Rattle.c_counted.proofs.GoingLemmas.{begun, goes_on, done}
use Rattle.c_counted.proofs.RowLemmas.{drop_at, block_made, switch_made}
use Rattle.c_counted.proofs.statements.+statements.Goals as goal

pub statement_jumps_of-returns-in-Block : goal.statement_jumps_of-returns-in-Block
statement_jumps_of-returns-in-Block t c =
    let r = c.statements_jumps_of.result in
    subst (λ (x : Stmt). IsNumber r (stmt_jumps (stmt_of x))) (sym c.in-Block.is) (subst (λ (x : CStmt). IsNumber r (stmt_jumps x)) (sym (block_made c.in-Block.all)) c.statements_jumps_of.ensures)

pub statement_jumps_of-returns-in-Switch : goal.statement_jumps_of-returns-in-Switch
statement_jumps_of-returns-in-Switch t c =
    let r = c.switched.result in
    subst (λ (x : Stmt). IsNumber r (stmt_jumps (stmt_of x))) (sym c.in-Switch.is) (subst (λ (x : CStmt). IsNumber r (stmt_jumps x)) (sym (switch_made c.in-Switch.e c.in-Switch.parts)) c.switched.ensures)

pub statements_jumps_of-loop-statement-init : goal.statements_jumps_of-loop-statement-init
statements_jumps_of-loop-statement-init t c =
    let all = c.args.all.now in
    begun (stmts_jumps (stmts_of all)) (stmts_jumps (stmts_of all)) refl

pub statements_jumps_of-loop-statement-preserved : goal.statements_jumps_of-loop-statement-preserved
statements_jumps_of-loop-statement-preserved t c =
    let items = c.args.all.now.items.items in
    let i = c.loop-statement.statement-index in
    let x = c.statement-item.result in
    let within : i < length items = subst (λ (l : List Stmt). i < length l) c.deref-statement-items.ensures.value c.loop-statement-test.true in
    let next : x ≡ get_or items i x = subst (λ (l : List Stmt). x ≡ get_or l i x) c.deref-statement-items.ensures.value c.statement-item.is in
    goes_on c.loop-statement.sum c.statement_jumps_of.result c.plus-sum.result (stmts_jumps (stmts (map stmt_of (drop i items)))) (stmt_jumps (stmt_of x)) (stmts_jumps (stmts (map stmt_of (drop (i + 1) items)))) (stmts_jumps (stmts_of c.args.all.now))
    c.loop-statement.invariant c.statement_jumps_of.ensures c.plus-sum.ensures (ap (λ (l : List Stmt). stmts_jumps (stmts (map stmt_of l))) (drop_at items i x within next))

pub statements_jumps_of-returns : goal.statements_jumps_of-returns
statements_jumps_of-returns t c =
    let items = c.args.all.now.items.items in
    let i = c.loop-statement.statement-index in
    let past : length items ≤ i = subst (λ (l : List Stmt). length l ≤ i) c.deref-statement-items.ensures.value c.loop-statement-test.false in
    done c.loop-statement.sum (stmts_jumps (stmts (map stmt_of (drop i items)))) (stmts_jumps (stmts_of c.args.all.now)) c.loop-statement.invariant (ap (λ (l : List Stmt). stmts_jumps (stmts (map stmt_of l))) (drop_all i items past))

pub parts_jumps_of-loop-part-init : goal.parts_jumps_of-loop-part-init
parts_jumps_of-loop-part-init t c =
    let all = c.args.all.now in
    begun (parts_jumps (parts_of all)) (parts_jumps (parts_of all)) refl

pub parts_jumps_of-loop-part-preserved : goal.parts_jumps_of-loop-part-preserved
parts_jumps_of-loop-part-preserved t c =
    let items = c.args.all.now.items.items in
    let i = c.loop-part.part-index in
    let x = c.part-item.result in
    let within : i < length items = subst (λ (l : List Part). i < length l) c.deref-part-items.ensures.value c.loop-part-test.true in
    let next : x ≡ get_or items i x = subst (λ (l : List Part). x ≡ get_or l i x) c.deref-part-items.ensures.value c.part-item.is in
    goes_on c.loop-part.sum c.part_jumps_of.result c.plus-sum.result (parts_jumps (parts (map part_of (drop i items)))) (part_jumps (part_of x)) (parts_jumps (parts (map part_of (drop (i + 1) items)))) (parts_jumps (parts_of c.args.all.now))
    c.loop-part.invariant c.part_jumps_of.ensures c.plus-sum.ensures (ap (λ (l : List Part). parts_jumps (parts (map part_of l))) (drop_at items i x within next))

pub parts_jumps_of-returns : goal.parts_jumps_of-returns
parts_jumps_of-returns t c =
    let items = c.args.all.now.items.items in
    let i = c.loop-part.part-index in
    let past : length items ≤ i = subst (λ (l : List Part). length l ≤ i) c.deref-part-items.ensures.value c.loop-part-test.false in
    done c.loop-part.sum (parts_jumps (parts (map part_of (drop i items)))) (parts_jumps (parts_of c.args.all.now)) c.loop-part.invariant (ap (λ (l : List Part). parts_jumps (parts (map part_of l))) (drop_all i items past))

pub looped-returns : goal.looped-returns
looped-returns t c =
    let a = stmt_jumps (stmt_of c.args.first.now) in
    let b = maybe_truth_jumps (maybe c.args.test.now) in
    let m = stmt_jumps (stmt_of c.args.t.now) in
    let n = maybe_jumps (maybe c.args.step.now) in
    let head = c.plus-head.ensures a b c.statement_jumps_of.ensures c.maybe_truth_jumps_of.ensures in
    let turn = c.plus-turn.ensures (a + b + m) n (c.plus.ensures (a + b) m head c.statement_jumps_of-2.ensures) c.maybe_jumps_of.ensures in
    c.plus-2.ensures (a + b + m + n) 3 turn (record { same = refl })

pub switched-returns : goal.switched-returns
switched-returns t c =
    let a = expr_jumps (expr_of c.args.e.now) in
    let b = case_jumps (parts_of c.args.parts.now) in
    let m = parts_jumps (parts_of c.args.parts.now) in
    let cases = c.plus-cases.ensures a b c.jumps_of.ensures c.case_jumps_of.ensures in
    c.plus-2.ensures (a + b + m) 2 (c.plus.ensures (a + b) m cases c.parts_jumps_of.ensures) (record { same = refl })
