use Rattle.std.proofs.Common.{◌≡◌, ◌<◌, ◌≤◌, ◌++◌, List, map, get_or, length, Option, refl, sym, ap, subst, ◌∙◌}
use Rattle.std.specs.Prelude.{OnOk}
use Rattle.c_syntax.specs.Plain as tree
use Rattle.c_syntax.specs.Plain.{CStmt, stmts, parts}
use Rattle.c_syntax.specs.View.{expr_of, maybe, stmt_of, part_of}
use Rattle.c_syntax.specs.declared.tree.Stmt.{Stmt}
use Rattle.c_syntax.specs.declared.tree.Stmt.TheVariants as stmt
use Rattle.c_syntax.specs.declared.tree.Part.{Part}
use Rattle.c_helpers.specs.Names.{names_in, maybe_names, stmt_names, stmts_names, part_names, parts_names}
use Rattle.c_tree_names.specs.Added.{Added}
use Rattle.c_tree_names.specs.Rows.{stmts_of, parts_of}
use Rattle.c_tree_names.proofs.AddedLemmas.{none_added, both_added, drop_at, more_added, all_added}
use Rattle.c_tree_names.proofs.RowLemmas.{block_made, switch_made}
use Rattle.c_tree_names.proofs.statements.+statements.Goals as goal

pub add_statement-returns-in-Empty : goal.add_statement-returns-in-Empty
add_statement-returns-in-Empty t c =
    let old = c.args.names.now.items in
    subst (λ (x : Stmt). Added old old (stmt_names (stmt_of x))) (sym c.in-Empty.is) (none_added old)

pub add_statement-returns-in-Break : goal.add_statement-returns-in-Break
add_statement-returns-in-Break t c =
    let old = c.args.names.now.items in
    subst (λ (x : Stmt). Added old old (stmt_names (stmt_of x))) (sym c.in-Break.is) (none_added old)

pub add_statement-returns-in-Continue : goal.add_statement-returns-in-Continue
add_statement-returns-in-Continue t c =
    let old = c.args.names.now.items in
    subst (λ (x : Stmt). Added old old (stmt_names (stmt_of x))) (sym c.in-Continue.is) (none_added old)

pub add_statement-returns-in-Block : goal.add_statement-returns-in-Block
add_statement-returns-in-Block t c =
    let all = λ (x : CStmt). OnOk c.add_statements.result (Added c.args.names.now.items c.add_statements.new.names.items (stmt_names x)) in
    subst (λ (x : Stmt). all (stmt_of x)) (sym c.in-Block.is) (subst all (sym (block_made c.in-Block.all)) c.add_statements.ensures)

pub add_statement-returns-in-Local : goal.add_statement-returns-in-Local
add_statement-returns-in-Local t c =
    let all = λ (x : CStmt). OnOk c.add_first.result (Added c.args.names.now.items c.add_first.new.names.items (stmt_names x)) in
    subst (λ (x : Stmt). all (stmt_of x)) (sym c.in-Local.is) c.add_first.ensures

pub add_statement-returns-in-Expr : goal.add_statement-returns-in-Expr
add_statement-returns-in-Expr t c =
    let all = λ (x : CStmt). OnOk c.add_expression.result (Added c.args.names.now.items c.add_expression.new.names.items (stmt_names x)) in
    subst (λ (x : Stmt). all (stmt_of x)) (sym c.in-Expr.is) c.add_expression.ensures

pub add_statement-returns-in-None : goal.add_statement-returns-in-None
add_statement-returns-in-None t c =
    let all = λ (x : CStmt). OnOk c.add_one.result (Added c.args.names.now.items c.add_one.new.names.items (stmt_names x)) in
    subst (λ (x : Stmt). all (stmt_of x)) (sym (c.in-If.is ∙ ap (λ (o : Option _). stmt.If c.in-If.e c.in-If.t o) c.in-None.is))
    (subst (λ (x : Stmt). all (tree.If (expr_of c.in-If.e) (stmt_of x))) c.deref.ensures c.add_one.ensures)

pub add_statement-returns-in-Some : goal.add_statement-returns-in-Some
add_statement-returns-in-Some t c =
    let all = λ (x : CStmt). OnOk c.add_both.result (Added c.args.names.now.items c.add_both.new.names.items (stmt_names x)) in
    subst (λ (x : Stmt). all (stmt_of x)) (sym (c.in-If.is ∙ ap (λ (o : Option _). stmt.If c.in-If.e c.in-If.t o) c.in-Some.is))
    (subst (λ (x : Stmt). all (tree.IfElse (expr_of c.in-If.e) (stmt_of x) (stmt_of c.in-Some.u.value))) c.deref-in-Some.ensures
    (subst (λ (x : Stmt). all (tree.IfElse (expr_of c.in-If.e) (stmt_of c.deref-in-Some.result.now) (stmt_of x))) c.deref-in-Some-2.ensures
    c.add_both.ensures))

pub add_statement-returns-in-While : goal.add_statement-returns-in-While
add_statement-returns-in-While t c =
    let all = λ (x : CStmt). OnOk c.add_one-in-While.result (Added c.args.names.now.items c.add_one-in-While.new.names.items (stmt_names x)) in
    subst (λ (x : Stmt). all (stmt_of x)) (sym c.in-While.is)
    (subst (λ (x : Stmt). all (tree.While (expr_of c.in-While.e) (stmt_of x))) c.deref-in-While.ensures c.add_one-in-While.ensures)

pub add_statement-returns-in-Do : goal.add_statement-returns-in-Do
add_statement-returns-in-Do t c =
    let all = λ (x : CStmt). OnOk c.add_do.result (Added c.args.names.now.items c.add_do.new.names.items (stmt_names x)) in
    subst (λ (x : Stmt). all (stmt_of x)) (sym c.in-Do.is)
    (subst (λ (x : Stmt). all (tree.Do (stmt_of x) (expr_of c.in-Do.e))) c.deref-in-Do.ensures c.add_do.ensures)

pub add_statement-returns-in-For : goal.add_statement-returns-in-For
add_statement-returns-in-For t c =
    let all = λ (x : CStmt). OnOk c.add_for.result (Added c.args.names.now.items c.add_for.new.names.items (stmt_names x)) in
    subst (λ (x : Stmt). all (stmt_of x)) (sym c.in-For.is)
    (subst (λ (x : Stmt). all (tree.For (stmt_of x) (maybe c.in-For.test) (maybe c.in-For.step) (stmt_of c.in-For.t.value))) c.deref-in-For.ensures
    (subst (λ (x : Stmt). all (tree.For (stmt_of c.deref-in-For.result.now) (maybe c.in-For.test) (maybe c.in-For.step) (stmt_of x))) c.deref-in-For-2.ensures
    c.add_for.ensures))

pub add_statement-returns-in-Return : goal.add_statement-returns-in-Return
add_statement-returns-in-Return t c =
    let all = λ (x : CStmt). OnOk c.add_maybe.result (Added c.args.names.now.items c.add_maybe.new.names.items (stmt_names x)) in
    subst (λ (x : Stmt). all (stmt_of x)) (sym c.in-Return.is) c.add_maybe.ensures

pub add_statement-returns-in-Switch : goal.add_statement-returns-in-Switch
add_statement-returns-in-Switch t c =
    let all = λ (x : CStmt). OnOk c.add_switch.result (Added c.args.names.now.items c.add_switch.new.names.items (stmt_names x)) in
    subst (λ (x : Stmt). all (stmt_of x)) (sym c.in-Switch.is) (subst all (sym (switch_made c.in-Switch.e c.in-Switch.parts)) c.add_switch.ensures)

pub add_one-returns : goal.add_one-returns
add_one-returns t c =
    both_added c.add_statement.result c.args.names.now.items c.add_expression.new.names.items c.add_statement.new.names.items (names_in (expr_of c.args.e.now)) (stmt_names (stmt_of c.args.t.now)) c.in_ok-add_expression.ensures c.add_statement.ensures

pub add_both-returns : goal.add_both-returns
add_both-returns t c =
    both_added c.add_pair.result c.args.names.now.items c.add_expression.new.names.items c.add_pair.new.names.items (names_in (expr_of c.args.e.now)) (stmt_names (stmt_of c.args.t.now) ++ stmt_names (stmt_of c.args.u.now)) c.in_ok-add_expression.ensures c.add_pair.ensures

pub add_pair-returns : goal.add_pair-returns
add_pair-returns t c =
    both_added c.add_statement-2.result c.args.names.now.items c.add_statement.new.names.items c.add_statement-2.new.names.items (stmt_names (stmt_of c.args.t.now)) (stmt_names (stmt_of c.args.u.now)) c.in_ok-add_statement.ensures c.add_statement-2.ensures

pub add_do-returns : goal.add_do-returns
add_do-returns t c =
    both_added c.add_expression.result c.args.names.now.items c.add_statement.new.names.items c.add_expression.new.names.items (stmt_names (stmt_of c.args.t.now)) (names_in (expr_of c.args.e.now)) c.in_ok-add_statement.ensures c.add_expression.ensures

pub add_for-returns : goal.add_for-returns
add_for-returns t c =
    both_added c.add_rest.result c.args.names.now.items c.add_statement.new.names.items c.add_rest.new.names.items (stmt_names (stmt_of c.args.first.now)) (maybe_names (maybe c.args.test.now) ++ (maybe_names (maybe c.args.step.now) ++ stmt_names (stmt_of c.args.t.now))) c.in_ok-add_statement.ensures c.add_rest.ensures

pub add_rest-returns : goal.add_rest-returns
add_rest-returns t c =
    both_added c.add_turn.result c.args.names.now.items c.add_maybe.new.names.items c.add_turn.new.names.items (maybe_names (maybe c.args.test.now)) (maybe_names (maybe c.args.step.now) ++ stmt_names (stmt_of c.args.t.now)) c.in_ok-add_maybe.ensures c.add_turn.ensures

pub add_turn-returns : goal.add_turn-returns
add_turn-returns t c =
    both_added c.add_statement.result c.args.names.now.items c.add_maybe.new.names.items c.add_statement.new.names.items (maybe_names (maybe c.args.step.now)) (stmt_names (stmt_of c.args.t.now)) c.in_ok-add_maybe.ensures c.add_statement.ensures

pub add_switch-returns : goal.add_switch-returns
add_switch-returns t c =
    both_added c.add_parts.result c.args.names.now.items c.add_expression.new.names.items c.add_parts.new.names.items (names_in (expr_of c.args.e.now)) (parts_names (parts_of c.args.parts.now)) c.in_ok-add_expression.ensures c.add_parts.ensures

pub add_statements-loop-statement-init : goal.add_statements-loop-statement-init
add_statements-loop-statement-init t c =
    refl

pub add_statements-loop-statement-preserved : goal.add_statements-loop-statement-preserved
add_statements-loop-statement-preserved t c =
    let items = c.args.all.now.items.items in
    let i = c.loop-statement.statement-index in
    let x = c.statement-item.result in
    let within : i < length items = subst (λ (l : List Stmt). i < length l) c.deref-statement-items.ensures.value c.loop-statement-test.true in
    let next : x ≡ get_or items i x = subst (λ (l : List Stmt). x ≡ get_or l i x) c.deref-statement-items.ensures.value c.statement-item.is in
    more_added (λ (l : List Stmt). stmts_names (stmts (map stmt_of l))) (λ (y : Stmt). stmt_names (stmt_of y)) _ c.loop-statement.names.items c.add_statement.new.names.items items i x (λ y ys. refl) (drop_at items i x within next) c.in_ok-add_statement.ensures c.loop-statement.invariant

pub add_statements-returns : goal.add_statements-returns
add_statements-returns t c =
    let items = c.args.all.now.items.items in
    let i = c.loop-statement.statement-index in
    let past : length items ≤ i = subst (λ (l : List Stmt). length l ≤ i) c.deref-statement-items.ensures.value c.loop-statement-test.false in
    all_added (λ (l : List Stmt). stmts_names (stmts (map stmt_of l))) c.args.names.now.items c.loop-statement.names.items (stmts_names (stmts_of c.args.all.now)) items i past refl c.loop-statement.invariant

pub add_parts-loop-part-init : goal.add_parts-loop-part-init
add_parts-loop-part-init t c =
    refl

pub add_parts-loop-part-preserved : goal.add_parts-loop-part-preserved
add_parts-loop-part-preserved t c =
    let items = c.args.all.now.items.items in
    let i = c.loop-part.part-index in
    let x = c.part-item.result in
    let within : i < length items = subst (λ (l : List Part). i < length l) c.deref-part-items.ensures.value c.loop-part-test.true in
    let next : x ≡ get_or items i x = subst (λ (l : List Part). x ≡ get_or l i x) c.deref-part-items.ensures.value c.part-item.is in
    more_added (λ (l : List Part). parts_names (parts (map part_of l))) (λ (y : Part). part_names (part_of y)) _ c.loop-part.names.items c.add_part.new.names.items items i x (λ y ys. refl) (drop_at items i x within next) c.in_ok-add_part.ensures c.loop-part.invariant

pub add_parts-returns : goal.add_parts-returns
add_parts-returns t c =
    let items = c.args.all.now.items.items in
    let i = c.loop-part.part-index in
    let past : length items ≤ i = subst (λ (l : List Part). length l ≤ i) c.deref-part-items.ensures.value c.loop-part-test.false in
    all_added (λ (l : List Part). parts_names (parts (map part_of l))) c.args.names.now.items c.loop-part.names.items (parts_names (parts_of c.args.all.now)) items i past refl c.loop-part.invariant

pub add_part-returns-in-Label : goal.add_part-returns-in-Label
add_part-returns-in-Label t c =
    subst (λ (x : Part). Added c.args.names.now.items c.args.names.now.items (part_names (part_of x))) (sym c.in-Label.is) (none_added c.args.names.now.items)

pub add_part-returns-in-Item : goal.add_part-returns-in-Item
add_part-returns-in-Item t c =
    subst (λ (x : Part). OnOk c.add_statement.result (Added c.args.names.now.items c.add_statement.new.names.items (part_names (part_of x)))) (sym c.in-Item.is) c.add_statement.ensures
