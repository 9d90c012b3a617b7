use Rattle.std.proofs.Common.{◌≡◌, ◌<◌, ◌≤◌, ◌+◌, ◌-◌, ℕ, List, [], ◌∷◌, map, drop, get_or, length, Option, Some, None, refl, sym, ap, subst, ◌∙◌, arith, rules}
use Rattle.std.specs.Prelude.{Result, Ok, Err, IfOk, false}
use Rattle.std.proofs.lemmas.Grind.{common_steps, elements}
use Rattle.std.proofs.lemmas.List.{drop_all}
use Rattle.c_syntax.specs.Plain as tree
use Rattle.c_syntax.specs.Plain.{CStmt, stmts, parts}
use Rattle.c_syntax.specs.View.{expr_of, maybe, decl_of, stmt_of, part_of}
use Rattle.c_syntax.specs.declared.tree.Stmt.{Stmt}
use Rattle.c_syntax.specs.declared.tree.Stmt.TheVariants as stmt
use Rattle.c_syntax.specs.declared.tree.Part.{Part}
use Rattle.c_syntax.specs.declared.tree.Part.TheFolds.{the_lemmas}
use Rattle.c_types.specs.Scope.{Scope, entered}
use Rattle.c_types.specs.Declarations.{declared, scope_or}
use Rattle.c_types.specs.Census.{Tally, expr_sum, maybe_sum, object_sum, stmt_sum, stmts_sum, part_sum, parts_sum, scope_behind, scope_behind_all, scope_behind_part}
use Rattle.c_declared.specs.Held.{HoldsSome}
use Rattle.c_declared.proofs.HeldLemmas.{holds_kept, held_kept}
use Rattle.c_expressions.proofs.GoingLemmas.{drop_at}
use Rattle.c_signatures.proofs.BlockLemmas.{inside_then, may_end}
use Rattle.c_weights.specs.Sums.{AreCounted}
use Rattle.c_weights.proofs.SumLemmas.{counted_first, counted_both}
use Rattle.c_census.specs.Sums.{stmts_of, parts_of, parts_behind, AreMoved}
use Rattle.c_census.proofs.MovedLemmas.{moved_still, still_ok, node_moved, moved_same, ok_moved, moved_first, moved_then, moved_some, block_some, block_moved, around_then, swapped, four}
use Rattle.c_census.proofs.GoingLemmas.{begun, goes_on, done}
use Rattle.c_census.proofs.TreeLemmas.{block_made, switch_made, scope_still, head_other}
use Rattle.c_census.proofs.statements.+statements.Goals as goal

pub count_statement-returns-in-Empty : goal.count_statement-returns-in-Empty
count_statement-returns-in-Empty t c =
    let old = c.args.types.now in
    let d = c.args.declared.now in
    let r = c.node.result in
    subst (λ (x : Stmt). AreMoved old old d d r (λ s k. stmt_sum k s (stmt_of x)) (λ s. scope_behind s (stmt_of x))) (sym c.in-Empty.is) (node_moved old d r c.node.ensures)

pub count_statement-returns-in-Break : goal.count_statement-returns-in-Break
count_statement-returns-in-Break t c =
    let old = c.args.types.now in
    let d = c.args.declared.now in
    let r = c.node-in-Break.result in
    subst (λ (x : Stmt). AreMoved old old d d r (λ s k. stmt_sum k s (stmt_of x)) (λ s. scope_behind s (stmt_of x))) (sym c.in-Break.is) (node_moved old d r c.node-in-Break.ensures)

pub count_statement-returns-in-Continue : goal.count_statement-returns-in-Continue
count_statement-returns-in-Continue t c =
    let old = c.args.types.now in
    let d = c.args.declared.now in
    let r = c.node-in-Continue.result in
    subst (λ (x : Stmt). AreMoved old old d d r (λ s k. stmt_sum k s (stmt_of x)) (λ s. scope_behind s (stmt_of x))) (sym c.in-Continue.is) (node_moved old d r c.node-in-Continue.ensures)

pub count_statement-returns-in-Expr : goal.count_statement-returns-in-Expr
count_statement-returns-in-Expr t c =
    let old = c.args.types.now in
    let d = c.args.declared.now in
    let q = c.count_effect.result in
    let new = c.count_effect.new.types in
    subst (λ (x : Stmt). IfOk q (λ r. AreMoved old new d d r (λ s k. stmt_sum k s (stmt_of x)) (λ s. scope_behind s (stmt_of x)))) (sym c.in-Expr.is)
    (still_ok old new d q (λ s k. k.node + expr_sum k s (expr_of c.in-Expr.e)) c.count_effect.ensures)

pub count_statement-returns-in-Return : goal.count_statement-returns-in-Return
count_statement-returns-in-Return t c =
    let old = c.args.types.now in
    let d = c.args.declared.now in
    let q = c.count_return.result in
    let new = c.count_return.new.types in
    subst (λ (x : Stmt). IfOk q (λ r. AreMoved old new d d r (λ s k. stmt_sum k s (stmt_of x)) (λ s. scope_behind s (stmt_of x)))) (sym c.in-Return.is)
    (still_ok old new d q (λ s k. k.node + maybe_sum k s (maybe c.in-Return.e)) c.count_return.ensures)

pub count_statement-returns-in-Local : goal.count_statement-returns-in-Local
count_statement-returns-in-Local t c =
    let old = c.args.types.now in
    let d = c.args.declared.now in
    let q = c.count_declared.result in
    subst (λ (x : Stmt). IfOk q (λ r. AreMoved old c.count_declared.new.types d c.count_declared.new.declared r (λ s k. stmt_sum k s (stmt_of x)) (λ s. scope_behind s (stmt_of x)))) (sym c.in-Local.is) c.count_declared.ensures

pub count_statement-returns-in-Block : goal.count_statement-returns-in-Block
count_statement-returns-in-Block t c =
    let old = c.args.types.now in
    let d = c.args.declared.now in
    let q = c.count_block.result in
    let all = λ (x : CStmt). IfOk q (λ r. AreMoved old c.count_block.new.types d c.count_block.new.declared r (λ s k. stmt_sum k s x) (λ s. scope_behind s x)) in
    subst (λ (x : Stmt). all (stmt_of x)) (sym c.in-Block.is) (subst all (sym (block_made c.in-Block.all)) c.count_block.ensures)

pub count_statement-returns-in-Switch : goal.count_statement-returns-in-Switch
count_statement-returns-in-Switch t c =
    let old = c.args.types.now in
    let d = c.args.declared.now in
    let q = c.count_switch.result in
    let all = λ (x : CStmt). IfOk q (λ r. AreMoved old c.count_switch.new.types d c.count_switch.new.declared r (λ s k. stmt_sum k s x) (λ s. scope_behind s x)) in
    subst (λ (x : Stmt). all (stmt_of x)) (sym c.in-Switch.is) (subst all (sym (switch_made c.in-Switch.e c.in-Switch.parts)) c.count_switch.ensures)

pub count_statement-returns-in-None : goal.count_statement-returns-in-None
count_statement-returns-in-None t c =
    let old = c.args.types.now in
    let d = c.args.declared.now in
    let q = c.count_one.result in
    let new = c.count_one.new.types in
    let e = c.count_one.new.declared in
    let all = λ (x : CStmt). IfOk q (λ r. AreMoved old new d e r (λ s k. stmt_sum k s x) (λ s. scope_behind s x)) in
    subst (λ (x : Stmt). all (stmt_of x)) (sym (c.in-If.is ∙ ap (λ (o : Option _). stmt.If c.in-If.e c.in-If.t o) c.in-None.is))
    (subst (λ (x : Stmt). all (tree.If (expr_of c.in-If.e) (stmt_of x))) c.deref.ensures
    c.count_one.ensures)

pub count_statement-returns-in-Some : goal.count_statement-returns-in-Some
count_statement-returns-in-Some t c =
    let old = c.args.types.now in
    let d = c.args.declared.now in
    let q = c.count_two.result in
    let new = c.count_two.new.types in
    let e = c.count_two.new.declared in
    let all = λ (x : CStmt). IfOk q (λ r. AreMoved old new d e r (λ s k. stmt_sum k s x) (λ s. scope_behind s x)) in
    subst (λ (x : Stmt). all (stmt_of x)) (sym (c.in-If.is ∙ ap (λ (o : Option _). stmt.If c.in-If.e c.in-If.t o) c.in-Some.is))
    (subst (λ (x : Stmt). all (tree.IfElse (expr_of c.in-If.e) (stmt_of x) (stmt_of c.in-Some.u.value))) c.deref-in-Some.ensures
    (subst (λ (x : Stmt). all (tree.IfElse (expr_of c.in-If.e) (stmt_of c.deref-in-Some.result.now) (stmt_of x))) c.deref-in-Some-2.ensures
    c.count_two.ensures))

pub count_statement-returns-in-While : goal.count_statement-returns-in-While
count_statement-returns-in-While t c =
    let old = c.args.types.now in
    let d = c.args.declared.now in
    let q = c.count_one-in-While.result in
    let new = c.count_one-in-While.new.types in
    let e = c.count_one-in-While.new.declared in
    let all = λ (x : CStmt). IfOk q (λ r. AreMoved old new d e r (λ s k. stmt_sum k s x) (λ s. scope_behind s x)) in
    subst (λ (x : Stmt). all (stmt_of x)) (sym c.in-While.is)
    (subst (λ (x : Stmt). all (tree.While (expr_of c.in-While.e) (stmt_of x))) c.deref-in-While.ensures
    c.count_one-in-While.ensures)

pub count_statement-returns-in-Do : goal.count_statement-returns-in-Do
count_statement-returns-in-Do t c =
    let old = c.args.types.now in
    let d = c.args.declared.now in
    let q = c.count_one-in-Do.result in
    let new = c.count_one-in-Do.new.types in
    let e = c.count_one-in-Do.new.declared in
    let all = λ (x : CStmt). IfOk q (λ r. AreMoved old new d e r (λ s k. stmt_sum k s x) (λ s. scope_behind s x)) in
    subst (λ (x : Stmt). all (stmt_of x)) (sym c.in-Do.is)
    (subst (λ (x : Stmt). all (tree.Do (stmt_of x) (expr_of c.in-Do.e))) c.deref-in-Do.ensures
    (ok_moved old new d e q (λ s k. k.node + expr_sum k s (expr_of c.in-Do.e) + stmt_sum k s (stmt_of c.deref-in-Do.result.now)) (λ s k. k.node + stmt_sum k s (stmt_of c.deref-in-Do.result.now) + expr_sum k s (expr_of c.in-Do.e)) (λ s. s) (λ s. s) (λ s k. swapped k.node (expr_sum k s (expr_of c.in-Do.e)) (stmt_sum k s (stmt_of c.deref-in-Do.result.now))) (λ s. refl) c.count_one-in-Do.ensures))

pub count_statement-returns-in-For : goal.count_statement-returns-in-For
count_statement-returns-in-For t c =
    let old = c.args.types.now in
    let d = c.args.declared.now in
    let q = c.count_for.result in
    let new = c.count_for.new.types in
    let e = c.count_for.new.declared in
    let all = λ (x : CStmt). IfOk q (λ r. AreMoved old new d e r (λ s k. stmt_sum k s x) (λ s. scope_behind s x)) in
    subst (λ (x : Stmt). all (stmt_of x)) (sym c.in-For.is)
    (subst (λ (x : Stmt). all (tree.For (stmt_of x) (maybe c.in-For.test) (maybe c.in-For.step) (stmt_of c.in-For.t.value))) c.deref-in-For.ensures
    (subst (λ (x : Stmt). all (tree.For (stmt_of c.deref-in-For.result.now) (maybe c.in-For.test) (maybe c.in-For.step) (stmt_of x))) c.deref-in-For-2.ensures
    c.count_for.ensures))

pub count_body-returns-in_ok-object-in-Local : goal.count_body-returns-in_ok-object-in-Local
count_body-returns-in_ok-object-in-Local t c =
    let old = c.args.types.now in
    let d = c.args.declared.now in
    let r = c.plus.result in
    let new = c.count_forgotten.new.types in
    let e = c.count_forgotten.new.declared in
    subst (λ (x : Stmt). AreMoved old new d e r (λ s k. stmt_sum k s (stmt_of x)) (λ s. s)) (sym c.in-Local.is)
    (moved_first old new d e c.node.result c.in_ok-object-in-Local.object r (λ s k. object_sum k s (decl_of c.in-Local.d)) (λ s. s) c.node.ensures c.in_ok-object-in-Local.ensures c.plus.ensures)

pub count_body-returns-in_default : goal.count_body-returns-in_default
count_body-returns-in_default t c =
    let old = c.args.types.now in
    let d = c.args.declared.now in
    let new = c.count_statement.new.types in
    let e = c.count_statement.new.declared in
    let x = c.args.statement.now in
    ok_moved old new d e c.count_statement.result (λ s k. stmt_sum k s (stmt_of x)) (λ s k. stmt_sum k s (stmt_of x)) (λ s. scope_behind s (stmt_of x)) (λ s. s) (λ s k. refl) (λ s. scope_still x s c.in_default.not-Local) c.count_statement.ensures

pub count_block-count_list-requires : goal.count_block-count_list-requires
count_block-count_list-requires t c =
    let old = c.args.types.now in
    let d = c.args.declared.now in
    (first_of (search (rules, the_lemmas), grind (the_lemmas, arith, common_steps), grind (the_lemmas, arith, elements)), block_some old d c.begin_block-mark.new.declared c.begin_block-mark.ensures.block c.begin_block-mark.ensures.inside c.requires)

pub count_block-end_block-requires : goal.count_block-end_block-requires
count_block-end_block-requires t c =
    let old = c.args.types.now in
    let d = c.args.declared.now in
    may_end d c.count_list.new.declared c.begin_block-mark.result (inside_then d c.begin_block-mark.new.declared c.count_list.new.declared c.begin_block-mark.ensures.inside c.in_ok-parts.ensures.around) c.begin_block-mark.ensures.mark

pub count_block-returns : goal.count_block-returns
count_block-returns t c =
    let old = c.args.types.now in
    let d = c.args.declared.now in
    let new = c.count_list.new.types in
    let d1 = c.begin_block-mark.new.declared in
    let d2 = c.count_list.new.declared in
    let e = c.end_block.new.declared in
    let b = c.begin_block-mark.ensures in
    let inside = inside_then d d1 d2 b.inside c.in_ok-parts.ensures.around in
    let n = λ (s : Scope) (k : Tally). stmts_sum k s (stmts_of c.args.all.now) in
    moved_first old new d e c.node.result c.in_ok-parts.parts c.plus.result (λ s k. n (entered s) k) (λ s. s) c.node.ensures
    (block_moved old new d d1 e c.in_ok-parts.parts n b.block b.inside c.in_ok-parts.ensures.counted (c.in_ok-end_block.ensures d inside b.mark)) c.plus.ensures

pub count_list-loop-statement-init : goal.count_list-loop-statement-init
count_list-loop-statement-init t c =
    let old = c.args.types.now in
    let d = c.args.declared.now in
    begun old d c.nothing-sum.result (λ s k. stmts_sum k s (stmts (map stmt_of c.args.all.now.items.items))) (λ s. scope_behind_all s (stmts (map stmt_of c.args.all.now.items.items))) c.nothing-sum.ensures

pub count_list-count_statement-requires : goal.count_list-count_statement-requires
count_list-count_statement-requires t c =
    let old = c.args.types.now in
    let d = c.args.declared.now in
    let g = c.loop-statement.invariant in
    (first_of (search (rules, the_lemmas), grind (the_lemmas, arith, common_steps), grind (the_lemmas, arith, elements)), moved_some old c.loop-statement.types d c.loop-statement.declared c.loop-statement.sum g.taken g.here g.are c.requires)

pub count_list-loop-statement-preserved : goal.count_list-loop-statement-preserved
count_list-loop-statement-preserved t c =
    let old = c.args.types.now in
    let d = c.args.declared.now in
    let items = c.args.all.now.items.items in
    let i = c.loop-statement.statement-index in
    let x = c.statement-item.result in
    let within : i < length items = subst (λ (l : List Stmt). i < length l) c.deref-statement-items.ensures.value c.loop-statement-test.true in
    let next : x ≡ get_or items i x = subst (λ (l : List Stmt). x ≡ get_or l i x) c.deref-statement-items.ensures.value c.statement-item.is in
    goes_on old c.loop-statement.types c.count_statement.new.types d c.loop-statement.declared c.count_statement.new.declared c.loop-statement.sum c.in_ok-next.next c.plus-sum.result
    (λ s k. stmts_sum k s (stmts (map stmt_of (drop i items)))) (λ s k. stmts_sum k s (stmts (map stmt_of (drop (i + 1) items)))) (λ s k. stmts_sum k s (stmts (map stmt_of items))) (λ s k. stmt_sum k s (stmt_of x))
    (λ s. scope_behind_all s (stmts (map stmt_of (drop i items)))) (λ s. scope_behind_all s (stmts (map stmt_of (drop (i + 1) items)))) (λ s. scope_behind_all s (stmts (map stmt_of items))) (λ s. scope_behind s (stmt_of x))
    c.loop-statement.invariant c.in_ok-next.ensures c.plus-sum.ensures (λ s k. ap (λ (l : List Stmt). stmts_sum k s (stmts (map stmt_of l))) (drop_at items i x within next)) (λ s. ap (λ (l : List Stmt). scope_behind_all s (stmts (map stmt_of l))) (drop_at items i x within next))

pub count_list-returns : goal.count_list-returns
count_list-returns t c =
    let old = c.args.types.now in
    let d = c.args.declared.now in
    let items = c.args.all.now.items.items in
    let i = c.loop-statement.statement-index in
    let past : length items ≤ i = subst (λ (l : List Stmt). length l ≤ i) c.deref-statement-items.ensures.value c.loop-statement-test.false in
    done old c.loop-statement.types d c.loop-statement.declared c.loop-statement.sum (λ s k. stmts_sum k s (stmts (map stmt_of (drop i items)))) (λ s k. stmts_sum k s (stmts (map stmt_of items))) (λ s. scope_behind_all s (stmts (map stmt_of (drop i items)))) (λ s. scope_behind_all s (stmts (map stmt_of items))) c.loop-statement.invariant
    (λ s k. ap (λ (l : List Stmt). stmts_sum k s (stmts (map stmt_of l))) (drop_all i items past)) (λ s. ap (λ (l : List Stmt). scope_behind_all s (stmts (map stmt_of l))) (drop_all i items past))

pub count_parts-loop-part-init : goal.count_parts-loop-part-init
count_parts-loop-part-init t c =
    let old = c.args.types.now in
    let d = c.args.declared.now in
    begun old d c.nothing-sum.result (λ s k. parts_sum k s (parts (map part_of c.args.all.now.items.items))) (λ s. parts_behind s (parts (map part_of c.args.all.now.items.items))) c.nothing-sum.ensures

pub count_parts-count_part-requires : goal.count_parts-count_part-requires
count_parts-count_part-requires t c =
    let old = c.args.types.now in
    let d = c.args.declared.now in
    let g = c.loop-part.invariant in
    (first_of (search (rules, the_lemmas), grind (the_lemmas, arith, common_steps), grind (the_lemmas, arith, elements)), moved_some old c.loop-part.types d c.loop-part.declared c.loop-part.sum g.taken g.here g.are c.requires)

pub count_parts-loop-part-preserved : goal.count_parts-loop-part-preserved
count_parts-loop-part-preserved t c =
    let old = c.args.types.now in
    let d = c.args.declared.now in
    let items = c.args.all.now.items.items in
    let i = c.loop-part.part-index in
    let x = c.part-item.result in
    let within : i < length items = subst (λ (l : List Part). i < length l) c.deref-part-items.ensures.value c.loop-part-test.true in
    let next : x ≡ get_or items i x = subst (λ (l : List Part). x ≡ get_or l i x) c.deref-part-items.ensures.value c.part-item.is in
    goes_on old c.loop-part.types c.count_part.new.types d c.loop-part.declared c.count_part.new.declared c.loop-part.sum c.in_ok-next.next c.plus-sum.result
    (λ s k. parts_sum k s (parts (map part_of (drop i items)))) (λ s k. parts_sum k s (parts (map part_of (drop (i + 1) items)))) (λ s k. parts_sum k s (parts (map part_of items))) (λ s k. part_sum k s (part_of x))
    (λ s. parts_behind s (parts (map part_of (drop i items)))) (λ s. parts_behind s (parts (map part_of (drop (i + 1) items)))) (λ s. parts_behind s (parts (map part_of items))) (λ s. scope_behind_part s (part_of x))
    c.loop-part.invariant c.in_ok-next.ensures c.plus-sum.ensures (λ s k. ap (λ (l : List Part). parts_sum k s (parts (map part_of l))) (drop_at items i x within next)) (λ s. ap (λ (l : List Part). parts_behind s (parts (map part_of l))) (drop_at items i x within next))

pub count_parts-returns : goal.count_parts-returns
count_parts-returns t c =
    let old = c.args.types.now in
    let d = c.args.declared.now in
    let items = c.args.all.now.items.items in
    let i = c.loop-part.part-index in
    let past : length items ≤ i = subst (λ (l : List Part). length l ≤ i) c.deref-part-items.ensures.value c.loop-part-test.false in
    done old c.loop-part.types d c.loop-part.declared c.loop-part.sum (λ s k. parts_sum k s (parts (map part_of (drop i items)))) (λ s k. parts_sum k s (parts (map part_of items))) (λ s. parts_behind s (parts (map part_of (drop i items)))) (λ s. parts_behind s (parts (map part_of items))) c.loop-part.invariant
    (λ s k. ap (λ (l : List Part). parts_sum k s (parts (map part_of l))) (drop_all i items past)) (λ s. ap (λ (l : List Part). parts_behind s (parts (map part_of l))) (drop_all i items past))

pub count_one-count_body-requires : goal.count_one-count_body-requires
count_one-count_body-requires t c =
    let old = c.args.types.now in
    let d = c.args.declared.now in
    (first_of (search (rules, the_lemmas), grind (the_lemmas, arith, common_steps), grind (the_lemmas, arith, elements)), held_kept old c.count_effect.new.types d c.in_ok-first.ensures.grows c.in_ok-first.ensures.tags c.requires)

pub count_one-returns : goal.count_one-returns
count_one-returns t c =
    let old = c.args.types.now in
    let d = c.args.declared.now in
    let mid = c.count_effect.new.types in
    let m = λ (s : Scope) (k : Tally). k.node + expr_sum k s (expr_of c.args.e.now) in
    moved_then old mid c.count_body.new.types d d c.count_body.new.declared c.in_ok-first.first c.in_ok-second.second c.plus.result m (λ s k. stmt_sum k s (stmt_of c.args.body.now)) (λ s. s) (λ s. s)
    (moved_still old mid d c.in_ok-first.first m c.in_ok-first.ensures) c.in_ok-second.ensures c.plus.ensures

pub count_two-count_body-requires : goal.count_two-count_body-requires
count_two-count_body-requires t c =
    let old = c.args.types.now in
    let d = c.args.declared.now in
    (first_of (search (rules, the_lemmas), grind (the_lemmas, arith, common_steps), grind (the_lemmas, arith, elements)), moved_some old c.count_one.new.types d c.count_one.new.declared c.in_ok-first.first (λ s k. k.node + expr_sum k s (expr_of c.args.e.now) + stmt_sum k s (stmt_of c.args.body.now)) (λ s. s) c.in_ok-first.ensures c.requires)

pub count_two-returns : goal.count_two-returns
count_two-returns t c =
    let old = c.args.types.now in
    let d = c.args.declared.now in
    moved_then old c.count_one.new.types c.count_body.new.types d c.count_one.new.declared c.count_body.new.declared c.in_ok-first.first c.in_ok-second.second c.plus.result
    (λ s k. k.node + expr_sum k s (expr_of c.args.e.now) + stmt_sum k s (stmt_of c.args.body.now)) (λ s k. stmt_sum k s (stmt_of c.args.other.now)) (λ s. s) (λ s. s) c.in_ok-first.ensures c.in_ok-second.ensures c.plus.ensures

pub count_rest-count_maybe-requires-2 : goal.count_rest-count_maybe-requires-2
count_rest-count_maybe-requires-2 t c =
    let old = c.args.types.now in
    let d = c.args.declared.now in
    held_kept old c.count_maybe.new.types d c.in_ok-tested.ensures.grows c.in_ok-tested.ensures.tags c.requires

pub count_rest-count_body-requires : goal.count_rest-count_body-requires
count_rest-count_body-requires t c =
    let old = c.args.types.now in
    let d = c.args.declared.now in
    (first_of (search (rules, the_lemmas), grind (the_lemmas, arith, common_steps), grind (the_lemmas, arith, elements)), held_kept c.count_maybe.new.types c.count_maybe-2.new.types d c.in_ok-stepped.ensures.grows c.in_ok-stepped.ensures.tags (held_kept old c.count_maybe.new.types d c.in_ok-tested.ensures.grows c.in_ok-tested.ensures.tags c.requires))

pub count_rest-returns : goal.count_rest-returns
count_rest-returns t c =
    let old = c.args.types.now in
    let d = c.args.declared.now in
    let t1 = c.count_maybe.new.types in
    let t2 = c.count_maybe-2.new.types in
    let m = λ (s : Scope) (k : Tally). maybe_sum k s (maybe c.args.test.now) in
    let n = λ (s : Scope) (k : Tally). maybe_sum k s (maybe c.args.step.now) in
    moved_then old t2 c.count_body.new.types d d c.count_body.new.declared c.plus.result c.in_ok-done.done c.plus-2.result (λ s k. m s k + n s k) (λ s k. stmt_sum k s (stmt_of c.args.body.now)) (λ s. s) (λ s. s)
    (moved_still old t2 d c.plus.result (λ s k. m s k + n s k) (counted_both old t1 t2 d c.in_ok-tested.tested c.in_ok-stepped.stepped c.plus.result m n c.in_ok-tested.ensures c.in_ok-stepped.ensures c.plus.ensures))
    c.in_ok-done.ensures c.plus-2.ensures

pub count_for_block-count_list-requires : goal.count_for_block-count_list-requires
count_for_block-count_list-requires t c =
    let old = c.args.types.now in
    let d = c.args.declared.now in
    (first_of (search (rules, the_lemmas), grind (the_lemmas, arith, common_steps), grind (the_lemmas, arith, elements)), block_some old d c.begin_block-mark.new.declared c.begin_block-mark.ensures.block c.begin_block-mark.ensures.inside c.requires)

pub count_for_block-count_rest-requires : goal.count_for_block-count_rest-requires
count_for_block-count_rest-requires t c =
    let old = c.args.types.now in
    let d = c.args.declared.now in
    (first_of (search (rules, the_lemmas), grind (the_lemmas, arith, common_steps), grind (the_lemmas, arith, elements)), moved_some old c.count_list.new.types c.begin_block-mark.new.declared c.count_list.new.declared c.in_ok-first.first (λ s k. stmts_sum k s (stmts_of c.args.head.now)) (λ s. scope_behind_all s (stmts_of c.args.head.now)) c.in_ok-first.ensures (block_some old d c.begin_block-mark.new.declared c.begin_block-mark.ensures.block c.begin_block-mark.ensures.inside c.requires))

pub count_for_block-end_block-requires : goal.count_for_block-end_block-requires
count_for_block-end_block-requires t c =
    let old = c.args.types.now in
    let d = c.args.declared.now in
    let d1 = c.begin_block-mark.new.declared in
    let d2 = c.count_list.new.declared in
    let d3 = c.count_rest.new.declared in
    may_end d d3 c.begin_block-mark.result (inside_then d d1 d3 c.begin_block-mark.ensures.inside (around_then d1 d2 d3 c.in_ok-first.ensures.around c.in_ok-rest.ensures.around)) c.begin_block-mark.ensures.mark

pub count_for_block-returns : goal.count_for_block-returns
count_for_block-returns t c =
    let old = c.args.types.now in
    let d = c.args.declared.now in
    let t1 = c.count_list.new.types in
    let t2 = c.count_rest.new.types in
    let d1 = c.begin_block-mark.new.declared in
    let d2 = c.count_list.new.declared in
    let d3 = c.count_rest.new.declared in
    let e = c.end_block.new.declared in
    let b = c.begin_block-mark.ensures in
    let inside = inside_then d d1 d3 b.inside (around_then d1 d2 d3 c.in_ok-first.ensures.around c.in_ok-rest.ensures.around) in
    let one = λ (s : Scope) (k : Tally). stmts_sum k s (stmts_of c.args.head.now) in
    let m = λ (s : Scope) (k : Tally). k.node + (k.node + one s k) in
    let n = λ (s : Scope) (k : Tally). maybe_sum k (s) (maybe c.args.test.now) + maybe_sum k (s) (maybe c.args.step.now) + stmt_sum k (s) (stmt_of c.args.body.now) in
    let f = λ (s : Scope). scope_behind_all s (stmts_of c.args.head.now) in
    let own = moved_first old t1 d1 d2 c.node-2.result c.in_ok-first.first c.plus.result one f c.node-2.ensures c.in_ok-first.ensures c.plus.ensures in
    let first = moved_first old t1 d1 d2 c.node.result c.plus.result c.plus-2.result (λ s k. k.node + one s k) f c.node.ensures own c.plus-2.ensures in
    let both = moved_then old t1 t2 d1 d2 d3 c.plus-2.result c.in_ok-rest.rest c.plus-3.result m n f (λ s. s) first c.in_ok-rest.ensures c.plus-3.ensures in
    block_moved old t2 d d1 e c.plus-3.result (λ s k. m s k + n (f s) k) b.block b.inside both.counted (c.in_ok-end_block.ensures d inside b.mark)

pub count_for_local-count_rest-requires : goal.count_for_local-count_rest-requires
count_for_local-count_rest-requires t c =
    let old = c.args.types.now in
    let d = c.args.declared.now in
    (first_of (search (rules, the_lemmas), grind (the_lemmas, arith, common_steps), grind (the_lemmas, arith, elements)), moved_some old c.count_local.new.types d c.count_local.new.declared c.in_ok-local.local.sum (λ s k. object_sum k s (decl_of c.args.head.now)) (λ s. scope_or s (declared s false (decl_of c.args.head.now))) c.in_ok-local.ensures.counted c.requires)

pub count_for_local-returns : goal.count_for_local-returns
count_for_local-returns t c =
    let old = c.args.types.now in
    let d = c.args.declared.now in
    let t1 = c.count_local.new.types in
    let t2 = c.count_rest.new.types in
    let d1 = c.count_local.new.declared in
    let d2 = c.count_rest.new.declared in
    let e = c.forget.new.declared in
    let x = decl_of c.args.head.now in
    let f = λ (s : Scope). scope_or s (declared s false (decl_of c.args.head.now)) in
    let n = λ (s : Scope) (k : Tally). maybe_sum k (s) (maybe c.args.test.now) + maybe_sum k (s) (maybe c.args.step.now) + stmt_sum k (s) (stmt_of c.args.body.now) in
    let own = moved_first old t1 d d1 c.node-2.result c.in_ok-local.local.sum c.plus.result (λ s k. object_sum k s x) f c.node-2.ensures c.in_ok-local.ensures.counted c.plus.ensures in
    let first = moved_first old t1 d d1 c.node.result c.plus.result c.plus-2.result (λ s k. k.node + object_sum k s x) f c.node.ensures own c.plus-2.ensures in
    let both = moved_then old t1 t2 d d1 d2 c.plus-2.result c.in_ok-rest.rest c.plus-3.result (λ s k. k.node + (k.node + object_sum k s x)) n f (λ s. s) first c.in_ok-rest.ensures c.plus-3.ensures in
    record {
      counted = both.counted;
      holds = λ s holds. c.in_ok-forget.ensures.holds s x (c.in_ok-local.ensures.refusal s holds) (both.holds s holds);
      around = around_then d d2 e both.around c.in_ok-forget.ensures.around;
    }

pub count_for-returns-in-Block : goal.count_for-returns-in-Block
count_for-returns-in-Block t c =
    let old = c.args.types.now in
    let d = c.args.declared.now in
    let q = c.count_for_block.result in
    let new = c.count_for_block.new.types in
    let e = c.count_for_block.new.declared in
    let all = λ (x : CStmt). IfOk q (λ r. AreMoved old new d e r (λ s k. stmt_sum k s (tree.For (x) (maybe c.args.test.now) (maybe c.args.step.now) (stmt_of c.args.body.now))) (λ s. s)) in
    subst (λ (x : Stmt). all (stmt_of x)) (sym c.in-Block.is)
    (subst all (sym (block_made c.in-Block.all)) (ok_moved old new d e q (λ s k. k.node + (k.node + stmts_sum k (entered s) (stmts_of c.in-Block.all)) + (maybe_sum k (scope_behind_all (entered s) (stmts_of c.in-Block.all)) (maybe c.args.test.now) + maybe_sum k (scope_behind_all (entered s) (stmts_of c.in-Block.all)) (maybe c.args.step.now) + stmt_sum k (scope_behind_all (entered s) (stmts_of c.in-Block.all)) (stmt_of c.args.body.now))) (λ s k. stmt_sum k s (tree.For (tree.Block (stmts_of c.in-Block.all)) (maybe c.args.test.now) (maybe c.args.step.now) (stmt_of c.args.body.now))) (λ s. s) (λ s. s) (λ s k. four k.node (k.node + stmts_sum k (entered s) (stmts_of c.in-Block.all)) (maybe_sum k (scope_behind_all (entered s) (stmts_of c.in-Block.all)) (maybe c.args.test.now)) (maybe_sum k (scope_behind_all (entered s) (stmts_of c.in-Block.all)) (maybe c.args.step.now)) (stmt_sum k (scope_behind_all (entered s) (stmts_of c.in-Block.all)) (stmt_of c.args.body.now))) (λ s. refl) c.count_for_block.ensures))

pub count_for-returns-in-Local : goal.count_for-returns-in-Local
count_for-returns-in-Local t c =
    let old = c.args.types.now in
    let d = c.args.declared.now in
    let q = c.count_for_local.result in
    let new = c.count_for_local.new.types in
    let e = c.count_for_local.new.declared in
    let all = λ (x : CStmt). IfOk q (λ r. AreMoved old new d e r (λ s k. stmt_sum k s (tree.For (x) (maybe c.args.test.now) (maybe c.args.step.now) (stmt_of c.args.body.now))) (λ s. s)) in
    subst (λ (x : Stmt). all (stmt_of x)) (sym c.in-Local.is)
    ((ok_moved old new d e q (λ s k. k.node + (k.node + object_sum k s (decl_of c.in-Local.d)) + (maybe_sum k (scope_or s (declared s false (decl_of c.in-Local.d))) (maybe c.args.test.now) + maybe_sum k (scope_or s (declared s false (decl_of c.in-Local.d))) (maybe c.args.step.now) + stmt_sum k (scope_or s (declared s false (decl_of c.in-Local.d))) (stmt_of c.args.body.now))) (λ s k. stmt_sum k s (tree.For (tree.Local (decl_of c.in-Local.d)) (maybe c.args.test.now) (maybe c.args.step.now) (stmt_of c.args.body.now))) (λ s. s) (λ s. s) (λ s k. four k.node (k.node + object_sum k s (decl_of c.in-Local.d)) (maybe_sum k (scope_or s (declared s false (decl_of c.in-Local.d))) (maybe c.args.test.now)) (maybe_sum k (scope_or s (declared s false (decl_of c.in-Local.d))) (maybe c.args.step.now)) (stmt_sum k (scope_or s (declared s false (decl_of c.in-Local.d))) (stmt_of c.args.body.now))) (λ s. refl) c.count_for_local.ensures))

pub count_for-count_rest-requires : goal.count_for-count_rest-requires
count_for-count_rest-requires t c =
    let old = c.args.types.now in
    let d = c.args.declared.now in
    (first_of (search (rules, the_lemmas), grind (the_lemmas, arith, common_steps), grind (the_lemmas, arith, elements)), moved_some old c.count_statement.new.types d c.count_statement.new.declared c.in_ok-first-in_default.first (λ s k. stmt_sum k s (stmt_of c.args.head.now)) (λ s. scope_behind s (stmt_of c.args.head.now)) c.in_ok-first-in_default.ensures c.requires)

pub count_switch-count_parts-requires : goal.count_switch-count_parts-requires
count_switch-count_parts-requires t c =
    let old = c.args.types.now in
    let d = c.args.declared.now in
    (first_of (search (rules, the_lemmas), grind (the_lemmas, arith, common_steps), grind (the_lemmas, arith, elements)), block_some c.count_effect.new.types d c.begin_block-mark.new.declared c.begin_block-mark.ensures.block c.begin_block-mark.ensures.inside (held_kept old c.count_effect.new.types d c.in_ok-first.ensures.grows c.in_ok-first.ensures.tags c.requires))

pub count_switch-end_block-requires : goal.count_switch-end_block-requires
count_switch-end_block-requires t c =
    let old = c.args.types.now in
    let d = c.args.declared.now in
    may_end d c.count_parts.new.declared c.begin_block-mark.result (inside_then d c.begin_block-mark.new.declared c.count_parts.new.declared c.begin_block-mark.ensures.inside c.in_ok-rest.ensures.around) c.begin_block-mark.ensures.mark

pub count_switch-returns : goal.count_switch-returns
count_switch-returns t c =
    let old = c.args.types.now in
    let d = c.args.declared.now in
    let t1 = c.count_effect.new.types in
    let t2 = c.count_parts.new.types in
    let d1 = c.begin_block-mark.new.declared in
    let d2 = c.count_parts.new.declared in
    let e = c.end_block.new.declared in
    let b = c.begin_block-mark.ensures in
    let inside = inside_then d d1 d2 b.inside c.in_ok-rest.ensures.around in
    let m = λ (s : Scope) (k : Tally). k.node + expr_sum k s (expr_of c.args.e.now) in
    let n = λ (s : Scope) (k : Tally). parts_sum k s (parts_of c.args.parts.now) in
    moved_then old t1 t2 d d e c.in_ok-first.first c.in_ok-rest.rest c.plus.result m (λ s k. n (entered s) k) (λ s. s) (λ s. s)
    (moved_still old t1 d c.in_ok-first.first m c.in_ok-first.ensures)
    (block_moved t1 t2 d d1 e c.in_ok-rest.rest n b.block b.inside c.in_ok-rest.ensures.counted (c.in_ok-end_block.ensures d inside b.mark)) c.plus.ensures

pub count_part-returns-in-Label : goal.count_part-returns-in-Label
count_part-returns-in-Label t c =
    let old = c.args.types.now in
    let d = c.args.declared.now in
    let q = c.count_return.result in
    let new = c.count_return.new.types in
    subst (λ (x : Part). IfOk q (λ r. AreMoved old new d d r (λ s k. part_sum k s (part_of x)) (λ s. scope_behind_part s (part_of x)))) (sym c.in-Label.is)
    (still_ok old new d q (λ s k. k.node + maybe_sum k s (maybe c.in-Label.e)) c.count_return.ensures)

pub count_part-returns-in_ok-item-in-Item : goal.count_part-returns-in_ok-item-in-Item
count_part-returns-in_ok-item-in-Item t c =
    let old = c.args.types.now in
    let d = c.args.declared.now in
    let r = c.plus.result in
    let new = c.count_statement.new.types in
    let e = c.count_statement.new.declared in
    let x = stmt_of c.in-Item.statement in
    subst (λ (p : Part). AreMoved old new d e r (λ s k. part_sum k s (part_of p)) (λ s. scope_behind_part s (part_of p))) (sym c.in-Item.is)
    (moved_first old new d e c.node.result c.in_ok-item-in-Item.item r (λ s k. stmt_sum k s x) (λ s. scope_behind s x) c.node.ensures c.in_ok-item-in-Item.ensures c.plus.ensures)

pub count_for-returns-in_ok-rest-in_default : goal.count_for-returns-in_ok-rest-in_default
count_for-returns-in_ok-rest-in_default t c =
    let old = c.args.types.now in
    let d = c.args.declared.now in
    let t1 = c.count_statement.new.types in
    let t2 = c.count_rest.new.types in
    let d1 = c.count_statement.new.declared in
    let d2 = c.count_rest.new.declared in
    let x = stmt_of c.args.head.now in
    let f = λ (s : Scope). scope_behind s x in
    let m = λ (s : Scope) (k : Tally). k.node + stmt_sum k s x in
    let n = λ (s : Scope) (k : Tally). maybe_sum k (s) (maybe c.args.test.now) + maybe_sum k (s) (maybe c.args.step.now) + stmt_sum k (s) (stmt_of c.args.body.now) in
    let first = moved_first old t1 d d1 c.node.result c.in_ok-first-in_default.first c.plus.result (λ s k. stmt_sum k s x) f c.node.ensures c.in_ok-first-in_default.ensures c.plus.ensures in
    let both = moved_then old t1 t2 d d1 d2 c.plus.result c.in_ok-rest-in_default.rest c.plus-in_default.result m n f (λ s. s) first c.in_ok-rest-in_default.ensures c.plus-in_default.ensures in
    moved_same old t2 d d2 c.plus-in_default.result (λ s k. m s k + n (f s) k) (λ s k. stmt_sum k s (tree.For x (maybe c.args.test.now) (maybe c.args.step.now) (stmt_of c.args.body.now))) f (λ s. s)
    (λ s k. four k.node (stmt_sum k s x) (maybe_sum k (scope_behind s x) (maybe c.args.test.now)) (maybe_sum k (scope_behind s x) (maybe c.args.step.now)) (stmt_sum k (scope_behind s x) (stmt_of c.args.body.now))
    ∙ ap (λ (z : Scope). k.node + stmt_sum k s x + maybe_sum k (z) (maybe c.args.test.now) + maybe_sum k (z) (maybe c.args.step.now) + stmt_sum k (z) (stmt_of c.args.body.now)) (sym (head_other c.args.head.now s c.in_default.not-Block)))
    (λ s. scope_still c.args.head.now s c.in_default.not-Local) both
