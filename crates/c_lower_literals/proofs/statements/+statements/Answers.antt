use Rattle.std.proofs.Common.{◌≡◌, ◌<◌, ◌≤◌, ◌+◌, List, ◌++◌, map, drop, get_or, length, Option, refl, sym, ap, subst, ◌∙◌, append_assoc, arith, rules}
use Rattle.std.specs.Prelude.{OnOk, false}
use Rattle.std.proofs.lemmas.Grind.{common_steps, elements}
use Rattle.std.proofs.lemmas.List.{drop_all}
use Rattle.c_syntax.specs.Plain as tree
use Rattle.c_syntax.specs.Plain.{CStmt, stmts, parts}
use Rattle.c_syntax.specs.View.{expr_of, maybe, decl_of, stmt_of, part_of}
use Rattle.c_syntax.specs.declared.tree.Stmt.{Stmt}
use Rattle.c_syntax.specs.declared.tree.Stmt.TheVariants as stmt
use Rattle.c_syntax.specs.declared.tree.Part.{Part}
use Rattle.c_syntax.specs.declared.tree.Part.TheFolds.{the_lemmas}
use Rattle.c_types.specs.Scope.{Scope, entered}
use Rattle.c_types.specs.Declarations.{declared, scope_or}
use Rattle.c_types.specs.Census.{scope_behind, scope_behind_all, scope_behind_part}
use Rattle.c_expressions.proofs.GoingLemmas.{drop_at}
use Rattle.c_signatures.proofs.BlockLemmas.{inside_then, may_end}
use Rattle.c_census.specs.Sums.{stmts_of, parts_of, parts_behind}
use Rattle.c_census.proofs.MovedLemmas.{around_then, block_some}
use Rattle.c_census.proofs.TreeLemmas.{block_made, switch_made, scope_still, head_other}
use Rattle.c_eval.specs.LiteralsIn.{literals_in, maybe_literals, stmt_literals, stmts_literals, part_literals, parts_literals}
use Rattle.c_lower_literals.specs.Gathered.{Gathers, local_literals}
use Rattle.c_lower_literals.proofs.GatherLemmas.{still, still_ok, none_gathered, gathers_same, gathers_then, gathers_some, block_gathers, begun, goes_on, done, on_ok, forgotten}
use Rattle.c_lower_literals.proofs.statements.+statements.Goals as goal

pub statement_literals-returns-in-Empty : goal.statement_literals-returns-in-Empty
statement_literals-returns-in-Empty t c =
    let old = c.args.types.now in
    let d = c.args.declared.now in
    let xs = c.args.texts.now.items in
    subst (λ (x : Stmt). Gathers old old d d xs xs (λ s. stmt_literals s (stmt_of x)) (λ s. scope_behind s (stmt_of x))) (sym c.in-Empty.is) (none_gathered old d xs)

pub statement_literals-returns-in-Break : goal.statement_literals-returns-in-Break
statement_literals-returns-in-Break t c =
    let old = c.args.types.now in
    let d = c.args.declared.now in
    let xs = c.args.texts.now.items in
    subst (λ (x : Stmt). Gathers old old d d xs xs (λ s. stmt_literals s (stmt_of x)) (λ s. scope_behind s (stmt_of x))) (sym c.in-Break.is) (none_gathered old d xs)

pub statement_literals-returns-in-Continue : goal.statement_literals-returns-in-Continue
statement_literals-returns-in-Continue t c =
    let old = c.args.types.now in
    let d = c.args.declared.now in
    let xs = c.args.texts.now.items in
    subst (λ (x : Stmt). Gathers old old d d xs xs (λ s. stmt_literals s (stmt_of x)) (λ s. scope_behind s (stmt_of x))) (sym c.in-Continue.is) (none_gathered old d xs)

pub statement_literals-returns-in-Expr : goal.statement_literals-returns-in-Expr
statement_literals-returns-in-Expr t c =
    let old = c.args.types.now in
    let d = c.args.declared.now in
    let xs = c.args.texts.now.items in
    let ys = c.expression_literals.new.texts.items in
    subst (λ (x : Stmt). OnOk c.expression_literals.result (Gathers old old d d xs ys (λ s. stmt_literals s (stmt_of x)) (λ s. scope_behind s (stmt_of x)))) (sym c.in-Expr.is) (still_ok old d xs ys c.expression_literals.result (λ (s : Scope). literals_in s (expr_of c.in-Expr.e)) c.expression_literals.ensures)

pub statement_literals-returns-in-Return : goal.statement_literals-returns-in-Return
statement_literals-returns-in-Return t c =
    let old = c.args.types.now in
    let d = c.args.declared.now in
    let xs = c.args.texts.now.items in
    let ys = c.maybe_literals.new.texts.items in
    subst (λ (x : Stmt). OnOk c.maybe_literals.result (Gathers old old d d xs ys (λ s. stmt_literals s (stmt_of x)) (λ s. scope_behind s (stmt_of x)))) (sym c.in-Return.is) (still_ok old d xs ys c.maybe_literals.result (λ (s : Scope). maybe_literals s (maybe c.in-Return.e)) c.maybe_literals.ensures)

pub statement_literals-returns-in_ok-_refusal-in-Local : goal.statement_literals-returns-in_ok-_refusal-in-Local
statement_literals-returns-in_ok-_refusal-in-Local t c =
    let old = c.args.types.now in
    let d = c.args.declared.now in
    let xs = c.args.texts.now.items in
    let f = c.local_literals.new in
    subst (λ (x : Stmt). Gathers old f.types d f.declared xs f.texts.items (λ s. stmt_literals s (stmt_of x)) (λ s. scope_behind s (stmt_of x))) (sym c.in-Local.is) c.in_ok-_refusal-in-Local.ensures.gathers

pub statement_literals-returns-in-Block : goal.statement_literals-returns-in-Block
statement_literals-returns-in-Block t c =
    let old = c.args.types.now in
    let d = c.args.declared.now in
    let xs = c.args.texts.now.items in
    let f = c.block_literals.new in
    let all = λ (x : CStmt). OnOk c.block_literals.result (Gathers old f.types d f.declared xs f.texts.items (λ s. stmt_literals s x) (λ s. scope_behind s x)) in
    subst (λ (x : Stmt). all (stmt_of x)) (sym c.in-Block.is) (subst all (sym (block_made c.in-Block.all)) c.block_literals.ensures)

pub statement_literals-returns-in-Switch : goal.statement_literals-returns-in-Switch
statement_literals-returns-in-Switch t c =
    let old = c.args.types.now in
    let d = c.args.declared.now in
    let xs = c.args.texts.now.items in
    let f = c.switch_literals.new in
    let all = λ (x : CStmt). OnOk c.switch_literals.result (Gathers old f.types d f.declared xs f.texts.items (λ s. stmt_literals s x) (λ s. scope_behind s x)) in
    subst (λ (x : Stmt). all (stmt_of x)) (sym c.in-Switch.is) (subst all (sym (switch_made c.in-Switch.e c.in-Switch.parts)) c.switch_literals.ensures)

pub statement_literals-returns-in-None : goal.statement_literals-returns-in-None
statement_literals-returns-in-None t c =
    let old = c.args.types.now in
    let d = c.args.declared.now in
    let xs = c.args.texts.now.items in
    let f = c.guarded_literals.new in
    let all = λ (x : CStmt). OnOk c.guarded_literals.result (Gathers old f.types d f.declared xs f.texts.items (λ s. stmt_literals s x) (λ s. scope_behind s x)) in
    subst (λ (x : Stmt). all (stmt_of x)) (sym (c.in-If.is ∙ ap (λ (o : Option _). stmt.If c.in-If.e c.in-If.t o) c.in-None.is))
    (subst (λ (x : Stmt). all (tree.If (expr_of c.in-If.e) (stmt_of x))) c.deref.ensures c.guarded_literals.ensures)

pub statement_literals-returns-in-Some : goal.statement_literals-returns-in-Some
statement_literals-returns-in-Some t c =
    let old = c.args.types.now in
    let d = c.args.declared.now in
    let xs = c.args.texts.now.items in
    let f = c.choice_literals.new in
    let all = λ (x : CStmt). OnOk c.choice_literals.result (Gathers old f.types d f.declared xs f.texts.items (λ s. stmt_literals s x) (λ s. scope_behind s x)) in
    subst (λ (x : Stmt). all (stmt_of x)) (sym (c.in-If.is ∙ ap (λ (o : Option _). stmt.If c.in-If.e c.in-If.t o) c.in-Some.is))
    (subst (λ (x : Stmt). all (tree.IfElse (expr_of c.in-If.e) (stmt_of x) (stmt_of c.in-Some.u.value))) c.deref-in-Some.ensures
    (subst (λ (x : Stmt). all (tree.IfElse (expr_of c.in-If.e) (stmt_of c.deref-in-Some.result.now) (stmt_of x))) c.deref-in-Some-2.ensures c.choice_literals.ensures))

pub statement_literals-returns-in-While : goal.statement_literals-returns-in-While
statement_literals-returns-in-While t c =
    let old = c.args.types.now in
    let d = c.args.declared.now in
    let xs = c.args.texts.now.items in
    let f = c.guarded_literals-in-While.new in
    let all = λ (x : CStmt). OnOk c.guarded_literals-in-While.result (Gathers old f.types d f.declared xs f.texts.items (λ s. stmt_literals s x) (λ s. scope_behind s x)) in
    subst (λ (x : Stmt). all (stmt_of x)) (sym c.in-While.is)
    (subst (λ (x : Stmt). all (tree.While (expr_of c.in-While.e) (stmt_of x))) c.deref-in-While.ensures c.guarded_literals-in-While.ensures)

pub statement_literals-returns-in-Do : goal.statement_literals-returns-in-Do
statement_literals-returns-in-Do t c =
    let old = c.args.types.now in
    let d = c.args.declared.now in
    let xs = c.args.texts.now.items in
    let f = c.do_literals.new in
    let all = λ (x : CStmt). OnOk c.do_literals.result (Gathers old f.types d f.declared xs f.texts.items (λ s. stmt_literals s x) (λ s. scope_behind s x)) in
    subst (λ (x : Stmt). all (stmt_of x)) (sym c.in-Do.is)
    (subst (λ (x : Stmt). all (tree.Do (stmt_of x) (expr_of c.in-Do.e))) c.deref-in-Do.ensures c.do_literals.ensures)

pub statement_literals-returns-in-For : goal.statement_literals-returns-in-For
statement_literals-returns-in-For t c =
    let old = c.args.types.now in
    let d = c.args.declared.now in
    let xs = c.args.texts.now.items in
    let f = c.for_literals.new in
    let all = λ (x : CStmt). OnOk c.for_literals.result (Gathers old f.types d f.declared xs f.texts.items (λ s. stmt_literals s x) (λ s. scope_behind s x)) in
    subst (λ (x : Stmt). all (stmt_of x)) (sym c.in-For.is)
    (subst (λ (x : Stmt). all (tree.For (stmt_of x) (maybe c.in-For.test) (maybe c.in-For.step) (stmt_of c.in-For.t.value))) c.deref-in-For.ensures
    (subst (λ (x : Stmt). all (tree.For (stmt_of c.deref-in-For.result.now) (maybe c.in-For.test) (maybe c.in-For.step) (stmt_of x))) c.deref-in-For-2.ensures c.for_literals.ensures))

pub body_literals-returns-in-Local : goal.body_literals-returns-in-Local
body_literals-returns-in-Local t c =
    let old = c.args.types.now in
    let d = c.args.declared.now in
    let xs = c.args.texts.now.items in
    let f = c.forgotten_literals.new in
    subst (λ (x : Stmt). OnOk c.forgotten_literals.result (Gathers old f.types d f.declared xs f.texts.items (λ s. stmt_literals s (stmt_of x)) (λ s. s))) (sym c.in-Local.is) c.forgotten_literals.ensures

pub body_literals-returns-in_default : goal.body_literals-returns-in_default
body_literals-returns-in_default t c =
    let x = c.args.statement.now in
    on_ok c.statement_literals.result (λ g. gathers_same (λ (s : Scope). stmt_literals s (stmt_of x)) (λ (s : Scope). stmt_literals s (stmt_of x)) (λ (s : Scope). scope_behind s (stmt_of x)) (λ (s : Scope). s) (λ s. refl) (λ s. scope_still x s c.in_default.not-Local) g)
    c.statement_literals.ensures

pub block_literals-list_literals-requires : goal.block_literals-list_literals-requires
block_literals-list_literals-requires t c =
    let old = c.args.types.now in
    let d = c.args.declared.now in
    (first_of (search (rules, the_lemmas), grind (the_lemmas, arith, common_steps), grind (the_lemmas, arith, elements)), block_some old d c.begin_block-mark.new.declared c.begin_block-mark.ensures.block c.begin_block-mark.ensures.inside c.requires)

pub block_literals-end_block-requires : goal.block_literals-end_block-requires
block_literals-end_block-requires t c =
    let d = c.args.declared.now in
    may_end d c.list_literals.new.declared c.begin_block-mark.result (inside_then d c.begin_block-mark.new.declared c.list_literals.new.declared c.begin_block-mark.ensures.inside c.in_ok-list_literals.ensures.around) c.begin_block-mark.ensures.mark

pub block_literals-returns : goal.block_literals-returns
block_literals-returns t c =
    let d = c.args.declared.now in
    let b = c.begin_block-mark.ensures in
    let all = c.args.all.now in
    let inside = inside_then d c.begin_block-mark.new.declared c.list_literals.new.declared b.inside c.in_ok-list_literals.ensures.around in
    on_ok c.end_block.result (λ same. block_gathers (λ (s : Scope). stmts_literals s (stmts_of all)) (λ (s : Scope). scope_behind_all s (stmts_of all)) b.block b.inside c.in_ok-list_literals.ensures same) (c.end_block.ensures d inside b.mark)

pub list_literals-loop-statement-init : goal.list_literals-loop-statement-init
list_literals-loop-statement-init t c =
    begun c.args.types.now c.args.declared.now c.args.texts.now.items (λ (s : Scope). stmts_literals s (stmts (map stmt_of c.args.all.now.items.items))) (λ (s : Scope). scope_behind_all s (stmts (map stmt_of c.args.all.now.items.items)))

pub list_literals-statement_literals-requires : goal.list_literals-statement_literals-requires
list_literals-statement_literals-requires t c =
    (first_of (search (rules, the_lemmas), grind (the_lemmas, arith, common_steps), grind (the_lemmas, arith, elements)), gathers_some c.loop-statement.invariant.are c.requires)

pub list_literals-loop-statement-preserved : goal.list_literals-loop-statement-preserved
list_literals-loop-statement-preserved t c =
    let items = c.args.all.now.items.items in
    let i = c.loop-statement.statement-index in
    let x = c.statement-item.result in
    let within : i < length items = subst (λ (l : List Stmt). i < length l) c.deref-statement-items.ensures.value c.loop-statement-test.true in
    let next : x ≡ get_or items i x = subst (λ (l : List Stmt). x ≡ get_or l i x) c.deref-statement-items.ensures.value c.statement-item.is in
    goes_on (λ (s : Scope). stmts_literals s (stmts (map stmt_of (drop i items)))) (λ (s : Scope). stmts_literals s (stmts (map stmt_of (drop (i + 1) items)))) (λ (s : Scope). stmts_literals s (stmts (map stmt_of items))) (λ (s : Scope). stmt_literals s (stmt_of x))
    (λ (s : Scope). scope_behind_all s (stmts (map stmt_of (drop i items)))) (λ (s : Scope). scope_behind_all s (stmts (map stmt_of (drop (i + 1) items)))) (λ (s : Scope). scope_behind_all s (stmts (map stmt_of items))) (λ (s : Scope). scope_behind s (stmt_of x))
    c.loop-statement.invariant c.in_ok-statement_literals.ensures (λ s. ap (λ (l : List Stmt). stmts_literals s (stmts (map stmt_of l))) (drop_at items i x within next)) (λ s. ap (λ (l : List Stmt). scope_behind_all s (stmts (map stmt_of l))) (drop_at items i x within next))

pub list_literals-returns : goal.list_literals-returns
list_literals-returns t c =
    let items = c.args.all.now.items.items in
    let i = c.loop-statement.statement-index in
    let past : length items ≤ i = subst (λ (l : List Stmt). length l ≤ i) c.deref-statement-items.ensures.value c.loop-statement-test.false in
    done (λ (s : Scope). stmts_literals s (stmts (map stmt_of (drop i items)))) (λ (s : Scope). stmts_literals s (stmts (map stmt_of items))) (λ (s : Scope). scope_behind_all s (stmts (map stmt_of (drop i items)))) (λ (s : Scope). scope_behind_all s (stmts (map stmt_of items))) c.loop-statement.invariant
    (λ s. ap (λ (l : List Stmt). stmts_literals s (stmts (map stmt_of l))) (drop_all i items past)) (λ s. ap (λ (l : List Stmt). scope_behind_all s (stmts (map stmt_of l))) (drop_all i items past))

pub parts_literals-loop-part-init : goal.parts_literals-loop-part-init
parts_literals-loop-part-init t c =
    begun c.args.types.now c.args.declared.now c.args.texts.now.items (λ (s : Scope). parts_literals s (parts (map part_of c.args.all.now.items.items))) (λ (s : Scope). parts_behind s (parts (map part_of c.args.all.now.items.items)))

pub parts_literals-part_literals-requires : goal.parts_literals-part_literals-requires
parts_literals-part_literals-requires t c =
    (first_of (search (rules, the_lemmas), grind (the_lemmas, arith, common_steps), grind (the_lemmas, arith, elements)), gathers_some c.loop-part.invariant.are c.requires)

pub parts_literals-loop-part-preserved : goal.parts_literals-loop-part-preserved
parts_literals-loop-part-preserved t c =
    let items = c.args.all.now.items.items in
    let i = c.loop-part.part-index in
    let x = c.part-item.result in
    let within : i < length items = subst (λ (l : List Part). i < length l) c.deref-part-items.ensures.value c.loop-part-test.true in
    let next : x ≡ get_or items i x = subst (λ (l : List Part). x ≡ get_or l i x) c.deref-part-items.ensures.value c.part-item.is in
    goes_on (λ (s : Scope). parts_literals s (parts (map part_of (drop i items)))) (λ (s : Scope). parts_literals s (parts (map part_of (drop (i + 1) items)))) (λ (s : Scope). parts_literals s (parts (map part_of items))) (λ (s : Scope). part_literals s (part_of x))
    (λ (s : Scope). parts_behind s (parts (map part_of (drop i items)))) (λ (s : Scope). parts_behind s (parts (map part_of (drop (i + 1) items)))) (λ (s : Scope). parts_behind s (parts (map part_of items))) (λ (s : Scope). scope_behind_part s (part_of x))
    c.loop-part.invariant c.in_ok-part_literals.ensures (λ s. ap (λ (l : List Part). parts_literals s (parts (map part_of l))) (drop_at items i x within next)) (λ s. ap (λ (l : List Part). parts_behind s (parts (map part_of l))) (drop_at items i x within next))

pub parts_literals-returns : goal.parts_literals-returns
parts_literals-returns t c =
    let items = c.args.all.now.items.items in
    let i = c.loop-part.part-index in
    let past : length items ≤ i = subst (λ (l : List Part). length l ≤ i) c.deref-part-items.ensures.value c.loop-part-test.false in
    done (λ (s : Scope). parts_literals s (parts (map part_of (drop i items)))) (λ (s : Scope). parts_literals s (parts (map part_of items))) (λ (s : Scope). parts_behind s (parts (map part_of (drop i items)))) (λ (s : Scope). parts_behind s (parts (map part_of items))) c.loop-part.invariant
    (λ s. ap (λ (l : List Part). parts_literals s (parts (map part_of l))) (drop_all i items past)) (λ s. ap (λ (l : List Part). parts_behind s (parts (map part_of l))) (drop_all i items past))

pub guarded_literals-returns : goal.guarded_literals-returns
guarded_literals-returns t c =
    on_ok c.body_literals.result (λ g. gathers_then (λ (s : Scope). literals_in s (expr_of c.args.e.now)) (λ (s : Scope). stmt_literals s (stmt_of c.args.body.now)) (λ (s : Scope). s) (λ (s : Scope). s) (still c.args.types.now c.args.declared.now (λ (s : Scope). literals_in s (expr_of c.args.e.now)) (λ s fits. c.in_ok-expression_literals.ensures c.args.types.now s fits)) g) c.body_literals.ensures

pub choice_literals-body_literals-requires : goal.choice_literals-body_literals-requires
choice_literals-body_literals-requires t c =
    (first_of (search (rules, the_lemmas), grind (the_lemmas, arith, common_steps), grind (the_lemmas, arith, elements)), gathers_some c.in_ok-guarded_literals.ensures c.requires)

pub choice_literals-returns : goal.choice_literals-returns
choice_literals-returns t c =
    let e = λ (s : Scope). literals_in s (expr_of c.args.e.now) in
    let m = λ (s : Scope). stmt_literals s (stmt_of c.args.body.now) in
    let n = λ (s : Scope). stmt_literals s (stmt_of c.args.other.now) in
    on_ok c.body_literals.result (λ g.
    gathers_same (λ (s : Scope). (e s ++ m s) ++ n s) (λ (s : Scope). e s ++ (m s ++ n s)) (λ (s : Scope). s) (λ (s : Scope). s) (λ s. append_assoc (e s) (m s) (n s)) (λ s. refl)
    (gathers_then (λ (s : Scope). e s ++ m s) n (λ (s : Scope). s) (λ (s : Scope). s) c.in_ok-guarded_literals.ensures g)) c.body_literals.ensures

pub do_literals-returns : goal.do_literals-returns
do_literals-returns t c =
    let mid = c.body_literals.new in
    on_ok c.expression_literals.result (λ g. gathers_then (λ (s : Scope). stmt_literals s (stmt_of c.args.body.now)) (λ (s : Scope). literals_in s (expr_of c.args.e.now)) (λ (s : Scope). s) (λ (s : Scope). s) c.in_ok-body_literals.ensures g)
    (still_ok mid.types mid.declared mid.texts.items c.expression_literals.new.texts.items c.expression_literals.result (λ (s : Scope). literals_in s (expr_of c.args.e.now)) c.expression_literals.ensures)

pub rest_literals-returns : goal.rest_literals-returns
rest_literals-returns t c =
    let old = c.args.types.now in
    let d = c.args.declared.now in
    let m = λ (s : Scope). maybe_literals s (maybe c.args.test.now) in
    let n = λ (s : Scope). maybe_literals s (maybe c.args.step.now) in
    let b = λ (s : Scope). stmt_literals s (stmt_of c.args.body.now) in
    on_ok c.body_literals.result (λ g.
    gathers_then m (λ (s : Scope). n s ++ b s) (λ (s : Scope). s) (λ (s : Scope). s) (still old d m (λ s fits. c.in_ok-maybe_literals.ensures old s fits))
    (gathers_then n b (λ (s : Scope). s) (λ (s : Scope). s) (still old d n (λ s fits. c.in_ok-maybe_literals-2.ensures old s fits)) g)) c.body_literals.ensures

pub for_block_literals-list_literals-requires : goal.for_block_literals-list_literals-requires
for_block_literals-list_literals-requires t c =
    let old = c.args.types.now in
    let d = c.args.declared.now in
    (first_of (search (rules, the_lemmas), grind (the_lemmas, arith, common_steps), grind (the_lemmas, arith, elements)), block_some old d c.begin_block-mark.new.declared c.begin_block-mark.ensures.block c.begin_block-mark.ensures.inside c.requires)

pub for_block_literals-rest_literals-requires : goal.for_block_literals-rest_literals-requires
for_block_literals-rest_literals-requires t c =
    let old = c.args.types.now in
    let d = c.args.declared.now in
    (first_of (search (rules, the_lemmas), grind (the_lemmas, arith, common_steps), grind (the_lemmas, arith, elements)), gathers_some c.in_ok-list_literals.ensures (block_some old d c.begin_block-mark.new.declared c.begin_block-mark.ensures.block c.begin_block-mark.ensures.inside c.requires))

pub for_block_literals-end_block-requires : goal.for_block_literals-end_block-requires
for_block_literals-end_block-requires t c =
    let d = c.args.declared.now in
    let d1 = c.begin_block-mark.new.declared in
    let d2 = c.list_literals.new.declared in
    let d3 = c.rest_literals.new.declared in
    may_end d d3 c.begin_block-mark.result (inside_then d d1 d3 c.begin_block-mark.ensures.inside (around_then d1 d2 d3 c.in_ok-list_literals.ensures.around c.in_ok-rest_literals.ensures.around)) c.begin_block-mark.ensures.mark

pub for_block_literals-returns : goal.for_block_literals-returns
for_block_literals-returns t c =
    let d = c.args.declared.now in
    let d1 = c.begin_block-mark.new.declared in
    let d3 = c.rest_literals.new.declared in
    let b = c.begin_block-mark.ensures in
    let m = λ (s : Scope). stmts_literals s (stmts_of c.args.head.now) in
    let n = λ (s : Scope). maybe_literals s (maybe c.args.test.now) ++ (maybe_literals s (maybe c.args.step.now) ++ stmt_literals s (stmt_of c.args.body.now)) in
    let f = λ (s : Scope). scope_behind_all s (stmts_of c.args.head.now) in
    let both = gathers_then m n f (λ (s : Scope). s) c.in_ok-list_literals.ensures c.in_ok-rest_literals.ensures in
    let inside = inside_then d d1 d3 b.inside both.around in
    on_ok c.end_block.result (λ same. block_gathers (λ (s : Scope). m s ++ n (f s)) f b.block b.inside both same) (c.end_block.ensures d inside b.mark)

pub for_local_literals-rest_literals-requires : goal.for_local_literals-rest_literals-requires
for_local_literals-rest_literals-requires t c =
    (first_of (search (rules, the_lemmas), grind (the_lemmas, arith, common_steps), grind (the_lemmas, arith, elements)), gathers_some c.in_ok-refusal.ensures.gathers c.requires)

pub for_local_literals-returns : goal.for_local_literals-returns
for_local_literals-returns t c =
    let x = decl_of c.args.head.now in
    let m = λ (s : Scope). local_literals s x in
    let n = λ (s : Scope). maybe_literals s (maybe c.args.test.now) ++ (maybe_literals s (maybe c.args.step.now) ++ stmt_literals s (stmt_of c.args.body.now)) in
    let f = λ (s : Scope). scope_or s (declared s false x) in
    forgotten c.forget.new.declared x c.in_ok-refusal.refusal c.forget.result (gathers_then m n f (λ (s : Scope). s) c.in_ok-refusal.ensures.gathers c.in_ok-rest_literals.ensures) (λ s holds. c.in_ok-refusal.ensures.refusal s holds)
    (λ s e told holds. c.forget.ensures.holds s e told holds) c.forget.ensures.around

pub for_literals-returns-in-Block : goal.for_literals-returns-in-Block
for_literals-returns-in-Block t c =
    let f = c.for_block_literals.new in
    let all = λ (x : CStmt). OnOk c.for_block_literals.result (Gathers c.args.types.now f.types c.args.declared.now f.declared c.args.texts.now.items f.texts.items (λ s. stmt_literals s (tree.For x (maybe c.args.test.now) (maybe c.args.step.now) (stmt_of c.args.body.now))) (λ s. s)) in
    subst (λ (x : Stmt). all (stmt_of x)) (sym c.in-Block.is) (subst all (sym (block_made c.in-Block.all)) c.for_block_literals.ensures)

pub for_literals-returns-in-Local : goal.for_literals-returns-in-Local
for_literals-returns-in-Local t c =
    let f = c.for_local_literals.new in
    let all = λ (x : CStmt). OnOk c.for_local_literals.result (Gathers c.args.types.now f.types c.args.declared.now f.declared c.args.texts.now.items f.texts.items (λ s. stmt_literals s (tree.For x (maybe c.args.test.now) (maybe c.args.step.now) (stmt_of c.args.body.now))) (λ s. s)) in
    subst (λ (x : Stmt). all (stmt_of x)) (sym c.in-Local.is) c.for_local_literals.ensures

pub for_literals-rest_literals-requires : goal.for_literals-rest_literals-requires
for_literals-rest_literals-requires t c =
    (first_of (search (rules, the_lemmas), grind (the_lemmas, arith, common_steps), grind (the_lemmas, arith, elements)), gathers_some c.in_ok-statement_literals-in_default.ensures c.requires)

pub for_literals-returns-in_ok-statement_literals-in_default : goal.for_literals-returns-in_ok-statement_literals-in_default
for_literals-returns-in_ok-statement_literals-in_default t c =
    let h = c.args.head.now in
    let x = stmt_of h in
    let m = λ (s : Scope). stmt_literals s x in
    let n = λ (s : Scope). maybe_literals s (maybe c.args.test.now) ++ (maybe_literals s (maybe c.args.step.now) ++ stmt_literals s (stmt_of c.args.body.now)) in
    let f = λ (s : Scope). scope_behind s x in
    on_ok c.rest_literals.result (λ g.
    gathers_same (λ (s : Scope). m s ++ n (f s)) (λ (s : Scope). stmt_literals s (tree.For x (maybe c.args.test.now) (maybe c.args.step.now) (stmt_of c.args.body.now))) f (λ (s : Scope). s)
    (λ s. ap (λ (z : Scope). m s ++ n z) (sym (head_other h s c.in_default.not-Block))) (λ s. scope_still h s c.in_default.not-Local)
    (gathers_then m n f (λ (s : Scope). s) c.in_ok-statement_literals-in_default.ensures g)) c.rest_literals.ensures

pub switch_literals-parts_literals-requires : goal.switch_literals-parts_literals-requires
switch_literals-parts_literals-requires t c =
    let old = c.args.types.now in
    let d = c.args.declared.now in
    (first_of (search (rules, the_lemmas), grind (the_lemmas, arith, common_steps), grind (the_lemmas, arith, elements)), block_some old d c.begin_block-mark.new.declared c.begin_block-mark.ensures.block c.begin_block-mark.ensures.inside c.requires)

pub switch_literals-end_block-requires : goal.switch_literals-end_block-requires
switch_literals-end_block-requires t c =
    let d = c.args.declared.now in
    may_end d c.parts_literals.new.declared c.begin_block-mark.result (inside_then d c.begin_block-mark.new.declared c.parts_literals.new.declared c.begin_block-mark.ensures.inside c.in_ok-parts_literals.ensures.around) c.begin_block-mark.ensures.mark

pub switch_literals-returns : goal.switch_literals-returns
switch_literals-returns t c =
    let d = c.args.declared.now in
    let b = c.begin_block-mark.ensures in
    let ps = c.args.parts.now in
    let n = λ (s : Scope). parts_literals s (parts_of ps) in
    let inside = inside_then d c.begin_block-mark.new.declared c.parts_literals.new.declared b.inside c.in_ok-parts_literals.ensures.around in
    on_ok c.end_block.result (λ same. gathers_then (λ (s : Scope). literals_in s (expr_of c.args.e.now)) (λ (s : Scope). n (entered s)) (λ (s : Scope). s) (λ (s : Scope). s) (still c.args.types.now c.args.declared.now (λ (s : Scope). literals_in s (expr_of c.args.e.now)) (λ s fits. c.in_ok-expression_literals.ensures c.args.types.now s fits)) (block_gathers n (λ (s : Scope). parts_behind s (parts_of ps)) b.block b.inside c.in_ok-parts_literals.ensures same)) (c.end_block.ensures d inside b.mark)

pub part_literals-returns-in-Label : goal.part_literals-returns-in-Label
part_literals-returns-in-Label t c =
    let old = c.args.types.now in
    let d = c.args.declared.now in
    let xs = c.args.texts.now.items in
    subst (λ (x : Part). Gathers old old d d xs xs (λ s. part_literals s (part_of x)) (λ s. scope_behind_part s (part_of x))) (sym c.in-Label.is) (none_gathered old d xs)

pub part_literals-returns-in-Item : goal.part_literals-returns-in-Item
part_literals-returns-in-Item t c =
    let old = c.args.types.now in
    let d = c.args.declared.now in
    let xs = c.args.texts.now.items in
    let f = c.statement_literals.new in
    subst (λ (x : Part). OnOk c.statement_literals.result (Gathers old f.types d f.declared xs f.texts.items (λ s. part_literals s (part_of x)) (λ s. scope_behind_part s (part_of x)))) (sym c.in-Item.is) c.statement_literals.ensures
