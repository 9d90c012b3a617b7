use Rattle.std.proofs.Common.{◌≡◌, ◌+◌, ◌<◌, ◌≤◌, List, length, map, drop, get_or, refl, sym, ap, subst, ◌∙◌, arith, rules}
use Rattle.std.proofs.lemmas.Grind.{common_steps, elements}
use Rattle.std.proofs.lemmas.List.{drop_all}
use Rattle.std.specs.Prelude.{Option, IfOk}
use Rattle.c_syntax.specs.Plain as tree
use Rattle.c_syntax.specs.Plain.{CStmt, CPart, stmts, parts}
use Rattle.c_syntax.specs.View.{expr_of, maybe, decl_of, stmt_of, part_of}
use Rattle.c_syntax.specs.declared.tree.Part.{Part}
use Rattle.c_syntax.specs.declared.tree.Part.TheFolds.{the_lemmas}
use Rattle.c_syntax.specs.declared.tree.Stmt.{Stmt}
use Rattle.c_syntax.specs.declared.tree.Stmt.TheVariants as stmt
use Rattle.c_types.specs.Scope.{entered}
use Rattle.c_eval.specs.LiteralsIn.{maybe_literals, stmts_literals}
use Rattle.c_eval.specs.Environment.{behind_literals, block_objects, parts_objects, past, past_stmt, behind_all, in_block}
use Rattle.c_lowered.specs.Locations.{with_block}
use Rattle.c_lowered.specs.Counts.{expr_jumps, truth_jumps, maybe_jumps, maybe_truth_jumps, stmt_jumps, stmts_jumps, case_jumps, parts_jumps}
use Rattle.c_lowered.specs.Statements.{targets, words_in}
use Rattle.c_counted.specs.Rows.{stmts_of, parts_of}
use Rattle.c_counted.proofs.RowLemmas.{drop_at, block_made, switch_made}
use Rattle.c_addressing.proofs.HereLemmas.{some_later, as_code}
use Rattle.c_applied.proofs.LeadsLemmas.{keeps_then, kept, some_on, same_number, if_ok}
use Rattle.c_lower_blocks.proofs.InsideLemmas.{beside_then, inside_then, names_end, slots_end}
use Rattle.c_lower_blocks.proofs.StandingLemmas.{goes_then, goes_behind, goes_later, block_goes}
use Rattle.c_lower_statements.specs.Lowered.{Lowers, LowersPart}
use Rattle.c_lower_statements.proofs.PlaceLemmas.{other_block}
use Rattle.c_lower_statements.proofs.ReachLemmas.{placed_still, placed_on, reach_past, simple_on, lowers_as}
use Rattle.c_lower_statements.proofs.GoingLemmas.{begun, one_more, all_done, parts_begun, part_more, parts_done}
use Rattle.c_lower_statements.proofs.FormLemmas.{if_reach, else_reach, while_reach, do_reach, turns_reach, placed_in, block_reach, for_reach, for_other, switch_reach, item_lowers}
use Rattle.c_lower_statements.proofs.LabelLemmas.{label_on, none_added}
use Rattle.c_lower_statements.proofs.statements.+statements.Goals as goal

-- ---- what calls want

pub statement-inner_block-requires : goal.statement-inner_block-requires
statement-inner_block-requires t c = (first_of (search (rules, the_lemmas), grind (the_lemmas, arith, common_steps), grind (the_lemmas, arith, elements)), c.requires)

pub statement-one_choice-requires : goal.statement-one_choice-requires
statement-one_choice-requires t c = (first_of (search (rules, the_lemmas), grind (the_lemmas, arith, common_steps), grind (the_lemmas, arith, elements)), c.requires)

pub statement-two_choices-requires : goal.statement-two_choices-requires
statement-two_choices-requires t c = (first_of (search (rules, the_lemmas), grind (the_lemmas, arith, common_steps), grind (the_lemmas, arith, elements)), c.requires)

pub statement-while_loop-requires : goal.statement-while_loop-requires
statement-while_loop-requires t c = (first_of (search (rules, the_lemmas), grind (the_lemmas, arith, common_steps), grind (the_lemmas, arith, elements)), c.requires)

pub statement-do_loop-requires : goal.statement-do_loop-requires
statement-do_loop-requires t c = (first_of (search (rules, the_lemmas), grind (the_lemmas, arith, common_steps), grind (the_lemmas, arith, elements)), c.requires)

pub statement-for_loop-requires : goal.statement-for_loop-requires
statement-for_loop-requires t c = (first_of (search (rules, the_lemmas), grind (the_lemmas, arith, common_steps), grind (the_lemmas, arith, elements)), c.requires)

pub statement-switch-requires : goal.statement-switch-requires
statement-switch-requires t c = (first_of (search (rules, the_lemmas), grind (the_lemmas, arith, common_steps), grind (the_lemmas, arith, elements)), c.requires)

pub all_statements-statement-requires : goal.all_statements-statement-requires
all_statements-statement-requires t c = (first_of (search (rules, the_lemmas), grind (the_lemmas, arith, common_steps), grind (the_lemmas, arith, elements)), c.loop-t.invariant.goes.holds)

pub inner_block-all_statements-requires : goal.inner_block-all_statements-requires
inner_block-all_statements-requires t c = (first_of (search (rules, the_lemmas), grind (the_lemmas, arith, common_steps), grind (the_lemmas, arith, elements)), c.in_ok-begun.ensures.begins.holds)

pub inner_block-leave-requires-clause-names : goal.inner_block-leave-requires-clause-names
inner_block-leave-requires-clause-names t c =
    let begins = c.in_ok-begun.ensures.begins in
    names_end c.args.here.now c.all_statements.new.here c.in_ok-begun.begun.marks (inside_then begins.inside c.in_ok-end.ensures.goes.beside) begins.marks

pub inner_block-leave-requires-clause-slots : goal.inner_block-leave-requires-clause-slots
inner_block-leave-requires-clause-slots t c =
    let begins = c.in_ok-begun.ensures.begins in
    slots_end c.args.here.now c.all_statements.new.here c.in_ok-begun.begun.marks (inside_then begins.inside c.in_ok-end.ensures.goes.beside) begins.marks

pub one_choice-statement-requires : goal.one_choice-statement-requires
one_choice-statement-requires t c = (first_of (search (rules, the_lemmas), grind (the_lemmas, arith, common_steps), grind (the_lemmas, arith, elements)), some_on c.args.out.now c.unless.new.out c.args.here.now.declared c.in_ok-unless.ensures.keeps c.requires)

pub two_choices-statement-requires : goal.two_choices-statement-requires
two_choices-statement-requires t c = (first_of (search (rules, the_lemmas), grind (the_lemmas, arith, common_steps), grind (the_lemmas, arith, elements)), some_on c.args.out.now c.unless.new.out c.args.here.now.declared c.in_ok-unless.ensures.keeps c.requires)

pub two_choices-statement-requires-2 : goal.two_choices-statement-requires-2
two_choices-statement-requires-2 t c = (first_of (search (rules, the_lemmas), grind (the_lemmas, arith, common_steps), grind (the_lemmas, arith, elements)), some_later c.statement.new.out c.jump.new.out c.statement.new.here.declared (c.in_ok-jump.ensures c.next-end.result (same_number c.next-end.result)) c.in_ok-statement.ensures.goes.holds)

pub while_loop-unless-requires : goal.while_loop-unless-requires
while_loop-unless-requires t c = some_later c.args.out.now c.jump.new.out c.args.here.now.declared (c.in_ok-jump.ensures c.next-again.result (same_number c.next-again.result)) c.requires

pub while_loop-statement-requires : goal.while_loop-statement-requires
while_loop-statement-requires t c = (first_of (search (rules, the_lemmas), grind (the_lemmas, arith, common_steps), grind (the_lemmas, arith, elements)), some_on c.args.out.now c.unless.new.out c.args.here.now.declared (keeps_then (kept (c.in_ok-jump.ensures c.next-again.result (same_number c.next-again.result))) c.in_ok-unless.ensures.keeps) c.requires)

pub do_loop-statement-requires : goal.do_loop-statement-requires
do_loop-statement-requires t c = (first_of (search (rules, the_lemmas), grind (the_lemmas, arith, common_steps), grind (the_lemmas, arith, elements)), some_later c.args.out.now c.jump.new.out c.args.here.now.declared (c.in_ok-jump.ensures c.next-first.result (same_number c.next-first.result)) c.requires)

pub do_loop-where_true-requires : goal.do_loop-where_true-requires
do_loop-where_true-requires t c = some_later c.statement.new.out c.jump-2.new.out c.statement.new.here.declared (c.in_ok-jump-2.ensures c.next-test.result (same_number c.next-test.result)) c.in_ok-statement.ensures.goes.holds

pub turns-maybe_unless-requires : goal.turns-maybe_unless-requires
turns-maybe_unless-requires t c = some_later c.args.out.now c.jump.new.out c.args.here.now.declared (c.in_ok-jump.ensures c.next-again.result (same_number c.next-again.result)) c.requires

pub turns-step_aside-requires : goal.turns-step_aside-requires
turns-step_aside-requires t c = some_on c.args.out.now c.maybe_unless.new.out c.args.here.now.declared (keeps_then (kept (c.in_ok-jump.ensures c.next-again.result (same_number c.next-again.result))) c.in_ok-maybe_unless.ensures.keeps) c.requires

pub turns-statement-requires : goal.turns-statement-requires
turns-statement-requires t c = (first_of (search (rules, the_lemmas), grind (the_lemmas, arith, common_steps), grind (the_lemmas, arith, elements)), some_on c.args.out.now c.step_aside.new.out c.args.here.now.declared (keeps_then (keeps_then (kept (c.in_ok-jump.ensures c.next-again.result (same_number c.next-again.result))) c.in_ok-maybe_unless.ensures.keeps) c.in_ok-ahead.ensures.keeps) c.requires)

pub for_block-all_statements-requires : goal.for_block-all_statements-requires
for_block-all_statements-requires t c = (first_of (search (rules, the_lemmas), grind (the_lemmas, arith, common_steps), grind (the_lemmas, arith, elements)), c.in_ok-begun.ensures.begins.holds)

pub for_block-turns-requires : goal.for_block-turns-requires
for_block-turns-requires t c = (first_of (search (rules, the_lemmas), grind (the_lemmas, arith, common_steps), grind (the_lemmas, arith, elements)), c.in_ok-start.ensures.goes.holds)

pub for_block-leave-requires-clause-names : goal.for_block-leave-requires-clause-names
for_block-leave-requires-clause-names t c =
    let begins = c.in_ok-begun.ensures.begins in
    names_end c.args.here.now c.turns.new.here c.in_ok-begun.begun.marks (inside_then begins.inside (beside_then c.in_ok-start.ensures.goes.beside c.in_ok-end.ensures.goes.beside)) begins.marks

pub for_block-leave-requires-clause-slots : goal.for_block-leave-requires-clause-slots
for_block-leave-requires-clause-slots t c =
    let begins = c.in_ok-begun.ensures.begins in
    slots_end c.args.here.now c.turns.new.here c.in_ok-begun.begun.marks (inside_then begins.inside (beside_then c.in_ok-start.ensures.goes.beside c.in_ok-end.ensures.goes.beside)) begins.marks

pub for_loop-for_block-requires : goal.for_loop-for_block-requires
for_loop-for_block-requires t c = (first_of (search (rules, the_lemmas), grind (the_lemmas, arith, common_steps), grind (the_lemmas, arith, elements)), c.requires)

pub for_loop-statement-requires : goal.for_loop-statement-requires
for_loop-statement-requires t c = (first_of (search (rules, the_lemmas), grind (the_lemmas, arith, common_steps), grind (the_lemmas, arith, elements)), c.requires)

pub for_loop-turns-requires : goal.for_loop-turns-requires
for_loop-turns-requires t c = (first_of (search (rules, the_lemmas), grind (the_lemmas, arith, common_steps), grind (the_lemmas, arith, elements)), c.in_ok-start-in_default.ensures.goes.holds)

pub switch-begin_switch-requires : goal.switch-begin_switch-requires
switch-begin_switch-requires t c = some_on c.args.out.now c.value.new.out c.args.here.now.declared c.in_ok-value.ensures.keeps c.requires

pub switch-all_parts-requires : goal.switch-all_parts-requires
switch-all_parts-requires t c = (first_of (search (rules, the_lemmas), grind (the_lemmas, arith, common_steps), grind (the_lemmas, arith, elements)), some_later c.begin_switch.new.out c.jump.new.out c.begin_switch.new.here.declared (c.in_ok-jump.ensures c.default_block.result (same_number c.default_block.result)) c.in_ok-begun.ensures.begins.holds)

pub switch-leave-requires-clause-names : goal.switch-leave-requires-clause-names
switch-leave-requires-clause-names t c =
    let begins = c.in_ok-begun.ensures.begins in
    names_end c.args.here.now c.all_parts.new.here c.in_ok-begun.begun.marks (inside_then begins.inside c.in_ok-all_parts.ensures.goes.beside) begins.marks

pub switch-leave-requires-clause-slots : goal.switch-leave-requires-clause-slots
switch-leave-requires-clause-slots t c =
    let begins = c.in_ok-begun.ensures.begins in
    slots_end c.args.here.now c.all_parts.new.here c.in_ok-begun.begun.marks (inside_then begins.inside c.in_ok-all_parts.ensures.goes.beside) begins.marks

pub all_parts-one_part-requires : goal.all_parts-one_part-requires
all_parts-one_part-requires t c = (first_of (search (rules, the_lemmas), grind (the_lemmas, arith, common_steps), grind (the_lemmas, arith, elements)), c.loop-part.invariant.goes.holds)

pub one_part-statement-requires : goal.one_part-statement-requires
one_part-statement-requires t c = (first_of (search (rules, the_lemmas), grind (the_lemmas, arith, common_steps), grind (the_lemmas, arith, elements)), c.requires)

-- ---- statements

pub statement-returns-in-Block : goal.statement-returns-in-Block
statement-returns-in-Block t c =
    lowers_as c.inner_block.result c.args.out.now c.inner_block.new.out c.args.here.now c.inner_block.new.here c.args.structs.now c.args.block.now c.args.block.now (tree.Block (stmts_of c.in-Block.all)) (stmt_of c.args.t.now) c.args.to c.args.k
    (sym (ap stmt_of c.in-Block.is ∙ block_made c.in-Block.all)) c.inner_block.ensures

pub statement-returns-in-Local : goal.statement-returns-in-Local
statement-returns-in-Local t c =
    lowers_as c.local.result c.args.out.now c.local.new.out c.args.here.now c.local.new.here c.args.structs.now c.args.block.now c.local.new.block (tree.Local (decl_of c.in-Local.d)) (stmt_of c.args.t.now) c.args.to c.args.k
    (ap stmt_of (sym c.in-Local.is)) (c.local.ensures c.args.to)

pub statement-returns-in-None : goal.statement-returns-in-None
statement-returns-in-None t c =
    lowers_as c.one_choice.result c.args.out.now c.one_choice.new.out c.args.here.now c.one_choice.new.here c.args.structs.now c.args.block.now c.one_choice.new.block (tree.If (expr_of c.in-If.e) (stmt_of c.deref.result.now)) (stmt_of c.args.t.now) c.args.to c.args.k
    (ap (λ (x : Stmt). tree.If (expr_of c.in-If.e) (stmt_of x)) c.deref.ensures ∙ ap stmt_of (sym (c.in-If.is ∙ ap (λ (o : Option _). stmt.If c.in-If.e c.in-If.body o) c.in-None.is))) c.one_choice.ensures

pub statement-returns-in-Some : goal.statement-returns-in-Some
statement-returns-in-Some t c =
    lowers_as c.two_choices.result c.args.out.now c.two_choices.new.out c.args.here.now c.two_choices.new.here c.args.structs.now c.args.block.now c.two_choices.new.block
    (tree.IfElse (expr_of c.in-If.e) (stmt_of c.deref-in-Some.result.now) (stmt_of c.deref-in-Some-2.result.now)) (stmt_of c.args.t.now) c.args.to c.args.k
    ((ap (λ (x : Stmt). tree.IfElse (expr_of c.in-If.e) (stmt_of x) (stmt_of c.deref-in-Some-2.result.now)) c.deref-in-Some.ensures ∙ ap (λ (x : Stmt). tree.IfElse (expr_of c.in-If.e) (stmt_of c.in-If.body.value) (stmt_of x)) c.deref-in-Some-2.ensures)
    ∙ ap stmt_of (sym (c.in-If.is ∙ ap (λ (o : Option _). stmt.If c.in-If.e c.in-If.body o) c.in-Some.is))) c.two_choices.ensures

pub statement-returns-in-While : goal.statement-returns-in-While
statement-returns-in-While t c =
    lowers_as c.while_loop.result c.args.out.now c.while_loop.new.out c.args.here.now c.while_loop.new.here c.args.structs.now c.args.block.now c.while_loop.new.block (tree.While (expr_of c.in-While.e) (stmt_of c.deref-in-While.result.now)) (stmt_of c.args.t.now) c.args.to c.args.k
    (ap (λ (x : Stmt). tree.While (expr_of c.in-While.e) (stmt_of x)) c.deref-in-While.ensures ∙ ap stmt_of (sym c.in-While.is)) (c.while_loop.ensures c.args.to)

pub statement-returns-in-Do : goal.statement-returns-in-Do
statement-returns-in-Do t c =
    lowers_as c.do_loop.result c.args.out.now c.do_loop.new.out c.args.here.now c.do_loop.new.here c.args.structs.now c.args.block.now c.do_loop.new.block (tree.Do (stmt_of c.deref-in-Do.result.now) (expr_of c.in-Do.e)) (stmt_of c.args.t.now) c.args.to c.args.k
    (ap (λ (x : Stmt). tree.Do (stmt_of x) (expr_of c.in-Do.e)) c.deref-in-Do.ensures ∙ ap stmt_of (sym c.in-Do.is)) (c.do_loop.ensures c.args.to)

pub statement-returns-in-For : goal.statement-returns-in-For
statement-returns-in-For t c =
    lowers_as c.for_loop.result c.args.out.now c.for_loop.new.out c.args.here.now c.for_loop.new.here c.args.structs.now c.args.block.now c.for_loop.new.block
    (tree.For (stmt_of c.deref-in-For.result.now) (maybe c.in-For.test) (maybe c.in-For.step) (stmt_of c.deref-in-For-2.result.now)) (stmt_of c.args.t.now) c.args.to c.args.k
    ((ap (λ (x : Stmt). tree.For (stmt_of x) (maybe c.in-For.test) (maybe c.in-For.step) (stmt_of c.deref-in-For-2.result.now)) c.deref-in-For.ensures ∙ ap (λ (x : Stmt). tree.For (stmt_of c.in-For.first.value) (maybe c.in-For.test) (maybe c.in-For.step) (stmt_of x)) c.deref-in-For-2.ensures)
    ∙ ap stmt_of (sym c.in-For.is)) c.for_loop.ensures

pub statement-returns-in-Switch : goal.statement-returns-in-Switch
statement-returns-in-Switch t c =
    lowers_as c.switch.result c.args.out.now c.switch.new.out c.args.here.now c.switch.new.here c.args.structs.now c.args.block.now c.args.block.now (tree.Switch (expr_of c.in-Switch.e) (parts_of c.in-Switch.parts)) (stmt_of c.args.t.now) c.args.to c.args.k
    (sym (ap stmt_of c.in-Switch.is ∙ switch_made c.in-Switch.e c.in-Switch.parts)) c.switch.ensures

pub statement-returns-in-Expr : goal.statement-returns-in-Expr
statement-returns-in-Expr t c =
    lowers_as c.effect.result c.args.out.now c.effect.new.out c.args.here.now c.args.here.now c.args.structs.now c.args.block.now c.args.block.now (tree.Do_expr (expr_of c.in-Expr.e)) (stmt_of c.args.t.now) c.args.to c.args.k
    (ap stmt_of (sym c.in-Expr.is))
    (simple_on c.effect.result c.args.out.now c.effect.new.out c.args.here.now c.args.structs.now c.args.block.now (tree.Do_expr (expr_of c.in-Expr.e)) c.args.to c.args.k c.effect.ensures.keeps c.requires refl
    (λ w env n m p is hm hn ht. c.effect.ensures.code w env m n is hm hn))

pub statement-returns-in-Return : goal.statement-returns-in-Return
statement-returns-in-Return t c =
    lowers_as c.returns.result c.args.out.now c.returns.new.out c.args.here.now c.args.here.now c.args.structs.now c.args.block.now c.args.block.now (tree.Return c.in-Return._at (maybe c.in-Return.e)) (stmt_of c.args.t.now) c.args.to c.args.k
    (ap stmt_of (sym c.in-Return.is))
    (simple_on c.returns.result c.args.out.now c.returns.new.out c.args.here.now c.args.structs.now c.args.block.now (tree.Return c.in-Return._at (maybe c.in-Return.e)) c.args.to c.args.k c.returns.ensures.keeps c.requires refl
    (λ w env n m p is hm hn ht. c.returns.ensures.code w env m n is hm hn))

pub statement-returns-in-Break : goal.statement-returns-in-Break
statement-returns-in-Break t c =
    lowers_as c.jump_out.result c.args.out.now c.jump_out.new.out c.args.here.now c.args.here.now c.args.structs.now c.args.block.now c.args.block.now (tree.Break c.in-Break._at) (stmt_of c.args.t.now) c.args.to c.args.k
    (ap stmt_of (sym c.in-Break.is))
    (simple_on c.jump_out.result c.args.out.now c.jump_out.new.out c.args.here.now c.args.structs.now c.args.block.now (tree.Break c.in-Break._at) c.args.to c.args.k c.jump_out.ensures.keeps c.requires refl
    (λ w env n m p is hm hn ht. c.jump_out.ensures.code p.broke ht.broke w env m n is hm hn))

pub statement-returns-in-Continue : goal.statement-returns-in-Continue
statement-returns-in-Continue t c =
    lowers_as c.jump_out-in-Continue.result c.args.out.now c.jump_out-in-Continue.new.out c.args.here.now c.args.here.now c.args.structs.now c.args.block.now c.args.block.now (tree.Continue c.in-Continue._at) (stmt_of c.args.t.now) c.args.to c.args.k
    (ap stmt_of (sym c.in-Continue.is))
    (simple_on c.jump_out-in-Continue.result c.args.out.now c.jump_out-in-Continue.new.out c.args.here.now c.args.structs.now c.args.block.now (tree.Continue c.in-Continue._at) c.args.to c.args.k c.jump_out-in-Continue.ensures.keeps c.requires refl
    (λ w env n m p is hm hn ht. c.jump_out-in-Continue.ensures.code p.continued ht.continued w env m n is hm hn))

pub statement-returns-in-Empty : goal.statement-returns-in-Empty
statement-returns-in-Empty t c =
    let out = c.args.out.now in
    let h = c.args.here.now in
    let k = c.args.block.now in
    subst (λ (x : CStmt). Lowers out out h h c.args.structs.now k k x c.args.to c.args.k c.args.k) (ap stmt_of (sym c.in-Empty.is)) (none_added out h c.args.structs.now k c.args.to c.args.k c.requires)

pub all_statements-loop-t-init : goal.all_statements-loop-t-init
all_statements-loop-t-init t c = begun c.args.out.now c.args.here.now c.args.structs.now c.args.block.now c.args.to c.args.k (stmts_of c.args.all.now) c.requires

pub all_statements-loop-t-preserved : goal.all_statements-loop-t-preserved
all_statements-loop-t-preserved t c =
    let l = c.loop-t in
    let items = c.args.all.now.items.items in
    let i = l.t-index in
    let next = c.t-item.result in
    let within : i < length items = subst (λ (x : List Stmt). i < length x) c.deref-t-items.ensures.value c.loop-t-test.true in
    let there : next ≡ get_or items i next = subst (λ (x : List Stmt). next ≡ get_or x i next) c.deref-t-items.ensures.value c.t-item.is in
    one_more c.args.out.now l.out c.statement.new.out c.args.here.now l.here c.statement.new.here c.args.structs.now c.args.block.now l.block c.statement.new.block c.args.to c.args.k l.behind c.in_ok-behind.behind
    (stmts (map stmt_of (drop i items))) (stmts (map stmt_of (drop (i + 1) items))) (stmts_of c.args.all.now) (stmt_of next) (ap (λ (x : List Stmt). stmts (map stmt_of x)) (drop_at items i next within there)) l.invariant c.in_ok-behind.ensures

pub all_statements-returns : goal.all_statements-returns
all_statements-returns t c =
    let l = c.loop-t in
    let items = c.args.all.now.items.items in
    let past : length items ≤ l.t-index = subst (λ (x : List Stmt). length x ≤ l.t-index) c.deref-t-items.ensures.value c.loop-t-test.false in
    all_done c.args.out.now l.out c.args.here.now l.here c.args.structs.now c.args.block.now l.block c.args.to c.args.k l.behind (stmts (map stmt_of (drop l.t-index items))) (stmts_of c.args.all.now)
    (ap (λ (x : List Stmt). stmts (map stmt_of x)) (drop_all l.t-index items past)) l.invariant

pub inner_block-returns : goal.inner_block-returns
inner_block-returns t c =
    let h = c.args.here.now in
    let k = c.args.block.now in
    let begins = c.in_ok-begun.ensures.begins in
    let within = c.in_ok-end.ensures in
    let same = c.in_ok-leave.ensures h (inside_then begins.inside within.goes.beside) begins.marks in
    let all = stmts_of c.args.all.now in
    record {
      goes = block_goes c.args.out.now c.all_statements.new.out h c.leave.new.here k same (keeps_then begins.keeps within.goes.keeps) c.requires;
      code = λ w env n m p placed hm ht fit.
          let objects = block_objects (entered env.scope) all in
          let stands = c.in_ok-begun.ensures.stands w env n placed.stands.here placed.stands.free in
          let at = placed_in objects begins.keeps stands placed in
          let r = within.code (with_block objects n w) (in_block (length w.bases) env) (n + words_in objects) m p at hm ht fit in
          block_reach (stmts_literals (entered env.scope) all) same c.in_ok-begun.ensures.still r placed;
    }

pub one_choice-returns : goal.one_choice-returns
one_choice-returns t c =
    let test = expr_of c.args.e.now in
    let body = stmt_of c.args.body.now in
    let within = c.in_ok-statement.ensures in
    record {
      goes = goes_later (goes_behind c.in_ok-unless.ensures.keeps within.goes) (kept (c.in_ok-jump.ensures c.next-end.result (same_number c.next-end.result)));
      code = λ w env n m p placed hm ht fit.
          let far = m + truth_jumps test + stmt_jumps body + 1 in
          let inside = c.plus-inside.ensures m (truth_jumps test) hm c.truth_jumps_of.ensures in
          let end = c.next-end.ensures (m + truth_jumps test + stmt_jumps body) (c.plus.ensures (m + truth_jumps test) (stmt_jumps body) inside c.statement_jumps_of.ensures) in
          let first = c.in_ok-unless.ensures.code far end w env m n placed.stands.here hm placed.stands.free in
          let inner = within.code w (past test env) n (m + truth_jumps test) p (placed_on first.emits placed) inside ht fit.0 in
          if_reach env n m p test body fit.1 first inner (c.in_ok-jump.ensures far end) end;
    }

pub two_choices-returns : goal.two_choices-returns
two_choices-returns t c =
    let test = expr_of c.args.e.now in
    let body = stmt_of c.args.body.now in
    let second = stmt_of c.args.second.now in
    let within = c.in_ok-statement.ensures in
    let beside = c.in_ok-statement-2.ensures in
    let one = kept (c.in_ok-jump.ensures c.next-end.result (same_number c.next-end.result)) in
    let two = kept (c.in_ok-jump-2.ensures c.next-end.result (same_number c.next-end.result)) in
    record {
      goes = goes_later (goes_behind c.in_ok-unless.ensures.keeps (goes_then within.goes (goes_behind one beside.goes))) two;
      code = λ w env n m p placed hm ht fit.
          let over = m + truth_jumps test + stmt_jumps body + 1 in
          let far = over + stmt_jumps second + 1 in
          let inside = c.plus-inside.ensures m (truth_jumps test) hm c.truth_jumps_of.ensures in
          let other = c.next-other.ensures (m + truth_jumps test + stmt_jumps body) (c.plus.ensures (m + truth_jumps test) (stmt_jumps body) inside c.statement_jumps_of.ensures) in
          let end = c.next-end.ensures (over + stmt_jumps second) (c.plus-2.ensures over (stmt_jumps second) other c.statement_jumps_of-2.ensures) in
          let first = c.in_ok-unless.ensures.code over other w env m n placed.stands.here hm placed.stands.free in
          let inner = within.code w (past test env) n (m + truth_jumps test) p (placed_on first.emits placed) inside ht fit.0.0 in
          let reached = reach_past (past test env) body fit.0.1 inner in
          let jumps = c.in_ok-jump.ensures far end in
          let last = beside.code w (past_stmt body (past test env)) n over p (placed_still jumps reached.placed) other ht fit.1.0 in
          else_reach env n m p test body second fit.1.1 first inner jumps last (c.in_ok-jump-2.ensures far end) end;
    }

pub while_loop-returns : goal.while_loop-returns
while_loop-returns t c = λ to.
    let test = expr_of c.args.e.now in
    let body = stmt_of c.args.body.now in
    let within = c.in_ok-statement.ensures in
    let one = kept (c.in_ok-jump.ensures c.next-again.result (same_number c.next-again.result)) in
    let two = kept (c.in_ok-jump-2.ensures c.next-again.result (same_number c.next-again.result)) in
    record {
      goes = goes_later (goes_behind (keeps_then one c.in_ok-unless.ensures.keeps) within.goes) two;
      code = λ w env n m p placed hm ht fit.
          let far = m + 1 + truth_jumps test + stmt_jumps body + 1 in
          let again = c.next-again.ensures m hm in
          let inside = c.plus-inside.ensures (m + 1) (truth_jumps test) again c.truth_jumps_of.ensures in
          let end = c.next-end.ensures (m + 1 + truth_jumps test + stmt_jumps body) (c.plus.ensures (m + 1 + truth_jumps test) (stmt_jumps body) inside c.statement_jumps_of.ensures) in
          let start = c.in_ok-jump.ensures (m + 1) again in
          let at = placed_still start placed in
          let first = c.in_ok-unless.ensures.code far end w env (m + 1) n at.stands.here again at.stands.free in
          let inner = within.code w (past test env) n (m + 1 + truth_jumps test) (targets far (m + 1)) (placed_on first.emits at) inside (record { broke = end; continued = again }) fit.0 in
          while_reach env n m p test body fit.1 start first inner (c.in_ok-jump-2.ensures (m + 1) again) end;
    }

pub do_loop-returns : goal.do_loop-returns
do_loop-returns t c = λ to.
    let test = expr_of c.args.e.now in
    let body = stmt_of c.args.body.now in
    let within = c.in_ok-statement.ensures in
    let one = kept (c.in_ok-jump.ensures c.next-first.result (same_number c.next-first.result)) in
    let two = kept (c.in_ok-jump-2.ensures c.next-test.result (same_number c.next-test.result)) in
    record {
      goes = goes_later (goes_behind one within.goes) (keeps_then two c.in_ok-where_true.ensures.keeps);
      code = λ w env n m p placed hm ht fit.
          let over = m + 1 + stmt_jumps body + 1 in
          let far = over + truth_jumps test in
          let first = c.next-first.ensures m hm in
          let tests = c.next-test.ensures (m + 1 + stmt_jumps body) (c.plus.ensures (m + 1) (stmt_jumps body) first c.statement_jumps_of.ensures) in
          let end = c.plus-end.ensures over (truth_jumps test) tests c.truth_jumps_of.ensures in
          let start = c.in_ok-jump.ensures (m + 1) first in
          let inner = within.code w env n (m + 1) (targets far over) (placed_still start placed) first (record { broke = end; continued = tests }) fit.0 in
          let reached = reach_past env body fit.1 inner in
          let jumps = c.in_ok-jump-2.ensures over tests in
          let at = placed_still jumps reached.placed in
          let last = c.in_ok-where_true.ensures.code (m + 1) first w (past_stmt body env) over n at.stands.here tests at.stands.free in
          do_reach env n m p body test fit.1 start inner jumps last.emits end;
    }

pub turns-returns : goal.turns-returns
turns-returns t c =
    let test = maybe c.args.test.now in
    let step = maybe c.args.step.now in
    let body = stmt_of c.args.body.now in
    let within = c.in_ok-statement.ensures in
    let one = kept (c.in_ok-jump.ensures c.next-again.result (same_number c.next-again.result)) in
    let two = kept (c.in_ok-jump-2.ensures c.next-stepping.result (same_number c.next-stepping.result)) in
    let three = kept (c.in_ok-jump-3.ensures c.next-again.result (same_number c.next-again.result)) in
    record {
      goes = goes_later (goes_behind (keeps_then (keeps_then one c.in_ok-maybe_unless.ensures.keeps) c.in_ok-ahead.ensures.keeps) within.goes) (keeps_then two (keeps_then (kept c.in_ok-append.ensures) three));
      code = λ w env n m placed hm fit none.
          let tests = maybe_literals env.scope test in
          let place = behind_literals tests env in
          let over = m + 1 + maybe_truth_jumps test + stmt_jumps body + 1 in
          let far = over + maybe_jumps step + 1 in
          let again = c.next-again.ensures m hm in
          let inside = c.plus-inside.ensures (m + 1) (maybe_truth_jumps test) again c.maybe_truth_jumps_of.ensures in
          let stepping = c.next-stepping.ensures (m + 1 + maybe_truth_jumps test + stmt_jumps body) (c.plus.ensures (m + 1 + maybe_truth_jumps test) (stmt_jumps body) inside c.statement_jumps_of.ensures) in
          let end = c.next-end.ensures (over + maybe_jumps step) (c.plus-2.ensures over (maybe_jumps step) stepping c.maybe_jumps_of.ensures) in
          let start = c.in_ok-jump.ensures (m + 1) again in
          let at = placed_still start placed in
          let first = c.in_ok-maybe_unless.ensures.code far end w env (m + 1) n at.stands.here again at.stands.free in
          let there = placed_on first.emits at in
          let aside = c.in_ok-ahead.ensures.code w place over n there.stands.here stepping there.stands.free in
          let inner = within.code w (behind_literals (maybe_literals env.scope step) place) n (m + 1 + maybe_truth_jumps test) (targets far over) (placed_on aside.passed there) inside (record { broke = end; continued = stepping }) fit in
          let steps = as_code (c.as_slice.ensures.value ∙ aside.is) c.in_ok-append.ensures in
          turns_reach env n m test step body none start first aside.passed inner (c.in_ok-jump-2.ensures over stepping) steps (c.in_ok-jump-3.ensures (m + 1) again) end;
    }

pub for_block-returns : goal.for_block-returns
for_block-returns t c =
    let h = c.args.here.now in
    let k = c.args.block.now in
    let begins = c.in_ok-begun.ensures.begins in
    let heads = c.in_ok-start.ensures in
    let loops = c.in_ok-end.ensures in
    let same = c.in_ok-leave.ensures h (inside_then begins.inside (beside_then heads.goes.beside loops.goes.beside)) begins.marks in
    let all = stmts_of c.args.head.now in
    let test = maybe c.args.test.now in
    let step = maybe c.args.step.now in
    let body = stmt_of c.args.body.now in
    record {
      goes = block_goes c.args.out.now c.turns.new.out h c.leave.new.here k same (keeps_then begins.keeps (keeps_then heads.goes.keeps loops.goes.keeps)) c.requires;
      code = λ w env n m p placed hm ht fit.
          let objects = block_objects (entered env.scope) all in
          let stands = c.in_ok-begun.ensures.stands w env n placed.stands.here placed.stands.free in
          let at = placed_in objects begins.keeps stands placed in
          let v = with_block objects n w in
          let place = in_block (length w.bases) env in
          let free = n + words_in objects in
          let r = heads.code v place free m p at hm ht fit.0.0 in
          let q = loops.code v (behind_all all place) free (m + stmts_jumps all) r.placed r.leads.block fit.1.0 fit.1.1 in
          for_reach m p all test step body same c.in_ok-begun.ensures.still r q placed;
    }

pub for_loop-returns-in-Block : goal.for_loop-returns-in-Block
for_loop-returns-in-Block t c =
    let test = maybe c.args.test.now in
    let step = maybe c.args.step.now in
    let body = stmt_of c.args.body.now in
    lowers_as c.for_block.result c.args.out.now c.for_block.new.out c.args.here.now c.for_block.new.here c.args.structs.now c.args.block.now c.args.block.now (tree.For (tree.Block (stmts_of c.in-Block.all)) test step body) (tree.For (stmt_of c.args.head.now) test step body) c.args.to c.args.k
    (ap (λ (x : CStmt). tree.For x test step body) (sym (ap stmt_of c.in-Block.is ∙ block_made c.in-Block.all))) c.for_block.ensures

pub for_loop-returns-in_ok-start-in_default : goal.for_loop-returns-in_ok-start-in_default
for_loop-returns-in_ok-start-in_default t c =
    if_ok c.turns.result
    (λ told loops. for_other c.args.out.now c.statement.new.out c.turns.new.out c.args.here.now c.statement.new.here c.turns.new.here c.args.structs.now c.args.block.now c.statement.new.block c.turns.new.block (stmt_of c.args.head.now) (maybe c.args.test.now) (maybe c.args.step.now) (stmt_of c.args.body.now)
    c.args.to c.args.k c.in_ok-start-in_default.start told (other_block c.args.head.now c.in_default.not-Block) c.in_ok-start-in_default.ensures loops)
    c.turns.ensures

pub switch-returns : goal.switch-returns
switch-returns t c =
    let h = c.args.here.now in
    let k = c.args.block.now in
    let test = expr_of c.args.e.now in
    let all = parts_of c.args.parts.now in
    let begins = c.in_ok-begun.ensures.begins in
    let within = c.in_ok-all_parts.ensures in
    let same = c.in_ok-leave.ensures h (inside_then begins.inside within.goes.beside) begins.marks in
    let one = kept (c.in_ok-jump.ensures c.default_block.result (same_number c.default_block.result)) in
    let two = kept (c.in_ok-jump-2.ensures c.next-end.result (same_number c.next-end.result)) in
    record {
      goes = block_goes c.args.out.now c.jump-2.new.out h c.leave.new.here k same (keeps_then c.in_ok-value.ensures.keeps (keeps_then begins.keeps (keeps_then one (keeps_then within.goes.keeps two)))) c.requires;
      code = λ w env n m p placed hm ht fit.
          let place = past test env in
          let objects = parts_objects (entered env.scope) all in
          let front = m + expr_jumps test + case_jumps all + 1 in
          let far = front + parts_jumps all + 1 in
          let first = c.next-first.ensures (m + expr_jumps test + case_jumps all) (c.plus-compared.ensures (m + expr_jumps test) (case_jumps all) (c.plus.ensures m (expr_jumps test) hm c.jumps_of.ensures) c.case_jumps_of.ensures) in
          let end = c.next-end.ensures (front + parts_jumps all) (c.plus-2.ensures front (parts_jumps all) first c.parts_jumps_of.ensures) in
          let tests = c.in_ok-value.ensures.code w env m n placed.stands.here hm placed.stands.free in
          let at = placed_on tests.emits placed in
          let cases = c.in_ok-begun.ensures.cases w place front (length w.bases) at.stands.here first in
          let over = c.in_ok-jump.ensures _ (c.default_block.ensures front far first end) in
          let stands = c.in_ok-begun.ensures.stands w place n at.stands.here at.stands.free in
          let there = placed_still over (placed_in objects begins.keeps stands at) in
          let r = within.code (with_block objects n w) (in_block (length w.bases) place) (n + words_in objects) front (targets far p.continued) there first (record { broke = end; continued = ht.continued }) fit in
          switch_reach env n m p test all same tests cases over r (c.in_ok-jump-2.ensures far end) end placed;
    }

pub all_parts-loop-part-init : goal.all_parts-loop-part-init
all_parts-loop-part-init t c = parts_begun c.args.out.now c.args.here.now c.args.structs.now c.args.block.now c.args.to c.args.k (parts_of c.args.parts.now) c.requires

pub all_parts-loop-part-preserved : goal.all_parts-loop-part-preserved
all_parts-loop-part-preserved t c =
    let l = c.loop-part in
    let items = c.args.parts.now.items.items in
    let i = l.part-index in
    let next = c.part-item.result in
    let within : i < length items = subst (λ (x : List Part). i < length x) c.deref-part-items.ensures.value c.loop-part-test.true in
    let there : next ≡ get_or items i next = subst (λ (x : List Part). next ≡ get_or x i next) c.deref-part-items.ensures.value c.part-item.is in
    part_more c.args.out.now l.out c.one_part.new.out c.args.here.now l.here c.one_part.new.here c.args.structs.now c.args.block.now l.block c.one_part.new.block c.args.to c.args.k l.behind c.in_ok-behind.behind
    (parts (map part_of (drop i items))) (parts (map part_of (drop (i + 1) items))) (parts_of c.args.parts.now) (part_of next) (ap (λ (x : List Part). parts (map part_of x)) (drop_at items i next within there)) l.invariant c.in_ok-behind.ensures

pub all_parts-returns : goal.all_parts-returns
all_parts-returns t c =
    let l = c.loop-part in
    let items = c.args.parts.now.items.items in
    let past : length items ≤ l.part-index = subst (λ (x : List Part). length x ≤ l.part-index) c.deref-part-items.ensures.value c.loop-part-test.false in
    parts_done c.args.out.now l.out c.args.here.now l.here c.args.structs.now c.args.block.now l.block c.args.to c.args.k l.behind (parts (map part_of (drop l.part-index items))) (parts_of c.args.parts.now)
    (ap (λ (x : List Part). parts (map part_of x)) (drop_all l.part-index items past)) l.invariant

pub one_part-returns-in-Label : goal.one_part-returns-in-Label
one_part-returns-in-Label t c =
    label_on c.jump_out.result c.args.out.now c.jump_out.new.out c.args.here.now c.args.structs.now c.args.block.now c.in-Label._at (maybe c.in-Label._e) (part_of c.args.part.now) c.args.to c.args.k (ap part_of c.in-Label.is) c.jump_out.ensures.keeps c.requires
    (λ w env n m placed hm. c.jump_out.ensures.code (m + 1) (c.next.ensures m hm) w env m n placed.stands.here hm placed.stands.free)

pub one_part-returns-in-Item : goal.one_part-returns-in-Item
one_part-returns-in-Item t c =
    subst (λ (x : CPart). IfOk c.statement.result (λ told. LowersPart c.args.out.now c.statement.new.out c.args.here.now c.statement.new.here c.args.structs.now c.args.block.now c.statement.new.block x c.args.to c.args.k told)) (sym (ap part_of c.in-Item.is))
    (if_ok c.statement.result (λ told x. item_lowers c.args.out.now c.statement.new.out c.args.here.now c.statement.new.here c.args.structs.now c.args.block.now c.statement.new.block (stmt_of c.in-Item.t) c.args.to c.args.k told x) c.statement.ensures)
