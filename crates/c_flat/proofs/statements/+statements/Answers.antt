use Rattle.std.proofs.Common.{◌≡◌, ◌+◌, ◌<◌, ◌≤◌, ℕ, suc, Bool, List, [], ◌∷◌, ◌++◌, length, map, drop, get_or, Option, Some, None, refl, sym, ap, subst, ◌∙◌, append_assoc, arith, rules}
use Rattle.std.proofs.lemmas.Grind.{common_steps, elements}
use Rattle.std.proofs.lemmas.List.{drop_all}
use Rattle.std.specs.Prelude.{Ok, OnOk, option_map}
use Rattle.c_syntax.specs.Plain as tree
use Rattle.c_syntax.specs.Plain.{CExpr, CStmt, CPart, stmts, parts}
use Rattle.c_syntax.specs.View.{expr_of, maybe, decl_of, stmt_of, part_of}
use Rattle.c_syntax.specs.declared.tree.Part.{Part}
use Rattle.c_syntax.specs.declared.tree.Part.TheVariants as part
use Rattle.c_syntax.specs.declared.tree.Stmt.{Stmt}
use Rattle.c_syntax.specs.declared.tree.Part.TheFolds.{the_lemmas}
use Rattle.c_syntax.specs.declared.tree.Stmt.TheVariants as stmt
use Rattle.c_types.specs.Scope as scopes
use Rattle.c_eval.specs.State.{Cell}
use Rattle.c_eval.specs.Environment.{behind_literals, block_objects, parts_objects, objects_in, past, past_stmt, behind, behind_all, in_block}
use Rattle.c_eval.specs.LiteralsIn.{maybe_literals, stmt_literals, stmts_literals}
use Rattle.c_code.specs.Code as code
use Rattle.c_code.specs.Code.{Instruction, maybe_test_code, maybe_effect_code, stmt_code, stmts_code, parts_code, labels_in, slots_for_all, slots_for_parts}
use Rattle.c_types.specs.Table.{known}
use Rattle.c_plain.specs.declared.instruction.Instruction as rust
use Rattle.c_operands.proofs.OperandLemmas.{grows_then}
use Rattle.c_declared.proofs.HeldLemmas.{held_kept}
use Rattle.c_emitted.specs.Tables.{AreMeant}
use Rattle.c_emitted.specs.Emits.{tables_of}
use Rattle.c_emitted.proofs.EmitLemmas.{always, on_ok, both, nothing, behind_place}
use Rattle.c_jumps.proofs.JumpLemmas.{one_chosen, chosen}
use Rattle.c_statements.specs.Trees.{stmts_of, parts_of}
use Rattle.c_statements.proofs.HeadLemmas.{other_block}
use Rattle.c_statements.proofs.TreeLemmas.{block_made, switch_made}
use Rattle.c_aside.specs.declared.cases.Label as rust_label
use Rattle.c_aside.specs.Aside.{HasCode, Appends}
use Rattle.c_aside.specs.Cases.{labels_of}
use Rattle.c_aside.proofs.AsideLemmas.{aside_is, aside_quiet, aside_appended, drop_at}
use Rattle.c_blocks.specs.Counts.{count_in, is_local, is_local_part}
use Rattle.c_blocks.specs.Objects.{unset_objects, EndsBlock}
use Rattle.c_blocks.proofs.BlockLemmas.{entered_some, inside_then, names_end, slots_end}
use Rattle.c_flat.specs.Compiled.{IsPlaced, Reaches, Compiles, CompilesPart, Loops}
use Rattle.c_flat.proofs.PlaceLemmas.{no_objects}
use Rattle.c_flat.proofs.CountLemmas.{slots_counted, objects_counted, parts_counted, parts_objects_counted}
use Rattle.c_flat.proofs.PlacedLemmas.{placed_kept, placed_behind, placed_quiet, placed_entered, body_placed, finish, no_more, beside_then, goes_then, goes_behind, goes_later, block_goes, compiles_on, loops_on}
use Rattle.c_flat.proofs.LoopLemmas.{loop_emits, do_emits}
use Rattle.c_flat.proofs.GoingLemmas.{begun, one_more, all_done, parts_begun, part_more, parts_done}
use Rattle.c_flat.proofs.StatementLemmas.{compiled_as, simple_now, simple_on, while_on, loop_places, loop_reach, for_other, for_reach, only_these, block_reach, switch_reach, label_on, item_compiles}
use Rattle.c_flat.proofs.statements.+statements.Goals as goal

abbrev entered_scope : scopes.Scope → scopes.Scope
entered_scope s = scopes.entered s

pub statement-inner_block-requires : goal.statement-inner_block-requires
statement-inner_block-requires t c = (first_of (search (rules, the_lemmas), grind (the_lemmas, arith, common_steps), grind (the_lemmas, arith, elements)), c.requires)

pub statement-one_choice-requires : goal.statement-one_choice-requires
statement-one_choice-requires t c = (first_of (search (rules, the_lemmas), grind (the_lemmas, arith, common_steps), grind (the_lemmas, arith, elements)), c.requires)

pub statement-two_choices-requires : goal.statement-two_choices-requires
statement-two_choices-requires t c = (first_of (search (rules, the_lemmas), grind (the_lemmas, arith, common_steps), grind (the_lemmas, arith, elements)), c.requires)

pub statement-looped-requires : goal.statement-looped-requires
statement-looped-requires t c = (first_of (search (rules, the_lemmas), grind (the_lemmas, arith, common_steps), grind (the_lemmas, arith, elements)), c.requires)

pub statement-do_loop-requires : goal.statement-do_loop-requires
statement-do_loop-requires t c = (first_of (search (rules, the_lemmas), grind (the_lemmas, arith, common_steps), grind (the_lemmas, arith, elements)), c.requires)

pub statement-for_loop-requires : goal.statement-for_loop-requires
statement-for_loop-requires t c = (first_of (search (rules, the_lemmas), grind (the_lemmas, arith, common_steps), grind (the_lemmas, arith, elements)), c.requires)

pub statement-switch-requires : goal.statement-switch-requires
statement-switch-requires t c = (first_of (search (rules, the_lemmas), grind (the_lemmas, arith, common_steps), grind (the_lemmas, arith, elements)), c.requires)

pub statement-returns-in-Block : goal.statement-returns-in-Block
statement-returns-in-Block t c =
    compiled_as c.inner_block.result c.args.types.now c.inner_block.new.types c.args.here.now c.inner_block.new.here c.args.kinds.now c.args.out.now c.inner_block.new.out c.args.block.now c.args.block.now (tree.Block (stmts_of c.in-Block.all)) (stmt_of c.args.t.now)
    (sym (ap stmt_of c.in-Block.is ∙ block_made c.in-Block.all))
    c.inner_block.ensures

pub statement-returns-in-Local : goal.statement-returns-in-Local
statement-returns-in-Local t c =
    compiled_as c.local.result c.args.types.now c.local.new.types c.args.here.now c.local.new.here c.args.kinds.now c.args.out.now c.local.new.out c.args.block.now c.local.new.block (tree.Local (decl_of c.in-Local.d)) (stmt_of c.args.t.now)
    (ap stmt_of (sym c.in-Local.is))
    c.local.ensures

pub statement-returns-in-None : goal.statement-returns-in-None
statement-returns-in-None t c =
    compiled_as c.one_choice.result c.args.types.now c.one_choice.new.types c.args.here.now c.one_choice.new.here c.args.kinds.now c.args.out.now c.one_choice.new.out c.args.block.now c.one_choice.new.block (tree.If (expr_of c.in-If.e) (stmt_of c.deref.result.now)) (stmt_of c.args.t.now)
    (ap (λ (x : Stmt). tree.If (expr_of c.in-If.e) (stmt_of x)) c.deref.ensures ∙ ap stmt_of (sym (c.in-If.is ∙ ap (λ (o : Option _). stmt.If c.in-If.e c.in-If.body o) c.in-None.is)))
    c.one_choice.ensures

pub statement-returns-in-Some : goal.statement-returns-in-Some
statement-returns-in-Some t c =
    compiled_as c.two_choices.result c.args.types.now c.two_choices.new.types c.args.here.now c.two_choices.new.here c.args.kinds.now c.args.out.now c.two_choices.new.out c.args.block.now c.two_choices.new.block (tree.IfElse (expr_of c.in-If.e) (stmt_of c.deref-in-Some.result.now) (stmt_of c.deref-in-Some-2.result.now)) (stmt_of c.args.t.now)
    ((ap (λ (x : Stmt). tree.IfElse (expr_of c.in-If.e) (stmt_of x) (stmt_of c.deref-in-Some-2.result.now)) c.deref-in-Some.ensures ∙ ap (λ (x : Stmt). tree.IfElse (expr_of c.in-If.e) (stmt_of c.in-If.body.value) (stmt_of x)) c.deref-in-Some-2.ensures)
    ∙ ap stmt_of (sym (c.in-If.is ∙ ap (λ (o : Option _). stmt.If c.in-If.e c.in-If.body o) c.in-Some.is)))
    c.two_choices.ensures

pub statement-returns-in-While : goal.statement-returns-in-While
statement-returns-in-While t c =
    let body = c.deref-in-While.result.now in
    compiled_as c.looped.result c.args.types.now c.looped.new.types c.args.here.now c.looped.new.here c.args.kinds.now c.args.out.now c.looped.new.out c.args.block.now c.looped.new.block (tree.While (expr_of c.in-While.e) (stmt_of body)) (stmt_of c.args.t.now)
    (ap (λ (x : Stmt). tree.While (expr_of c.in-While.e) (stmt_of x)) c.deref-in-While.ensures ∙ ap stmt_of (sym c.in-While.is))
    (while_on c.looped.result c.args.types.now c.looped.new.types c.args.here.now c.looped.new.here c.args.kinds.now c.args.out.now c.looped.new.out c.args.block.now c.looped.new.block (expr_of c.in-While.e) (stmt_of body) c.looped.ensures)

pub statement-returns-in-Do : goal.statement-returns-in-Do
statement-returns-in-Do t c =
    compiled_as c.do_loop.result c.args.types.now c.do_loop.new.types c.args.here.now c.do_loop.new.here c.args.kinds.now c.args.out.now c.do_loop.new.out c.args.block.now c.do_loop.new.block (tree.Do (stmt_of c.deref-in-Do.result.now) (expr_of c.in-Do.e)) (stmt_of c.args.t.now)
    (ap (λ (x : Stmt). tree.Do (stmt_of x) (expr_of c.in-Do.e)) c.deref-in-Do.ensures ∙ ap stmt_of (sym c.in-Do.is))
    c.do_loop.ensures

pub statement-returns-in-For : goal.statement-returns-in-For
statement-returns-in-For t c =
    compiled_as c.for_loop.result c.args.types.now c.for_loop.new.types c.args.here.now c.for_loop.new.here c.args.kinds.now c.args.out.now c.for_loop.new.out c.args.block.now c.for_loop.new.block (tree.For (stmt_of c.deref-in-For.result.now) (maybe c.in-For.test) (maybe c.in-For.step) (stmt_of c.deref-in-For-2.result.now)) (stmt_of c.args.t.now)
    ((ap (λ (x : Stmt). tree.For (stmt_of x) (maybe c.in-For.test) (maybe c.in-For.step) (stmt_of c.deref-in-For-2.result.now)) c.deref-in-For.ensures ∙ ap (λ (x : Stmt). tree.For (stmt_of c.in-For.first.value) (maybe c.in-For.test) (maybe c.in-For.step) (stmt_of x)) c.deref-in-For-2.ensures)
    ∙ ap stmt_of (sym c.in-For.is))
    c.for_loop.ensures

pub statement-returns-in-Switch : goal.statement-returns-in-Switch
statement-returns-in-Switch t c =
    compiled_as c.switch.result c.args.types.now c.switch.new.types c.args.here.now c.switch.new.here c.args.kinds.now c.args.out.now c.switch.new.out c.args.block.now c.args.block.now (tree.Switch (expr_of c.in-Switch.e) (parts_of c.in-Switch.parts)) (stmt_of c.args.t.now)
    (sym (ap stmt_of c.in-Switch.is ∙ switch_made c.in-Switch.e c.in-Switch.parts))
    c.switch.ensures

pub statement-returns-in-Expr : goal.statement-returns-in-Expr
statement-returns-in-Expr t c =
    compiled_as c.effect.result c.args.types.now c.effect.new.types c.args.here.now c.args.here.now c.args.kinds.now c.args.out.now c.effect.new.out c.args.block.now c.args.block.now (tree.Do_expr (expr_of c.in-Expr.e)) (stmt_of c.args.t.now)
    (ap stmt_of (sym c.in-Expr.is))
    (simple_on c.effect.result c.args.types.now c.effect.new.types c.args.here.now c.args.kinds.now c.args.out.now c.effect.new.out c.args.block.now (tree.Do_expr (expr_of c.in-Expr.e)) c.effect.ensures.grows c.effect.ensures.tags c.requires refl
    (λ site env here fit. c.effect.ensures.emits site env here fit))

pub statement-returns-in-Return : goal.statement-returns-in-Return
statement-returns-in-Return t c =
    compiled_as c.returned.result c.args.types.now c.returned.new.types c.args.here.now c.args.here.now c.args.kinds.now c.args.out.now c.returned.new.out c.args.block.now c.args.block.now (tree.Return c.in-Return.field-0 (maybe c.in-Return.e)) (stmt_of c.args.t.now)
    (ap stmt_of (sym c.in-Return.is))
    (simple_on c.returned.result c.args.types.now c.returned.new.types c.args.here.now c.args.kinds.now c.args.out.now c.returned.new.out c.args.block.now (tree.Return c.in-Return.field-0 (maybe c.in-Return.e)) c.returned.ensures.grows c.returned.ensures.tags c.requires refl
    (λ site env here fit. c.returned.ensures.emits site env here fit))

pub statement-returns-in-Break : goal.statement-returns-in-Break
statement-returns-in-Break t c =
    compiled_as c.add.result c.args.types.now c.args.types.now c.args.here.now c.args.here.now c.args.kinds.now c.args.out.now c.add.new.self c.args.block.now c.args.block.now (tree.Break c.in-Break.field-0) (stmt_of c.args.t.now)
    (ap stmt_of (sym c.in-Break.is))
    (simple_on c.add.result c.args.types.now c.args.types.now c.args.here.now c.args.kinds.now c.args.out.now c.add.new.self c.args.block.now (tree.Break c.in-Break.field-0) (always c.add.result (λ n x y. y)) (always c.add.result refl) c.requires refl
    (λ site env here fit. c.add.ensures code.Break (record { means = λ names p e. refl })))

pub statement-returns-in-Continue : goal.statement-returns-in-Continue
statement-returns-in-Continue t c =
    compiled_as c.add-in-Continue.result c.args.types.now c.args.types.now c.args.here.now c.args.here.now c.args.kinds.now c.args.out.now c.add-in-Continue.new.self c.args.block.now c.args.block.now (tree.Continue c.in-Continue.field-0) (stmt_of c.args.t.now)
    (ap stmt_of (sym c.in-Continue.is))
    (simple_on c.add-in-Continue.result c.args.types.now c.args.types.now c.args.here.now c.args.kinds.now c.args.out.now c.add-in-Continue.new.self c.args.block.now (tree.Continue c.in-Continue.field-0) (always c.add-in-Continue.result (λ n x y. y)) (always c.add-in-Continue.result refl) c.requires refl
    (λ site env here fit. c.add-in-Continue.ensures code.Continue (record { means = λ names p e. refl })))

pub statement-returns-in-Empty : goal.statement-returns-in-Empty
statement-returns-in-Empty t c =
    let h = c.args.here.now in
    let out = c.args.out.now in
    let k = c.args.block.now in
    let types = c.args.types.now in
    subst (λ (x : CStmt). Compiles types types h h c.args.kinds.now out out k k x) (ap stmt_of (sym c.in-Empty.is))
    (simple_now types types h c.args.kinds.now out out k tree.Empty (λ n x y. y) refl c.requires refl (λ site env here fit. nothing out))

pub all_statements-loop-t-init : goal.all_statements-loop-t-init
all_statements-loop-t-init t c =
    begun c.args.types.now c.args.here.now c.args.kinds.now c.args.out.now c.args.block.now (stmts_of c.args.all.now) c.requires

pub all_statements-statement-requires : goal.all_statements-statement-requires
all_statements-statement-requires t c = (first_of (search (rules, the_lemmas), grind (the_lemmas, arith, common_steps), grind (the_lemmas, arith, elements)), c.loop-t.invariant.goes.keeps.holds)

pub all_statements-loop-t-preserved : goal.all_statements-loop-t-preserved
all_statements-loop-t-preserved t c =
    let l = c.loop-t in
    let items = c.args.all.now.items.items in
    let i = l.t-index in
    let next = c.t-item.result in
    let within : i < length items = subst (λ (x : List Stmt). i < length x) c.deref-t-items.ensures.value c.loop-t-test.true in
    let there : next ≡ get_or items i next = subst (λ (x : List Stmt). next ≡ get_or x i next) c.deref-t-items.ensures.value c.t-item.is in
    one_more c.args.types.now l.types c.statement.new.types c.args.here.now l.here c.statement.new.here c.args.kinds.now c.args.out.now l.out c.statement.new.out c.args.block.now l.block c.statement.new.block
    (stmts (map stmt_of (drop i items))) (stmts (map stmt_of (drop (i + 1) items))) (stmts_of c.args.all.now) (stmt_of next) (ap (λ (x : List Stmt). stmts (map stmt_of x)) (drop_at items i next within there)) l.invariant c.in_ok-statement.ensures

pub all_statements-returns : goal.all_statements-returns
all_statements-returns t c =
    let l = c.loop-t in
    let items = c.args.all.now.items.items in
    let past : length items ≤ l.t-index = subst (λ (x : List Stmt). length x ≤ l.t-index) c.deref-t-items.ensures.value c.loop-t-test.false in
    all_done c.args.types.now l.types c.args.here.now l.here c.args.kinds.now c.args.out.now l.out c.args.block.now l.block (stmts (map stmt_of (drop l.t-index items))) (stmts_of c.args.all.now)
    (ap (λ (x : List Stmt). stmts (map stmt_of x)) (drop_all l.t-index items past)) l.invariant

pub inner_block-all_statements-requires : goal.inner_block-all_statements-requires
inner_block-all_statements-requires t c = (first_of (search (rules, the_lemmas), grind (the_lemmas, arith, common_steps), grind (the_lemmas, arith, elements)), entered_some c.args.types.now c.args.here.now c.enter-marks.new.here c.enter-marks.result c.enter-marks.ensures c.requires)

pub inner_block-leave-requires-clause-names : goal.inner_block-leave-requires-clause-names
inner_block-leave-requires-clause-names t c =
    names_end c.args.here.now c.all_statements.new.here c.enter-marks.result (inside_then c.args.here.now c.enter-marks.new.here c.all_statements.new.here c.enter-marks.ensures.inside c.in_ok-all_statements.ensures.goes.keeps.beside) c.enter-marks.ensures.marks

pub inner_block-leave-requires-clause-slots : goal.inner_block-leave-requires-clause-slots
inner_block-leave-requires-clause-slots t c =
    slots_end c.args.here.now c.all_statements.new.here c.enter-marks.result (inside_then c.args.here.now c.enter-marks.new.here c.all_statements.new.here c.enter-marks.ensures.inside c.in_ok-all_statements.ensures.goes.keeps.beside) c.enter-marks.ensures.marks

pub inner_block-returns : goal.inner_block-returns
inner_block-returns t c =
    let old = c.args.types.now in
    let new = c.all_statements.new.types in
    let h = c.args.here.now in
    let first = c.enter-marks.new.here in
    let last = c.all_statements.new.here in
    let e = c.leave.new.here in
    let kinds = c.args.kinds.now in
    let a = c.args.out.now in
    let r = c.reserve.new.self in
    let m = c.all_statements.new.out in
    let z = c.end_block.new.out in
    let k = c.args.block.now in
    let inner = c.in_ok-inner.inner in
    let all = stmts_of c.args.all.now in
    let entered = c.enter-marks.ensures in
    let within = c.in_ok-all_statements.ensures in
    let same = c.in_ok-leave.ensures h (inside_then h first last entered.inside within.goes.keeps.beside) entered.marks in
    let grows = within.goes.keeps.grows in
    let tags = within.goes.keeps.tags in
    compiles_on c.end_block.result old new h e kinds a z k k (tree.Block all) (always c.end_block.result (block_goes old new h e k same grows tags c.requires))
    (λ site env p fit.
    let s = env.scope in
    let place = in_block k.free env in
    let at : IsPlaced old first kinds r inner site place = placed_entered old h first c.enter-marks.result kinds r k inner site env entered c.in_ok-inner.ensures.next (placed_kept old h kinds a r k site env c.in_ok-start.ensures.keeps p) in
    let reach = within.code site place at fit in
    let items = c.args.all.now.items.items in
    let many : inner.free ≡ k.free + slots_for_all all = c.in_ok-inner.ensures.free ∙ ap (λ (n : ℕ). k.free + n) (c.in_ok-count.ensures ∙ (ap (λ (x : List Stmt). count_in is_local x) c.as_slice.ensures.value ∙ sym (slots_counted (entered_scope s) items fit))) in
    on_ok c.end_block.result
    (λ ends. subst (λ (n : ℕ). Reaches new e kinds a z k k site (behind_literals (stmts_literals (entered_scope s) all) env) (code.Enter (block_objects (entered_scope s) all) (slots_for_all all) ∷ (stmts_code all n site place ++ code.Leave ∷ [])) (stmts_literals (entered_scope s) all) []) many
    (block_reach old new h last e kinds a r m z c.in_ok-start.start k inner c.all_statements.new.block site env (behind_all all place) (block_objects (entered_scope s) all) (slots_for_all all) c.in_ok-start.ensures reach
    (subst (λ (x : List ℕ). EndsBlock m z c.in_ok-start.start x) c.as_slice-2.ensures.value ends) c.in_ok-inner.ensures.lengths (objects_counted (entered_scope s) all fit) same grows tags p))
    c.end_block.ensures)

pub one_choice-statement-requires : goal.one_choice-statement-requires
one_choice-statement-requires t c = (first_of (search (rules, the_lemmas), grind (the_lemmas, arith, common_steps), grind (the_lemmas, arith, elements)), held_kept c.args.types.now c.tested.new.types c.args.here.now.declared c.in_ok-tested.ensures.grows c.in_ok-tested.ensures.tags c.requires)

pub one_choice-returns : goal.one_choice-returns
one_choice-returns t c =
    let old = c.args.types.now in
    let mid = c.tested.new.types in
    let new = c.statement.new.types in
    let h = c.args.here.now in
    let e = c.statement.new.here in
    let kinds = c.args.kinds.now in
    let a = c.args.out.now in
    let b = c.tested.new.out in
    let r = c.reserve.new.self in
    let m = c.statement.new.out in
    let z = c.one_side.new.out in
    let k = c.args.block.now in
    let l = c.statement.new.block in
    let test = expr_of c.args.e.now in
    let body = stmt_of c.args.body.now in
    let grows = c.in_ok-tested.ensures.grows in
    let tags = c.in_ok-tested.ensures.tags in
    let within = c.in_ok-statement.ensures in
    compiles_on c.one_side.result old new h e kinds a z k l (tree.If test body) (always c.one_side.result (goes_behind old mid new h e k l grows tags within.goes))
    (λ site env p fit.
    let first = c.in_ok-tested.ensures.emits site env p.stands.here fit.0 in
    let place = past test env in
    let at = placed_kept mid h kinds b r k site place c.in_ok-test.ensures.keeps (placed_behind old mid h kinds a b k site env grows tags first p) in
    let reach = within.code site place at fit.1 in
    let is = stmt_code body k.free site place in
    let end = behind_place b r m c.in_ok-test.test c.in_ok-test.ensures reach.emits in
    let far : length is + suc c.in_ok-test.test ≡ length m.code = omega (arith, end) in
    on_ok c.one_side.result
    (λ fills. finish old new h e kinds a m z k l site env _ p (body_placed new e kinds m l site body place fit.2 reach.placed) (one_chosen a b r m z c.in_ok-test.test (length is) first c.in_ok-test.ensures reach.emits far fills)
    (reach.more ∙ ap (λ (x : List (List Cell)). unset_objects k.lengths.items ++ x) (no_objects env.scope body fit.2)))
    (c.one_side.ensures (length is) far))

pub two_choices-statement-requires : goal.two_choices-statement-requires
two_choices-statement-requires t c = (first_of (search (rules, the_lemmas), grind (the_lemmas, arith, common_steps), grind (the_lemmas, arith, elements)), held_kept c.args.types.now c.tested.new.types c.args.here.now.declared c.in_ok-tested.ensures.grows c.in_ok-tested.ensures.tags c.requires)

pub two_choices-statement-requires-2 : goal.two_choices-statement-requires-2
two_choices-statement-requires-2 t c = (first_of (search (rules, the_lemmas), grind (the_lemmas, arith, common_steps), grind (the_lemmas, arith, elements)), c.in_ok-statement.ensures.goes.keeps.holds)

pub two_choices-returns : goal.two_choices-returns
two_choices-returns t c =
    let old = c.args.types.now in
    let mid = c.tested.new.types in
    let one = c.statement.new.types in
    let new = c.statement-2.new.types in
    let h = c.args.here.now in
    let e = c.statement.new.here in
    let f = c.statement-2.new.here in
    let kinds = c.args.kinds.now in
    let a = c.args.out.now in
    let b = c.tested.new.out in
    let r = c.reserve.new.self in
    let m = c.statement.new.out in
    let d = c.other_side.new.out in
    let n = c.statement-2.new.out in
    let z = c.both_sides.new.out in
    let k = c.args.block.now in
    let l = c.statement.new.block in
    let j = c.statement-2.new.block in
    let test = expr_of c.args.e.now in
    let body = stmt_of c.args.body.now in
    let other = stmt_of c.args.other.now in
    let grows = c.in_ok-tested.ensures.grows in
    let tags = c.in_ok-tested.ensures.tags in
    let within = c.in_ok-statement.ensures in
    let beside = c.in_ok-statement-2.ensures in
    let turns = c.in_ok-jump.ensures in
    compiles_on c.both_sides.result old new h f kinds a z k j (tree.IfElse test body other) (always c.both_sides.result (goes_behind old mid new h f k j grows tags (goes_then mid one new h e f k l j within.goes beside.goes)))
    (λ site env p fit.
    let first = c.in_ok-tested.ensures.emits site env p.stands.here fit.0 in
    let place = past test env in
    let at = placed_kept mid h kinds b r k site place c.in_ok-test.ensures.keeps (placed_behind old mid h kinds a b k site env grows tags first p) in
    let reach = within.code site place at fit.1.0 in
    let next = past_stmt body place in
    let at_next = placed_kept one e kinds turns.filled d l site next turns.reserves.keeps (placed_kept one e kinds m turns.filled l site next turns.fills.keeps (body_placed one e kinds m l site body place fit.1.1 reach.placed)) in
    let second : Reaches new f kinds d n l j site (behind other next) (stmt_code other k.free site next) (stmt_literals env.scope other) (objects_in env.scope other) =
    subst (λ (x : ℕ). Reaches new f kinds d n l j site (behind other next) (stmt_code other x site next) (stmt_literals env.scope other) (objects_in env.scope other)) within.goes.free (beside.code site next at_next fit.2.0) in
    let is = stmt_code other k.free site next in
    let end = behind_place turns.filled d n c.in_ok-jump.jump turns.reserves second.emits in
    let far : length is + suc c.in_ok-jump.jump ≡ length n.code = omega (arith, end) in
    let none_one = reach.more ∙ ap (λ (x : List (List Cell)). unset_objects k.lengths.items ++ x) (no_objects env.scope body fit.1.1) in
    let none_two = second.more ∙ ap (λ (x : List (List Cell)). unset_objects l.lengths.items ++ x) (no_objects env.scope other fit.2.1) in
    on_ok c.both_sides.result
    (λ fills. finish old new h f kinds a n z k j site env _ p (body_placed new f kinds n j site other next fit.2.1 second.placed)
    (chosen a b r m d n z c.in_ok-test.test c.in_ok-jump.jump (length is) first c.in_ok-test.ensures reach.emits turns second.emits far fills) (no_more k l j none_one none_two))
    (c.both_sides.ensures (length is) far))

pub looped-statement-requires : goal.looped-statement-requires
looped-statement-requires t c = (first_of (search (rules, the_lemmas), grind (the_lemmas, arith, common_steps), grind (the_lemmas, arith, elements)), held_kept c.tested.new.types c.stepped.new.types c.args.here.now.declared c.in_ok-stepped.ensures.grows c.in_ok-stepped.ensures.tags (held_kept c.args.types.now c.tested.new.types c.args.here.now.declared c.in_ok-tested.ensures.grows c.in_ok-tested.ensures.tags c.requires))

pub looped-stepped-requires : goal.looped-stepped-requires
looped-stepped-requires t c =
    held_kept c.args.types.now c.tested.new.types c.args.here.now.declared c.in_ok-tested.ensures.grows c.in_ok-tested.ensures.tags c.requires

pub looped-returns : goal.looped-returns
looped-returns t c =
    let old = c.args.types.now in
    let one = c.tested.new.types in
    let two = c.stepped.new.types in
    let new = c.statement.new.types in
    let h = c.args.here.now in
    let e = c.statement.new.here in
    let kinds = c.args.kinds.now in
    let a = c.args.out.now in
    let b = c.reserve.new.self in
    let x = c.tested.new.out in
    let d = c.begin_turn.new.out in
    let w = c.set_aside-front.new.out in
    let y = c.stepped.new.out in
    let f = c.put_back-code.new.out in
    let g = c.statement.new.out in
    let q = c.append.new.out in
    let z = c.end_loop.new.out in
    let k = c.args.block.now in
    let l = c.statement.new.block in
    let test = option_map (λ v. expr_of v.now) c.args.test in
    let step = option_map (λ v. expr_of v.now) c.args.step in
    let body = stmt_of c.args.body.now in
    let grows_one = c.in_ok-tested.ensures.grows in
    let tags_one = c.in_ok-tested.ensures.tags in
    let grows_two = c.in_ok-stepped.ensures.grows in
    let tags_two = c.in_ok-stepped.ensures.tags in
    let turn = c.in_ok-turn.ensures in
    let within = c.in_ok-statement.ensures in
    loops_on c.end_loop.result old new h e kinds a z k l test step body (always c.end_loop.result (goes_behind old one new h e k l grows_one tags_one (goes_behind one two new h e k l grows_two tags_two within.goes)))
    (λ site env p fit_test fit_step fit_body none.
    let s = env.scope in
    let at_b = placed_kept old h kinds a b k site env c.in_ok-start.ensures.keeps p in
    let tests = c.in_ok-tested.ensures.emits site env at_b.stands.here fit_test in
    let place = behind_literals (maybe_literals s test) env in
    let at_x = placed_behind old one h kinds b x k site env grows_one tags_one tests at_b in
    let at_d = placed_quiet one one h kinds turn.reserved d k site place (λ n u v. v) refl turn.pays (placed_kept one h kinds x turn.reserved k site place turn.reserves.keeps at_x) in
    let at_w = placed_kept one h kinds d w k site place c.set_aside-front.ensures.code.keeps at_d in
    let steps = c.in_ok-stepped.ensures.emits site place at_w.stands.here fit_step in
    let inner = behind_literals (maybe_literals s step) place in
    let back : HasCode y f d.code = subst (λ (u : List rust.Instruction). HasCode y f u) c.set_aside-front.ensures.aside c.put_back-code.ensures.code in
    let apart = aside_is d w y f c.set_aside-front.ensures.code steps back in
    let at_f = placed_kept two h kinds y f k site inner back.keeps (placed_behind one two h kinds w y k site place grows_two tags_two steps at_w) in
    let reach = within.code site inner at_f fit_body in
    let more : Appends g q y.code = subst (λ (u : List rust.Instruction). Appends g q u) c.put_back-code.ensures.emitted c.in_ok-append.ensures in
    let appends = aside_appended apart reach.emits more in
    let turns = both (aside_quiet apart) reach.emits in
    let bs = stmt_code body k.free site inner in
    on_ok c.end_loop.result
    (λ ends. loop_places new e kinds a z k l site env k.free test step body (maybe_literals s test ++ (maybe_literals s step ++ stmt_literals s body))
    (loop_reach new e kinds a f g q z k l site body inner c.in_ok-start.start c.in_ok-turn.turn c.count-again.result none reach appends ends
    (loop_emits a b x d g q z c.in_ok-start.start c.in_ok-turn.turn c.count-again.result (maybe_test_code test site env) bs (maybe_effect_code step site place) c.in_ok-start.ensures tests turn turns c.count-again.ensures appends ends)))
    c.end_loop.ensures)

pub do_loop-tested-requires : goal.do_loop-tested-requires
do_loop-tested-requires t c =
    c.in_ok-statement.ensures.goes.keeps.holds

pub do_loop-statement-requires : goal.do_loop-statement-requires
do_loop-statement-requires t c = (first_of (search (rules, the_lemmas), grind (the_lemmas, arith, common_steps), grind (the_lemmas, arith, elements)), c.requires)

pub do_loop-returns : goal.do_loop-returns
do_loop-returns t c =
    let old = c.args.types.now in
    let mid = c.statement.new.types in
    let new = c.tested.new.types in
    let h = c.args.here.now in
    let e = c.statement.new.here in
    let kinds = c.args.kinds.now in
    let a = c.args.out.now in
    let b = c.reserve.new.self in
    let d = c.add.new.self in
    let g = c.statement.new.out in
    let y = c.tested.new.out in
    let z = c.end_do.new.out in
    let k = c.args.block.now in
    let l = c.statement.new.block in
    let test = expr_of c.args.e.now in
    let body = stmt_of c.args.body.now in
    let grows = c.in_ok-tested.ensures.grows in
    let tags = c.in_ok-tested.ensures.tags in
    let within = c.in_ok-statement.ensures in
    let pays = c.in_ok-add.ensures code.Pay (record { means = λ names p x. refl }) in
    compiles_on c.end_do.result old new h e kinds a z k l (tree.Do body test) (always c.end_do.result (goes_later old mid new h e k l within.goes grows tags))
    (λ site env p fit.
    let at = placed_quiet old old h kinds b d k site env (λ n u v. v) refl pays (placed_kept old h kinds a b k site env c.in_ok-start.ensures.keeps p) in
    let reach = within.code site env at fit.0.0 in
    let place = past_stmt body env in
    let at_g = body_placed mid e kinds g l site body env fit.0.1 reach.placed in
    let tests = c.in_ok-tested.ensures.emits site place at_g.stands.here fit.1 in
    let last = placed_behind mid new e kinds g y l site place grows tags tests at_g in
    on_ok c.end_do.result
    (λ ends. finish old new h e kinds a y z k l site env _ p last (do_emits a b d g y z c.in_ok-start.start c.count-again.result (stmt_code body k.free site env) (maybe_test_code (Some test) site place) c.in_ok-start.ensures pays reach.emits c.count-again.ensures tests ends)
    (reach.more ∙ ap (λ (x : List (List Cell)). unset_objects k.lengths.items ++ x) (no_objects env.scope body fit.0.1)))
    c.end_do.ensures)

pub for_block-all_statements-requires : goal.for_block-all_statements-requires
for_block-all_statements-requires t c = (first_of (search (rules, the_lemmas), grind (the_lemmas, arith, common_steps), grind (the_lemmas, arith, elements)), entered_some c.args.types.now c.args.here.now c.enter-marks.new.here c.enter-marks.result c.enter-marks.ensures c.requires)

pub for_block-looped-requires : goal.for_block-looped-requires
for_block-looped-requires t c = (first_of (search (rules, the_lemmas), grind (the_lemmas, arith, common_steps), grind (the_lemmas, arith, elements)), c.in_ok-all_statements.ensures.goes.keeps.holds)

pub for_block-leave-requires-clause-names : goal.for_block-leave-requires-clause-names
for_block-leave-requires-clause-names t c =
    names_end c.args.here.now c.looped.new.here c.enter-marks.result (inside_then c.args.here.now c.enter-marks.new.here c.looped.new.here c.enter-marks.ensures.inside (beside_then c.enter-marks.new.here c.all_statements.new.here c.looped.new.here c.in_ok-all_statements.ensures.goes.keeps.beside c.in_ok-looped.ensures.goes.keeps.beside)) c.enter-marks.ensures.marks

pub for_block-leave-requires-clause-slots : goal.for_block-leave-requires-clause-slots
for_block-leave-requires-clause-slots t c =
    slots_end c.args.here.now c.looped.new.here c.enter-marks.result (inside_then c.args.here.now c.enter-marks.new.here c.looped.new.here c.enter-marks.ensures.inside (beside_then c.enter-marks.new.here c.all_statements.new.here c.looped.new.here c.in_ok-all_statements.ensures.goes.keeps.beside c.in_ok-looped.ensures.goes.keeps.beside)) c.enter-marks.ensures.marks

pub for_block-returns : goal.for_block-returns
for_block-returns t c =
    let old = c.args.types.now in
    let mid = c.all_statements.new.types in
    let new = c.looped.new.types in
    let h = c.args.here.now in
    let first = c.enter-marks.new.here in
    let then = c.all_statements.new.here in
    let last = c.looped.new.here in
    let e = c.leave.new.here in
    let kinds = c.args.kinds.now in
    let a = c.args.out.now in
    let r = c.reserve.new.self in
    let m = c.all_statements.new.out in
    let n = c.looped.new.out in
    let z = c.end_block.new.out in
    let k = c.args.block.now in
    let inner = c.in_ok-inner.inner in
    let within = c.all_statements.new.block in
    let final = c.looped.new.block in
    let all = stmts_of c.args.head.now in
    let test = option_map (λ v. expr_of v.now) c.args.test in
    let step = option_map (λ v. expr_of v.now) c.args.step in
    let body = stmt_of c.args.body.now in
    let entered = c.enter-marks.ensures in
    let heads = c.in_ok-all_statements.ensures in
    let loops = c.in_ok-looped.ensures in
    let goes = goes_then old mid new first then last inner within final heads.goes loops.goes in
    let same = c.in_ok-leave.ensures h (inside_then h first last entered.inside goes.keeps.beside) entered.marks in
    let grows = goes.keeps.grows in
    let tags = goes.keeps.tags in
    compiles_on c.end_block.result old new h e kinds a z k k (tree.For (tree.Block all) test step body) (always c.end_block.result (block_goes old new h e k same grows tags c.requires))
    (λ site env p fit.
    let s = env.scope in
    let place = in_block k.free env in
    let at : IsPlaced old first kinds r inner site place = placed_entered old h first c.enter-marks.result kinds r k inner site env entered c.in_ok-inner.ensures.next (placed_kept old h kinds a r k site env c.in_ok-start.ensures.keeps p) in
    let items = c.args.head.now.items.items in
    let slots : inner.free ≡ k.free + slots_for_all all = c.in_ok-inner.ensures.free ∙ ap (λ (x : ℕ). k.free + x) (c.in_ok-count.ensures ∙ (ap (λ (x : List Stmt). count_in is_local x) c.as_slice.ensures.value ∙ sym (slots_counted (entered_scope s) items fit.0.0))) in
    on_ok c.end_block.result
    (λ ends. for_reach old mid new h then last e kinds a r m n z c.in_ok-start.start k inner within final site env all test step body p (heads.code site place at fit.0.0) loops fit slots heads.goes.free c.in_ok-start.ensures
    (subst (λ (x : List ℕ). EndsBlock n z c.in_ok-start.start x) c.as_slice-2.ensures.value ends) c.in_ok-inner.ensures.lengths same grows tags)
    c.end_block.ensures)

pub for_loop-for_block-requires : goal.for_loop-for_block-requires
for_loop-for_block-requires t c = (first_of (search (rules, the_lemmas), grind (the_lemmas, arith, common_steps), grind (the_lemmas, arith, elements)), c.requires)

pub for_loop-statement-requires : goal.for_loop-statement-requires
for_loop-statement-requires t c = (first_of (search (rules, the_lemmas), grind (the_lemmas, arith, common_steps), grind (the_lemmas, arith, elements)), c.requires)

pub for_loop-looped-requires : goal.for_loop-looped-requires
for_loop-looped-requires t c = (first_of (search (rules, the_lemmas), grind (the_lemmas, arith, common_steps), grind (the_lemmas, arith, elements)), c.in_ok-statement-in_default.ensures.goes.keeps.holds)

pub for_loop-returns-in-Block : goal.for_loop-returns-in-Block
for_loop-returns-in-Block t c =
    let test = maybe c.args.test.now in
    let step = maybe c.args.step.now in
    let body = stmt_of c.args.body.now in
    let all = stmts_of c.in-Block.all in
    compiled_as c.for_block.result c.args.types.now c.for_block.new.types c.args.here.now c.for_block.new.here c.args.kinds.now c.args.out.now c.for_block.new.out c.args.block.now c.args.block.now
    (tree.For (tree.Block all) (option_map (λ v. expr_of v.now) c.there-some_test.result) (option_map (λ v. expr_of v.now) c.there-some_step.result) body) (tree.For (stmt_of c.args.head.now) test step body)
    (ap (λ (o : Option CExpr). tree.For (tree.Block all) o (option_map (λ v. expr_of v.now) c.there-some_step.result) body) c.there-some_test.ensures ∙ (ap (λ (o : Option CExpr). tree.For (tree.Block all) test o body) c.there-some_step.ensures
    ∙ ap (λ (x : CStmt). tree.For x test step body) (sym (ap stmt_of c.in-Block.is ∙ block_made c.in-Block.all))))
    c.for_block.ensures

pub for_loop-returns-in_ok-statement-in_default : goal.for_loop-returns-in_ok-statement-in_default
for_loop-returns-in_ok-statement-in_default t c =
    let test = maybe c.args.test.now in
    let step = maybe c.args.step.now in
    let old = c.args.types.now in
    let mid = c.statement.new.types in
    let new = c.looped.new.types in
    let h = c.args.here.now in
    let e = c.statement.new.here in
    let f = c.looped.new.here in
    let kinds = c.args.kinds.now in
    let loops = subst (λ (o : Option CExpr). OnOk c.looped.result (Loops mid new e f kinds c.statement.new.out c.looped.new.out c.statement.new.block c.looped.new.block o step (stmt_of c.args.body.now))) c.there-some_test.ensures
    (subst (λ (o : Option CExpr). OnOk c.looped.result (Loops mid new e f kinds c.statement.new.out c.looped.new.out c.statement.new.block c.looped.new.block (option_map (λ v. expr_of v.now) c.there-some_test.result) o (stmt_of c.args.body.now))) c.there-some_step.ensures c.looped.ensures) in
    on_ok c.looped.result
    (for_other old mid new h e f kinds c.args.out.now c.statement.new.out c.looped.new.out c.args.block.now c.statement.new.block c.looped.new.block (stmt_of c.args.head.now) test step (stmt_of c.args.body.now) (other_block c.args.head.now c.in_default.not-Block) c.in_ok-statement-in_default.ensures)
    loops

pub switch-all_parts-requires : goal.switch-all_parts-requires
switch-all_parts-requires t c = (first_of (search (rules, the_lemmas), grind (the_lemmas, arith, common_steps), grind (the_lemmas, arith, elements)), entered_some c.tested.new.types c.args.here.now c.enter-marks.new.here c.enter-marks.result c.enter-marks.ensures (held_kept c.args.types.now c.tested.new.types c.args.here.now.declared c.in_ok-tested.ensures.grows c.in_ok-tested.ensures.tags c.requires))

pub switch-leave-requires-clause-names : goal.switch-leave-requires-clause-names
switch-leave-requires-clause-names t c =
    names_end c.args.here.now c.all_parts.new.here c.enter-marks.result (inside_then c.args.here.now c.enter-marks.new.here c.all_parts.new.here c.enter-marks.ensures.inside c.in_ok-labels.ensures.goes.keeps.beside) c.enter-marks.ensures.marks

pub switch-leave-requires-clause-slots : goal.switch-leave-requires-clause-slots
switch-leave-requires-clause-slots t c =
    slots_end c.args.here.now c.all_parts.new.here c.enter-marks.result (inside_then c.args.here.now c.enter-marks.new.here c.all_parts.new.here c.enter-marks.ensures.inside c.in_ok-labels.ensures.goes.keeps.beside) c.enter-marks.ensures.marks

pub switch-returns : goal.switch-returns
switch-returns t c =
    let old = c.args.types.now in
    let mid = c.tested.new.types in
    let new = c.all_parts.new.types in
    let h = c.args.here.now in
    let first = c.enter-marks.new.here in
    let last = c.all_parts.new.here in
    let e = c.leave.new.here in
    let kinds = c.args.kinds.now in
    let a = c.args.out.now in
    let b = c.tested.new.out in
    let d = c.add.new.self in
    let w = c.set_aside-front.new.out in
    let y = c.all_parts.new.out in
    let f = c.put_back-code.new.out in
    let z = c.switch_parts.new.out in
    let k = c.args.block.now in
    let inner = c.in_ok-inner.inner in
    let within = c.all_parts.new.block in
    let labels = c.in_ok-labels.labels in
    let test = expr_of c.args.e.now in
    let all = parts_of c.args.parts.now in
    let entered = c.enter-marks.ensures in
    let grows_one = c.in_ok-tested.ensures.grows in
    let tags_one = c.in_ok-tested.ensures.tags in
    let parts = c.in_ok-labels.ensures in
    let same = c.in_ok-leave.ensures h (inside_then h first last entered.inside parts.goes.keeps.beside) entered.marks in
    let grows = grows_then (known old) (known mid) (known new) grows_one parts.goes.keeps.grows in
    let tags = parts.goes.keeps.tags ∙ tags_one in
    let checks = c.in_ok-add.ensures code.CheckWord (record { means = λ names p x. refl }) in
    let aside = c.set_aside-front.ensures in
    let back : HasCode y f d.code = subst (λ (u : List rust.Instruction). HasCode y f u) aside.aside c.put_back-code.ensures.code in
    compiles_on c.switch_parts.result old new h e kinds a z k k (tree.Switch test all) (always c.switch_parts.result (block_goes old new h e k same grows tags c.requires))
    (λ site env p fit.
    let s = env.scope in
    let tests = c.in_ok-tested.ensures.emits site env p.stands.here fit.0 in
    let place = past test env in
    let at_d = placed_quiet mid mid h kinds b d k site place (λ n u v. v) refl checks (placed_behind old mid h kinds a b k site env grows_one tags_one tests p) in
    let inside = in_block k.free place in
    let at_w = placed_entered mid h first c.enter-marks.result kinds w k inner site place entered c.in_ok-inner.ensures.next (placed_kept mid h kinds d w k site place aside.code.keeps at_d) in
    let reach = parts.code site inside at_w fit.1 in
    let apart = aside_is d w y f aside.code reach.emits back in
    let items = c.args.parts.now.items.items in
    let slots : inner.free ≡ k.free + slots_for_parts all = c.in_ok-inner.ensures.free ∙ ap (λ (n : ℕ). k.free + n) (c.in_ok-count.ensures ∙ (ap (λ (x : List Part). count_in is_local_part x) c.as_slice.ensures.value ∙ sym (parts_counted (entered_scope s) items fit.1))) in
    let told : labels_of c.as_slice-2.result.now ≡ labels_in all inner.free site inside 0 = ap (λ (x : List rust_label.Label). labels_of x) c.as_slice-2.ensures.value ∙ (parts.told site inside at_w fit.1 ∙ ap (λ (x : List rust.Instruction). labels_in all inner.free site inside (length x)) aside.code.code) in
    let lengths = ap (λ (x : List ℕ). unset_objects x) c.as_slice-3.ensures.value ∙ only_these inner within (parts_objects (entered_scope s) all) c.in_ok-inner.ensures.lengths reach.more in
    let made : AreMeant (tables_of f) (parts_code all inner.free site inside) c.put_back-code.result = subst (λ (u : List rust.Instruction). AreMeant (tables_of f) (parts_code all inner.free site inside) u) (sym c.put_back-code.ensures.emitted) apart.meant in
    let count = ap length c.put_back-code.ensures.emitted ∙ apart.count in
    on_ok c.switch_parts.result
    (λ emits. switch_reach old new h e kinds a b d f z k site env test all inner.free slots tests checks (aside_quiet apart) (labels_of c.as_slice-2.result.now) told emits same grows tags p)
    (c.switch_parts.ensures (parts_code all inner.free site inside) (parts_objects (entered_scope s) all) (slots_for_parts all) made count lengths (parts_objects_counted (entered_scope s) all fit.1)))

pub all_parts-loop-part-init : goal.all_parts-loop-part-init
all_parts-loop-part-init t c =
    parts_begun c.args.types.now c.args.here.now c.args.kinds.now c.args.out.now c.args.block.now c.new-labels.result.items (parts_of c.args.parts.now) c.new-labels.ensures.items c.requires

pub all_parts-one_part-requires : goal.all_parts-one_part-requires
all_parts-one_part-requires t c = (first_of (search (rules, the_lemmas), grind (the_lemmas, arith, common_steps), grind (the_lemmas, arith, elements)), c.loop-part.invariant.goes.keeps.holds)

pub all_parts-loop-part-preserved : goal.all_parts-loop-part-preserved
all_parts-loop-part-preserved t c =
    let l = c.loop-part in
    let items = c.args.parts.now.items.items in
    let i = l.part-index in
    let next = c.part-item.result in
    let within : i < length items = subst (λ (x : List Part). i < length x) c.deref-part-items.ensures.value c.loop-part-test.true in
    let there : next ≡ get_or items i next = subst (λ (x : List Part). next ≡ get_or x i next) c.deref-part-items.ensures.value c.part-item.is in
    part_more c.args.types.now l.types c.one_part.new.types c.args.here.now l.here c.one_part.new.here c.args.kinds.now c.args.out.now l.out c.one_part.new.out c.args.block.now l.block c.one_part.new.block l.labels.items c.one_part.new.labels.items
    (parts (map part_of (drop i items))) (parts (map part_of (drop (i + 1) items))) (parts_of c.args.parts.now) (part_of next) (ap (λ (x : List Part). parts (map part_of x)) (drop_at items i next within there)) l.invariant c.in_ok-one_part.ensures

pub all_parts-returns : goal.all_parts-returns
all_parts-returns t c =
    let l = c.loop-part in
    let items = c.args.parts.now.items.items in
    let past : length items ≤ l.part-index = subst (λ (x : List Part). length x ≤ l.part-index) c.deref-part-items.ensures.value c.loop-part-test.false in
    parts_done c.args.types.now l.types c.args.here.now l.here c.args.kinds.now c.args.out.now l.out c.args.block.now l.block l.labels.items (parts (map part_of (drop l.part-index items))) (parts_of c.args.parts.now)
    (ap (λ (x : List Part). parts (map part_of x)) (drop_all l.part-index items past)) l.invariant

pub one_part-add_label-requires : goal.one_part-add_label-requires
one_part-add_label-requires t c =
    (c.requires.0, c.requires.1.fits)

pub one_part-statement-requires : goal.one_part-statement-requires
one_part-statement-requires t c = (first_of (search (rules, the_lemmas), grind (the_lemmas, arith, common_steps), grind (the_lemmas, arith, elements)), c.requires)

pub one_part-returns-in-Label : goal.one_part-returns-in-Label
one_part-returns-in-Label t c =
    let h = c.args.here.now in
    let k = c.args.block.now in
    label_on c.add_label.result c.args.types.now c.add_label.new.types h c.args.kinds.now c.args.out.now k c.args.labels.now.items c.add_label.new.labels.items c.in-Label.field-0 (maybe c.in-Label.e) (part_of c.args.part.now) c.count-at.result (ap part_of c.in-Label.is) c.count-at.ensures
    c.add_label.ensures.grows c.add_label.ensures.tags c.requires (λ env fits. c.add_label.ensures.labels env c.in-Label.field-0 fits)

pub one_part-returns-in-Item : goal.one_part-returns-in-Item
one_part-returns-in-Item t c =
    subst (λ (x : CPart). OnOk c.statement.result (CompilesPart c.args.types.now c.statement.new.types c.args.here.now c.statement.new.here c.args.kinds.now c.args.out.now c.statement.new.out c.args.block.now c.statement.new.block c.args.labels.now.items c.args.labels.now.items x)) (sym (ap part_of c.in-Item.is))
    (on_ok c.statement.result (λ x. item_compiles c.args.types.now c.statement.new.types c.args.here.now c.statement.new.here c.args.kinds.now c.args.out.now c.statement.new.out c.args.block.now c.statement.new.block c.args.labels.now.items (stmt_of c.in-Item.t) x) c.statement.ensures)
