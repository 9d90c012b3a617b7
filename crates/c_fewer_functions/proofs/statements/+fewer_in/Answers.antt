use Rattle.std.proofs.Common.{◌≡◌, ◌<◌, ◌≤◌, List, length, map, get_or, Option, Some, None, refl, sym, ap, subst, ◌∙◌, arith, rules}
use Rattle.std.proofs.lemmas.Grind.{common_steps, elements}
use Rattle.c_syntax.specs.Plain as plain
use Rattle.c_syntax.specs.Plain.{CExpr, CStmt, parts}
use Rattle.c_syntax.specs.View.{expr_of, maybe, decl_of, stmt_of, part_of}
use Rattle.c_syntax.specs.declared.tree.Part.{Part}
use Rattle.c_syntax.specs.declared.tree.Part.TheFolds.{the_lemmas}
use Rattle.c_syntax.specs.declared.tree.Stmt.{Stmt}
use Rattle.c_syntax.specs.declared.tree.Stmt.TheVariants as stmt
use Rattle.c_types.specs.Scope.{Scope, entered}
use Rattle.c_types.specs.Census.{scope_behind, scope_behind_all, scope_behind_part}
use Rattle.c_expressions.proofs.GoingLemmas.{drop_at}
use Rattle.c_statements.specs.Trees.{stmts_of, parts_of}
use Rattle.c_statements.proofs.TreeLemmas.{block_made, switch_made}
use Rattle.c_statements.proofs.KeepLemmas.{other_local}
use Rattle.c_statements.proofs.HeadLemmas.{other_block}
use Rattle.c_helpers.specs.Fewer as fewer
use Rattle.c_fewer_trees.proofs.OnwardLemmas.{Onward, then_on}
use Rattle.c_fewer_declarations.specs.Standing.{StandsIn}
use Rattle.c_fewer_declarations.proofs.StandingLemmas.{standing, some_standing}
use Rattle.c_fewer_parts.proofs.GoingLemmas.{on_any, made, goes_on, goes_grown, goes_same, stays_grown, stays_on, goes_around, stands_grown, some_grown, stands_still, some_still, head_same, behind_at, behind, going, stayed, entered_stands, ends, stays_behind, for_is, onward_same}
use Rattle.c_fewer_functions.proofs.RowLemmas.{begun, one_more, all_made, all_behind, part_begun, part_one_more, part_all_made}
use Rattle.c_fewer_functions.proofs.statements.+fewer_in.Goals as goal

pub fewer_in-enclosed-requires : goal.fewer_in-enclosed-requires
fewer_in-enclosed-requires t c =
    (first_of (search (rules, the_lemmas), grind (the_lemmas, arith, common_steps), grind (the_lemmas, arith, elements)), c.requires)

pub fewer_in-guarded-requires : goal.fewer_in-guarded-requires
fewer_in-guarded-requires t c =
    (first_of (search (rules, the_lemmas), grind (the_lemmas, arith, common_steps), grind (the_lemmas, arith, elements)), c.requires)

pub fewer_in-chosen-requires : goal.fewer_in-chosen-requires
fewer_in-chosen-requires t c =
    (first_of (search (rules, the_lemmas), grind (the_lemmas, arith, common_steps), grind (the_lemmas, arith, elements)), c.requires)

pub fewer_in-again-requires : goal.fewer_in-again-requires
fewer_in-again-requires t c =
    (first_of (search (rules, the_lemmas), grind (the_lemmas, arith, common_steps), grind (the_lemmas, arith, elements)), c.requires)

pub fewer_in-once_more-requires : goal.fewer_in-once_more-requires
fewer_in-once_more-requires t c =
    (first_of (search (rules, the_lemmas), grind (the_lemmas, arith, common_steps), grind (the_lemmas, arith, elements)), c.requires)

pub fewer_in-counting-requires : goal.fewer_in-counting-requires
fewer_in-counting-requires t c =
    (first_of (search (rules, the_lemmas), grind (the_lemmas, arith, common_steps), grind (the_lemmas, arith, elements)), c.requires)

pub fewer_in-switch-requires : goal.fewer_in-switch-requires
fewer_in-switch-requires t c =
    (first_of (search (rules, the_lemmas), grind (the_lemmas, arith, common_steps), grind (the_lemmas, arith, elements)), c.requires)

pub fewer_in-fewer_in_local-requires : goal.fewer_in-fewer_in_local-requires
fewer_in-fewer_in_local-requires t c =
    c.requires

pub fewer_in-fewer-requires : goal.fewer_in-fewer-requires
fewer_in-fewer-requires t c =
    some_standing c.requires

pub fewer_in-maybe_fewer-requires : goal.fewer_in-maybe_fewer-requires
fewer_in-maybe_fewer-requires t c =
    some_standing c.requires

pub fewer_in-returns-in-Block-clause-tree : goal.fewer_in-returns-in-Block-clause-tree
fewer_in-returns-in-Block-clause-tree t c = λ s stands.
    made c.enclosed.result (plain.Block (fewer.fewer_in_all (entered s) (stmts_of c.in-Block.all))) (fewer.fewer_in s (stmt_of c.args.statement.now))
    (ap (λ (x : CStmt). fewer.fewer_in s x) (sym (ap (λ (x : Stmt). stmt_of x) c.in-Block.is ∙ block_made c.in-Block.all))) (c.enclosed.ensures.tree s stands)

pub fewer_in-returns-in-Block-clause-behind : goal.fewer_in-returns-in-Block-clause-behind
fewer_in-returns-in-Block-clause-behind t c = λ s stands.
    behind c.enclosed.new.types c.enclosed.new.here c.enclosed.result c.args.statement.now (stmt.Block c.in-Block.all) c.in-Block.is tt stands c.enclosed.ensures.stays

pub fewer_in-returns-in-Block-clause-goes : goal.fewer_in-returns-in-Block-clause-goes
fewer_in-returns-in-Block-clause-goes t c =
    going c.args.types.now c.enclosed.new.types c.args.here.now c.enclosed.new.here c.enclosed.result c.enclosed.ensures.stays

pub fewer_in-returns-in_ok-local-in-Local-clause-tree : goal.fewer_in-returns-in_ok-local-in-Local-clause-tree
fewer_in-returns-in_ok-local-in-Local-clause-tree t c = λ s stands.
    ap plain.Local (c.in_ok-local-in-Local.ensures.tree s stands) ∙ ap (λ (x : Stmt). fewer.fewer_in s (stmt_of x)) (sym c.in-Local.is)

pub fewer_in-returns-in_ok-local-in-Local-clause-behind : goal.fewer_in-returns-in_ok-local-in-Local-clause-behind
fewer_in-returns-in_ok-local-in-Local-clause-behind t c = λ s stands.
    subst (λ (x : Stmt). StandsIn c.fewer_in_local.new.types c.fewer_in_local.new.here (scope_behind s (stmt_of x))) (sym c.in-Local.is) (c.in_ok-local-in-Local.ensures.behind s stands)

pub fewer_in-returns-in_ok-local-in-Local-clause-goes : goal.fewer_in-returns-in_ok-local-in-Local-clause-goes
fewer_in-returns-in_ok-local-in-Local-clause-goes t c =
    record {
      grows = c.in_ok-local-in-Local.ensures.grows;
      tags = c.in_ok-local-in-Local.ensures.tags;
      around = c.in_ok-local-in-Local.ensures.around;
      names = (c.in_ok-local-in-Local.ensures.behind c.requires.0 c.requires.1).names ∙ (c.in_ok-local-in-Local.ensures.tags ∙ sym c.requires.1.names);
    }

pub fewer_in-returns-in_ok-part-in-Expr-clause-tree : goal.fewer_in-returns-in_ok-part-in-Expr-clause-tree
fewer_in-returns-in_ok-part-in-Expr-clause-tree t c = λ s stands.
    ap plain.Do_expr (c.in_ok-part-in-Expr.ensures.made s (standing stands)).tree ∙ ap (λ (x : Stmt). fewer.fewer_in s (stmt_of x)) (sym c.in-Expr.is)

pub fewer_in-returns-in_ok-part-in-Expr-clause-behind : goal.fewer_in-returns-in_ok-part-in-Expr-clause-behind
fewer_in-returns-in_ok-part-in-Expr-clause-behind t c = λ s stands.
    let f : Onward c.args.types.now c.fewer.new.types = record { grows = c.in_ok-part-in-Expr.ensures.grows; tags = c.in_ok-part-in-Expr.ensures.tags } in
    behind_at c.args.statement.now (stmt.Expr c.in-Expr.e) c.in-Expr.is tt (stands_grown f stands)

pub fewer_in-returns-in_ok-part-in-Expr-clause-goes : goal.fewer_in-returns-in_ok-part-in-Expr-clause-goes
fewer_in-returns-in_ok-part-in-Expr-clause-goes t c =
    let f : Onward c.args.types.now c.fewer.new.types = record { grows = c.in_ok-part-in-Expr.ensures.grows; tags = c.in_ok-part-in-Expr.ensures.tags } in
    goes_grown c.args.here.now f

pub fewer_in-returns-in-Empty-clause-tree : goal.fewer_in-returns-in-Empty-clause-tree
fewer_in-returns-in-Empty-clause-tree t c = λ s stands.
    ap (λ (x : Stmt). fewer.fewer_in s (stmt_of x)) (sym c.in-Empty.is)

pub fewer_in-returns-in-Empty-clause-behind : goal.fewer_in-returns-in-Empty-clause-behind
fewer_in-returns-in-Empty-clause-behind t c = λ s stands.
    behind_at c.args.statement.now stmt.Empty c.in-Empty.is tt stands

pub fewer_in-returns-in-Empty-clause-goes : goal.fewer_in-returns-in-Empty-clause-goes
fewer_in-returns-in-Empty-clause-goes t c =
    goes_same c.args.types.now c.args.here.now

pub fewer_in-returns-in-None-clause-tree : goal.fewer_in-returns-in-None-clause-tree
fewer_in-returns-in-None-clause-tree t c = λ s stands.
    made c.guarded.result (fewer.fewer_in s (plain.If (expr_of c.in-If.e) (stmt_of c.deref.result.now))) (fewer.fewer_in s (stmt_of c.args.statement.now))
    (ap (λ (x : Stmt). fewer.fewer_in s (plain.If (expr_of c.in-If.e) (stmt_of x))) c.deref.ensures ∙ (ap (λ (x : Stmt). fewer.fewer_in s (stmt_of x)) (sym (c.in-If.is ∙ ap (λ (o : Option _). stmt.If c.in-If.e c.in-If.t o) c.in-None.is)))) (c.guarded.ensures.tree s stands)

pub fewer_in-returns-in-None-clause-behind : goal.fewer_in-returns-in-None-clause-behind
fewer_in-returns-in-None-clause-behind t c = λ s stands.
    behind c.guarded.new.types c.guarded.new.here c.guarded.result c.args.statement.now (stmt.If c.in-If.e c.in-If.t None) (c.in-If.is ∙ ap (λ (o : Option _). stmt.If c.in-If.e c.in-If.t o) c.in-None.is) tt stands c.guarded.ensures.stays

pub fewer_in-returns-in-None-clause-goes : goal.fewer_in-returns-in-None-clause-goes
fewer_in-returns-in-None-clause-goes t c =
    going c.args.types.now c.guarded.new.types c.args.here.now c.guarded.new.here c.guarded.result c.guarded.ensures.stays

pub fewer_in-returns-in-Some-clause-tree : goal.fewer_in-returns-in-Some-clause-tree
fewer_in-returns-in-Some-clause-tree t c = λ s stands.
    made c.chosen.result (fewer.fewer_in s (plain.IfElse (expr_of c.in-If.e) (stmt_of c.deref-in-Some.result.now) (stmt_of c.deref-in-Some-2.result.now))) (fewer.fewer_in s (stmt_of c.args.statement.now))
    (ap (λ (x : Stmt). fewer.fewer_in s (plain.IfElse (expr_of c.in-If.e) (stmt_of x) (stmt_of c.deref-in-Some-2.result.now))) c.deref-in-Some.ensures ∙ (ap (λ (x : Stmt). fewer.fewer_in s (plain.IfElse (expr_of c.in-If.e) (stmt_of c.in-If.t.value) (stmt_of x))) c.deref-in-Some-2.ensures ∙ (ap (λ (x : Stmt). fewer.fewer_in s (stmt_of x)) (sym (c.in-If.is ∙ ap (λ (o : Option _). stmt.If c.in-If.e c.in-If.t o) c.in-Some.is))))) (c.chosen.ensures.tree s stands)

pub fewer_in-returns-in-Some-clause-behind : goal.fewer_in-returns-in-Some-clause-behind
fewer_in-returns-in-Some-clause-behind t c = λ s stands.
    behind c.chosen.new.types c.chosen.new.here c.chosen.result c.args.statement.now (stmt.If c.in-If.e c.in-If.t (Some c.in-Some.second)) (c.in-If.is ∙ ap (λ (o : Option _). stmt.If c.in-If.e c.in-If.t o) c.in-Some.is) tt stands c.chosen.ensures.stays

pub fewer_in-returns-in-Some-clause-goes : goal.fewer_in-returns-in-Some-clause-goes
fewer_in-returns-in-Some-clause-goes t c =
    going c.args.types.now c.chosen.new.types c.args.here.now c.chosen.new.here c.chosen.result c.chosen.ensures.stays

pub fewer_in-returns-in-While-clause-tree : goal.fewer_in-returns-in-While-clause-tree
fewer_in-returns-in-While-clause-tree t c = λ s stands.
    made c.again.result (fewer.fewer_in s (plain.While (expr_of c.in-While.e) (stmt_of c.deref-in-While.result.now))) (fewer.fewer_in s (stmt_of c.args.statement.now))
    (ap (λ (x : Stmt). fewer.fewer_in s (plain.While (expr_of c.in-While.e) (stmt_of x))) c.deref-in-While.ensures ∙ ap (λ (x : Stmt). fewer.fewer_in s (stmt_of x)) (sym c.in-While.is)) (c.again.ensures.tree s stands)

pub fewer_in-returns-in-While-clause-behind : goal.fewer_in-returns-in-While-clause-behind
fewer_in-returns-in-While-clause-behind t c = λ s stands.
    behind c.again.new.types c.again.new.here c.again.result c.args.statement.now (stmt.While c.in-While.e c.in-While.t) c.in-While.is tt stands c.again.ensures.stays

pub fewer_in-returns-in-While-clause-goes : goal.fewer_in-returns-in-While-clause-goes
fewer_in-returns-in-While-clause-goes t c =
    going c.args.types.now c.again.new.types c.args.here.now c.again.new.here c.again.result c.again.ensures.stays

pub fewer_in-returns-in-Do-clause-tree : goal.fewer_in-returns-in-Do-clause-tree
fewer_in-returns-in-Do-clause-tree t c = λ s stands.
    made c.once_more.result (fewer.fewer_in s (plain.Do (stmt_of c.deref-in-Do.result.now) (expr_of c.in-Do.e))) (fewer.fewer_in s (stmt_of c.args.statement.now))
    (ap (λ (x : Stmt). fewer.fewer_in s (plain.Do (stmt_of x) (expr_of c.in-Do.e))) c.deref-in-Do.ensures ∙ ap (λ (x : Stmt). fewer.fewer_in s (stmt_of x)) (sym c.in-Do.is)) (c.once_more.ensures.tree s stands)

pub fewer_in-returns-in-Do-clause-behind : goal.fewer_in-returns-in-Do-clause-behind
fewer_in-returns-in-Do-clause-behind t c = λ s stands.
    behind c.once_more.new.types c.once_more.new.here c.once_more.result c.args.statement.now (stmt.Do c.in-Do.t c.in-Do.e) c.in-Do.is tt stands c.once_more.ensures.stays

pub fewer_in-returns-in-Do-clause-goes : goal.fewer_in-returns-in-Do-clause-goes
fewer_in-returns-in-Do-clause-goes t c =
    going c.args.types.now c.once_more.new.types c.args.here.now c.once_more.new.here c.once_more.result c.once_more.ensures.stays

pub fewer_in-returns-in-For-clause-tree : goal.fewer_in-returns-in-For-clause-tree
fewer_in-returns-in-For-clause-tree t c = λ s stands.
    made c.counting.result (fewer.fewer_in s (plain.For (stmt_of c.deref-in-For.result.now) (maybe c.in-For.test) (maybe c.in-For.step) (stmt_of c.deref-in-For-2.result.now))) (fewer.fewer_in s (stmt_of c.args.statement.now))
    (ap (λ (x : Stmt). fewer.fewer_in s (plain.For (stmt_of x) (maybe c.in-For.test) (maybe c.in-For.step) (stmt_of c.deref-in-For-2.result.now))) c.deref-in-For.ensures ∙ (ap (λ (x : Stmt). fewer.fewer_in s (plain.For (stmt_of c.in-For.first.value) (maybe c.in-For.test) (maybe c.in-For.step) (stmt_of x))) c.deref-in-For-2.ensures ∙ ap (λ (x : Stmt). fewer.fewer_in s (stmt_of x)) (sym c.in-For.is))) (c.counting.ensures.tree s stands)

pub fewer_in-returns-in-For-clause-behind : goal.fewer_in-returns-in-For-clause-behind
fewer_in-returns-in-For-clause-behind t c = λ s stands.
    behind c.counting.new.types c.counting.new.here c.counting.result c.args.statement.now (stmt.For c.in-For.first c.in-For.test c.in-For.step c.in-For.t) c.in-For.is tt stands c.counting.ensures.stays

pub fewer_in-returns-in-For-clause-goes : goal.fewer_in-returns-in-For-clause-goes
fewer_in-returns-in-For-clause-goes t c =
    going c.args.types.now c.counting.new.types c.args.here.now c.counting.new.here c.counting.result c.counting.ensures.stays

pub fewer_in-returns-in_ok-value-in-Return-clause-tree : goal.fewer_in-returns-in_ok-value-in-Return-clause-tree
fewer_in-returns-in_ok-value-in-Return-clause-tree t c = λ s stands.
    ap (plain.Return c.in-Return.at) (c.in_ok-value-in-Return.ensures.tree s (standing stands)) ∙ ap (λ (x : Stmt). fewer.fewer_in s (stmt_of x)) (sym c.in-Return.is)

pub fewer_in-returns-in_ok-value-in-Return-clause-behind : goal.fewer_in-returns-in_ok-value-in-Return-clause-behind
fewer_in-returns-in_ok-value-in-Return-clause-behind t c = λ s stands.
    let f : Onward c.args.types.now c.maybe_fewer.new.types = record { grows = c.in_ok-value-in-Return.ensures.grows; tags = c.in_ok-value-in-Return.ensures.tags } in
    behind_at c.args.statement.now (stmt.Return c.in-Return.at c.in-Return.e) c.in-Return.is tt (stands_grown f stands)

pub fewer_in-returns-in_ok-value-in-Return-clause-goes : goal.fewer_in-returns-in_ok-value-in-Return-clause-goes
fewer_in-returns-in_ok-value-in-Return-clause-goes t c =
    let f : Onward c.args.types.now c.maybe_fewer.new.types = record { grows = c.in_ok-value-in-Return.ensures.grows; tags = c.in_ok-value-in-Return.ensures.tags } in
    goes_grown c.args.here.now f

pub fewer_in-returns-in-Break-clause-tree : goal.fewer_in-returns-in-Break-clause-tree
fewer_in-returns-in-Break-clause-tree t c = λ s stands.
    ap (λ (x : Stmt). fewer.fewer_in s (stmt_of x)) (sym c.in-Break.is)

pub fewer_in-returns-in-Break-clause-behind : goal.fewer_in-returns-in-Break-clause-behind
fewer_in-returns-in-Break-clause-behind t c = λ s stands.
    behind_at c.args.statement.now (stmt.Break c.in-Break.at) c.in-Break.is tt stands

pub fewer_in-returns-in-Break-clause-goes : goal.fewer_in-returns-in-Break-clause-goes
fewer_in-returns-in-Break-clause-goes t c =
    goes_same c.args.types.now c.args.here.now

pub fewer_in-returns-in-Continue-clause-tree : goal.fewer_in-returns-in-Continue-clause-tree
fewer_in-returns-in-Continue-clause-tree t c = λ s stands.
    ap (λ (x : Stmt). fewer.fewer_in s (stmt_of x)) (sym c.in-Continue.is)

pub fewer_in-returns-in-Continue-clause-behind : goal.fewer_in-returns-in-Continue-clause-behind
fewer_in-returns-in-Continue-clause-behind t c = λ s stands.
    behind_at c.args.statement.now (stmt.Continue c.in-Continue.at) c.in-Continue.is tt stands

pub fewer_in-returns-in-Continue-clause-goes : goal.fewer_in-returns-in-Continue-clause-goes
fewer_in-returns-in-Continue-clause-goes t c =
    goes_same c.args.types.now c.args.here.now

pub fewer_in-returns-in-Switch-clause-tree : goal.fewer_in-returns-in-Switch-clause-tree
fewer_in-returns-in-Switch-clause-tree t c = λ s stands.
    made c.switch.result (plain.Switch (fewer.fewer s (expr_of c.in-Switch.e)) (fewer.fewer_in_parts (entered s) (parts_of c.in-Switch.all))) (fewer.fewer_in s (stmt_of c.args.statement.now))
    (ap (λ (x : CStmt). fewer.fewer_in s x) (sym (ap (λ (x : Stmt). stmt_of x) c.in-Switch.is ∙ switch_made c.in-Switch.e c.in-Switch.all))) (c.switch.ensures.tree s stands)

pub fewer_in-returns-in-Switch-clause-behind : goal.fewer_in-returns-in-Switch-clause-behind
fewer_in-returns-in-Switch-clause-behind t c = λ s stands.
    behind c.switch.new.types c.switch.new.here c.switch.result c.args.statement.now (stmt.Switch c.in-Switch.e c.in-Switch.all) c.in-Switch.is tt stands c.switch.ensures.stays

pub fewer_in-returns-in-Switch-clause-goes : goal.fewer_in-returns-in-Switch-clause-goes
fewer_in-returns-in-Switch-clause-goes t c =
    going c.args.types.now c.switch.new.types c.args.here.now c.switch.new.here c.switch.result c.switch.ensures.stays

pub alone-forgotten-requires : goal.alone-forgotten-requires
alone-forgotten-requires t c =
    c.requires

pub alone-fewer_in-requires : goal.alone-fewer_in-requires
alone-fewer_in-requires t c =
    (first_of (search (rules, the_lemmas), grind (the_lemmas, arith, common_steps), grind (the_lemmas, arith, elements)), c.requires)

pub alone-returns-in-Local-clause-tree : goal.alone-returns-in-Local-clause-tree
alone-returns-in-Local-clause-tree t c = λ s stands.
    made c.forgotten.result (fewer.fewer_in s (plain.Local (decl_of c.in-Local.d))) (fewer.fewer_in s (stmt_of c.args.statement.now)) (ap (λ (x : Stmt). fewer.fewer_in s (stmt_of x)) (sym c.in-Local.is)) (c.forgotten.ensures.tree s stands)

pub alone-returns-in-Local-clause-stays : goal.alone-returns-in-Local-clause-stays
alone-returns-in-Local-clause-stays t c =
    c.forgotten.ensures.stays

pub alone-returns-in_default : goal.alone-returns-in_default
alone-returns-in_default t c =
    record {
      tree = c.fewer_in.ensures.tree;
      stays = stayed c.fewer_in.new.types c.fewer_in.new.here c.fewer_in.result c.args.statement.now (other_local c.args.statement.now c.in_default.not-Local) c.requires c.fewer_in.ensures.behind c.fewer_in.ensures.goes;
    }

pub enclosed-fewer_in_all-requires : goal.enclosed-fewer_in_all-requires
enclosed-fewer_in_all-requires t c =
    (first_of (search (rules, the_lemmas), grind (the_lemmas, arith, common_steps), grind (the_lemmas, arith, elements)), (entered c.requires.0, entered_stands c.begin_block-mark.new.declared c.begin_block-mark.ensures.block c.begin_block-mark.ensures.inside c.requires.1))

pub enclosed-end_block-requires : goal.enclosed-end_block-requires
enclosed-end_block-requires t c =
    ends c.args.here.now c.begin_block-mark.result c.in_ok-trees.ensures.goes c.begin_block-mark.ensures.inside c.begin_block-mark.ensures.mark

pub enclosed-returns-clause-tree : goal.enclosed-returns-clause-tree
enclosed-returns-clause-tree t c = λ s stands.
    c.block.ensures ∙ ap plain.Block (c.in_ok-trees.ensures.tree (entered s) (entered_stands c.begin_block-mark.new.declared c.begin_block-mark.ensures.block c.begin_block-mark.ensures.inside stands))

pub enclosed-returns-clause-stays : goal.enclosed-returns-clause-stays
enclosed-returns-clause-stays t c =
    stays_behind c.args.here.now c.end_block.new.declared (onward_same c.args.types.now) c.in_ok-trees.ensures.goes refl c.begin_block-mark.ensures.inside (λ i. c.in_ok-end_block.ensures c.args.here.now.declared i c.begin_block-mark.ensures.mark)

pub fewer_in_all-loop-statement-init : goal.fewer_in_all-loop-statement-init
fewer_in_all-loop-statement-init t c =
    begun c.args.types.now c.args.here.now c.new-trees.result.items c.args.all.now.items.items c.new-trees.ensures.items

pub fewer_in_all-fewer_in-requires : goal.fewer_in_all-fewer_in-requires
fewer_in_all-fewer_in-requires t c =
    let g = c.loop-statement.invariant.so_far c.requires.0 c.requires.1 in
    (first_of (search (rules, the_lemmas), grind (the_lemmas, arith, common_steps), grind (the_lemmas, arith, elements)), (g.scope, g.stands))

pub fewer_in_all-loop-statement-preserved : goal.fewer_in_all-loop-statement-preserved
fewer_in_all-loop-statement-preserved t c =
    let items = c.args.all.now.items.items in
    let i = c.loop-statement.statement-index in
    let within : i < length items = subst (λ (l : List Stmt). i < length l) c.deref-statement-items.ensures.value c.loop-statement-test.true in
    let next : c.statement-item.result ≡ get_or items i c.statement-item.result = subst (λ (l : List Stmt). c.statement-item.result ≡ get_or l i c.statement-item.result) c.deref-statement-items.ensures.value c.statement-item.is in
    one_more c.args.types.now c.loop-statement.types c.fewer_in.new.types c.args.here.now c.loop-statement.here c.fewer_in.new.here c.loop-statement.trees.items c.push.new.self.items items i c.statement-item.result c.in_ok-tree.tree
    c.loop-statement.invariant (drop_at items i c.statement-item.result within next) c.in_ok-tree.ensures.tree c.in_ok-tree.ensures.behind c.in_ok-tree.ensures.goes c.in_ok-push.ensures.items

pub fewer_in_all-returns-clause-tree : goal.fewer_in_all-returns-clause-tree
fewer_in_all-returns-clause-tree t c = λ s stands.
    let items = c.args.all.now.items.items in
    let past : length items ≤ c.loop-statement.statement-index = subst (λ (l : List Stmt). length l ≤ c.loop-statement.statement-index) c.deref-statement-items.ensures.value c.loop-statement-test.false in
    all_made c.args.types.now c.loop-statement.types c.args.here.now c.loop-statement.here c.loop-statement.trees.items items c.loop-statement.statement-index c.loop-statement.invariant past s stands

pub fewer_in_all-returns-clause-behind : goal.fewer_in_all-returns-clause-behind
fewer_in_all-returns-clause-behind t c = λ s stands.
    let items = c.args.all.now.items.items in
    let past : length items ≤ c.loop-statement.statement-index = subst (λ (l : List Stmt). length l ≤ c.loop-statement.statement-index) c.deref-statement-items.ensures.value c.loop-statement-test.false in
    all_behind c.args.types.now c.loop-statement.types c.args.here.now c.loop-statement.here c.loop-statement.trees.items items c.loop-statement.statement-index c.loop-statement.invariant past s stands

pub fewer_in_all-returns-clause-goes : goal.fewer_in_all-returns-clause-goes
fewer_in_all-returns-clause-goes t c =
    c.loop-statement.invariant.goes

pub guarded-fewer-requires : goal.guarded-fewer-requires
guarded-fewer-requires t c =
    some_standing c.requires

pub guarded-alone-requires : goal.guarded-alone-requires
guarded-alone-requires t c =
    let f : Onward c.args.types.now c.fewer.new.types = record { grows = c.in_ok-e.ensures.grows; tags = c.in_ok-e.ensures.tags } in
    (first_of (search (rules, the_lemmas), grind (the_lemmas, arith, common_steps), grind (the_lemmas, arith, elements)), some_grown f c.requires)

pub guarded-returns-clause-tree : goal.guarded-returns-clause-tree
guarded-returns-clause-tree t c = λ s stands.
    let f : Onward c.args.types.now c.fewer.new.types = record { grows = c.in_ok-e.ensures.grows; tags = c.in_ok-e.ensures.tags } in
    made c.when.result (plain.If (expr_of c.in_ok-e.e.tree) (stmt_of c.in_ok-t.t)) (plain.If (fewer.fewer s (expr_of c.args.test.now)) (fewer.fewer_in s (stmt_of c.args.body.now)))
    (ap (λ (x : CExpr). plain.If x (stmt_of c.in_ok-t.t)) (c.in_ok-e.ensures.made s (standing stands)).tree ∙ ap (plain.If (fewer.fewer s (expr_of c.args.test.now))) (c.in_ok-t.ensures.tree s (stands_grown f stands))) c.when.ensures

pub guarded-returns-clause-stays : goal.guarded-returns-clause-stays
guarded-returns-clause-stays t c =
    let f : Onward c.args.types.now c.fewer.new.types = record { grows = c.in_ok-e.ensures.grows; tags = c.in_ok-e.ensures.tags } in
    on_any c.when.result (stays_on (stays_grown c.args.here.now f) c.in_ok-t.ensures.stays)

pub again-fewer-requires : goal.again-fewer-requires
again-fewer-requires t c =
    some_standing c.requires

pub again-alone-requires : goal.again-alone-requires
again-alone-requires t c =
    let f : Onward c.args.types.now c.fewer.new.types = record { grows = c.in_ok-e.ensures.grows; tags = c.in_ok-e.ensures.tags } in
    (first_of (search (rules, the_lemmas), grind (the_lemmas, arith, common_steps), grind (the_lemmas, arith, elements)), some_grown f c.requires)

pub again-returns-clause-tree : goal.again-returns-clause-tree
again-returns-clause-tree t c = λ s stands.
    let f : Onward c.args.types.now c.fewer.new.types = record { grows = c.in_ok-e.ensures.grows; tags = c.in_ok-e.ensures.tags } in
    made c.looped.result (plain.While (expr_of c.in_ok-e.e.tree) (stmt_of c.in_ok-t.t)) (plain.While (fewer.fewer s (expr_of c.args.test.now)) (fewer.fewer_in s (stmt_of c.args.body.now)))
    (ap (λ (x : CExpr). plain.While x (stmt_of c.in_ok-t.t)) (c.in_ok-e.ensures.made s (standing stands)).tree ∙ ap (plain.While (fewer.fewer s (expr_of c.args.test.now))) (c.in_ok-t.ensures.tree s (stands_grown f stands))) c.looped.ensures

pub again-returns-clause-stays : goal.again-returns-clause-stays
again-returns-clause-stays t c =
    let f : Onward c.args.types.now c.fewer.new.types = record { grows = c.in_ok-e.ensures.grows; tags = c.in_ok-e.ensures.tags } in
    on_any c.looped.result (stays_on (stays_grown c.args.here.now f) c.in_ok-t.ensures.stays)

pub chosen-fewer-requires : goal.chosen-fewer-requires
chosen-fewer-requires t c =
    some_standing c.requires

pub chosen-alone-requires : goal.chosen-alone-requires
chosen-alone-requires t c =
    let f : Onward c.args.types.now c.fewer.new.types = record { grows = c.in_ok-e.ensures.grows; tags = c.in_ok-e.ensures.tags } in
    (first_of (search (rules, the_lemmas), grind (the_lemmas, arith, common_steps), grind (the_lemmas, arith, elements)), some_grown f c.requires)

pub chosen-alone-requires-2 : goal.chosen-alone-requires-2
chosen-alone-requires-2 t c =
    let f : Onward c.args.types.now c.fewer.new.types = record { grows = c.in_ok-e.ensures.grows; tags = c.in_ok-e.ensures.tags } in
    (first_of (search (rules, the_lemmas), grind (the_lemmas, arith, common_steps), grind (the_lemmas, arith, elements)), some_still c.in_ok-t.ensures.stays (some_grown f c.requires))

pub chosen-returns-clause-tree : goal.chosen-returns-clause-tree
chosen-returns-clause-tree t c = λ s stands.
    let f : Onward c.args.types.now c.fewer.new.types = record { grows = c.in_ok-e.ensures.grows; tags = c.in_ok-e.ensures.tags } in
    let there = stands_grown f stands in
    made c.choice.result (plain.IfElse (expr_of c.in_ok-e.e.tree) (stmt_of c.in_ok-t.t) (stmt_of c.in_ok-u.u)) (plain.IfElse (fewer.fewer s (expr_of c.args.test.now)) (fewer.fewer_in s (stmt_of c.args.body.now)) (fewer.fewer_in s (stmt_of c.args.other.now)))
    (ap (λ (x : CExpr). plain.IfElse x (stmt_of c.in_ok-t.t) (stmt_of c.in_ok-u.u)) (c.in_ok-e.ensures.made s (standing stands)).tree
    ∙ (ap (λ (x : CStmt). plain.IfElse (fewer.fewer s (expr_of c.args.test.now)) x (stmt_of c.in_ok-u.u)) (c.in_ok-t.ensures.tree s there)
    ∙ ap (plain.IfElse (fewer.fewer s (expr_of c.args.test.now)) (fewer.fewer_in s (stmt_of c.args.body.now))) (c.in_ok-u.ensures.tree s (stands_still c.in_ok-t.ensures.stays there)))) c.choice.ensures

pub chosen-returns-clause-stays : goal.chosen-returns-clause-stays
chosen-returns-clause-stays t c =
    let f : Onward c.args.types.now c.fewer.new.types = record { grows = c.in_ok-e.ensures.grows; tags = c.in_ok-e.ensures.tags } in
    on_any c.choice.result (stays_on (stays_on (stays_grown c.args.here.now f) c.in_ok-t.ensures.stays) c.in_ok-u.ensures.stays)

pub once_more-alone-requires : goal.once_more-alone-requires
once_more-alone-requires t c =
    (first_of (search (rules, the_lemmas), grind (the_lemmas, arith, common_steps), grind (the_lemmas, arith, elements)), c.requires)

pub once_more-fewer-requires : goal.once_more-fewer-requires
once_more-fewer-requires t c =
    some_standing (some_still c.in_ok-t.ensures.stays c.requires)

pub once_more-returns-clause-tree : goal.once_more-returns-clause-tree
once_more-returns-clause-tree t c = λ s stands.
    made c.repeated.result (plain.Do (stmt_of c.in_ok-t.t) (expr_of c.in_ok-e.e.tree)) (plain.Do (fewer.fewer_in s (stmt_of c.args.body.now)) (fewer.fewer s (expr_of c.args.test.now)))
    (ap (λ (x : CStmt). plain.Do x (expr_of c.in_ok-e.e.tree)) (c.in_ok-t.ensures.tree s stands) ∙ ap (plain.Do (fewer.fewer_in s (stmt_of c.args.body.now))) (c.in_ok-e.ensures.made s (standing (stands_still c.in_ok-t.ensures.stays stands))).tree) c.repeated.ensures

pub once_more-returns-clause-stays : goal.once_more-returns-clause-stays
once_more-returns-clause-stays t c =
    let f : Onward c.alone.new.types c.fewer.new.types = record { grows = c.in_ok-e.ensures.grows; tags = c.in_ok-e.ensures.tags } in
    on_any c.repeated.result (stays_on c.in_ok-t.ensures.stays (stays_grown c.alone.new.here f))

pub turns-maybe_fewer-requires : goal.turns-maybe_fewer-requires
turns-maybe_fewer-requires t c =
    some_standing c.requires

pub turns-maybe_fewer-requires-2 : goal.turns-maybe_fewer-requires-2
turns-maybe_fewer-requires-2 t c =
    let f : Onward c.args.types.now c.maybe_fewer.new.types = record { grows = c.in_ok-first.ensures.grows; tags = c.in_ok-first.ensures.tags } in
    some_standing (some_grown f c.requires)

pub turns-alone-requires : goal.turns-alone-requires
turns-alone-requires t c =
    let f : Onward c.args.types.now c.maybe_fewer.new.types = record { grows = c.in_ok-first.ensures.grows; tags = c.in_ok-first.ensures.tags } in
    let g : Onward c.maybe_fewer.new.types c.maybe_fewer-2.new.types = record { grows = c.in_ok-second.ensures.grows; tags = c.in_ok-second.ensures.tags } in
    (first_of (search (rules, the_lemmas), grind (the_lemmas, arith, common_steps), grind (the_lemmas, arith, elements)), some_grown (then_on f g) c.requires)

pub turns-returns-clause-tree : goal.turns-returns-clause-tree
turns-returns-clause-tree t c = λ s stands.
    let f : Onward c.args.types.now c.maybe_fewer.new.types = record { grows = c.in_ok-first.ensures.grows; tags = c.in_ok-first.ensures.tags } in
    let g : Onward c.maybe_fewer.new.types c.maybe_fewer-2.new.types = record { grows = c.in_ok-second.ensures.grows; tags = c.in_ok-second.ensures.tags } in
    record {
      test = c.in_ok-first.ensures.tree s (standing stands);
      step = c.in_ok-second.ensures.tree s (standing (stands_grown f stands));
      body = c.in_ok-t.ensures.tree s (stands_grown (then_on f g) stands);
    }

pub turns-returns-clause-stays : goal.turns-returns-clause-stays
turns-returns-clause-stays t c =
    let f : Onward c.args.types.now c.maybe_fewer.new.types = record { grows = c.in_ok-first.ensures.grows; tags = c.in_ok-first.ensures.tags } in
    let g : Onward c.maybe_fewer.new.types c.maybe_fewer-2.new.types = record { grows = c.in_ok-second.ensures.grows; tags = c.in_ok-second.ensures.tags } in
    stays_on (stays_grown c.args.here.now (then_on f g)) c.in_ok-t.ensures.stays

pub counting_in_block-fewer_in_all-requires : goal.counting_in_block-fewer_in_all-requires
counting_in_block-fewer_in_all-requires t c =
    (first_of (search (rules, the_lemmas), grind (the_lemmas, arith, common_steps), grind (the_lemmas, arith, elements)), (entered c.requires.0, entered_stands c.begin_block-mark.new.declared c.begin_block-mark.ensures.block c.begin_block-mark.ensures.inside c.requires.1))

pub counting_in_block-turns-requires : goal.counting_in_block-turns-requires
counting_in_block-turns-requires t c =
    (first_of (search (rules, the_lemmas), grind (the_lemmas, arith, common_steps), grind (the_lemmas, arith, elements)), (scope_behind_all (entered c.requires.0) (stmts_of c.args.head.now), c.in_ok-trees.ensures.behind (entered c.requires.0) (entered_stands c.begin_block-mark.new.declared c.begin_block-mark.ensures.block c.begin_block-mark.ensures.inside c.requires.1)))

pub counting_in_block-end_block-requires : goal.counting_in_block-end_block-requires
counting_in_block-end_block-requires t c =
    ends c.args.here.now c.begin_block-mark.result (goes_on c.in_ok-trees.ensures.goes c.in_ok-rest.ensures.stays.goes) c.begin_block-mark.ensures.inside c.begin_block-mark.ensures.mark

pub counting_in_block-returns-clause-tree : goal.counting_in_block-returns-clause-tree
counting_in_block-returns-clause-tree t c = λ s stands.
    let there = (entered_stands c.begin_block-mark.new.declared c.begin_block-mark.ensures.block c.begin_block-mark.ensures.inside stands) in
    let inner = scope_behind_all (entered s) (stmts_of c.args.head.now) in
    let rest = c.in_ok-rest.rest in
    made c.counted.result (plain.For (stmt_of c.block.result) (maybe rest.test) (maybe rest.step) (stmt_of rest.body)) (fewer.fewer_in s (plain.For (plain.Block (stmts_of c.args.head.now)) (maybe c.args.test.now) (maybe c.args.step.now) (stmt_of c.args.body.now)))
    (for_is (stmt_of c.block.result) (plain.Block (fewer.fewer_in_all (entered s) (stmts_of c.args.head.now))) rest inner (maybe c.args.test.now) (maybe c.args.step.now) (stmt_of c.args.body.now)
    (c.block.ensures ∙ ap plain.Block (c.in_ok-trees.ensures.tree (entered s) there)) (c.in_ok-rest.ensures.tree inner (c.in_ok-trees.ensures.behind (entered s) there))) c.counted.ensures

pub counting_in_block-returns-clause-stays : goal.counting_in_block-returns-clause-stays
counting_in_block-returns-clause-stays t c =
    on_any c.counted.result (stays_behind c.args.here.now c.end_block.new.declared (onward_same c.args.types.now) (goes_on c.in_ok-trees.ensures.goes c.in_ok-rest.ensures.stays.goes) refl c.begin_block-mark.ensures.inside (λ i. c.in_ok-end_block.ensures c.args.here.now.declared i c.begin_block-mark.ensures.mark))

pub counting_behind-announce-requires : goal.counting_behind-announce-requires
counting_behind-announce-requires t c =
    c.requires

pub counting_behind-turns-requires : goal.counting_behind-turns-requires
counting_behind-turns-requires t c =
    (first_of (search (rules, the_lemmas), grind (the_lemmas, arith, common_steps), grind (the_lemmas, arith, elements)), (scope_behind c.requires.0 (plain.Local (decl_of c.args.d.now)), c.in_ok-local.ensures.behind c.requires.0 c.requires.1))

pub counting_behind-returns-clause-tree : goal.counting_behind-returns-clause-tree
counting_behind-returns-clause-tree t c = λ s stands.
    let inner = scope_behind s (plain.Local (decl_of c.args.d.now)) in
    let rest = c.in_ok-rest.rest in
    let head = plain.Local (decl_of c.in_ok-local.local.tree) in
    made c.counted.result (plain.For head (maybe rest.test) (maybe rest.step) (stmt_of rest.body)) (fewer.fewer_in s (plain.For (plain.Local (decl_of c.args.d.now)) (maybe c.args.test.now) (maybe c.args.step.now) (stmt_of c.args.body.now)))
    (for_is head (fewer.fewer_in s (plain.Local (decl_of c.args.d.now))) rest inner (maybe c.args.test.now) (maybe c.args.step.now) (stmt_of c.args.body.now) (c.in_ok-local.ensures.tree s stands) (c.in_ok-rest.ensures.tree inner (c.in_ok-local.ensures.behind s stands))) c.counted.ensures

pub counting_behind-returns-clause-stays : goal.counting_behind-returns-clause-stays
counting_behind-returns-clause-stays t c =
    on_any c.counted.result (record {
      goes = goes_around c.withdraw.new.declared (goes_on c.in_ok-local.ensures.goes c.in_ok-rest.ensures.stays.goes) c.in_ok-withdraw.ensures.around;
      holds = λ s before.
          let stands : StandsIn c.args.types.now c.args.here.now s = record { holds = before; names = c.requires.1.names } in
          c.in_ok-withdraw.ensures.holds c.turns.new.types s (decl_of c.args.d.now) (c.in_ok-local.ensures.refusal s stands) (c.in_ok-rest.ensures.stays.holds (scope_behind s (plain.Local (decl_of c.args.d.now))) (c.in_ok-local.ensures.behind s stands).holds);
    })

pub counting-counting_in_block-requires : goal.counting-counting_in_block-requires
counting-counting_in_block-requires t c =
    (first_of (search (rules, the_lemmas), grind (the_lemmas, arith, common_steps), grind (the_lemmas, arith, elements)), c.requires)

pub counting-counting_behind-requires : goal.counting-counting_behind-requires
counting-counting_behind-requires t c =
    (first_of (search (rules, the_lemmas), grind (the_lemmas, arith, common_steps), grind (the_lemmas, arith, elements)), c.requires)

pub counting-alone-requires : goal.counting-alone-requires
counting-alone-requires t c =
    (first_of (search (rules, the_lemmas), grind (the_lemmas, arith, common_steps), grind (the_lemmas, arith, elements)), c.requires)

pub counting-turns-requires : goal.counting-turns-requires
counting-turns-requires t c =
    (first_of (search (rules, the_lemmas), grind (the_lemmas, arith, common_steps), grind (the_lemmas, arith, elements)), some_still c.in_ok-first-in_default.ensures.stays c.requires)

pub counting-returns-in-Block-clause-tree : goal.counting-returns-in-Block-clause-tree
counting-returns-in-Block-clause-tree t c = λ s stands.
    made c.counting_in_block.result (fewer.fewer_in s (plain.For (plain.Block (stmts_of c.in-Block.all)) (maybe c.args.test.now) (maybe c.args.step.now) (stmt_of c.args.body.now))) (fewer.fewer_in s (plain.For (stmt_of c.args.head.now) (maybe c.args.test.now) (maybe c.args.step.now) (stmt_of c.args.body.now)))
    (ap (λ (x : CStmt). fewer.fewer_in s (plain.For x (maybe c.args.test.now) (maybe c.args.step.now) (stmt_of c.args.body.now))) (sym (ap (λ (x : Stmt). stmt_of x) c.in-Block.is ∙ block_made c.in-Block.all))) (c.counting_in_block.ensures.tree s stands)

pub counting-returns-in-Block-clause-stays : goal.counting-returns-in-Block-clause-stays
counting-returns-in-Block-clause-stays t c =
    c.counting_in_block.ensures.stays

pub counting-returns-in-Local-clause-tree : goal.counting-returns-in-Local-clause-tree
counting-returns-in-Local-clause-tree t c = λ s stands.
    made c.counting_behind.result (fewer.fewer_in s (plain.For (plain.Local (decl_of c.in-Local.d)) (maybe c.args.test.now) (maybe c.args.step.now) (stmt_of c.args.body.now))) (fewer.fewer_in s (plain.For (stmt_of c.args.head.now) (maybe c.args.test.now) (maybe c.args.step.now) (stmt_of c.args.body.now)))
    (ap (λ (x : Stmt). fewer.fewer_in s (plain.For (stmt_of x) (maybe c.args.test.now) (maybe c.args.step.now) (stmt_of c.args.body.now))) (sym c.in-Local.is)) (c.counting_behind.ensures.tree s stands)

pub counting-returns-in-Local-clause-stays : goal.counting-returns-in-Local-clause-stays
counting-returns-in-Local-clause-stays t c =
    c.counting_behind.ensures.stays

pub counting-returns-in_ok-rest-in_default : goal.counting-returns-in_ok-rest-in_default
counting-returns-in_ok-rest-in_default t c =
    record {
      tree = λ s stands.
          let rest = c.in_ok-rest-in_default.rest in
          let head = fewer.fewer_in s (stmt_of c.args.head.now) in
          made c.counted.result (plain.For (stmt_of c.in_ok-first-in_default.first) (maybe rest.test) (maybe rest.step) (stmt_of rest.body)) (fewer.fewer_in s (plain.For (stmt_of c.args.head.now) (maybe c.args.test.now) (maybe c.args.step.now) (stmt_of c.args.body.now)))
          (for_is (stmt_of c.in_ok-first-in_default.first) head rest s (maybe c.args.test.now) (maybe c.args.step.now) (stmt_of c.args.body.now) (c.in_ok-first-in_default.ensures.tree s stands) (c.in_ok-rest-in_default.ensures.tree s (stands_still c.in_ok-first-in_default.ensures.stays stands))
          ∙ ap (λ (r : Scope). plain.For head (fewer.maybe_fewer r (maybe c.args.test.now)) (fewer.maybe_fewer r (maybe c.args.step.now)) (fewer.fewer_in r (stmt_of c.args.body.now))) (sym (head_same s (stmt_of c.args.head.now) (other_local c.args.head.now c.in_default.not-Local) (other_block c.args.head.now c.in_default.not-Block)))) c.counted.ensures;
      stays = on_any c.counted.result (stays_on c.in_ok-first-in_default.ensures.stays c.in_ok-rest-in_default.ensures.stays);
    }

pub switch-fewer-requires : goal.switch-fewer-requires
switch-fewer-requires t c =
    some_standing c.requires

pub switch-fewer_in_parts-requires : goal.switch-fewer_in_parts-requires
switch-fewer_in_parts-requires t c =
    let f : Onward c.args.types.now c.fewer.new.types = record { grows = c.in_ok-value.ensures.grows; tags = c.in_ok-value.ensures.tags } in
    (first_of (search (rules, the_lemmas), grind (the_lemmas, arith, common_steps), grind (the_lemmas, arith, elements)), (entered c.requires.0, entered_stands c.begin_block-mark.new.declared c.begin_block-mark.ensures.block c.begin_block-mark.ensures.inside (stands_grown f c.requires.1)))

pub switch-end_block-requires : goal.switch-end_block-requires
switch-end_block-requires t c =
    ends c.args.here.now c.begin_block-mark.result c.in_ok-trees.ensures.goes c.begin_block-mark.ensures.inside c.begin_block-mark.ensures.mark

pub switch-returns-clause-tree : goal.switch-returns-clause-tree
switch-returns-clause-tree t c = λ s stands.
    let f : Onward c.args.types.now c.fewer.new.types = record { grows = c.in_ok-value.ensures.grows; tags = c.in_ok-value.ensures.tags } in
    let e = fewer.fewer s (expr_of c.args.e.now) in
    c.selection.ensures
    ∙ (ap (λ (x : CExpr). plain.Switch x (parts (map part_of c.in_ok-trees.trees.items))) (c.in_ok-value.ensures.made s (standing stands)).tree
    ∙ ap (plain.Switch e) (c.in_ok-trees.ensures.tree (entered s) (entered_stands c.begin_block-mark.new.declared c.begin_block-mark.ensures.block c.begin_block-mark.ensures.inside (stands_grown f stands))))

pub switch-returns-clause-stays : goal.switch-returns-clause-stays
switch-returns-clause-stays t c =
    let f : Onward c.args.types.now c.fewer.new.types = record { grows = c.in_ok-value.ensures.grows; tags = c.in_ok-value.ensures.tags } in
    stays_behind c.args.here.now c.end_block.new.declared f c.in_ok-trees.ensures.goes refl c.begin_block-mark.ensures.inside (λ i. c.in_ok-end_block.ensures c.args.here.now.declared i c.begin_block-mark.ensures.mark)

pub fewer_in_parts-loop-part-init : goal.fewer_in_parts-loop-part-init
fewer_in_parts-loop-part-init t c =
    part_begun c.args.types.now c.args.here.now c.new-trees.result.items c.args.all.now.items.items c.new-trees.ensures.items

pub fewer_in_parts-fewer_in_part-requires : goal.fewer_in_parts-fewer_in_part-requires
fewer_in_parts-fewer_in_part-requires t c =
    let g = c.loop-part.invariant.so_far c.requires.0 c.requires.1 in
    (first_of (search (rules, the_lemmas), grind (the_lemmas, arith, common_steps), grind (the_lemmas, arith, elements)), (g.scope, g.stands))

pub fewer_in_parts-loop-part-preserved : goal.fewer_in_parts-loop-part-preserved
fewer_in_parts-loop-part-preserved t c =
    let items = c.args.all.now.items.items in
    let i = c.loop-part.part-index in
    let within : i < length items = subst (λ (l : List Part). i < length l) c.deref-part-items.ensures.value c.loop-part-test.true in
    let next : c.part-item.result ≡ get_or items i c.part-item.result = subst (λ (l : List Part). c.part-item.result ≡ get_or l i c.part-item.result) c.deref-part-items.ensures.value c.part-item.is in
    part_one_more c.args.types.now c.loop-part.types c.fewer_in_part.new.types c.args.here.now c.loop-part.here c.fewer_in_part.new.here c.loop-part.trees.items c.push.new.self.items items i c.part-item.result c.in_ok-tree.tree
    c.loop-part.invariant (drop_at items i c.part-item.result within next) c.in_ok-tree.ensures.tree c.in_ok-tree.ensures.behind c.in_ok-tree.ensures.goes c.in_ok-push.ensures.items

pub fewer_in_parts-returns-clause-tree : goal.fewer_in_parts-returns-clause-tree
fewer_in_parts-returns-clause-tree t c = λ s stands.
    let items = c.args.all.now.items.items in
    let past : length items ≤ c.loop-part.part-index = subst (λ (l : List Part). length l ≤ c.loop-part.part-index) c.deref-part-items.ensures.value c.loop-part-test.false in
    part_all_made c.args.types.now c.loop-part.types c.args.here.now c.loop-part.here c.loop-part.trees.items items c.loop-part.part-index c.loop-part.invariant past s stands

pub fewer_in_parts-returns-clause-goes : goal.fewer_in_parts-returns-clause-goes
fewer_in_parts-returns-clause-goes t c =
    c.loop-part.invariant.goes

pub fewer_in_part-maybe_constant-requires : goal.fewer_in_part-maybe_constant-requires
fewer_in_part-maybe_constant-requires t c =
    some_standing c.requires

pub fewer_in_part-fewer_in-requires : goal.fewer_in_part-fewer_in-requires
fewer_in_part-fewer_in-requires t c =
    (first_of (search (rules, the_lemmas), grind (the_lemmas, arith, common_steps), grind (the_lemmas, arith, elements)), c.requires)

pub fewer_in_part-returns-in_ok-value-in-Label-clause-tree : goal.fewer_in_part-returns-in_ok-value-in-Label-clause-tree
fewer_in_part-returns-in_ok-value-in-Label-clause-tree t c = λ s stands.
    ap (plain.Label c.in-Label.at) (c.in_ok-value-in-Label.ensures.tree s (standing stands)) ∙ ap (λ (x : Part). fewer.fewer_in_part s (part_of x)) (sym c.in-Label.is)

pub fewer_in_part-returns-in_ok-value-in-Label-clause-behind : goal.fewer_in_part-returns-in_ok-value-in-Label-clause-behind
fewer_in_part-returns-in_ok-value-in-Label-clause-behind t c = λ s stands.
    let f : Onward c.args.types.now c.maybe_constant.new.types = record { grows = c.in_ok-value-in-Label.ensures.grows; tags = c.in_ok-value-in-Label.ensures.tags } in
    subst (λ (x : Part). StandsIn c.maybe_constant.new.types c.args.here.now (scope_behind_part s (part_of x))) (sym c.in-Label.is) (stands_grown f stands)

pub fewer_in_part-returns-in_ok-value-in-Label-clause-goes : goal.fewer_in_part-returns-in_ok-value-in-Label-clause-goes
fewer_in_part-returns-in_ok-value-in-Label-clause-goes t c =
    let f : Onward c.args.types.now c.maybe_constant.new.types = record { grows = c.in_ok-value-in-Label.ensures.grows; tags = c.in_ok-value-in-Label.ensures.tags } in
    goes_grown c.args.here.now f

pub fewer_in_part-returns-in_ok-tree-in-Item-clause-tree : goal.fewer_in_part-returns-in_ok-tree-in-Item-clause-tree
fewer_in_part-returns-in_ok-tree-in-Item-clause-tree t c = λ s stands.
    ap plain.Item (c.in_ok-tree-in-Item.ensures.tree s stands) ∙ ap (λ (x : Part). fewer.fewer_in_part s (part_of x)) (sym c.in-Item.is)

pub fewer_in_part-returns-in_ok-tree-in-Item-clause-behind : goal.fewer_in_part-returns-in_ok-tree-in-Item-clause-behind
fewer_in_part-returns-in_ok-tree-in-Item-clause-behind t c = λ s stands.
    subst (λ (x : Part). StandsIn c.fewer_in.new.types c.fewer_in.new.here (scope_behind_part s (part_of x))) (sym c.in-Item.is) (c.in_ok-tree-in-Item.ensures.behind s stands)

pub fewer_in_part-returns-in_ok-tree-in-Item-clause-goes : goal.fewer_in_part-returns-in_ok-tree-in-Item-clause-goes
fewer_in_part-returns-in_ok-tree-in-Item-clause-goes t c =
    c.in_ok-tree-in-Item.ensures.goes
