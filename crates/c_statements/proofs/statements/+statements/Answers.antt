use Rattle.std.proofs.Common.{◌≡◌, ◌<◌, ◌≤◌, Bool, List, [], ◌∷◌, ◌++◌, length, get_or, Option, Some, None, refl, sym, ap, subst, ◌∙◌, arith, rules}
use Rattle.std.proofs.lemmas.Grind.{common_steps, elements}
use Rattle.std.specs.Prelude.{Ok, OnOk}
use Rattle.std.specs.Result.{result_err}
use Rattle.c_syntax.specs.Plain as tree
use Rattle.c_syntax.specs.Plain.{CStmt}
use Rattle.c_syntax.specs.View.{expr_of, maybe, decl_of, stmt_of, part_of}
use Rattle.c_syntax.specs.declared.tree.Part.{Part}
use Rattle.c_syntax.specs.declared.tree.Part.TheVariants as part
use Rattle.c_syntax.specs.declared.tree.Stmt.{Stmt}
use Rattle.c_syntax.specs.declared.tree.Part.TheFolds.{the_lemmas}
use Rattle.c_syntax.specs.declared.tree.Stmt.TheVariants as stmt
use Rattle.c_types.specs.declared.fault.TypeFault.TheVariants as fault
use Rattle.c_types.specs.Types.{is_arithmetic}
use Rattle.c_types.specs.Refusals.{both, broken}
use Rattle.c_types.specs.Scope.{Scope, entered}
use Rattle.c_types.specs.Operands.{Operand, value_type}
use Rattle.c_types.specs.Declarations.{scope_or}
use Rattle.c_types.specs.Expressions.{judged}
use Rattle.c_types.specs.Statements.{CaseLabel, in_loop, in_switch, condition_rules, test_rules, labels_rules, switch_rules, maybe_judged, stated, all_stated, part_judged, all_parts, part_scope_or}
use Rattle.c_types.specs.Table.{known}
use Rattle.c_operands.proofs.OperandLemmas.{grows_then}
use Rattle.c_operands.proofs.LeastLemmas.{broken_first}
use Rattle.c_operands.proofs.NameLemmas.{fits_kept}
use Rattle.c_expressions.proofs.KeptLemmas.{some_kept}
use Rattle.c_declared.specs.Held.{Holds}
use Rattle.c_declared.proofs.HeldLemmas.{holds_kept, held_kept}
use Rattle.c_conditions.specs.Cases.{AreLabels, labels_in}
use Rattle.c_conditions.specs.Told as told
use Rattle.c_conditions.specs.Told.{Tested, IsTested}
use Rattle.c_conditions.proofs.VerdictLemmas.{keeping_refused, both_is, beside_is, behind_is, merged_is, together_is}
use Rattle.c_statements.specs.Trees.{stmts_of, parts_of}
use Rattle.c_statements.proofs.TreeLemmas.{block_made, switch_made}
use Rattle.c_statements.proofs.KeepLemmas.{rest_rules, rest_judged, by_other, stays_at, stays, stayed, other_local, done_told, given, refused, block_rest, block_refused}
use Rattle.c_statements.proofs.HeadLemmas.{other_block}
use Rattle.c_statements.proofs.BlockLemmas.{inside_then, may_end, begun_holds, same_holds, same_around}
use Rattle.c_statements.proofs.StandLemmas.{result_kept, standing, result_within, told_as, on_any, held_on}
use Rattle.c_statements.proofs.GoingLemmas.{around_then, unchanged, stands_kept, begun, goes_on, told_all, scope_all, drop_at}
use Rattle.c_statements.proofs.PartLemmas.{parts_begun, part_goes_on, parts_done, item_told, item_labels, item_scope, label_scope}
use Rattle.c_statements.proofs.statements.+statements.Goals as goal

pub state-state_block-requires : goal.state-state_block-requires
state-state_block-requires t c = (
  first_of (search (rules, the_lemmas), grind (the_lemmas, arith, common_steps), grind (the_lemmas, arith, elements)),
  (c.requires.holds, c.requires.result),
)

pub state-judge_effect-requires : goal.state-judge_effect-requires
state-judge_effect-requires t c = (c.requires.holds.0, c.requires.holds.1.fits)

pub state-state_one-requires : goal.state-state_one-requires
state-state_one-requires t c = (
  first_of (search (rules, the_lemmas), grind (the_lemmas, arith, common_steps), grind (the_lemmas, arith, elements)),
  (c.requires.holds, c.requires.result),
)

pub state-state_choice-requires : goal.state-state_choice-requires
state-state_choice-requires t c = (
  first_of (search (rules, the_lemmas), grind (the_lemmas, arith, common_steps), grind (the_lemmas, arith, elements)),
  (c.requires.holds, c.requires.result),
)

pub state-state_one-requires-in-While : goal.state-state_one-requires-in-While
state-state_one-requires-in-While t c = (
  first_of (search (rules, the_lemmas), grind (the_lemmas, arith, common_steps), grind (the_lemmas, arith, elements)),
  (c.requires.holds, result_within c.args.types.now c.args.around c.in_loop.result in_loop c.in_loop.ensures c.requires.result),
)

pub state-state_one-requires-in-Do : goal.state-state_one-requires-in-Do
state-state_one-requires-in-Do t c = (
  first_of (search (rules, the_lemmas), grind (the_lemmas, arith, common_steps), grind (the_lemmas, arith, elements)),
  (c.requires.holds, result_within c.args.types.now c.args.around c.in_loop-in-Do.result in_loop c.in_loop-in-Do.ensures c.requires.result),
)

pub state-state_for-requires : goal.state-state_for-requires
state-state_for-requires t c = (
  first_of (search (rules, the_lemmas), grind (the_lemmas, arith, common_steps), grind (the_lemmas, arith, elements)),
  (c.requires.holds, c.requires.result),
)

pub state-judge_return-requires-clause-fits : goal.state-judge_return-requires-clause-fits
state-judge_return-requires-clause-fits t c = (c.requires.holds.0, c.requires.holds.1.fits)

pub state-state_switch-requires : goal.state-state_switch-requires
state-state_switch-requires t c = (
  first_of (search (rules, the_lemmas), grind (the_lemmas, arith, common_steps), grind (the_lemmas, arith, elements)),
  (c.requires.holds, result_within c.args.types.now c.args.around c.in_switch.result in_switch c.in_switch.ensures c.requires.result),
)

pub state-returns-in-Block-clause-judged : goal.state-returns-in-Block-clause-judged
state-returns-in-Block-clause-judged t c = λ s w holds stands.
    let all = stmts_of c.in-Block.all in
    told_as c.state_block.result (result_err (all_stated (entered s) w all)) (result_err (stated s w (stmt_of c.args.statement.now)))
    (sym (done_told (all_stated (entered s) w all) s) ∙ ap (λ (x : CStmt). result_err (stated s w x)) (sym (ap stmt_of c.in-Block.is ∙ block_made c.in-Block.all)))
    (c.state_block.ensures.judged s w holds stands)

pub state-returns-in-Block-clause-holds : goal.state-returns-in-Block-clause-holds
state-returns-in-Block-clause-holds t c = λ s w holds stands. stays c.state_block.result c.state_block.new.types c.state_block.new.declared s w c.args.statement.now (stmt.Block c.in-Block.all) c.in-Block.is tt (c.state_block.ensures.holds s w holds stands)

pub state-returns-in-Block-clause-grows : goal.state-returns-in-Block-clause-grows
state-returns-in-Block-clause-grows t c = c.state_block.ensures.grows

pub state-returns-in-Block-clause-tags : goal.state-returns-in-Block-clause-tags
state-returns-in-Block-clause-tags t c = c.state_block.ensures.tags

pub state-returns-in-Block-clause-around : goal.state-returns-in-Block-clause-around
state-returns-in-Block-clause-around t c = c.state_block.ensures.around

pub state-returns-in-Local-clause-judged : goal.state-returns-in-Local-clause-judged
state-returns-in-Local-clause-judged t c = λ s w holds stands.
    told_as c.declare_object.result (result_err (stated s w (tree.Local (decl_of c.in-Local.d)))) (result_err (stated s w (stmt_of c.args.statement.now)))
    (ap (λ (x : Stmt). result_err (stated s w (stmt_of x))) (sym c.in-Local.is)) (c.declare_object.ensures.judged s holds)

pub state-returns-in-Local-clause-holds : goal.state-returns-in-Local-clause-holds
state-returns-in-Local-clause-holds t c = λ s w holds stands.
    subst (λ (x : Stmt). OnOk c.declare_object.result (Holds c.declare_object.new.types c.declare_object.new.declared (scope_or s (stated s w (stmt_of x))))) (sym c.in-Local.is) (c.declare_object.ensures.holds s holds)

pub state-returns-in-Local-clause-grows : goal.state-returns-in-Local-clause-grows
state-returns-in-Local-clause-grows t c = c.declare_object.ensures.grows

pub state-returns-in-Local-clause-tags : goal.state-returns-in-Local-clause-tags
state-returns-in-Local-clause-tags t c = c.declare_object.ensures.tags

pub state-returns-in-Local-clause-around : goal.state-returns-in-Local-clause-around
state-returns-in-Local-clause-around t c = c.declare_object.ensures.around

pub state-returns-in-Expr-clause-judged : goal.state-returns-in-Expr-clause-judged
state-returns-in-Expr-clause-judged t c = λ s w holds stands.
    told_as c.judge_effect.result (result_err (judged s (expr_of c.in-Expr.e))) (result_err (stated s w (stmt_of c.args.statement.now)))
    (sym (done_told (judged s (expr_of c.in-Expr.e)) s) ∙ ap (λ (x : Stmt). result_err (stated s w (stmt_of x))) (sym c.in-Expr.is)) (c.judge_effect.ensures.judged s holds.fits)

pub state-returns-in-Expr-clause-holds : goal.state-returns-in-Expr-clause-holds
state-returns-in-Expr-clause-holds t c = λ s w holds stands.
    stays c.judge_effect.result c.judge_effect.new.types c.args.declared.now s w c.args.statement.now (stmt.Expr c.in-Expr.e) c.in-Expr.is tt
    (held_on c.judge_effect.result c.args.types.now c.judge_effect.new.types c.args.declared.now s c.judge_effect.ensures.grows c.judge_effect.ensures.tags holds)

pub state-returns-in-Expr-clause-grows : goal.state-returns-in-Expr-clause-grows
state-returns-in-Expr-clause-grows t c = c.judge_effect.ensures.grows

pub state-returns-in-Expr-clause-tags : goal.state-returns-in-Expr-clause-tags
state-returns-in-Expr-clause-tags t c = c.judge_effect.ensures.tags

pub state-returns-in-Expr-clause-around : goal.state-returns-in-Expr-clause-around
state-returns-in-Expr-clause-around t c = on_any c.judge_effect.result (unchanged c.args.declared.now)

pub state-returns-in-Return-clause-judged : goal.state-returns-in-Return-clause-judged
state-returns-in-Return-clause-judged t c = λ s w holds stands.
    told_as c.judge_return.result (result_err (stated s w (tree.Return c.in-Return.at (maybe c.in-Return.e)))) (result_err (stated s w (stmt_of c.args.statement.now)))
    (ap (λ (x : Stmt). result_err (stated s w (stmt_of x))) (sym c.in-Return.is)) (c.judge_return.ensures.judged s w.result holds.fits stands.result)

pub state-returns-in-Return-clause-holds : goal.state-returns-in-Return-clause-holds
state-returns-in-Return-clause-holds t c = λ s w holds stands.
    stays c.judge_return.result c.judge_return.new.types c.args.declared.now s w c.args.statement.now (stmt.Return c.in-Return.at c.in-Return.e) c.in-Return.is tt
    (held_on c.judge_return.result c.args.types.now c.judge_return.new.types c.args.declared.now s c.judge_return.ensures.grows c.judge_return.ensures.tags holds)

pub state-returns-in-Return-clause-grows : goal.state-returns-in-Return-clause-grows
state-returns-in-Return-clause-grows t c = c.judge_return.ensures.grows

pub state-returns-in-Return-clause-tags : goal.state-returns-in-Return-clause-tags
state-returns-in-Return-clause-tags t c = c.judge_return.ensures.tags

pub state-returns-in-Return-clause-around : goal.state-returns-in-Return-clause-around
state-returns-in-Return-clause-around t c = on_any c.judge_return.result (unchanged c.args.declared.now)

pub state-returns-in-Empty-clause-judged : goal.state-returns-in-Empty-clause-judged
state-returns-in-Empty-clause-judged t c = λ s w holds stands. ap (λ (x : Stmt). result_err (stated s w (stmt_of x))) (sym c.in-Empty.is)

pub state-returns-in-Empty-clause-holds : goal.state-returns-in-Empty-clause-holds
state-returns-in-Empty-clause-holds t c = λ s w holds stands. stays_at c.args.types.now c.args.declared.now s w c.args.statement.now stmt.Empty c.in-Empty.is tt holds

pub state-returns-in-Empty-clause-around : goal.state-returns-in-Empty-clause-around
state-returns-in-Empty-clause-around t c = unchanged c.args.declared.now

pub state-returns-in-Break-clause-judged : goal.state-returns-in-Break-clause-judged
state-returns-in-Break-clause-judged t c = λ s w holds stands.
    c.broken.ensures
    ∙ (ap (λ (b : Bool). broken ((b, fault.Mismatch c.in-Break.at) ∷ [])) stands.breaks
    ∙ (sym (keeping_refused ((w.breaks, fault.Mismatch c.in-Break.at) ∷ []) s) ∙ ap (λ (x : Stmt). result_err (stated s w (stmt_of x))) (sym c.in-Break.is)))

pub state-returns-in-Break-clause-holds : goal.state-returns-in-Break-clause-holds
state-returns-in-Break-clause-holds t c = λ s w holds stands. stays_at c.args.types.now c.args.declared.now s w c.args.statement.now (stmt.Break c.in-Break.at) c.in-Break.is tt holds

pub state-returns-in-Break-clause-around : goal.state-returns-in-Break-clause-around
state-returns-in-Break-clause-around t c = unchanged c.args.declared.now

pub state-returns-in-Continue-clause-judged : goal.state-returns-in-Continue-clause-judged
state-returns-in-Continue-clause-judged t c = λ s w holds stands.
    c.broken-in-Continue.ensures
    ∙ (ap (λ (b : Bool). broken ((b, fault.Mismatch c.in-Continue.at) ∷ [])) stands.continues
    ∙ (sym (keeping_refused ((w.continues, fault.Mismatch c.in-Continue.at) ∷ []) s) ∙ ap (λ (x : Stmt). result_err (stated s w (stmt_of x))) (sym c.in-Continue.is)))

pub state-returns-in-Continue-clause-holds : goal.state-returns-in-Continue-clause-holds
state-returns-in-Continue-clause-holds t c = λ s w holds stands. stays_at c.args.types.now c.args.declared.now s w c.args.statement.now (stmt.Continue c.in-Continue.at) c.in-Continue.is tt holds

pub state-returns-in-Continue-clause-around : goal.state-returns-in-Continue-clause-around
state-returns-in-Continue-clause-around t c = unchanged c.args.declared.now

pub state-returns-in-None-clause-judged : goal.state-returns-in-None-clause-judged
state-returns-in-None-clause-judged t c = λ s w holds stands.
    told_as c.state_one.result (result_err (stated s w (tree.If (expr_of c.in-If.e) (stmt_of c.deref.result.now)))) (result_err (stated s w (stmt_of c.args.statement.now)))
    (ap (λ (x : Stmt). result_err (stated s w (tree.If (expr_of c.in-If.e) (stmt_of x)))) c.deref.ensures ∙ ap (λ (x : Stmt). result_err (stated s w (stmt_of x))) (sym (c.in-If.is ∙ ap (λ (o : Option _). stmt.If c.in-If.e c.in-If.t o) c.in-None.is)))
    (c.state_one.ensures.judged s w holds stands)

pub state-returns-in-None-clause-holds : goal.state-returns-in-None-clause-holds
state-returns-in-None-clause-holds t c = λ s w holds stands. stays c.state_one.result c.state_one.new.types c.state_one.new.declared s w c.args.statement.now (stmt.If c.in-If.e c.in-If.t None) (c.in-If.is ∙ ap (λ (o : Option _). stmt.If c.in-If.e c.in-If.t o) c.in-None.is) tt (c.state_one.ensures.holds s w holds stands)

pub state-returns-in-None-clause-grows : goal.state-returns-in-None-clause-grows
state-returns-in-None-clause-grows t c = c.state_one.ensures.grows

pub state-returns-in-None-clause-tags : goal.state-returns-in-None-clause-tags
state-returns-in-None-clause-tags t c = c.state_one.ensures.tags

pub state-returns-in-None-clause-around : goal.state-returns-in-None-clause-around
state-returns-in-None-clause-around t c = c.state_one.ensures.around

pub state-returns-in-Some-clause-judged : goal.state-returns-in-Some-clause-judged
state-returns-in-Some-clause-judged t c = λ s w holds stands.
    told_as c.state_choice.result (result_err (stated s w (tree.IfElse (expr_of c.in-If.e) (stmt_of c.deref-in-Some.result.now) (stmt_of c.deref-in-Some-2.result.now)))) (result_err (stated s w (stmt_of c.args.statement.now)))
    ((ap (λ (x : Stmt). result_err (stated s w (tree.IfElse (expr_of c.in-If.e) (stmt_of x) (stmt_of c.deref-in-Some-2.result.now)))) c.deref-in-Some.ensures ∙ ap (λ (x : Stmt). result_err (stated s w (tree.IfElse (expr_of c.in-If.e) (stmt_of c.in-If.t.value) (stmt_of x)))) c.deref-in-Some-2.ensures) ∙ ap (λ (x : Stmt). result_err (stated s w (stmt_of x))) (sym (c.in-If.is ∙ ap (λ (o : Option _). stmt.If c.in-If.e c.in-If.t o) c.in-Some.is)))
    (c.state_choice.ensures.judged s w holds stands)

pub state-returns-in-Some-clause-holds : goal.state-returns-in-Some-clause-holds
state-returns-in-Some-clause-holds t c = λ s w holds stands. stays c.state_choice.result c.state_choice.new.types c.state_choice.new.declared s w c.args.statement.now (stmt.If c.in-If.e c.in-If.t (Some c.in-Some.second)) (c.in-If.is ∙ ap (λ (o : Option _). stmt.If c.in-If.e c.in-If.t o) c.in-Some.is) tt (c.state_choice.ensures.holds s w holds stands)

pub state-returns-in-Some-clause-grows : goal.state-returns-in-Some-clause-grows
state-returns-in-Some-clause-grows t c = c.state_choice.ensures.grows

pub state-returns-in-Some-clause-tags : goal.state-returns-in-Some-clause-tags
state-returns-in-Some-clause-tags t c = c.state_choice.ensures.tags

pub state-returns-in-Some-clause-around : goal.state-returns-in-Some-clause-around
state-returns-in-Some-clause-around t c = c.state_choice.ensures.around

pub state-returns-in-While-clause-judged : goal.state-returns-in-While-clause-judged
state-returns-in-While-clause-judged t c = λ s w holds stands.
    told_as c.state_one-in-While.result (result_err (stated s w (tree.While (expr_of c.in-While.e) (stmt_of c.deref-in-While.result.now)))) (result_err (stated s w (stmt_of c.args.statement.now)))
    (ap (λ (x : Stmt). result_err (stated s w (tree.While (expr_of c.in-While.e) (stmt_of x)))) c.deref-in-While.ensures ∙ ap (λ (x : Stmt). result_err (stated s w (stmt_of x))) (sym c.in-While.is))
    (c.state_one-in-While.ensures.judged s (in_loop w) holds (c.in_loop.ensures c.args.types.now w stands))

pub state-returns-in-While-clause-holds : goal.state-returns-in-While-clause-holds
state-returns-in-While-clause-holds t c = λ s w holds stands. stays c.state_one-in-While.result c.state_one-in-While.new.types c.state_one-in-While.new.declared s w c.args.statement.now (stmt.While c.in-While.e c.in-While.t) (c.in-While.is) tt (c.state_one-in-While.ensures.holds s (in_loop w) holds (c.in_loop.ensures c.args.types.now w stands))

pub state-returns-in-While-clause-grows : goal.state-returns-in-While-clause-grows
state-returns-in-While-clause-grows t c = c.state_one-in-While.ensures.grows

pub state-returns-in-While-clause-tags : goal.state-returns-in-While-clause-tags
state-returns-in-While-clause-tags t c = c.state_one-in-While.ensures.tags

pub state-returns-in-While-clause-around : goal.state-returns-in-While-clause-around
state-returns-in-While-clause-around t c = c.state_one-in-While.ensures.around

pub state-returns-in-Do-clause-judged : goal.state-returns-in-Do-clause-judged
state-returns-in-Do-clause-judged t c = λ s w holds stands.
    told_as c.state_one-in-Do.result (result_err (stated s w (tree.Do (stmt_of c.deref-in-Do.result.now) (expr_of c.in-Do.e)))) (result_err (stated s w (stmt_of c.args.statement.now)))
    (ap (λ (x : Stmt). result_err (stated s w (tree.Do (stmt_of x) (expr_of c.in-Do.e)))) c.deref-in-Do.ensures ∙ ap (λ (x : Stmt). result_err (stated s w (stmt_of x))) (sym c.in-Do.is))
    (c.state_one-in-Do.ensures.judged s (in_loop w) holds (c.in_loop-in-Do.ensures c.args.types.now w stands))

pub state-returns-in-Do-clause-holds : goal.state-returns-in-Do-clause-holds
state-returns-in-Do-clause-holds t c = λ s w holds stands. stays c.state_one-in-Do.result c.state_one-in-Do.new.types c.state_one-in-Do.new.declared s w c.args.statement.now (stmt.Do c.in-Do.t c.in-Do.e) (c.in-Do.is) tt (c.state_one-in-Do.ensures.holds s (in_loop w) holds (c.in_loop-in-Do.ensures c.args.types.now w stands))

pub state-returns-in-Do-clause-grows : goal.state-returns-in-Do-clause-grows
state-returns-in-Do-clause-grows t c = c.state_one-in-Do.ensures.grows

pub state-returns-in-Do-clause-tags : goal.state-returns-in-Do-clause-tags
state-returns-in-Do-clause-tags t c = c.state_one-in-Do.ensures.tags

pub state-returns-in-Do-clause-around : goal.state-returns-in-Do-clause-around
state-returns-in-Do-clause-around t c = c.state_one-in-Do.ensures.around

pub state-returns-in-For-clause-judged : goal.state-returns-in-For-clause-judged
state-returns-in-For-clause-judged t c = λ s w holds stands.
    told_as c.state_for.result (result_err (stated s w (tree.For (stmt_of c.deref-in-For.result.now) (maybe c.in-For.test) (maybe c.in-For.step) (stmt_of c.deref-in-For-2.result.now)))) (result_err (stated s w (stmt_of c.args.statement.now)))
    ((ap (λ (x : Stmt). result_err (stated s w (tree.For (stmt_of x) (maybe c.in-For.test) (maybe c.in-For.step) (stmt_of c.deref-in-For-2.result.now)))) c.deref-in-For.ensures ∙ ap (λ (x : Stmt). result_err (stated s w (tree.For (stmt_of c.in-For.first.value) (maybe c.in-For.test) (maybe c.in-For.step) (stmt_of x)))) c.deref-in-For-2.ensures) ∙ ap (λ (x : Stmt). result_err (stated s w (stmt_of x))) (sym c.in-For.is))
    (c.state_for.ensures.judged s w holds stands)

pub state-returns-in-For-clause-holds : goal.state-returns-in-For-clause-holds
state-returns-in-For-clause-holds t c = λ s w holds stands. stays c.state_for.result c.state_for.new.types c.state_for.new.declared s w c.args.statement.now (stmt.For c.in-For.first c.in-For.test c.in-For.step c.in-For.t) (c.in-For.is) tt (c.state_for.ensures.holds s w holds stands)

pub state-returns-in-For-clause-grows : goal.state-returns-in-For-clause-grows
state-returns-in-For-clause-grows t c = c.state_for.ensures.grows

pub state-returns-in-For-clause-tags : goal.state-returns-in-For-clause-tags
state-returns-in-For-clause-tags t c = c.state_for.ensures.tags

pub state-returns-in-For-clause-around : goal.state-returns-in-For-clause-around
state-returns-in-For-clause-around t c = c.state_for.ensures.around

pub state-returns-in-Switch-clause-judged : goal.state-returns-in-Switch-clause-judged
state-returns-in-Switch-clause-judged t c = λ s w holds stands.
    told_as c.state_switch.result (result_err (stated s w (tree.Switch (expr_of c.in-Switch.e) (parts_of c.in-Switch.parts)))) (result_err (stated s w (stmt_of c.args.statement.now)))
    (ap (λ (x : CStmt). result_err (stated s w x)) (sym (switch_made c.in-Switch.e c.in-Switch.parts)) ∙ ap (λ (x : Stmt). result_err (stated s w (stmt_of x))) (sym c.in-Switch.is))
    (c.state_switch.ensures.judged s (in_switch w) holds (c.in_switch.ensures c.args.types.now w stands))

pub state-returns-in-Switch-clause-holds : goal.state-returns-in-Switch-clause-holds
state-returns-in-Switch-clause-holds t c = λ s w holds stands. stays c.state_switch.result c.state_switch.new.types c.state_switch.new.declared s w c.args.statement.now (stmt.Switch c.in-Switch.e c.in-Switch.parts) (c.in-Switch.is) tt (c.state_switch.ensures.holds s (in_switch w) holds (c.in_switch.ensures c.args.types.now w stands))

pub state-returns-in-Switch-clause-grows : goal.state-returns-in-Switch-clause-grows
state-returns-in-Switch-clause-grows t c = c.state_switch.ensures.grows

pub state-returns-in-Switch-clause-tags : goal.state-returns-in-Switch-clause-tags
state-returns-in-Switch-clause-tags t c = c.state_switch.ensures.tags

pub state-returns-in-Switch-clause-around : goal.state-returns-in-Switch-clause-around
state-returns-in-Switch-clause-around t c = c.state_switch.ensures.around

pub state_body-state-requires : goal.state_body-state-requires
state_body-state-requires t c = (
  first_of (search (rules, the_lemmas), grind (the_lemmas, arith, common_steps), grind (the_lemmas, arith, elements)),
  (c.requires.holds, c.requires.result),
)

pub state_body-returns-in-Local-clause-judged : goal.state_body-returns-in-Local-clause-judged
state_body-returns-in-Local-clause-judged t c = λ s w holds stands.
    told_as c.forgotten.result (result_err (stated s w (tree.Local (decl_of c.in-Local.d)))) (result_err (stated s w (stmt_of c.args.statement.now)))
    (ap (λ (x : Stmt). result_err (stated s w (stmt_of x))) (sym c.in-Local.is)) (c.forgotten.ensures.judged s holds)

pub state_body-returns-in-Local-clause-holds : goal.state_body-returns-in-Local-clause-holds
state_body-returns-in-Local-clause-holds t c = λ s w holds stands. c.forgotten.ensures.holds s holds

pub state_body-returns-in-Local-clause-grows : goal.state_body-returns-in-Local-clause-grows
state_body-returns-in-Local-clause-grows t c = c.forgotten.ensures.grows

pub state_body-returns-in-Local-clause-tags : goal.state_body-returns-in-Local-clause-tags
state_body-returns-in-Local-clause-tags t c = c.forgotten.ensures.tags

pub state_body-returns-in-Local-clause-around : goal.state_body-returns-in-Local-clause-around
state_body-returns-in-Local-clause-around t c = c.forgotten.ensures.around

pub state_body-returns-in_default : goal.state_body-returns-in_default
state_body-returns-in_default t c = record {
  judged = c.state.ensures.judged;
  holds = λ s w holds stands. stayed c.state.result c.state.new.types c.state.new.declared s w c.args.statement.now (other_local c.args.statement.now c.in_default.not-Local) (c.state.ensures.holds s w holds stands);
  grows = c.state.ensures.grows;
  tags = c.state.ensures.tags;
  around = c.state.ensures.around;
}

pub state_block-state_all-requires : goal.state_block-state_all-requires
state_block-state_all-requires t c = (
  first_of (search (rules, the_lemmas), grind (the_lemmas, arith, common_steps), grind (the_lemmas, arith, elements)),
  ((entered c.requires.holds.0, begun_holds c.args.types.now c.args.declared.now c.begin_block-mark.new.declared c.requires.holds.0 c.begin_block-mark.ensures.block c.begin_block-mark.ensures.inside c.requires.holds.1), c.requires.result),
)

pub state_block-end_block-requires : goal.state_block-end_block-requires
state_block-end_block-requires t c = may_end c.args.declared.now c.state_all.new.declared c.begin_block-mark.result (inside_then c.args.declared.now c.begin_block-mark.new.declared c.state_all.new.declared c.begin_block-mark.ensures.inside c.in_ok-told.ensures.around) c.begin_block-mark.ensures.mark

pub state_block-returns-clause-judged : goal.state_block-returns-clause-judged
state_block-returns-clause-judged t c = λ s w holds stands. c.in_ok-told.ensures.judged (entered s) w (begun_holds c.args.types.now c.args.declared.now c.begin_block-mark.new.declared s c.begin_block-mark.ensures.block c.begin_block-mark.ensures.inside holds) stands

pub state_block-returns-clause-holds : goal.state_block-returns-clause-holds
state_block-returns-clause-holds t c = λ s w holds stands. same_holds c.args.types.now c.state_all.new.types c.args.declared.now c.end_block.new.declared s c.in_ok-told.ensures.grows c.in_ok-told.ensures.tags (c.in_ok-end_block.ensures c.args.declared.now (inside_then c.args.declared.now c.begin_block-mark.new.declared c.state_all.new.declared c.begin_block-mark.ensures.inside c.in_ok-told.ensures.around) c.begin_block-mark.ensures.mark) holds

pub state_block-returns-clause-grows : goal.state_block-returns-clause-grows
state_block-returns-clause-grows t c = c.in_ok-told.ensures.grows

pub state_block-returns-clause-tags : goal.state_block-returns-clause-tags
state_block-returns-clause-tags t c = c.in_ok-told.ensures.tags

pub state_block-returns-clause-around : goal.state_block-returns-clause-around
state_block-returns-clause-around t c = same_around c.args.declared.now c.end_block.new.declared (c.in_ok-end_block.ensures c.args.declared.now (inside_then c.args.declared.now c.begin_block-mark.new.declared c.state_all.new.declared c.begin_block-mark.ensures.inside c.in_ok-told.ensures.around) c.begin_block-mark.ensures.mark)

pub state_all-loop-statement-init : goal.state_all-loop-statement-init
state_all-loop-statement-init t c = begun c.args.types.now c.args.declared.now c.args.around (stmts_of c.args.all.now)

pub state_all-state-requires : goal.state_all-state-requires
state_all-state-requires t c = let w = standing c.args.types.now c.args.around c.requires.result in
    let g = c.loop-statement.invariant in
    let k = g.so_far c.requires.holds.0 w.0 c.requires.holds.1 w.1 in (
      first_of (search (rules, the_lemmas), grind (the_lemmas, arith, common_steps), grind (the_lemmas, arith, elements)),
      ((k.scope, k.holds), result_kept c.args.types.now c.loop-statement.types c.args.around.result g.grows c.requires.result),
    )

pub state_all-loop-statement-preserved : goal.state_all-loop-statement-preserved
state_all-loop-statement-preserved t c = let items = c.args.all.now.items.items in
    let i = c.loop-statement.statement-index in
    let next = c.statement-item.result in
    let within : i < length items = subst (λ (l : List Stmt). i < length l) c.deref-statement-items.ensures.value c.loop-statement-test.true in
    let there : next ≡ get_or items i next = subst (λ (l : List Stmt). next ≡ get_or l i next) c.deref-statement-items.ensures.value c.statement-item.is in
    goes_on c.args.types.now c.loop-statement.types c.state.new.types c.args.declared.now c.loop-statement.declared c.state.new.declared c.args.around c.loop-statement.told c.in_ok-fault.fault c.merged-told.result items i next (stmts_of c.args.all.now)
    c.loop-statement.invariant (drop_at items i next within there) c.in_ok-fault.ensures.judged c.in_ok-fault.ensures.holds c.in_ok-fault.ensures.grows c.in_ok-fault.ensures.tags c.in_ok-fault.ensures.around c.merged-told.ensures

pub state_all-returns-clause-judged : goal.state_all-returns-clause-judged
state_all-returns-clause-judged t c = λ s w holds stands.
    let items = c.args.all.now.items.items in
    let past : length items ≤ c.loop-statement.statement-index = subst (λ (l : List Stmt). length l ≤ c.loop-statement.statement-index) c.deref-statement-items.ensures.value c.loop-statement-test.false in
    told_all c.loop-statement.types c.loop-statement.declared c.loop-statement.told s w items c.loop-statement.statement-index (stmts_of c.args.all.now) (c.loop-statement.invariant.so_far s w holds stands) past

pub state_all-returns-clause-holds : goal.state_all-returns-clause-holds
state_all-returns-clause-holds t c = λ s inner w holds stands is.
    let items = c.args.all.now.items.items in
    let past : length items ≤ c.loop-statement.statement-index = subst (λ (l : List Stmt). length l ≤ c.loop-statement.statement-index) c.deref-statement-items.ensures.value c.loop-statement-test.false in
    scope_all c.loop-statement.types c.loop-statement.declared c.loop-statement.told s inner w items c.loop-statement.statement-index (stmts_of c.args.all.now) (c.loop-statement.invariant.so_far s w holds stands) past is

pub state_all-returns-clause-grows : goal.state_all-returns-clause-grows
state_all-returns-clause-grows t c = c.loop-statement.invariant.grows

pub state_all-returns-clause-tags : goal.state_all-returns-clause-tags
state_all-returns-clause-tags t c = c.loop-statement.invariant.tags

pub state_all-returns-clause-around : goal.state_all-returns-clause-around
state_all-returns-clause-around t c = c.loop-statement.invariant.around

pub state_parts-loop-part-init : goal.state_parts-loop-part-init
state_parts-loop-part-init t c = parts_begun c.args.types.now c.args.declared.now c.args.around c.new-labels.result (parts_of c.args.parts.now) c.new-labels.ensures

pub state_parts-state_part-requires : goal.state_parts-state_part-requires
state_parts-state_part-requires t c = let w = standing c.args.types.now c.args.around c.requires.result in
    let g = c.loop-part.invariant in
    let k = g.so_far c.requires.holds.0 w.0 c.requires.holds.1 w.1 in (
      first_of (search (rules, the_lemmas), grind (the_lemmas, arith, common_steps), grind (the_lemmas, arith, elements)),
      ((k.scope, k.holds), result_kept c.args.types.now c.loop-part.types c.args.around.result g.grows c.requires.result),
    )

pub state_parts-loop-part-preserved : goal.state_parts-loop-part-preserved
state_parts-loop-part-preserved t c = let items = c.args.parts.now.items.items in
    let i = c.loop-part.part-index in
    let next = c.part-item.result in
    let within : i < length items = subst (λ (l : List Part). i < length l) c.deref-part-items.ensures.value c.loop-part-test.true in
    let there : next ≡ get_or items i next = subst (λ (l : List Part). next ≡ get_or l i next) c.deref-part-items.ensures.value c.part-item.is in
    part_goes_on c.args.types.now c.loop-part.types c.state_part.new.types c.args.declared.now c.loop-part.declared c.state_part.new.declared c.args.around c.loop-part.labels c.state_part.new.labels c.loop-part.told c.in_ok-fault.fault c.merged-told.result items i next (parts_of c.args.parts.now)
    c.loop-part.invariant (drop_at items i next within there) c.in_ok-fault.ensures.judged c.in_ok-fault.ensures.labels c.in_ok-fault.ensures.holds c.in_ok-fault.ensures.grows c.in_ok-fault.ensures.tags c.in_ok-fault.ensures.around c.merged-told.ensures

pub state_parts-returns-clause-judged : goal.state_parts-returns-clause-judged
state_parts-returns-clause-judged t c = λ s w holds stands.
    let items = c.args.parts.now.items.items in
    let past : length items ≤ c.loop-part.part-index = subst (λ (l : List Part). length l ≤ c.loop-part.part-index) c.deref-part-items.ensures.value c.loop-part-test.false in
    parts_done c.loop-part.types c.loop-part.declared c.loop-part.labels c.loop-part.told s w items c.loop-part.part-index (parts_of c.args.parts.now) c.labelled.result (c.loop-part.invariant.so_far s w holds stands) past c.labelled.ensures.none c.labelled.ensures.some

pub state_parts-returns-clause-grows : goal.state_parts-returns-clause-grows
state_parts-returns-clause-grows t c = c.loop-part.invariant.grows

pub state_parts-returns-clause-tags : goal.state_parts-returns-clause-tags
state_parts-returns-clause-tags t c = c.loop-part.invariant.tags

pub state_parts-returns-clause-around : goal.state_parts-returns-clause-around
state_parts-returns-clause-around t c = c.loop-part.invariant.around

pub state_part-add_label-requires : goal.state_part-add_label-requires
state_part-add_label-requires t c = (c.requires.holds.0, c.requires.holds.1.fits)

pub state_part-state-requires : goal.state_part-state-requires
state_part-state-requires t c = (
  first_of (search (rules, the_lemmas), grind (the_lemmas, arith, common_steps), grind (the_lemmas, arith, elements)),
  (c.requires.holds, c.requires.result),
)

pub state_part-returns-in-Label-clause-judged : goal.state_part-returns-in-Label-clause-judged
state_part-returns-in-Label-clause-judged t c = λ s w holds stands.
    told_as c.add_label.result (result_err (part_judged s w (part_of (part.Label c.in-Label.at c.in-Label.e)))) (result_err (part_judged s w (part_of c.args.part.now)))
    (ap (λ (x : Part). result_err (part_judged s w (part_of x))) (sym c.in-Label.is)) (c.add_label.ensures.told s w holds.fits)

pub state_part-returns-in-Label-clause-labels : goal.state_part-returns-in-Label-clause-labels
state_part-returns-in-Label-clause-labels t c = λ s w ls holds stands are.
    subst (λ (x : Part). OnOk c.add_label.result (AreLabels c.add_label.new.labels (ls ++ labels_in (part_judged s w (part_of x))))) (sym c.in-Label.is) (c.add_label.ensures.labels s w ls holds.fits are)

pub state_part-returns-in-Label-clause-holds : goal.state_part-returns-in-Label-clause-holds
state_part-returns-in-Label-clause-holds t c = λ s w holds stands.
    let same = ap (λ (x : Part). part_scope_or s (part_judged s w (part_of x))) c.in-Label.is ∙ label_scope s c.in-Label.at (maybe_judged s (maybe c.in-Label.e)) in
    subst (λ (r : Scope). OnOk c.add_label.result (Holds c.add_label.new.types c.args.declared.now r)) (sym same)
    (held_on c.add_label.result c.args.types.now c.add_label.new.types c.args.declared.now s c.add_label.ensures.grows c.add_label.ensures.tags holds)

pub state_part-returns-in-Label-clause-grows : goal.state_part-returns-in-Label-clause-grows
state_part-returns-in-Label-clause-grows t c = c.add_label.ensures.grows

pub state_part-returns-in-Label-clause-tags : goal.state_part-returns-in-Label-clause-tags
state_part-returns-in-Label-clause-tags t c = c.add_label.ensures.tags

pub state_part-returns-in-Label-clause-around : goal.state_part-returns-in-Label-clause-around
state_part-returns-in-Label-clause-around t c = on_any c.add_label.result (unchanged c.args.declared.now)

pub state_part-returns-in-Item-clause-judged : goal.state_part-returns-in-Item-clause-judged
state_part-returns-in-Item-clause-judged t c = λ s w holds stands.
    told_as c.state.result (result_err (stated s w (stmt_of c.in-Item.statement))) (result_err (part_judged s w (part_of c.args.part.now)))
    (sym (ap (λ (x : Part). result_err (part_judged s w (part_of x))) c.in-Item.is ∙ item_told (stated s w (stmt_of c.in-Item.statement)))) (c.state.ensures.judged s w holds stands)

pub state_part-returns-in-Item-clause-labels : goal.state_part-returns-in-Item-clause-labels
state_part-returns-in-Item-clause-labels t c = λ s w ls holds stands are.
    let same = ap (λ (x : Part). ls ++ labels_in (part_judged s w (part_of x))) c.in-Item.is ∙ item_labels (stated s w (stmt_of c.in-Item.statement)) ls in
    on_any c.state.result (subst (λ (all : List CaseLabel). AreLabels c.args.labels.now all) (sym same) are)

pub state_part-returns-in-Item-clause-holds : goal.state_part-returns-in-Item-clause-holds
state_part-returns-in-Item-clause-holds t c = λ s w holds stands.
    let same = ap (λ (x : Part). part_scope_or s (part_judged s w (part_of x))) c.in-Item.is ∙ item_scope s (stated s w (stmt_of c.in-Item.statement)) in
    subst (λ (z : Scope). OnOk c.state.result (Holds c.state.new.types c.state.new.declared z)) (sym same) (c.state.ensures.holds s w holds stands)

pub state_part-returns-in-Item-clause-grows : goal.state_part-returns-in-Item-clause-grows
state_part-returns-in-Item-clause-grows t c = c.state.ensures.grows

pub state_part-returns-in-Item-clause-tags : goal.state_part-returns-in-Item-clause-tags
state_part-returns-in-Item-clause-tags t c = c.state.ensures.tags

pub state_part-returns-in-Item-clause-around : goal.state_part-returns-in-Item-clause-around
state_part-returns-in-Item-clause-around t c = c.state.ensures.around

pub state_one-judge_condition-requires : goal.state_one-judge_condition-requires
state_one-judge_condition-requires t c = (c.requires.holds.0, c.requires.holds.1.fits)

pub state_one-state_body-requires : goal.state_one-state_body-requires
state_one-state_body-requires t c = (
  first_of (search (rules, the_lemmas), grind (the_lemmas, arith, common_steps), grind (the_lemmas, arith, elements)),
  (held_kept c.args.types.now c.judge_condition.new.types c.args.declared.now c.in_ok-tested.ensures.grows c.in_ok-tested.ensures.tags c.requires.holds, result_kept c.args.types.now c.judge_condition.new.types c.args.around.result c.in_ok-tested.ensures.grows c.requires.result),
)

pub state_one-returns-clause-judged : goal.state_one-returns-clause-judged
state_one-returns-clause-judged t c = λ s w holds stands.
    c.settled.ensures
    ∙ (ap told.settled c.beside.ensures
    ∙ both_is condition_rules s c.in_ok-tested.tested (judged s (expr_of c.args.test.now)) c.in_ok-told.told (stated s w (stmt_of c.args.body.now))
    (c.in_ok-tested.ensures.judged s holds.fits) (c.in_ok-told.ensures.judged s w (holds_kept c.args.types.now c.judge_condition.new.types c.args.declared.now s c.in_ok-tested.ensures.grows c.in_ok-tested.ensures.tags holds) (stands_kept c.args.types.now c.judge_condition.new.types c.args.around w c.in_ok-tested.ensures.grows stands)))

pub state_one-returns-clause-holds : goal.state_one-returns-clause-holds
state_one-returns-clause-holds t c = λ s w holds stands. c.in_ok-told.ensures.holds s w (holds_kept c.args.types.now c.judge_condition.new.types c.args.declared.now s c.in_ok-tested.ensures.grows c.in_ok-tested.ensures.tags holds) (stands_kept c.args.types.now c.judge_condition.new.types c.args.around w c.in_ok-tested.ensures.grows stands)

pub state_one-returns-clause-grows : goal.state_one-returns-clause-grows
state_one-returns-clause-grows t c = grows_then (known c.args.types.now) (known c.judge_condition.new.types) (known c.state_body.new.types) c.in_ok-tested.ensures.grows c.in_ok-told.ensures.grows

pub state_one-returns-clause-tags : goal.state_one-returns-clause-tags
state_one-returns-clause-tags t c = c.in_ok-told.ensures.tags ∙ c.in_ok-tested.ensures.tags

pub state_one-returns-clause-around : goal.state_one-returns-clause-around
state_one-returns-clause-around t c = c.in_ok-told.ensures.around

pub state_choice-judge_condition-requires : goal.state_choice-judge_condition-requires
state_choice-judge_condition-requires t c = (c.requires.holds.0, c.requires.holds.1.fits)

pub state_choice-state_body-requires : goal.state_choice-state_body-requires
state_choice-state_body-requires t c = (
  first_of (search (rules, the_lemmas), grind (the_lemmas, arith, common_steps), grind (the_lemmas, arith, elements)),
  (held_kept c.args.types.now c.judge_condition.new.types c.args.declared.now c.in_ok-tested.ensures.grows c.in_ok-tested.ensures.tags c.requires.holds, result_kept c.args.types.now c.judge_condition.new.types c.args.around.result c.in_ok-tested.ensures.grows c.requires.result),
)

pub state_choice-state_body-requires-2 : goal.state_choice-state_body-requires-2
state_choice-state_body-requires-2 t c = let w = standing c.args.types.now c.args.around c.requires.result in
    let held = c.in_ok-first.ensures.holds c.requires.holds.0 w.0 (holds_kept c.args.types.now c.judge_condition.new.types c.args.declared.now c.requires.holds.0 c.in_ok-tested.ensures.grows c.in_ok-tested.ensures.tags c.requires.holds.1) (stands_kept c.args.types.now c.judge_condition.new.types c.args.around w.0 c.in_ok-tested.ensures.grows w.1) in (
      first_of (search (rules, the_lemmas), grind (the_lemmas, arith, common_steps), grind (the_lemmas, arith, elements)),
      ((c.requires.holds.0, held), result_kept c.args.types.now c.state_body.new.types c.args.around.result (grows_then (known c.args.types.now) (known c.judge_condition.new.types) (known c.state_body.new.types) c.in_ok-tested.ensures.grows c.in_ok-first.ensures.grows) c.requires.result),
    )

pub state_choice-returns-clause-judged : goal.state_choice-returns-clause-judged
state_choice-returns-clause-judged t c = λ s w holds stands.
    let at = holds_kept c.args.types.now c.judge_condition.new.types c.args.declared.now s c.in_ok-tested.ensures.grows c.in_ok-tested.ensures.tags holds in
    let stood = stands_kept c.args.types.now c.judge_condition.new.types c.args.around w c.in_ok-tested.ensures.grows stands in
    let held = c.in_ok-first.ensures.holds s w at stood in
    let then = stands_kept c.args.types.now c.state_body.new.types c.args.around w (grows_then (known c.args.types.now) (known c.judge_condition.new.types) (known c.state_body.new.types) c.in_ok-tested.ensures.grows c.in_ok-first.ensures.grows) stands in
    let p = stated s w (stmt_of c.args.body.now) in
    let q = stated s w (stmt_of c.args.other.now) in
    let both_told = c.merged.ensures ∙ merged_is (λ y z. (y, z)) c.in_ok-first.first c.in_ok-second.second p q (c.in_ok-first.ensures.judged s w at stood) (c.in_ok-second.ensures.judged s w held then) in
    c.settled.ensures
    ∙ (ap told.settled c.beside.ensures
    ∙ both_is condition_rules s c.in_ok-tested.tested (judged s (expr_of c.args.test.now)) c.merged.result (both {C = Scope × Scope} p q (λ y z. Ok (y, z))) (c.in_ok-tested.ensures.judged s holds.fits) both_told)

pub state_choice-returns-clause-holds : goal.state_choice-returns-clause-holds
state_choice-returns-clause-holds t c = λ s w holds stands.
    let at = holds_kept c.args.types.now c.judge_condition.new.types c.args.declared.now s c.in_ok-tested.ensures.grows c.in_ok-tested.ensures.tags holds in
    let stood = stands_kept c.args.types.now c.judge_condition.new.types c.args.around w c.in_ok-tested.ensures.grows stands in
    let held = c.in_ok-first.ensures.holds s w at stood in
    let then = stands_kept c.args.types.now c.state_body.new.types c.args.around w (grows_then (known c.args.types.now) (known c.judge_condition.new.types) (known c.state_body.new.types) c.in_ok-tested.ensures.grows c.in_ok-first.ensures.grows) stands in
    c.in_ok-second.ensures.holds s w held then

pub state_choice-returns-clause-grows : goal.state_choice-returns-clause-grows
state_choice-returns-clause-grows t c = grows_then (known c.args.types.now) (known c.state_body.new.types) (known c.state_body-2.new.types) (grows_then (known c.args.types.now) (known c.judge_condition.new.types) (known c.state_body.new.types) c.in_ok-tested.ensures.grows c.in_ok-first.ensures.grows) c.in_ok-second.ensures.grows

pub state_choice-returns-clause-tags : goal.state_choice-returns-clause-tags
state_choice-returns-clause-tags t c = c.in_ok-second.ensures.tags ∙ (c.in_ok-first.ensures.tags ∙ c.in_ok-tested.ensures.tags)

pub state_choice-returns-clause-around : goal.state_choice-returns-clause-around
state_choice-returns-clause-around t c = around_then c.args.declared.now c.state_body.new.declared c.state_body-2.new.declared c.in_ok-first.ensures.around c.in_ok-second.ensures.around

pub state_rest-judge_test-requires : goal.state_rest-judge_test-requires
state_rest-judge_test-requires t c = (c.requires.holds.0, c.requires.holds.1.fits)

pub state_rest-judge_step-requires : goal.state_rest-judge_step-requires
state_rest-judge_step-requires t c = some_kept c.args.types.now c.judge_test.new.types c.args.declared.now c.in_ok-tested.ensures.grows c.in_ok-tested.ensures.tags (c.requires.holds.0, c.requires.holds.1.fits)

pub state_rest-state_body-requires : goal.state_rest-state_body-requires
state_rest-state_body-requires t c = (
  first_of (search (rules, the_lemmas), grind (the_lemmas, arith, common_steps), grind (the_lemmas, arith, elements)),
  (held_kept c.args.types.now c.judge_step.new.types c.args.declared.now (grows_then (known c.args.types.now) (known c.judge_test.new.types) (known c.judge_step.new.types) c.in_ok-tested.ensures.grows c.in_ok-stepped.ensures.grows) (c.in_ok-stepped.ensures.tags ∙ c.in_ok-tested.ensures.tags) c.requires.holds, result_kept c.args.types.now c.judge_step.new.types c.args.around.result (grows_then (known c.args.types.now) (known c.judge_test.new.types) (known c.judge_step.new.types) c.in_ok-tested.ensures.grows c.in_ok-stepped.ensures.grows) c.requires.result),
)

pub state_rest-returns-clause-judged : goal.state_rest-returns-clause-judged
state_rest-returns-clause-judged t c = λ s w holds stands.
    let test = maybe_judged s (maybe c.args.test.now) in
    let step = maybe_judged s (maybe c.args.step.now) in
    let body = stated s w (stmt_of c.args.body.now) in
    let first = beside_is test_rules (λ a _. a) test_rules c.in_ok-tested.tested test c.in_ok-stepped.stepped step (λ a b. refl) (c.in_ok-tested.ensures.judged s holds.fits)
    (c.in_ok-stepped.ensures.judged s (fits_kept c.args.types.now c.judge_test.new.types c.args.declared.now s c.in_ok-tested.ensures.grows c.in_ok-tested.ensures.tags holds.fits)) in
    let parts = both {C = Option Operand} test step (λ a _. Ok a) in
    subst (λ (j : Tested). IsTested rest_rules j (both {C = Option Operand × Scope} parts body (λ a b. Ok (a, b)))) (sym (c.beside-2.ensures ∙ ap (λ (j : Tested). told.beside j c.in_ok-told.told) c.beside.ensures))
    (beside_is test_rules (λ a b. (a, b)) rest_rules (told.beside c.in_ok-tested.tested c.in_ok-stepped.stepped) parts c.in_ok-told.told body (λ a b. refl) first
    (c.in_ok-told.ensures.judged s w (holds_kept c.args.types.now c.judge_step.new.types c.args.declared.now s (grows_then (known c.args.types.now) (known c.judge_test.new.types) (known c.judge_step.new.types) c.in_ok-tested.ensures.grows c.in_ok-stepped.ensures.grows) (c.in_ok-stepped.ensures.tags ∙ c.in_ok-tested.ensures.tags) holds) (stands_kept c.args.types.now c.judge_step.new.types c.args.around w (grows_then (known c.args.types.now) (known c.judge_test.new.types) (known c.judge_step.new.types) c.in_ok-tested.ensures.grows c.in_ok-stepped.ensures.grows) stands)))

pub state_rest-returns-clause-holds : goal.state_rest-returns-clause-holds
state_rest-returns-clause-holds t c = λ s w holds stands. c.in_ok-told.ensures.holds s w (holds_kept c.args.types.now c.judge_step.new.types c.args.declared.now s (grows_then (known c.args.types.now) (known c.judge_test.new.types) (known c.judge_step.new.types) c.in_ok-tested.ensures.grows c.in_ok-stepped.ensures.grows) (c.in_ok-stepped.ensures.tags ∙ c.in_ok-tested.ensures.tags) holds) (stands_kept c.args.types.now c.judge_step.new.types c.args.around w (grows_then (known c.args.types.now) (known c.judge_test.new.types) (known c.judge_step.new.types) c.in_ok-tested.ensures.grows c.in_ok-stepped.ensures.grows) stands)

pub state_rest-returns-clause-grows : goal.state_rest-returns-clause-grows
state_rest-returns-clause-grows t c = grows_then (known c.args.types.now) (known c.judge_step.new.types) (known c.state_body.new.types) (grows_then (known c.args.types.now) (known c.judge_test.new.types) (known c.judge_step.new.types) c.in_ok-tested.ensures.grows c.in_ok-stepped.ensures.grows) c.in_ok-told.ensures.grows

pub state_rest-returns-clause-tags : goal.state_rest-returns-clause-tags
state_rest-returns-clause-tags t c = c.in_ok-told.ensures.tags ∙ (c.in_ok-stepped.ensures.tags ∙ c.in_ok-tested.ensures.tags)

pub state_rest-returns-clause-around : goal.state_rest-returns-clause-around
state_rest-returns-clause-around t c = c.in_ok-told.ensures.around

pub state_for_block-state_all-requires : goal.state_for_block-state_all-requires
state_for_block-state_all-requires t c = (
  first_of (search (rules, the_lemmas), grind (the_lemmas, arith, common_steps), grind (the_lemmas, arith, elements)),
  ((entered c.requires.holds.0, begun_holds c.args.types.now c.args.declared.now c.begin_block-mark.new.declared c.requires.holds.0 c.begin_block-mark.ensures.block c.begin_block-mark.ensures.inside c.requires.holds.1), c.requires.result),
)

pub state_for_block-state_rest-requires : goal.state_for_block-state_rest-requires
state_for_block-state_rest-requires t c = let w = standing c.args.types.now c.args.around c.requires.result in
    let inner = begun_holds c.args.types.now c.args.declared.now c.begin_block-mark.new.declared c.requires.holds.0 c.begin_block-mark.ensures.block c.begin_block-mark.ensures.inside c.requires.holds.1 in
    let head = all_stated (entered c.requires.holds.0) w.0 (stmts_of c.args.head.now) in
    let is = c.in_ok-told.ensures.judged (entered c.requires.holds.0) w.0 inner w.1 in
    let got = given head c.in_ok-told.told is c.in-None.is in
    let held = c.in_ok-told.ensures.holds (entered c.requires.holds.0) got.0 w.0 inner w.1 got.1 in (
      first_of (search (rules, the_lemmas), grind (the_lemmas, arith, common_steps), grind (the_lemmas, arith, elements)),
      ((got.0, held), result_within c.state_all.new.types c.args.around c.in_loop.result in_loop c.in_loop.ensures (result_kept c.args.types.now c.state_all.new.types c.args.around.result c.in_ok-told.ensures.grows c.requires.result)),
    )

pub state_for_block-end_block-requires : goal.state_for_block-end_block-requires
state_for_block-end_block-requires t c = may_end c.args.declared.now c.state_rest.new.declared c.begin_block-mark.result (inside_then c.args.declared.now c.state_all.new.declared c.state_rest.new.declared (inside_then c.args.declared.now c.begin_block-mark.new.declared c.state_all.new.declared c.begin_block-mark.ensures.inside c.in_ok-told.ensures.around) c.in_ok-rest-in-None.ensures.around) c.begin_block-mark.ensures.mark

pub state_for_block-end_block-requires-in-Some : goal.state_for_block-end_block-requires-in-Some
state_for_block-end_block-requires-in-Some t c = may_end c.args.declared.now c.state_all.new.declared c.begin_block-mark.result (inside_then c.args.declared.now c.begin_block-mark.new.declared c.state_all.new.declared c.begin_block-mark.ensures.inside c.in_ok-told.ensures.around) c.begin_block-mark.ensures.mark

pub state_for_block-returns-in_ok-end_block-in-None-clause-judged : goal.state_for_block-returns-in_ok-end_block-in-None-clause-judged
state_for_block-returns-in_ok-end_block-in-None-clause-judged t c = λ s w holds stands.
    let inner = begun_holds c.args.types.now c.args.declared.now c.begin_block-mark.new.declared s c.begin_block-mark.ensures.block c.begin_block-mark.ensures.inside holds in
    let head = all_stated (entered s) w (stmts_of c.args.head.now) in
    let is = c.in_ok-told.ensures.judged (entered s) w inner stands in
    let got = given head c.in_ok-told.told is c.in-None.is in
    let held = c.in_ok-told.ensures.holds (entered s) got.0 w inner stands got.1 in
    c.settled.ensures
    ∙ block_rest s got.0 head w (maybe c.args.test.now) (maybe c.args.step.now) (stmt_of c.args.body.now) c.in_ok-rest-in-None.rest got.1 (c.in_ok-rest-in-None.ensures.judged got.0 (in_loop w) held (c.in_loop.ensures c.state_all.new.types w (stands_kept c.args.types.now c.state_all.new.types c.args.around w c.in_ok-told.ensures.grows stands)))

pub state_for_block-returns-in_ok-end_block-in-None-clause-holds : goal.state_for_block-returns-in_ok-end_block-in-None-clause-holds
state_for_block-returns-in_ok-end_block-in-None-clause-holds t c = λ s w holds stands. same_holds c.args.types.now c.state_rest.new.types c.args.declared.now c.end_block.new.declared s (grows_then (known c.args.types.now) (known c.state_all.new.types) (known c.state_rest.new.types) c.in_ok-told.ensures.grows c.in_ok-rest-in-None.ensures.grows) (c.in_ok-rest-in-None.ensures.tags ∙ c.in_ok-told.ensures.tags) (c.in_ok-end_block-in-None.ensures c.args.declared.now (inside_then c.args.declared.now c.state_all.new.declared c.state_rest.new.declared (inside_then c.args.declared.now c.begin_block-mark.new.declared c.state_all.new.declared c.begin_block-mark.ensures.inside c.in_ok-told.ensures.around) c.in_ok-rest-in-None.ensures.around) c.begin_block-mark.ensures.mark) holds

pub state_for_block-returns-in_ok-end_block-in-None-clause-grows : goal.state_for_block-returns-in_ok-end_block-in-None-clause-grows
state_for_block-returns-in_ok-end_block-in-None-clause-grows t c = grows_then (known c.args.types.now) (known c.state_all.new.types) (known c.state_rest.new.types) c.in_ok-told.ensures.grows c.in_ok-rest-in-None.ensures.grows

pub state_for_block-returns-in_ok-end_block-in-None-clause-tags : goal.state_for_block-returns-in_ok-end_block-in-None-clause-tags
state_for_block-returns-in_ok-end_block-in-None-clause-tags t c = c.in_ok-rest-in-None.ensures.tags ∙ c.in_ok-told.ensures.tags

pub state_for_block-returns-in_ok-end_block-in-None-clause-around : goal.state_for_block-returns-in_ok-end_block-in-None-clause-around
state_for_block-returns-in_ok-end_block-in-None-clause-around t c = same_around c.args.declared.now c.end_block.new.declared (c.in_ok-end_block-in-None.ensures c.args.declared.now (inside_then c.args.declared.now c.state_all.new.declared c.state_rest.new.declared (inside_then c.args.declared.now c.begin_block-mark.new.declared c.state_all.new.declared c.begin_block-mark.ensures.inside c.in_ok-told.ensures.around) c.in_ok-rest-in-None.ensures.around) c.begin_block-mark.ensures.mark)

pub state_for_block-state_rest-requires-in-Some : goal.state_for_block-state_rest-requires-in-Some
state_for_block-state_rest-requires-in-Some t c = (
  first_of (search (rules, the_lemmas), grind (the_lemmas, arith, common_steps), grind (the_lemmas, arith, elements)),
  ((c.requires.holds.0, same_holds c.args.types.now c.state_all.new.types c.args.declared.now c.end_block-in-Some.new.declared c.requires.holds.0 c.in_ok-told.ensures.grows c.in_ok-told.ensures.tags (c.in_ok-end_block-in-Some.ensures c.args.declared.now (inside_then c.args.declared.now c.begin_block-mark.new.declared c.state_all.new.declared c.begin_block-mark.ensures.inside c.in_ok-told.ensures.around) c.begin_block-mark.ensures.mark) c.requires.holds.1), result_within c.state_all.new.types c.args.around c.in_loop-in-Some.result in_loop c.in_loop-in-Some.ensures (result_kept c.args.types.now c.state_all.new.types c.args.around.result c.in_ok-told.ensures.grows c.requires.result)),
)

pub state_for_block-returns-in_ok-rest-in-Some-clause-judged : goal.state_for_block-returns-in_ok-rest-in-Some-clause-judged
state_for_block-returns-in_ok-rest-in-Some-clause-judged t c = λ s w holds stands.
    let inner = begun_holds c.args.types.now c.args.declared.now c.begin_block-mark.new.declared s c.begin_block-mark.ensures.block c.begin_block-mark.ensures.inside holds in
    let head = all_stated (entered s) w (stmts_of c.args.head.now) in
    let is = c.in_ok-told.ensures.judged (entered s) w inner stands in
    c.behind.ensures
    ∙ block_refused s c.in-Some.fault head w (maybe c.args.test.now) (maybe c.args.step.now) (stmt_of c.args.body.now) c.in_ok-rest-in-Some.rest (refused head c.in_ok-told.told c.in-Some.fault is c.in-Some.is)
    (c.in_ok-rest-in-Some.ensures.judged s (in_loop w) (same_holds c.args.types.now c.state_all.new.types c.args.declared.now c.end_block-in-Some.new.declared s c.in_ok-told.ensures.grows c.in_ok-told.ensures.tags (c.in_ok-end_block-in-Some.ensures c.args.declared.now (inside_then c.args.declared.now c.begin_block-mark.new.declared c.state_all.new.declared c.begin_block-mark.ensures.inside c.in_ok-told.ensures.around) c.begin_block-mark.ensures.mark) holds) (c.in_loop-in-Some.ensures c.state_all.new.types w (stands_kept c.args.types.now c.state_all.new.types c.args.around w c.in_ok-told.ensures.grows stands)))

pub state_for_block-returns-in_ok-rest-in-Some-clause-holds : goal.state_for_block-returns-in_ok-rest-in-Some-clause-holds
state_for_block-returns-in_ok-rest-in-Some-clause-holds t c = λ s w holds stands. c.in_ok-rest-in-Some.ensures.holds s (in_loop w) (same_holds c.args.types.now c.state_all.new.types c.args.declared.now c.end_block-in-Some.new.declared s c.in_ok-told.ensures.grows c.in_ok-told.ensures.tags (c.in_ok-end_block-in-Some.ensures c.args.declared.now (inside_then c.args.declared.now c.begin_block-mark.new.declared c.state_all.new.declared c.begin_block-mark.ensures.inside c.in_ok-told.ensures.around) c.begin_block-mark.ensures.mark) holds) (c.in_loop-in-Some.ensures c.state_all.new.types w (stands_kept c.args.types.now c.state_all.new.types c.args.around w c.in_ok-told.ensures.grows stands))

pub state_for_block-returns-in_ok-rest-in-Some-clause-grows : goal.state_for_block-returns-in_ok-rest-in-Some-clause-grows
state_for_block-returns-in_ok-rest-in-Some-clause-grows t c = grows_then (known c.args.types.now) (known c.state_all.new.types) (known c.state_rest-in-Some.new.types) c.in_ok-told.ensures.grows c.in_ok-rest-in-Some.ensures.grows

pub state_for_block-returns-in_ok-rest-in-Some-clause-tags : goal.state_for_block-returns-in_ok-rest-in-Some-clause-tags
state_for_block-returns-in_ok-rest-in-Some-clause-tags t c = c.in_ok-rest-in-Some.ensures.tags ∙ c.in_ok-told.ensures.tags

pub state_for_block-returns-in_ok-rest-in-Some-clause-around : goal.state_for_block-returns-in_ok-rest-in-Some-clause-around
state_for_block-returns-in_ok-rest-in-Some-clause-around t c = around_then c.args.declared.now c.end_block-in-Some.new.declared c.state_rest-in-Some.new.declared (same_around c.args.declared.now c.end_block-in-Some.new.declared (c.in_ok-end_block-in-Some.ensures c.args.declared.now (inside_then c.args.declared.now c.begin_block-mark.new.declared c.state_all.new.declared c.begin_block-mark.ensures.inside c.in_ok-told.ensures.around) c.begin_block-mark.ensures.mark)) c.in_ok-rest-in-Some.ensures.around

pub state_for-state_for_block-requires : goal.state_for-state_for_block-requires
state_for-state_for_block-requires t c = (
  first_of (search (rules, the_lemmas), grind (the_lemmas, arith, common_steps), grind (the_lemmas, arith, elements)),
  (c.requires.holds, c.requires.result),
)

pub state_for-state_body-requires : goal.state_for-state_body-requires
state_for-state_body-requires t c = (
  first_of (search (rules, the_lemmas), grind (the_lemmas, arith, common_steps), grind (the_lemmas, arith, elements)),
  (c.requires.holds, c.requires.result),
)

pub state_for-state_rest-requires : goal.state_for-state_rest-requires
state_for-state_rest-requires t c = let w = standing c.args.types.now c.args.around c.requires.result in (
  first_of (search (rules, the_lemmas), grind (the_lemmas, arith, common_steps), grind (the_lemmas, arith, elements)),
  ((c.requires.holds.0, c.in_ok-first-in_default.ensures.holds c.requires.holds.0 w.0 c.requires.holds.1 w.1), result_within c.state_body.new.types c.args.around c.in_loop.result in_loop c.in_loop.ensures (result_kept c.args.types.now c.state_body.new.types c.args.around.result c.in_ok-first-in_default.ensures.grows c.requires.result)),
)

pub state_for-returns-in-Block-clause-judged : goal.state_for-returns-in-Block-clause-judged
state_for-returns-in-Block-clause-judged t c = λ s w holds stands.
    told_as c.state_for_block.result (result_err (stated s w (tree.For (tree.Block (stmts_of c.in-Block.all)) (maybe c.args.test.now) (maybe c.args.step.now) (stmt_of c.args.body.now)))) (result_err (stated s w (tree.For (stmt_of c.args.head.now) (maybe c.args.test.now) (maybe c.args.step.now) (stmt_of c.args.body.now))))
    (ap (λ (x : CStmt). result_err (stated s w (tree.For x (maybe c.args.test.now) (maybe c.args.step.now) (stmt_of c.args.body.now)))) (sym (ap stmt_of c.in-Block.is ∙ block_made c.in-Block.all))) (c.state_for_block.ensures.judged s w holds stands)

pub state_for-returns-in-Block-clause-holds : goal.state_for-returns-in-Block-clause-holds
state_for-returns-in-Block-clause-holds t c = c.state_for_block.ensures.holds

pub state_for-returns-in-Block-clause-grows : goal.state_for-returns-in-Block-clause-grows
state_for-returns-in-Block-clause-grows t c = c.state_for_block.ensures.grows

pub state_for-returns-in-Block-clause-tags : goal.state_for-returns-in-Block-clause-tags
state_for-returns-in-Block-clause-tags t c = c.state_for_block.ensures.tags

pub state_for-returns-in-Block-clause-around : goal.state_for-returns-in-Block-clause-around
state_for-returns-in-Block-clause-around t c = c.state_for_block.ensures.around

pub state_for-returns-in_ok-rest-in_default : goal.state_for-returns-in_ok-rest-in_default
state_for-returns-in_ok-rest-in_default t c = record {
  judged = λ s w holds stands.
      let first = stmt_of c.args.head.now in
      c.behind.ensures
      ∙ (behind_is rest_rules s c.in_ok-first-in_default.first (stated s w first) c.in_ok-rest-in_default.rest (rest_judged s w (maybe c.args.test.now) (maybe c.args.step.now) (stmt_of c.args.body.now)) (c.in_ok-first-in_default.ensures.judged s w holds stands)
      (c.in_ok-rest-in_default.ensures.judged s (in_loop w) (c.in_ok-first-in_default.ensures.holds s w holds stands) (c.in_loop.ensures c.state_body.new.types w (stands_kept c.args.types.now c.state_body.new.types c.args.around w c.in_ok-first-in_default.ensures.grows stands)))
      ∙ sym (ap result_err (by_other s w first (maybe c.args.test.now) (maybe c.args.step.now) (stmt_of c.args.body.now) (other_block c.args.head.now c.in_default.not-Block))));
  holds = λ s w holds stands. c.in_ok-rest-in_default.ensures.holds s (in_loop w) (c.in_ok-first-in_default.ensures.holds s w holds stands) (c.in_loop.ensures c.state_body.new.types w (stands_kept c.args.types.now c.state_body.new.types c.args.around w c.in_ok-first-in_default.ensures.grows stands));
  grows = grows_then (known c.args.types.now) (known c.state_body.new.types) (known c.state_rest.new.types) c.in_ok-first-in_default.ensures.grows c.in_ok-rest-in_default.ensures.grows;
  tags = c.in_ok-rest-in_default.ensures.tags ∙ c.in_ok-first-in_default.ensures.tags;
  around = around_then c.args.declared.now c.state_body.new.declared c.state_rest.new.declared c.in_ok-first-in_default.ensures.around c.in_ok-rest-in_default.ensures.around;
}

pub state_switch-judge_number-requires : goal.state_switch-judge_number-requires
state_switch-judge_number-requires t c = (c.requires.holds.0, c.requires.holds.1.fits)

pub state_switch-state_parts-requires : goal.state_switch-state_parts-requires
state_switch-state_parts-requires t c = (
  first_of (search (rules, the_lemmas), grind (the_lemmas, arith, common_steps), grind (the_lemmas, arith, elements)),
  ((entered c.requires.holds.0, begun_holds c.judge_number.new.types c.args.declared.now c.begin_block-mark.new.declared c.requires.holds.0 c.begin_block-mark.ensures.block c.begin_block-mark.ensures.inside (holds_kept c.args.types.now c.judge_number.new.types c.args.declared.now c.requires.holds.0 c.in_ok-number.ensures.grows c.in_ok-number.ensures.tags c.requires.holds.1)), result_kept c.args.types.now c.judge_number.new.types c.args.around.result c.in_ok-number.ensures.grows c.requires.result),
)

pub state_switch-end_block-requires : goal.state_switch-end_block-requires
state_switch-end_block-requires t c = may_end c.args.declared.now c.state_parts.new.declared c.begin_block-mark.result (inside_then c.args.declared.now c.begin_block-mark.new.declared c.state_parts.new.declared c.begin_block-mark.ensures.inside c.in_ok-labels.ensures.around) c.begin_block-mark.ensures.mark

pub state_switch-returns-clause-judged : goal.state_switch-returns-clause-judged
state_switch-returns-clause-judged t c = λ s w holds stands.
    let value = judged s (expr_of c.args.e.now) in
    let labels = all_parts (entered s) w (parts_of c.args.parts.now) in
    c.together.ensures
    ∙ together_is (λ (a : Operand). (is_arithmetic (value_type a), fault.Mismatch a.pos) ∷ []) (labels_rules []) switch_rules s c.in_ok-number.number value c.in_ok-labels.labels labels
    (λ a ls. broken_first (is_arithmetic (value_type a)) (fault.Mismatch a.pos) (labels_rules [] ls)) (c.in_ok-number.ensures.judged s holds.fits)
    (c.in_ok-labels.ensures.judged (entered s) w (begun_holds c.judge_number.new.types c.args.declared.now c.begin_block-mark.new.declared s c.begin_block-mark.ensures.block c.begin_block-mark.ensures.inside (holds_kept c.args.types.now c.judge_number.new.types c.args.declared.now s c.in_ok-number.ensures.grows c.in_ok-number.ensures.tags holds)) (stands_kept c.args.types.now c.judge_number.new.types c.args.around w c.in_ok-number.ensures.grows stands))

pub state_switch-returns-clause-holds : goal.state_switch-returns-clause-holds
state_switch-returns-clause-holds t c = λ s w holds stands. same_holds c.args.types.now c.state_parts.new.types c.args.declared.now c.end_block.new.declared s (grows_then (known c.args.types.now) (known c.judge_number.new.types) (known c.state_parts.new.types) c.in_ok-number.ensures.grows c.in_ok-labels.ensures.grows) (c.in_ok-labels.ensures.tags ∙ c.in_ok-number.ensures.tags) (c.in_ok-end_block.ensures c.args.declared.now (inside_then c.args.declared.now c.begin_block-mark.new.declared c.state_parts.new.declared c.begin_block-mark.ensures.inside c.in_ok-labels.ensures.around) c.begin_block-mark.ensures.mark) holds

pub state_switch-returns-clause-grows : goal.state_switch-returns-clause-grows
state_switch-returns-clause-grows t c = grows_then (known c.args.types.now) (known c.judge_number.new.types) (known c.state_parts.new.types) c.in_ok-number.ensures.grows c.in_ok-labels.ensures.grows

pub state_switch-returns-clause-tags : goal.state_switch-returns-clause-tags
state_switch-returns-clause-tags t c = c.in_ok-labels.ensures.tags ∙ c.in_ok-number.ensures.tags

pub state_switch-returns-clause-around : goal.state_switch-returns-clause-around
state_switch-returns-clause-around t c = same_around c.args.declared.now c.end_block.new.declared (c.in_ok-end_block.ensures c.args.declared.now (inside_then c.args.declared.now c.begin_block-mark.new.declared c.state_parts.new.declared c.begin_block-mark.ensures.inside c.in_ok-labels.ensures.around) c.begin_block-mark.ensures.mark)
