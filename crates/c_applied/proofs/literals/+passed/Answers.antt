use Rattle.std.proofs.Common.{◌≡◌, ℕ, ◌+◌, ◌++◌, Bool, true, false, not, ◌||◌, List, [], ◌∷◌, length, refl, sym, ap, subst, ◌∙◌, append_assoc, append-nil, arith, if◌then◌else◌}
use Rattle.std.specs.Prelude.{Option, Some, None, OnOk, IfOk}
use Rattle.std.proofs.Common.{◌<◌, ◌≤◌, map, drop, get_or}
use Rattle.std.proofs.lemmas.List.{drop_all}
use Rattle.c_syntax.specs.Plain.{exprs}
use Rattle.c_syntax.specs.View.{expr_of, exprs_of}
use Rattle.c_syntax.specs.declared.tree.Expr.{Expr}
use Rattle.c_syntax.specs.declared.tree.Exprs.{out-Exprs}
use Rattle.c_eval.specs.LiteralsIn.{literals_in}
use Rattle.c_expressions.proofs.RowLemmas.{exprs_view}
use Rattle.c_expressions.proofs.GoingLemmas.{drop_at}
use Rattle.c_addressing.specs.Here.{IsBehind}
use Rattle.c_addressing.proofs.HereLemmas.{behind_same}
use Rattle.c_applied.specs.Calls.{argument_literals}
use Rattle.c_applied.proofs.PassedLemmas.{both_behind, none_passed, more_passed, all_passed}
use Rattle.c_applied.proofs.literals.+passed.Goals as goal

pub both_passed-returns : goal.both_passed-returns
both_passed-returns t c = λ table s fits. both_behind c.args.literals c.passed-between.result c.passed.result (literals_in s (expr_of c.args.a.now)) (literals_in s (expr_of c.args.b.now)) (c.passed-between.ensures table s fits) (c.passed.ensures table s fits)

pub all_passed-returns : goal.all_passed-returns
all_passed-returns t c = λ table s fits. both_behind c.args.literals c.passed-between.result c.both_passed.result (literals_in s (expr_of c.args.a.now)) (literals_in s (expr_of c.args.b.now) ++ literals_in s (expr_of c.args.c.now)) (c.passed-between.ensures table s fits) (c.both_passed.ensures table s fits)

pub argument_passed-returns-then-skips : goal.argument_passed-returns-then-skips
argument_passed-returns-then-skips t c = λ table s fits. subst (λ (b : Bool). IsBehind c.args.literals c.args.literals (length (argument_literals b s (expr_of c.args.e.now)))) (sym c.if-skips.true) (behind_same c.args.literals)

pub argument_passed-returns-else-skips : goal.argument_passed-returns-else-skips
argument_passed-returns-else-skips t c = λ table s fits. subst (λ (b : Bool). IsBehind c.args.literals c.passed.result (length (argument_literals b s (expr_of c.args.e.now)))) (sym c.if-skips.false) (c.passed.ensures table s fits)

pub arguments_passed-loop-e-init : goal.arguments_passed-loop-e-init
arguments_passed-loop-e-init t c =
    let items = (out-Exprs c.args.es.now).items.items in
    none_passed c.args.here.now.declared c.args.literals c.args.printed (exprs_of c.args.es.now) (exprs (map expr_of items)) (exprs_view c.args.es.now)

pub arguments_passed-loop-e-preserved : goal.arguments_passed-loop-e-preserved
arguments_passed-loop-e-preserved t c =
    let items = (out-Exprs c.args.es.now).items.items in
    let i = c.loop-e.e-index in
    let x = c.e-item.result in
    let within : i < length items = subst (λ (l : List Expr). i < length l) c.deref-e-items.ensures.value c.loop-e-test.true in
    let next : x ≡ get_or items i x = subst (λ (l : List Expr). x ≡ get_or l i x) c.deref-e-items.ensures.value c.e-item.is in
    more_passed c.args.here.now.declared c.args.literals c.loop-e.left c.argument_passed-left.result c.args.printed c.loop-e.skips (exprs_of c.args.es.now) (exprs (map expr_of (drop i items))) (expr_of x) (exprs (map expr_of (drop (i + 1) items)))
    c.loop-e.invariant (ap (λ (l : List Expr). exprs (map expr_of l)) (drop_at items i x within next)) c.argument_passed-left.ensures

pub arguments_passed-returns : goal.arguments_passed-returns
arguments_passed-returns t c =
    let items = (out-Exprs c.args.es.now).items.items in
    let i = c.loop-e.e-index in
    let past : length items ≤ i = subst (λ (l : List Expr). length l ≤ i) c.deref-e-items.ensures.value c.loop-e-test.false in
    all_passed c.args.here.now.declared c.args.literals c.loop-e.left c.args.printed c.loop-e.skips (exprs_of c.args.es.now) (exprs (map expr_of (drop i items))) c.loop-e.invariant (ap (λ (l : List Expr). exprs (map expr_of l)) (drop_all i items past))
