use Rattle.std.proofs.Common.{◌≡◌, ◌<◌, ◌≤◌, ◌+◌, List, map, drop, get_or, length, ap, subst, if◌then◌else◌}
use Rattle.std.proofs.lemmas.List.{drop_all}
use Rattle.c_syntax.specs.Plain.{exprs}
use Rattle.c_syntax.specs.View.{expr_of, exprs_of}
use Rattle.c_syntax.specs.declared.tree.Expr.{Expr}
use Rattle.c_syntax.specs.declared.tree.Exprs.{out-Exprs}
use Rattle.c_lowered.specs.Counts.{expr_jumps, exprs_jumps, names_known}
use Rattle.c_counted.proofs.GoingLemmas.{begun, goes_on, done}
use Rattle.c_counted.proofs.RowLemmas.{drop_at, exprs_view}
use Rattle.c_counted.proofs.expressions.+jumps.Goals as goal

pub arguments_jumps_of-loop-e-init : goal.arguments_jumps_of-loop-e-init
arguments_jumps_of-loop-e-init t c =
    let es = c.args.es.now in
    begun (exprs_jumps (exprs (map expr_of (out-Exprs es).items.items))) (exprs_jumps (exprs_of es)) (ap exprs_jumps (exprs_view es))

pub arguments_jumps_of-loop-e-preserved : goal.arguments_jumps_of-loop-e-preserved
arguments_jumps_of-loop-e-preserved t c =
    let items = (out-Exprs c.args.es.now).items.items in
    let i = c.loop-e.e-index in
    let x = c.e-item.result in
    let within : i < length items = subst (λ (l : List Expr). i < length l) c.deref-e-items.ensures.value c.loop-e-test.true in
    let next : x ≡ get_or items i x = subst (λ (l : List Expr). x ≡ get_or l i x) c.deref-e-items.ensures.value c.e-item.is in
    goes_on c.loop-e.sum c.jumps_of.result c.plus-sum.result (exprs_jumps (exprs (map expr_of (drop i items)))) (expr_jumps (expr_of x)) (exprs_jumps (exprs (map expr_of (drop (i + 1) items)))) (exprs_jumps (exprs_of c.args.es.now))
    c.loop-e.invariant c.jumps_of.ensures c.plus-sum.ensures (ap (λ (l : List Expr). exprs_jumps (exprs (map expr_of l))) (drop_at items i x within next))

pub arguments_jumps_of-returns : goal.arguments_jumps_of-returns
arguments_jumps_of-returns t c =
    let items = (out-Exprs c.args.es.now).items.items in
    let i = c.loop-e.e-index in
    let past : length items ≤ i = subst (λ (l : List Expr). length l ≤ i) c.deref-e-items.ensures.value c.loop-e-test.false in
    done c.loop-e.sum (exprs_jumps (exprs (map expr_of (drop i items)))) (exprs_jumps (exprs_of c.args.es.now)) c.loop-e.invariant (ap (λ (l : List Expr). exprs_jumps (exprs (map expr_of l))) (drop_all i items past))

pub call_jumps_of-returns : goal.call_jumps_of-returns
call_jumps_of-returns t c =
    let m = expr_jumps (expr_of c.args.f.now) in
    let n = exprs_jumps (exprs_of c.args.es.now) in
    c.plus-2.ensures (m + n) (if names_known (expr_of c.args.f.now) then 0 else 1) (c.plus.ensures m n c.jumps_of.ensures c.arguments_jumps_of.ensures) c.own_jumps_of.ensures
