use Rattle.std.proofs.Common.{◌+◌, ◌*◌, max, map, drop}
use Rattle.c_syntax.specs.Plain.{exprs}
use Rattle.c_syntax.specs.View.{expr_of, exprs_of}
use Rattle.c_syntax.specs.declared.tree.Exprs.{out-Exprs}
use Rattle.c_syntax.proofs.tree.Expr.TheLaws as expr
use Rattle.c_syntax.proofs.tree.Exprs.TheLaws as row
use Rattle.c_lowered.specs.Counts.{exprs_jumps}
use Rattle.c_counted.proofs.GoingLemmas.{Going}
use Rattle.c_counted.proofs.expressions.+jumps.Given as goal

abbrev pub invariant-arguments_jumps_of-loop-e : goal.invariant-arguments_jumps_of-loop-e
invariant-arguments_jumps_of-loop-e l = Going l.sum (exprs_jumps (exprs (map expr_of (drop l.e-index (out-Exprs l.es).items.items)))) (exprs_jumps (exprs_of l.es))

abbrev pub decreases-jumps_of : goal.decreases-jumps_of
decreases-jumps_of l = 5 * (expr.the_size l.e.now) + 0

abbrev pub decreases-truth_jumps_of : goal.decreases-truth_jumps_of
decreases-truth_jumps_of l = 5 * (expr.the_size l.e.now) + 0

abbrev pub decreases-two : goal.decreases-two
decreases-two l = 5 * (max (expr.the_size l.a.now) (expr.the_size l.b.now)) + 1

abbrev pub decreases-two_truths : goal.decreases-two_truths
decreases-two_truths l = 5 * (max (expr.the_size l.a.now) (expr.the_size l.b.now)) + 1

abbrev pub decreases-choice_jumps_of : goal.decreases-choice_jumps_of
decreases-choice_jumps_of l = 5 * (max (expr.the_size l.a.now) (max (expr.the_size l.b.now) (expr.the_size l.c.now))) + 1

abbrev pub decreases-binary_jumps_of : goal.decreases-binary_jumps_of
decreases-binary_jumps_of l = 5 * (max (expr.the_size l.a.now) (expr.the_size l.b.now)) + 2

abbrev pub decreases-binary_truth_jumps_of : goal.decreases-binary_truth_jumps_of
decreases-binary_truth_jumps_of l = 5 * (max (expr.the_size l.a.now) (expr.the_size l.b.now)) + 2

abbrev pub decreases-unary_truth_jumps_of : goal.decreases-unary_truth_jumps_of
decreases-unary_truth_jumps_of l = 5 * (expr.the_size l.a.now) + 1

abbrev pub decreases-call_jumps_of : goal.decreases-call_jumps_of
decreases-call_jumps_of l = 5 * (max (expr.the_size l.f.now) (row.the_size l.es.now)) + 1

abbrev pub decreases-arguments_jumps_of : goal.decreases-arguments_jumps_of
decreases-arguments_jumps_of l = 5 * (row.the_size l.es.now) + 0
