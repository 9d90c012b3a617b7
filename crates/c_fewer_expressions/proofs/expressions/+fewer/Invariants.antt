use Rattle.std.proofs.Common.{◌+◌, ◌*◌, max, map, drop}
use Rattle.c_syntax.specs.Plain.{exprs}
use Rattle.c_syntax.specs.View.{expr_of, exprs_of}
use Rattle.c_syntax.specs.declared.tree.Exprs.{out-Exprs}
use Rattle.c_syntax.proofs.tree.Expr.TheLaws as expr
use Rattle.c_syntax.proofs.tree.Exprs.TheLaws as row
use Rattle.c_expressions.proofs.GoingLemmas.{Going}
use Rattle.c_fewer_trees.proofs.GivenLemmas.{Making}
use Rattle.c_fewer_expressions.proofs.expressions.+fewer.Given as goal

abbrev pub invariant-arguments-loop-e : goal.invariant-arguments-loop-e
invariant-arguments-loop-e l = Going l.fn.types l.types l.here.declared l.collected (exprs (map expr_of (drop l.e-index (out-Exprs l.all).items.items))) (exprs_of l.all)
    × Making l.fn.types l.types l.here l.trees.items (exprs (map expr_of (drop l.e-index (out-Exprs l.all).items.items))) (exprs_of l.all)

abbrev pub decreases-fewer : goal.decreases-fewer
decreases-fewer l = 3 * (expr.the_size l.e.now) + 0

abbrev pub decreases-unary : goal.decreases-unary
decreases-unary l = 3 * (expr.the_size l.a.now) + 1

abbrev pub decreases-step : goal.decreases-step
decreases-step l = 3 * (expr.the_size l.a.now) + 1

abbrev pub decreases-member : goal.decreases-member
decreases-member l = 3 * (expr.the_size l.a.now) + 1

abbrev pub decreases-arrow : goal.decreases-arrow
decreases-arrow l = 3 * (expr.the_size l.a.now) + 1

abbrev pub decreases-cast : goal.decreases-cast
decreases-cast l = 3 * (expr.the_size l.a.now) + 1

abbrev pub decreases-binary : goal.decreases-binary
decreases-binary l = 3 * (max (expr.the_size l.a.now) (expr.the_size l.b.now)) + 1

abbrev pub decreases-assignment : goal.decreases-assignment
decreases-assignment l = 3 * (max (expr.the_size l.a.now) (expr.the_size l.b.now)) + 1

abbrev pub decreases-comma : goal.decreases-comma
decreases-comma l = 3 * (max (expr.the_size l.a.now) (expr.the_size l.b.now)) + 1

abbrev pub decreases-element : goal.decreases-element
decreases-element l = 3 * (max (expr.the_size l.a.now) (expr.the_size l.b.now)) + 1

abbrev pub decreases-choice : goal.decreases-choice
decreases-choice l = 3 * (max (expr.the_size l.a.now) (max (expr.the_size l.b.now) (expr.the_size l.c.now))) + 1

abbrev pub decreases-callee : goal.decreases-callee
decreases-callee l = 3 * (expr.the_size l.f.now) + 1

abbrev pub decreases-arguments : goal.decreases-arguments
decreases-arguments l = 3 * (row.the_size l.all.now) + 0

abbrev pub decreases-call : goal.decreases-call
decreases-call l = 3 * (max (expr.the_size l.f.now) (row.the_size l.es.now)) + 2
