use Rattle.std.proofs.Common.{◌+◌, ◌*◌, max, map, drop}
use Rattle.c_syntax.specs.Plain.{exprs}
use Rattle.c_syntax.specs.View.{expr_of, exprs_of}
use Rattle.c_syntax.specs.declared.tree.Exprs.{out-Exprs}
use Rattle.c_syntax.proofs.tree.Expr.TheLaws as expr
use Rattle.c_syntax.proofs.tree.Exprs.TheLaws as row
use Rattle.c_expressions.proofs.GoingLemmas.{Going}
use Rattle.c_flat_expressions.proofs.GivenLemmas.{Giving}
use Rattle.c_flat_expressions.proofs.expressions.+code.Given as goal

abbrev pub invariant-given-loop-e : goal.invariant-given-loop-e
invariant-given-loop-e l = Going l.fn.types l.types l.here.declared l.collected (exprs (map expr_of (drop l.e-index (out-Exprs l.arguments).items.items))) (exprs_of l.arguments)
    × Giving l.fn.types l.types l.here l.fn.out l.out l.printed l.skips (exprs_of l.arguments) (exprs (map expr_of (drop l.e-index (out-Exprs l.arguments).items.items)))

abbrev pub decreases-value : goal.decreases-value
decreases-value l = 8 * (expr.the_size l.e.now) + 0

abbrev pub decreases-used : goal.decreases-used
decreases-used l = 8 * (expr.the_size l.e.now) + 1

abbrev pub decreases-place : goal.decreases-place
decreases-place l = 8 * (expr.the_size l.e.now) + 0

abbrev pub decreases-pointed : goal.decreases-pointed
decreases-pointed l = 8 * (expr.the_size l.a.now) + 4

abbrev pub decreases-unary : goal.decreases-unary
decreases-unary l = 8 * (expr.the_size l.a.now) + 4

abbrev pub decreases-step : goal.decreases-step
decreases-step l = 8 * (expr.the_size l.a.now) + 4

abbrev pub decreases-binary : goal.decreases-binary
decreases-binary l = 8 * (max (expr.the_size l.a.now) (expr.the_size l.b.now)) + 4

abbrev pub decreases-operation : goal.decreases-operation
decreases-operation l = 8 * (max (expr.the_size l.a.now) (expr.the_size l.b.now)) + 3

abbrev pub decreases-conjunction : goal.decreases-conjunction
decreases-conjunction l = 8 * (max (expr.the_size l.a.now) (expr.the_size l.b.now)) + 3

abbrev pub decreases-disjunction : goal.decreases-disjunction
decreases-disjunction l = 8 * (max (expr.the_size l.a.now) (expr.the_size l.b.now)) + 3

abbrev pub decreases-assignment : goal.decreases-assignment
decreases-assignment l = 8 * (max (expr.the_size l.a.now) (expr.the_size l.b.now)) + 4

abbrev pub decreases-choice : goal.decreases-choice
decreases-choice l = 8 * (max (expr.the_size l.a.now) (max (expr.the_size l.b.now) (expr.the_size l.c.now))) + 4

abbrev pub decreases-comma : goal.decreases-comma
decreases-comma l = 8 * (max (expr.the_size l.a.now) (expr.the_size l.b.now)) + 4

abbrev pub decreases-cast_value : goal.decreases-cast_value
decreases-cast_value l = 8 * (expr.the_size l.a.now) + 4

abbrev pub decreases-member : goal.decreases-member
decreases-member l = 8 * (expr.the_size l.a.now) + 4

abbrev pub decreases-arrow : goal.decreases-arrow
decreases-arrow l = 8 * (expr.the_size l.a.now) + 4

abbrev pub decreases-operand : goal.decreases-operand
decreases-operand l = 8 * (expr.the_size l.a.now) + 3

abbrev pub decreases-addressed : goal.decreases-addressed
decreases-addressed l = 8 * (expr.the_size l.a.now) + 2

abbrev pub decreases-callee : goal.decreases-callee
decreases-callee l = 8 * (expr.the_size l.f.now) + 2

abbrev pub decreases-argument : goal.decreases-argument
decreases-argument l = 8 * (expr.the_size l.e.now) + 2

abbrev pub decreases-given : goal.decreases-given
decreases-given l = 8 * (row.the_size l.arguments.now) + 0

abbrev pub decreases-call : goal.decreases-call
decreases-call l = 8 * (max (expr.the_size l.f.now) (row.the_size l.arguments.now)) + 4
