use Rattle.std.proofs.Common.{◌+◌, ◌*◌, max, map, drop}
use Rattle.c_syntax.specs.Plain.{exprs}
use Rattle.c_syntax.specs.View.{expr_of, exprs_of}
use Rattle.c_syntax.specs.declared.tree.Exprs.{out-Exprs}
use Rattle.c_syntax.proofs.tree.Expr.TheLaws as expr
use Rattle.c_syntax.proofs.tree.Exprs.TheLaws as row
use Rattle.c_lower_expressions.proofs.GivenLemmas.{Giving}
use Rattle.c_lower_expressions.proofs.expressions.+code.Given as goal

abbrev pub invariant-arguments-loop-e : goal.invariant-arguments-loop-e
invariant-arguments-loop-e l = Giving l.here l.fn.out l.out l.k l.d l.block l.word l.waits (exprs_of l.es) (exprs (map expr_of (drop l.e-index (out-Exprs l.es).items.items)))

abbrev pub decreases-value : goal.decreases-value
decreases-value l = 12 * (expr.the_size l.e.now) + 0

abbrev pub decreases-place : goal.decreases-place
decreases-place l = 12 * (expr.the_size l.e.now) + 1

abbrev pub decreases-tested : goal.decreases-tested
decreases-tested l = 12 * (expr.the_size l.e.now) + 1

abbrev pub decreases-truth : goal.decreases-truth
decreases-truth l = 12 * (expr.the_size l.e.now) + 3

abbrev pub decreases-unary : goal.decreases-unary
decreases-unary l = 12 * (expr.the_size l.a.now) + 6

abbrev pub decreases-operated : goal.decreases-operated
decreases-operated l = 12 * (expr.the_size l.a.now) + 5

abbrev pub decreases-unary_truth : goal.decreases-unary_truth
decreases-unary_truth l = 12 * (max (expr.the_size l.e.now) ((expr.the_size l.a.now) + 1)) + 2

abbrev pub decreases-step : goal.decreases-step
decreases-step l = 12 * (expr.the_size l.a.now) + 5

abbrev pub decreases-pointed : goal.decreases-pointed
decreases-pointed l = 12 * (expr.the_size l.a.now) + 4

abbrev pub decreases-binary : goal.decreases-binary
decreases-binary l = 12 * (max (expr.the_size l.a.now) (expr.the_size l.b.now)) + 8

abbrev pub decreases-truth_value : goal.decreases-truth_value
decreases-truth_value l = 12 * (max (expr.the_size l.a.now) (expr.the_size l.b.now)) + 6

abbrev pub decreases-junction : goal.decreases-junction
decreases-junction l = 12 * (max (expr.the_size l.a.now) (expr.the_size l.b.now)) + 4

abbrev pub decreases-operation_value : goal.decreases-operation_value
decreases-operation_value l = 12 * (max (expr.the_size l.a.now) (expr.the_size l.b.now)) + 7

abbrev pub decreases-binary_truth : goal.decreases-binary_truth
decreases-binary_truth l = 12 * (max (expr.the_size l.e.now) ((max (expr.the_size l.a.now) (expr.the_size l.b.now)) + 1)) + 2

abbrev pub decreases-comparison : goal.decreases-comparison
decreases-comparison l = 12 * (max (expr.the_size l.a.now) (expr.the_size l.b.now)) + 6

abbrev pub decreases-operands : goal.decreases-operands
decreases-operands l = 12 * (max (expr.the_size l.a.now) (expr.the_size l.b.now)) + 5

abbrev pub decreases-second : goal.decreases-second
decreases-second l = 12 * (expr.the_size l.b.now) + 3

abbrev pub decreases-waiting : goal.decreases-waiting
decreases-waiting l = 12 * (expr.the_size l.b.now) + 2

abbrev pub decreases-known_first : goal.decreases-known_first
decreases-known_first l = 12 * (expr.the_size l.b.now) + 4

abbrev pub decreases-evaluated_second : goal.decreases-evaluated_second
decreases-evaluated_second l = 12 * (expr.the_size l.b.now) + 3

abbrev pub decreases-assignment : goal.decreases-assignment
decreases-assignment l = 12 * (max (expr.the_size l.a.now) (expr.the_size l.b.now)) + 8

abbrev pub decreases-assigned : goal.decreases-assigned
decreases-assigned l = 12 * (max (expr.the_size l.a.now) (expr.the_size l.b.now)) + 7

abbrev pub decreases-stored : goal.decreases-stored
decreases-stored l = 12 * (expr.the_size l.b.now) + 2

abbrev pub decreases-updated : goal.decreases-updated
decreases-updated l = 12 * (max (expr.the_size l.a.now) (expr.the_size l.b.now)) + 7

abbrev pub decreases-updated_spot : goal.decreases-updated_spot
decreases-updated_spot l = 12 * (expr.the_size l.b.now) + 2

abbrev pub decreases-changed : goal.decreases-changed
decreases-changed l = 12 * (expr.the_size l.b.now) + 2

abbrev pub decreases-choice : goal.decreases-choice
decreases-choice l = 12 * (max (expr.the_size l.a.now) (max (expr.the_size l.b.now) (expr.the_size l.c.now))) + 6

abbrev pub decreases-comma : goal.decreases-comma
decreases-comma l = 12 * (max (expr.the_size l.a.now) (expr.the_size l.b.now)) + 2

abbrev pub decreases-element : goal.decreases-element
decreases-element l = 12 * (max (expr.the_size l.a.now) (expr.the_size l.b.now)) + 6

abbrev pub decreases-indexed : goal.decreases-indexed
decreases-indexed l = 12 * (max (expr.the_size l.a.now) (expr.the_size l.b.now)) + 7

abbrev pub decreases-member_place : goal.decreases-member_place
decreases-member_place l = 12 * (expr.the_size l.a.now) + 3

abbrev pub decreases-member_behind : goal.decreases-member_behind
decreases-member_behind l = 12 * (expr.the_size l.a.now) + 2

abbrev pub decreases-member : goal.decreases-member
decreases-member l = 12 * (expr.the_size l.a.now) + 5

abbrev pub decreases-pointed_member : goal.decreases-pointed_member
decreases-pointed_member l = 12 * (expr.the_size l.a.now) + 5

abbrev pub decreases-arguments : goal.decreases-arguments
decreases-arguments l = 12 * (row.the_size l.es.now) + 0

abbrev pub decreases-argument : goal.decreases-argument
decreases-argument l = 12 * (row.the_size l.es.now) + 1

abbrev pub decreases-given : goal.decreases-given
decreases-given l = 12 * (row.the_size l.es.now) + 2

abbrev pub decreases-call : goal.decreases-call
decreases-call l = 12 * (max (expr.the_size l.f.now) (row.the_size l.es.now)) + 6

abbrev pub decreases-through : goal.decreases-through
decreases-through l = 12 * (max (expr.the_size l.f.now) (row.the_size l.es.now)) + 4
