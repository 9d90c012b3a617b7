use Rattle.std.proofs.Common.{◌+◌, ◌*◌, max, map, drop}
use Rattle.c_syntax.specs.Plain.{exprs}
use Rattle.c_syntax.specs.View.{expr_of, exprs_of}
use Rattle.c_syntax.specs.declared.tree.Exprs.{out-Exprs}
use Rattle.c_syntax.proofs.tree.Expr.TheLaws as expr
use Rattle.c_syntax.proofs.tree.Exprs.TheLaws as row
use Rattle.c_applied.proofs.PassedLemmas.{Passing}
use Rattle.c_applied.proofs.literals.+passed.Given as goal

abbrev pub invariant-arguments_passed-loop-e : goal.invariant-arguments_passed-loop-e
invariant-arguments_passed-loop-e l = Passing l.here.declared l.literals l.left l.printed l.skips (exprs_of l.es) (exprs (map expr_of (drop l.e-index (out-Exprs l.es).items.items)))

abbrev pub decreases-passed : goal.decreases-passed
decreases-passed l = 4 * (expr.the_size l.e.now) + 0

abbrev pub decreases-both_passed : goal.decreases-both_passed
decreases-both_passed l = 4 * (max (expr.the_size l.a.now) (expr.the_size l.b.now)) + 1

abbrev pub decreases-all_passed : goal.decreases-all_passed
decreases-all_passed l = 4 * (max (expr.the_size l.a.now) (max (expr.the_size l.b.now) (expr.the_size l.c.now))) + 2

abbrev pub decreases-argument_passed : goal.decreases-argument_passed
decreases-argument_passed l = 4 * (expr.the_size l.e.now) + 1

abbrev pub decreases-arguments_passed : goal.decreases-arguments_passed
decreases-arguments_passed l = 4 * (row.the_size l.es.now) + 0
