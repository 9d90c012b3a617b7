use Rattle.std.proofs.Common.{◌+◌, ◌*◌, max, map, drop}
use Rattle.c_syntax.specs.Plain.{exprs}
use Rattle.c_syntax.specs.View.{expr_of, exprs_of}
use Rattle.c_syntax.specs.declared.tree.Exprs.{out-Exprs}
use Rattle.c_syntax.proofs.tree.Expr.TheLaws as expr
use Rattle.c_syntax.proofs.tree.Exprs.TheLaws as row
use Rattle.c_applied.specs.Calls.{given_literals}
use Rattle.c_lower_literals.proofs.ArgumentLemmas.{Adding}
use Rattle.c_lower_literals.proofs.expressions.+gathers.Given as goal

abbrev pub invariant-arguments_literals-loop-e : goal.invariant-arguments_literals-loop-e
invariant-arguments_literals-loop-e l =
    Adding l.declared l.fn.texts.items l.texts.items (λ s. given_literals l.skips s (exprs (map expr_of (drop l.e-index (out-Exprs l.es).items.items)))) (λ s. given_literals l.printed s (exprs_of l.es))

abbrev pub decreases-expression_literals : goal.decreases-expression_literals
decreases-expression_literals l = 4 * (expr.the_size l.e.now) + 0

abbrev pub decreases-both_literals : goal.decreases-both_literals
decreases-both_literals l = 4 * (max (expr.the_size l.a.now) (expr.the_size l.b.now)) + 1

abbrev pub decreases-choice_literals : goal.decreases-choice_literals
decreases-choice_literals l = 4 * (max (expr.the_size l.a.now) (max (expr.the_size l.b.now) (expr.the_size l.c.now))) + 2

abbrev pub decreases-call_literals : goal.decreases-call_literals
decreases-call_literals l = 4 * (max (expr.the_size l.f.now) (row.the_size l.es.now)) + 2

abbrev pub decreases-argument_literals : goal.decreases-argument_literals
decreases-argument_literals l = 4 * (expr.the_size l.e.now) + 1

abbrev pub decreases-arguments_literals : goal.decreases-arguments_literals
decreases-arguments_literals l = 4 * (row.the_size l.es.now) + 0
