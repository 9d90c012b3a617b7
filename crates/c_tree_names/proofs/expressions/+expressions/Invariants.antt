use Rattle.std.proofs.Common.{◌≡◌, ◌+◌, ◌*◌, ◌++◌, max, map, drop}
use Rattle.c_syntax.specs.Plain.{exprs}
use Rattle.c_syntax.specs.View.{expr_of, exprs_of}
use Rattle.c_syntax.specs.declared.tree.Exprs.{out-Exprs}
use Rattle.c_syntax.proofs.tree.Expr.TheLaws as expr
use Rattle.c_syntax.proofs.tree.Exprs.TheLaws as row
use Rattle.c_helpers.specs.Names.{names_in_all}
use Rattle.c_tree_names.specs.Added.{texts}
use Rattle.c_tree_names.proofs.expressions.+expressions.Given as goal

-- the names that are there, and those of the arguments that are left
abbrev pub invariant-add_all-loop-e : goal.invariant-add_all-loop-e
invariant-add_all-loop-e l = texts l.names.items ++ names_in_all (exprs (map expr_of (drop l.e-index (out-Exprs l.all).items.items))) ≡ texts l.fn.names.items ++ names_in_all (exprs_of l.all)

abbrev pub decreases-add_expression : goal.decreases-add_expression
decreases-add_expression l = 3 * (expr.the_size l.e.now) + 0

abbrev pub decreases-add_two : goal.decreases-add_two
decreases-add_two l = 3 * (max (expr.the_size l.a.now) (expr.the_size l.b.now)) + 1

abbrev pub decreases-add_three : goal.decreases-add_three
decreases-add_three l = 3 * (max (expr.the_size l.a.now) (max (expr.the_size l.b.now) (expr.the_size l.d.now))) + 2

abbrev pub decreases-add_call : goal.decreases-add_call
decreases-add_call l = 3 * (max (expr.the_size l.f.now) (row.the_size l.arguments.now)) + 1

abbrev pub decreases-add_all : goal.decreases-add_all
decreases-add_all l = 3 * (row.the_size l.all.now) + 0
